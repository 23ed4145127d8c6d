use Rattle.std.proofs.Common.{◌≡◌, refl, sym, ap, subst, ◌∙◌, inl, inr, Some, None}
use Rattle.std.proofs.lemmas.Result.{err_from_is_err_and}
use Rattle.bm_base.specs.declared.limits.TheConstants.{MOST_DATA_BYTES}
use Rattle.timing_script.specs.declared.fault.DataFault.TheVariants.{Memory}
use Rattle.timing_script.specs.Data.{IsDataOf, IsFirstFault}
use Rattle.bm_course.specs.Course.{judge, accepted, rejected}
use Rattle.bm_course.specs.Limited.{IsContent, limited}
use Rattle.bm_course.specs.Refusals.{refused_as}
use Rattle.bm_course.proofs.Coming.{Comes-stop, Comes-give, Comes-refuse, Comes-starve}
use Rattle.bm_inputs.specs.DataLines.{data_refused}
use Rattle.bm_inputs.specs.Memories.{ReadsData, IsMemory}
use Rattle.bm_inputs.proofs.memory.memory_of_file.Goals as goal

pub returns-in_err-bytes-clause-comes : goal.returns-in_err-bytes-clause-comes
returns-in_err-bytes-clause-comes g c =
    let p = err_from_is_err_and c.from_residual.result c.from_residual.ensures.1 in
    rw (p.1, p.2) (Comes-stop IsContent IsMemory _ _ (limited c.args.name.now MOST_DATA_BYTES) (λ bytes. judge (ReadsData c.args.names.now bytes)) c.in_err-bytes.field-0.0 c.in_err-bytes.ensures.comes)

pub returns-in-Ok-clause-comes : goal.returns-in-Ok-clause-comes
returns-in-Ok-clause-comes g c =
    Comes-give IsContent IsMemory _ _ (limited c.args.name.now MOST_DATA_BYTES) (λ bytes. judge (ReadsData c.args.names.now bytes)) c.in_ok-bytes.bytes c.in-Ok.store c.in_ok-bytes.ensures.comes
    (λ a e. (c.in-Ok.store, refl, λ rest. accepted c.in-Ok.store (subst (λ b. IsDataOf c.args.names.now b c.in-Ok.store) (c.deref.ensures.value ∙ e) c.in-Ok.ensures.found) refl))

pub returns-in-Some-clause-comes : goal.returns-in-Some-clause-comes
returns-in-Some-clause-comes g c =
    let s : data_refused c.in-Err.fault ≡ Some (refused_as c.in-Some.refusal) = sym c.in-Some.ensures in
    let first : IsFirstFault c.args.names.now c.deref.result.now c.in-Err.fault = elim c.in-Err.ensures.fault [
      | inl x ↦ x
      | inr x ↦ let no : None ≡ Some (refused_as c.in-Some.refusal) = sym (ap data_refused x) ∙ s in let no : ⊥ = cc in absurd no
    ] in
    Comes-refuse IsContent IsMemory _ _ (limited c.args.name.now MOST_DATA_BYTES) (λ bytes. judge (ReadsData c.args.names.now bytes)) c.in_ok-bytes.bytes c.in-Some.refusal c.in_ok-bytes.ensures.comes
    (λ a e. rejected (refused_as c.in-Some.refusal) (c.in-Err.fault, subst (λ b. IsFirstFault c.args.names.now b c.in-Err.fault) (c.deref.ensures.value ∙ e) first, s) refl)

pub returns-clause-comes : goal.returns-clause-comes
returns-clause-comes g c = Comes-starve IsContent IsMemory _ _ (limited c.args.name.now MOST_DATA_BYTES) (λ bytes. judge (ReadsData c.args.names.now bytes)) c.in_ok-bytes.bytes c.in_ok-bytes.ensures.comes
