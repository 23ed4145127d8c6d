use Rattle.std.proofs.Common.{◌≡◌, refl, sym, ap, subst, ◌∙◌, inl, inr, Some, None, Ok, Err}
use Rattle.std.proofs.lemmas.Result.{err_from_is_err_and}
use Rattle.bm_base.specs.declared.limits.TheConstants.{MOST_MACHINE_BYTES}
use Rattle.machine_file.specs.declared.fault.MachineFault.TheVariants.{Memory}
use Rattle.machine_file.specs.MachineFile.{machine_of}
use Rattle.bm_inputs.specs.MachineLines.{machine_refused}
use Rattle.bm_course.specs.Course.{judge, accepted, rejected}
use Rattle.bm_course.specs.Limited.{IsContent, limited}
use Rattle.bm_course.specs.Refusals.{refused_as}
use Rattle.bm_course.proofs.Coming.{Comes-stop, Comes-give, Comes-refuse, Comes-starve}
use Rattle.bm_inputs.specs.Machines.{ReadsMachine}
use Rattle.bm_inputs.specs.Standing.{IsMachine}
use Rattle.bm_inputs.proofs.machine.machine_of_file.Goals as goal

pub returns-in_err-bytes : goal.returns-in_err-bytes
returns-in_err-bytes g c =
    let p = err_from_is_err_and c.from_residual.result c.from_residual.ensures.1 in
    rw (p.1, p.2) (Comes-stop IsContent IsMachine _ _ (limited c.args.name.now MOST_MACHINE_BYTES) (λ bytes. judge (ReadsMachine bytes)) c.in_err-bytes.field-0.0 c.in_err-bytes.ensures.comes)

pub returns-in-Ok : goal.returns-in-Ok
returns-in-Ok g c =
    let m : machine_of c.deref.result.now ≡ Ok c.in-Ok.spec = elim c.in-Ok.ensures [ inl x ↦ sym x | inr x ↦ let no : ⊥ = cc in absurd no ] in
    Comes-give IsContent IsMachine _ _ (limited c.args.name.now MOST_MACHINE_BYTES) (λ bytes. judge (ReadsMachine bytes)) c.in_ok-bytes.bytes c.in-Ok.spec c.in_ok-bytes.ensures.comes
    (λ a e. (c.in-Ok.spec, refl, λ rest. accepted c.in-Ok.spec (subst (λ b. machine_of b ≡ Ok c.in-Ok.spec) (c.deref.ensures.value ∙ e) m) refl))

pub returns-in-Some : goal.returns-in-Some
returns-in-Some g c =
    let s : machine_refused c.in-Err.fault ≡ Some (refused_as c.in-Some.refusal) = sym c.in-Some.ensures in
    let m : machine_of c.deref.result.now ≡ Err c.in-Err.fault = elim c.in-Err.ensures [
      | inl x ↦ sym x
      | inr x ↦
          let e : c.in-Err.fault ≡ Memory = cc in
          let no : None ≡ Some (refused_as c.in-Some.refusal) = sym (ap machine_refused e) ∙ s in
          let no : ⊥ = cc in
          absurd no
    ] in
    Comes-refuse IsContent IsMachine _ _ (limited c.args.name.now MOST_MACHINE_BYTES) (λ bytes. judge (ReadsMachine bytes)) c.in_ok-bytes.bytes c.in-Some.refusal c.in_ok-bytes.ensures.comes
    (λ a e. rejected (refused_as c.in-Some.refusal) (c.in-Err.fault, subst (λ b. machine_of b ≡ Err c.in-Err.fault) (c.deref.ensures.value ∙ e) m, s) refl)

pub returns : goal.returns
returns g c = Comes-starve IsContent IsMachine _ _ (limited c.args.name.now MOST_MACHINE_BYTES) (λ bytes. judge (ReadsMachine bytes)) c.in_ok-bytes.bytes c.in_ok-bytes.ensures.comes
