-- The statuses that scripts and data are refused with.
use Rattle.std.proofs.Common.{◌≡◌, ℕ, List, Some, ap, subst, refl}
use Rattle.timing_script.specs.declared.reading.ScriptFault.{ScriptFault}
use Rattle.timing_script.specs.declared.reading.ScriptFault.TheVariants as script
use Rattle.timing_script.specs.declared.fault.DataFault.{DataFault}
use Rattle.timing_script.specs.declared.fault.DataFault.TheVariants.{DataText, DataName, DataTwice, DataCount, Memory}
use Rattle.bm_course.specs.Course.{Refused}
use Rattle.bm_course.specs.Status.{IsOfContent}
use Rattle.bm_inputs.specs.ScriptLines.{script_refused}
use Rattle.bm_inputs.specs.DataLines.{told, data_refused}

abbrev pub refusal : Refused → Type 0
refusal r = IsOfContent r.status

pub three : IsOfContent 3
three = refl

six : IsOfContent 6
six = refl

seven : IsOfContent 7
seven = refl

pub script_refusal : (e : ScriptFault) (r : Refused) → script_refused e ≡ Some r → IsOfContent r.status
script_refusal (script.ScriptText line) r e = by _ r e
  where
    by : (text : List ℕ) (q : Refused) → Some (record { status = 6; line = text }) ≡ Some q → IsOfContent q.status
    by text q e =
        let f : record { status = 6; line = text } ≡ q = cc in
        subst IsOfContent (ap (λ x. x.status) f) six
script_refusal script.Memory r e = let no : ⊥ = cc in absurd no

by_line : (line : List ℕ) (r : Refused) → told line ≡ Some r → IsOfContent r.status
by_line line r e =
    let f : record { status = 7; line = line } ≡ r = cc in
    subst IsOfContent (ap (λ x. x.status) f) seven

pub data_refusal : (e : DataFault) (r : Refused) → data_refused e ≡ Some r → IsOfContent r.status
data_refusal (DataText line) r h = by_line _ r h
data_refusal (DataName line) r h = by_line _ r h
data_refusal (DataTwice line first) r h = by_line _ r h
data_refusal (DataCount line given room) r h = by_line _ r h
data_refusal Memory r h = let no : ⊥ = cc in absurd no
