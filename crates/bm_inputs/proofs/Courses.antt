-- Courses of sources and machines come to one step, and their refusals have their statuses.
use Rattle.std.proofs.Common.{◌≡◌, ◌≢◌, ◌≤◌, ℕ, List, Some, Ok, Err, refl, sym, ap, ◌∙◌, arith}
use Rattle.bm_io.specs.Files.{Held}
use Rattle.bm_base.specs.declared.limits.TheConstants.{MOST_SOURCE_BYTES, MOST_MACHINE_BYTES}
use Rattle.bm_base.specs.Machine.{Machine, IsTime, IsMachine}
use Rattle.bm_base.specs.Spec.{interval, standard}
use Rattle.machine_file.specs.declared.fault.MachineFault.{MachineFault}
use Rattle.machine_file.specs.declared.fault.MachineFault.TheVariants.{Memory}
use Rattle.machine_file.specs.MachineFile.{Read, machine_of}
use Rattle.src_names.specs.RProgram.{RProgram}
use Rattle.src_front.specs.Laws.{ReadOnce, HaveOneAnswer, Answer, program, fault}
use Rattle.src_front.specs.Reads.{Reads}
use Rattle.bm_words.specs.Table.{MachineOf, Default, MachineFile}
use Rattle.bm_course.specs.Course.{Refused, judge}
use Rattle.bm_course.specs.Limited.{limited}
use Rattle.bm_course.specs.Laws.{IsDetermined, HasOneVerdict, HasSomeVerdict, Settles, Bounds}
use Rattle.bm_course.specs.Status.{IsOfContent}
use Rattle.bm_course.proofs.Settling.{limited-determined, then-determined, judge-determined, give-determined}
use Rattle.bm_course.proofs.Leading.{limited-settles, then-settles, judge-settles, give-settles}
use Rattle.bm_course.proofs.Bounds.{then-bounds, judge-bounds, give-bounds, limited-bounds}
use Rattle.bm_inputs.specs.MachineLines.{machine_refused}
use Rattle.bm_inputs.specs.SourceLines.{source_refused}
use Rattle.bm_inputs.proofs.Statuses.{source_refusal, machine_refusal}
use Rattle.bm_inputs.proofs.Refusing.{source_told, machine_told}
use Rattle.bm_inputs.specs.Sources.{ReadsSource, source_course}
use Rattle.bm_inputs.specs.Machines.{ReadsMachine, machine_course}

abbrev pub refusal : Refused → Type 0
refusal r = IsOfContent r.status

three : IsOfContent 3
three = refl

-- any content of a limited file
limited-any : (name : List ℕ) (most : ℕ) → Bounds refusal (λ x. Unit {0}) (limited name most)
limited-any name most = record { refuses = (limited-bounds refusal name most three).refuses; gives = λ cs rest x h. tt }

pub source-bounds : (name : List ℕ) → Bounds refusal (λ p. Unit {0}) (source_course name)
source-bounds name =
    then-bounds refusal (λ x. Unit {0}) (λ p. Unit {0}) (limited name MOST_SOURCE_BYTES) (λ bytes. judge (ReadsSource bytes)) (limited-any name MOST_SOURCE_BYTES)
    (λ bytes t. judge-bounds refusal (λ p. Unit {0}) (ReadsSource bytes) (λ p h. tt) (λ r h. source_refusal h.0 r h.2))

source-once : ReadOnce → HaveOneAnswer → (bytes : List ℕ) → HasOneVerdict (ReadsSource bytes)
source-once once one bytes (Ok p) (Ok q) h k = ap Ok (once bytes p q h k)
source-once once one bytes (Ok p) (Err r) h k = absurd (one.not_both bytes p k.0 h k.1)
source-once once one bytes (Err r) (Ok p) h k = absurd (one.not_both bytes p h.0 k h.1)
source-once once one bytes (Err r) (Err q) h k =
    let d : h.0 ≡ k.0 = one.one_fault bytes h.0 k.0 h.1 k.1 in
    let f : Some r ≡ Some q = sym h.2 ∙ ap source_refused d ∙ k.2 in
    let g : r ≡ q = cc in
    ap Err g

pub source-determined : ReadOnce → HaveOneAnswer → (name : List ℕ) → IsDetermined (source_course name)
source-determined once one name = then-determined (limited name MOST_SOURCE_BYTES) (λ bytes. judge (ReadsSource bytes)) (limited-determined name MOST_SOURCE_BYTES) (λ bytes. judge-determined (ReadsSource bytes) (source-once once one bytes))

machine-once : (bytes : List ℕ) → HasOneVerdict (ReadsMachine bytes)
machine-once bytes (Ok p) (Ok q) h k =
    let e = sym h ∙ k in
    let v : p ≡ q = cc in
    ap Ok v
machine-once bytes (Ok p) (Err r) h k = let e : Ok p ≡ Err k.0 = sym h ∙ k.1 in let no : ⊥ = cc in absurd no
machine-once bytes (Err r) (Ok p) h k = let e : Err h.0 ≡ Ok p = sym h.1 ∙ k in let no : ⊥ = cc in absurd no
machine-once bytes (Err r) (Err q) h k =
    let e : Err h.0 ≡ Err k.0 = sym h.1 ∙ k.1 in
    let d : h.0 ≡ k.0 = cc in
    let f : Some r ≡ Some q = sym h.2 ∙ ap machine_refused d ∙ k.2 in
    let g : r ≡ q = cc in
    ap Err g

pub machine-determined : (machine : MachineOf) → IsDetermined (machine_course machine)
machine-determined Default = give-determined standard
machine-determined (MachineFile name) = then-determined (limited name MOST_MACHINE_BYTES) (λ bytes. judge (ReadsMachine bytes)) (limited-determined name MOST_MACHINE_BYTES) (λ bytes. judge-determined (ReadsMachine bytes) (machine-once bytes))

pub machine-bounds : (machine : MachineOf) → Bounds refusal (λ m. Unit {0}) (machine_course machine)
machine-bounds Default = give-bounds refusal (λ m. Unit {0}) standard tt
machine-bounds (MachineFile name) =
    then-bounds refusal (λ x. Unit {0}) (λ m. Unit {0}) (limited name MOST_MACHINE_BYTES) (λ bytes. judge (ReadsMachine bytes)) (limited-any name MOST_MACHINE_BYTES)
    (λ bytes t. judge-bounds refusal (λ m. Unit {0}) (ReadsMachine bytes) (λ m h. tt) (λ r h. machine_refusal h.0 r h.2))

-- whatever the held files hold, they lead to a program, a machine or a refusal
source-some : HaveOneAnswer → (bytes : List ℕ) → HasSomeVerdict (ReadsSource bytes)
source-some one bytes = by (one.some bytes)
  where
    by : Answer bytes → HasSomeVerdict (ReadsSource bytes)
    by (program {r = p} h) = (Ok p, h)
    by (fault {e = e} h) = let t = source_told bytes h in (Err t.0, (e, h, t.1))

pub source-settles : HaveOneAnswer → (held : Held) (name : List ℕ) → Settles held (source_course name)
source-settles one held name =
    then-settles held (λ x. Unit {0}) (limited name MOST_SOURCE_BYTES) (λ bytes. judge (ReadsSource bytes)) (λ contents rest x h. tt) (limited-settles held name MOST_SOURCE_BYTES)
    (λ bytes t. judge-settles held (ReadsSource bytes) (source-some one bytes))

abbrev pub MachineFaults : Type 0
MachineFaults = (bytes : List ℕ) (e : MachineFault) → machine_of bytes ≡ Err e → e ≢ Memory

machine-some : MachineFaults → (bytes : List ℕ) → HasSomeVerdict (ReadsMachine bytes)
machine-some told bytes = by (machine_of bytes) refl
  where
    by : (m : Read Machine) → machine_of bytes ≡ m → HasSomeVerdict (ReadsMachine bytes)
    by (Ok m) e = (Ok m, e)
    by (Err f) e = let t = machine_told f (told bytes f e) in (Err t.0, (f, e, t.1))

pub machine-settles : MachineFaults → (held : Held) (machine : MachineOf) → Settles held (machine_course machine)
machine-settles told held Default = give-settles held standard
machine-settles told held (MachineFile name) =
    then-settles held (λ x. Unit {0}) (limited name MOST_MACHINE_BYTES) (λ bytes. judge (ReadsMachine bytes)) (λ contents rest x h. tt) (limited-settles held name MOST_MACHINE_BYTES)
    (λ bytes t. judge-settles held (ReadsMachine bytes) (machine-some told bytes))

-- what is so of all that texts read as is so of what the course gives
pub source-keeps : (Q : RProgram → Type 0) → ((src : List ℕ) (r : RProgram) → Reads src r → Q r) → (name : List ℕ) → Bounds refusal Q (source_course name)
source-keeps Q so name =
    then-bounds refusal (λ x. Unit {0}) Q (limited name MOST_SOURCE_BYTES) (λ bytes. judge (ReadsSource bytes)) (limited-any name MOST_SOURCE_BYTES)
    (λ bytes t. judge-bounds refusal Q (ReadsSource bytes) (so bytes) (λ r h. source_refusal h.0 r h.2))

lawful_time : (least most : ℕ) → 1 ≤ least → least ≤ most → most ≤ 1000 → IsTime (interval least most)
lawful_time least most a b c = record { low = a; order = b; high = c }

standard_lawful : IsMachine standard
standard_lawful =
    let one : IsTime (interval 1 1) = lawful_time 1 1 (omega arith) (omega arith) (omega arith) in
    let four : IsTime (interval 1 4) = lawful_time 1 4 (omega arith) (omega arith) (omega arith) in
    let two : IsTime (interval 1 2) = lawful_time 1 2 (omega arith) (omega arith) (omega arith) in
    let six : IsTime (interval 1 6) = lawful_time 1 6 (omega arith) (omega arith) (omega arith) in
    let of_mul : IsTime (interval 2 3) = lawful_time 2 3 (omega arith) (omega arith) (omega arith) in
    let of_div : IsTime (interval 4 12) = lawful_time 4 12 (omega arith) (omega arith) (omega arith) in
    record {
      some = omega arith;
      few = omega arith;
      quick = omega arith;
      count = refl;
      each = (one, (four, (two, (six, (four, (one, (of_mul, (of_div, (one, tt)))))))));
    }

abbrev pub MachinesLawful : Type 0
MachinesLawful = (bytes : List ℕ) (m : Machine) → machine_of bytes ≡ Ok m → IsMachine m

pub machine-lawful : MachinesLawful → (machine : MachineOf) → Bounds refusal IsMachine (machine_course machine)
machine-lawful lawful Default = give-bounds refusal IsMachine standard standard_lawful
machine-lawful lawful (MachineFile name) =
    then-bounds refusal (λ x. Unit {0}) IsMachine (limited name MOST_MACHINE_BYTES) (λ bytes. judge (ReadsMachine bytes)) (limited-any name MOST_MACHINE_BYTES)
    (λ bytes t. judge-bounds refusal IsMachine (ReadsMachine bytes) (lawful bytes) (λ r h. machine_refusal h.0 r h.2))
