-- The course of data comes to one step, and to some, and its refusals have their statuses.
use Rattle.std.proofs.Common.{◌≡◌, ℕ, List, Some, Ok, Err, refl, sym, ap, ◌∙◌}
use Rattle.bm_base.specs.declared.limits.TheConstants.{MOST_DATA_BYTES}
use Rattle.bm_base.specs.Entry.{Entry}
use Rattle.bm_base.specs.Memory.{Content, initial}
use Rattle.bm_base.specs.Memories.{IsMemoryOf}
use Rattle.bm_base.specs.Names.{AreNames}
use Rattle.bm_io.specs.Files.{Held}
use Rattle.timing_script.specs.declared.fault.DataFault.{DataFault}
use Rattle.timing_script.specs.declared.fault.DataFault.TheVariants.{DataText, DataName, DataTwice, DataCount, Memory}
use Rattle.timing_script.specs.Data.{IsDataOf, IsFirstFault}
use Rattle.timing_script.specs.DataLaws.{Answer, gives, wrong, DataHasOneAnswer}
use Rattle.bm_words.specs.Table.{DataOf, Declared, DataFile}
use Rattle.bm_course.specs.Course.{Refused, judge}
use Rattle.bm_course.specs.Limited.{limited}
use Rattle.bm_course.specs.Laws.{IsDetermined, HasOneVerdict, HasSomeVerdict, Settles, Bounds}
use Rattle.bm_course.proofs.Settling.{limited-determined, then-determined, judge-determined, give-determined}
use Rattle.bm_course.proofs.Leading.{limited-settles, then-settles, judge-settles, give-settles}
use Rattle.bm_course.proofs.Bounds.{then-bounds, judge-bounds, give-bounds, limited-bounds}
use Rattle.bm_inputs.specs.DataLines.{data_refused}
use Rattle.bm_inputs.specs.Memories.{ReadsData, memory_course}
use Rattle.bm_inputs.proofs.BeginningStatuses.{refusal, three, data_refusal}

-- a fault of a row is told
data_told : (names : List Entry) (bytes : List ℕ) (e : DataFault) → IsFirstFault names bytes e → (r : Refused) × (data_refused e ≡ Some r)
data_told names bytes (DataText line) h = (_, refl)
data_told names bytes (DataName line) h = (_, refl)
data_told names bytes (DataTwice line first) h = (_, refl)
data_told names bytes (DataCount line given room) h = (_, refl)
data_told names bytes Memory h = absurd h.wrong

module _ (names : List Entry) where
  -- what is read is so
  pub memory-keeps : (Q : List Content → Type 0) → Q (initial names) → ((bytes : List ℕ) (m : List Content) → IsDataOf names bytes m → Q m) → (word : DataOf) → Bounds refusal Q (memory_course names word)
  memory-keeps Q first so Declared = give-bounds refusal Q (initial names) first
  memory-keeps Q first so (DataFile name) =
      then-bounds refusal (λ x. Unit {0}) Q (limited name MOST_DATA_BYTES) (λ bytes. judge (ReadsData names bytes))
      (record { refuses = (limited-bounds refusal name MOST_DATA_BYTES three).refuses; gives = λ cs rest x h. tt })
      (λ bytes t. judge-bounds refusal Q (ReadsData names bytes) (so bytes) (λ r h. data_refusal h.0 r h.2))

  pub memory-bounds : (word : DataOf) → Bounds refusal (λ m. Unit {0}) (memory_course names word)
  memory-bounds word = memory-keeps (λ m. Unit {0}) tt (λ bytes m h. tt) word

  module _ (one : DataHasOneAnswer) (lawful : AreNames names) where
    data-once : (bytes : List ℕ) → HasOneVerdict (ReadsData names bytes)
    data-once bytes (Ok m) (Ok n) h k = ap Ok (one.one_memory names bytes m n lawful h k)
    data-once bytes (Ok m) (Err r) h k = absurd (one.not_both names bytes m k.0 lawful h k.1)
    data-once bytes (Err r) (Ok m) h k = absurd (one.not_both names bytes m h.0 lawful k h.1)
    data-once bytes (Err r) (Err q) h k =
        let d : h.0 ≡ k.0 = one.one_fault names bytes h.0 k.0 lawful h.1 k.1 in
        let f : Some r ≡ Some q = sym h.2 ∙ ap data_refused d ∙ k.2 in
        let g : r ≡ q = cc in
        ap Err g

    data-some : (bytes : List ℕ) → HasSomeVerdict (ReadsData names bytes)
    data-some bytes = by (one.some names bytes lawful)
      where
        by : Answer names bytes → HasSomeVerdict (ReadsData names bytes)
        by (gives m h) = (Ok m, h)
        by (wrong e h) = let t = data_told names bytes e h in (Err t.0, (e, h, t.1))

    pub memory-determined : (word : DataOf) → IsDetermined (memory_course names word)
    memory-determined Declared = give-determined (initial names)
    memory-determined (DataFile name) = then-determined (limited name MOST_DATA_BYTES) (λ bytes. judge (ReadsData names bytes)) (limited-determined name MOST_DATA_BYTES) (λ bytes. judge-determined (ReadsData names bytes) (data-once bytes))

    pub memory-settles : (held : Held) (word : DataOf) → Settles held (memory_course names word)
    memory-settles held Declared = give-settles held (initial names)
    memory-settles held (DataFile name) =
        then-settles held (λ x. Unit {0}) (limited name MOST_DATA_BYTES) (λ bytes. judge (ReadsData names bytes)) (λ contents rest x h. tt) (limited-settles held name MOST_DATA_BYTES)
        (λ bytes t. judge-settles held (ReadsData names bytes) (data-some bytes))

    pub memory-right : ((names : List Entry) → IsMemoryOf names (initial names)) → (word : DataOf) → Bounds refusal (IsMemoryOf names) (memory_course names word)
    memory-right first word = memory-keeps (IsMemoryOf names) (first names) (λ bytes m h. one.of_names names bytes m lawful h) word
