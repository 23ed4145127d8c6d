-- What a machine file means: a machine, or a fault that is not want of memory.
use Rattle.std.proofs.Common.{◌≡◌, ◌≢◌, ◌≤◌, inl, inr, ℕ, suc, ℤ, pos, negsuc, List, [], ◌∷◌, length, Bool, true, false, Option, Some, None, Ok, Err, refl, ap, subst, ◌∙◌, arith, if◌then◌else◌}
use Rattle.std.specs.Prelude.{codes}
use Rattle.std.specs.List.{AllByRecursion}
use Rattle.std.specs.Str.{is_utf8}
use Rattle.std.proofs.lemmas.Bool.Decides.{leb_tells}
use Rattle.bm_base.specs.declared.limits.TheConstants.{MOST_PROCESSORS, MOST_DELAY, MOST_TICKS}
use Rattle.bm_base.specs.declared.spec.Interval.{Interval}
use Rattle.bm_base.specs.Machine.{Machine, IsTime, IsMachine}
use Rattle.toml.specs.Data.{Data, Members, get_member, as_integer, as_table}
use Rattle.toml.specs.Parse.{parse_document}
use Rattle.machine_file.specs.declared.fault.MachineFault.{MachineFault}
use Rattle.machine_file.specs.declared.fault.MachineFault.TheVariants.{NotToml, Memory}
use Rattle.machine_file.specs.Keys.{top_keys, class_keys, keys_of, first_unknown}
use Rattle.machine_file.specs.MachineFile.{Read, ◌>>=◌, at_key, of_kind, in_range, pair_of, interval_of, in_times, intervals_of, without, processors_of, delay_at, delay_of, times_of, no_unknown, machine_of_document, machine_of_text, machine_of}

-- a value of which this holds, or a fault that is not want of memory
abbrev Means : {A : Type 0} → (A → Type 0) → Read A → Type 0
Means Q (Ok x) = Q x
Means Q (Err e) = e ≢ Memory

abbrev Any : {A : Type 0} → A → Type 0
Any x = Unit {0}

then_means : {A B : Type 0} (Q : A → Type 0) (R : B → Type 0) (m : Read A) (f : A → Read B) → Means Q m → ((x : A) → Q x → Means R (f x)) → Means R (m >>= f)
then_means Q R (Ok x) f h g = g x h
then_means Q R (Err e) f h g = h

key_means : (name : List ℕ) (o : Option Data) → Means Any (at_key name o)
key_means name None = λ e. cc
key_means name (Some d) = tt

kind_means : {A : Type 0} (name : List ℕ) (o : Option A) → Means Any (of_kind name o)
kind_means name None = λ e. cc
kind_means name (Some x) = tt

abbrev Within : ℕ → ℕ → ℕ → Type 0
Within low high n = (low ≤ n) × (n ≤ high)

range_means : (name : List ℕ) (low high : ℕ) (v : ℤ) → Means (Within low high) (in_range name low high v)
range_means name low high (negsuc n) = λ e. cc
range_means name low high (pos n) = elim (leb_tells low n) [
  | inr a ↦ rw a.0 (λ e. cc)
  | inl a ↦ elim (leb_tells n high) [
    | inr b ↦ rw (a.0, b.0) (λ e. cc)
    | inl b ↦ rw (a.0, b.0) (a.1, b.1)
  ]
]

interval_means : (name : List ℕ) (o : Option Data) → Means IsTime (interval_of name o)
interval_means name o =
    then_means Any IsTime (at_key name o) (λ d. of_kind name (pair_of d) >>= with_ends) (key_means name o)
    (λ d _. then_means Any IsTime (of_kind name (pair_of d)) with_ends (kind_means name (pair_of d)) ends_mean)
  where
    with_least : ℤ × ℤ → ℕ → Read Interval
    with_least ends least = in_range name least MOST_TICKS ends.1 >>= (λ most. Ok (record { least = least; most = most }))

    with_ends : ℤ × ℤ → Read Interval
    with_ends ends = in_range name 1 MOST_TICKS ends.0 >>= with_least ends

    least_means : (ends : ℤ × ℤ) (least : ℕ) → Within 1 MOST_TICKS least → Means IsTime (with_least ends least)
    least_means ends least h =
        then_means (Within least MOST_TICKS) IsTime (in_range name least MOST_TICKS ends.1) (λ most. Ok (record { least = least; most = most })) (range_means name least MOST_TICKS ends.1)
        (λ most k. record { low = h.0; order = k.0; high = k.1 })

    ends_mean : (ends : ℤ × ℤ) → Any ends → Means IsTime (with_ends ends)
    ends_mean ends _ = then_means (Within 1 MOST_TICKS) IsTime (in_range name 1 MOST_TICKS ends.0) (with_least ends) (range_means name 1 MOST_TICKS ends.0) (least_means ends)

abbrev AreTimes : ℕ → List Interval → Type 0
AreTimes n ts = (length ts ≡ n) × AllByRecursion IsTime ts

intervals_mean : (keys : List (List ℕ)) (times : Members) → Means (AreTimes (length keys)) (intervals_of keys times)
intervals_mean [] times = (refl, tt)
intervals_mean (key ∷ keys) times =
    let o : Option Data = get_member key times in
    then_means IsTime (AreTimes (length (key ∷ keys))) (interval_of (in_times key) o) (λ first. intervals_of keys times >>= (λ rest. Ok (first ∷ rest))) (interval_means (in_times key) o)
    (λ first h. then_means (AreTimes (length keys)) (AreTimes (length (key ∷ keys))) (intervals_of keys times) (λ rest. Ok (first ∷ rest)) (intervals_mean keys times) (λ rest k. (ap suc k.0, (h, k.1))))

without_means : (told : List ℕ → List ℕ) (o : Option (List ℕ)) → Means Any (without told o)
without_means told None = tt
without_means told (Some key) = λ e. cc

processors_mean : (document : Members) → Means (Within 1 MOST_PROCESSORS) (processors_of document)
processors_mean document =
    let name : List ℕ = codes "processors" in
    let o : Option Data = get_member name document in
    then_means Any (Within 1 MOST_PROCESSORS) (at_key name o) (λ found. of_kind name (as_integer found) >>= in_range name 1 MOST_PROCESSORS) (key_means name o)
    (λ found _. then_means Any (Within 1 MOST_PROCESSORS) (of_kind name (as_integer found)) (in_range name 1 MOST_PROCESSORS) (kind_means name (as_integer found)) (λ v _. range_means name 1 MOST_PROCESSORS v))

delay_means : (o : Option Data) → Means (Within 0 MOST_DELAY) (delay_at o)
delay_means None = (omega arith, omega arith)
delay_means (Some found) =
    let name : List ℕ = codes "barrier" in
    then_means Any (Within 0 MOST_DELAY) (of_kind name (as_integer found)) (in_range name 0 MOST_DELAY) (kind_means name (as_integer found)) (λ v _. range_means name 0 MOST_DELAY v)

times_mean : (document : Members) → Means Any (times_of document)
times_mean document =
    let name : List ℕ = codes "times" in
    let o : Option Data = get_member name document in
    then_means Any Any (at_key name o) (λ found. of_kind name (as_table found)) (key_means name o) (λ found _. kind_means name (as_table found))

unknown_means : (document times : Members) → Means Any (no_unknown document times)
unknown_means document times =
    then_means Any Any (without (λ key. key) (first_unknown top_keys (keys_of document))) (λ _. without in_times (first_unknown class_keys (keys_of times)))
    (without_means (λ key. key) (first_unknown top_keys (keys_of document))) (λ _ _. without_means in_times (first_unknown class_keys (keys_of times)))

class_count : length class_keys ≡ 9
unfolding class_keys
class_count = refl

module _ (document : Members) where
  with_intervals : ℕ → ℕ → Members → List Interval → Read Machine
  with_intervals processors delay times intervals = no_unknown document times >>= (λ _. Ok (record { processors = processors; delay = delay; times = intervals }))

  with_times : ℕ → ℕ → Members → Read Machine
  with_times processors delay times = intervals_of class_keys times >>= with_intervals processors delay times

  with_delay : ℕ → ℕ → Read Machine
  with_delay processors delay = times_of document >>= with_times processors delay

  with_processors : ℕ → Read Machine
  with_processors processors = delay_of document >>= with_delay processors

  module _ (processors delay : ℕ) (some : Within 1 MOST_PROCESSORS processors) (quick : Within 0 MOST_DELAY delay) where
    intervals_go : (times : Members) (intervals : List Interval) → AreTimes (length class_keys) intervals → Means IsMachine (with_intervals processors delay times intervals)
    unfolding with_intervals
    intervals_go times intervals k =
        then_means Any IsMachine (no_unknown document times) (λ _. Ok (record { processors = processors; delay = delay; times = intervals })) (unknown_means document times)
        (λ _ _. record { some = some.0; few = some.1; quick = quick.1; count = k.0 ∙ class_count; each = k.1 })

    times_go : (times : Members) → Any times → Means IsMachine (with_times processors delay times)
    unfolding with_times
    times_go times _ =
        then_means (AreTimes (length class_keys)) IsMachine (intervals_of class_keys times) (with_intervals processors delay times)
        (intervals_mean class_keys times) (intervals_go times)

    delay_go : Means IsMachine (with_delay processors delay)
    unfolding with_delay
    delay_go = then_means Any IsMachine (times_of document) (with_times processors delay) (times_mean document) times_go

  processors_go : (processors : ℕ) → Within 1 MOST_PROCESSORS processors → Means IsMachine (with_processors processors)
  unfolding with_processors
  processors_go processors some =
      then_means (Within 0 MOST_DELAY) IsMachine (delay_of document) (with_delay processors) (delay_means (get_member (codes "barrier") document))
      (λ delay quick. delay_go processors delay some quick)

  document_means : Means IsMachine (machine_of_document document)
  unfolding with_processors with_delay with_times with_intervals
  document_means = then_means (Within 1 MOST_PROCESSORS) IsMachine (processors_of document) with_processors (processors_mean document) processors_go

text_means : (o : Option Members) → Means IsMachine (machine_of_text o)
text_means None = λ e. cc
text_means (Some document) = document_means document

tested : (b : Bool) (m n : Read Machine) → Means IsMachine m → Means IsMachine n → Means IsMachine (if b then m else n)
tested true m n h g = h
tested false m n h g = g

bytes_mean : (bytes : List ℕ) → Means IsMachine (machine_of bytes)
bytes_mean bytes = tested (is_utf8 bytes) (machine_of_text (parse_document bytes)) (Err NotToml) (text_means (parse_document bytes)) (λ e. cc)

pub machine_means : (bytes : List ℕ) (m : Machine) → machine_of bytes ≡ Ok m → IsMachine m
machine_means bytes m e = subst (Means IsMachine) e (bytes_mean bytes)

pub fault_means : (bytes : List ℕ) (x : MachineFault) → machine_of bytes ≡ Err x → x ≢ Memory
fault_means bytes x e = subst (Means IsMachine) e (bytes_mean bytes)
