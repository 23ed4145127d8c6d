-- The canonical run: of all runs on a unit with a timing, the one that the engine takes.
use Rattle.std.specs.Prelude.{◌≡◌, ℕ, zero, suc, ◌≤◌, Bool, true, false, ◌&&◌, not, nat_eq, List, [], ◌∷◌, Option, Some, None}
use Rattle.std.specs.Prelude.{if◌then◌else◌}
use Rattle.bm_base.specs.declared.spec.Interval.{Interval}
use Rattle.bm_base.specs.Memory.{Content}
use Rattle.tuple_ir.specs.declared.tuple.Tuple.{Tuple}
use Rattle.line_model.specs.declared.line.StreamItem.{StreamItem}
use Rattle.line_model.specs.declared.line.StreamItem.TheVariants.{Do, Wait}
use Rattle.line_model.specs.Streams.{counted}
use Rattle.timing_law.specs.Duration.{IsWithin}
use Rattle.unit_law.specs.State.{Code, Program, Mode, In, Entering, Ended, State, code_at, interval_of, processor, is_free, is_due}
use Rattle.unit_law.specs.State.{next_item}
use Rattle.unit_law.specs.Units.{Choice, first_from}
use Rattle.unit_law.specs.Steps.{Action, Finish, Fire, Start, Branch, Advance, Enter, least_tick, tuple_at, state_after}
use Rattle.unit_law.specs.OnUnit.{answer_at}

-- what a timing means: the duration of the k-th tuple that a processor starts in the whole run, by processor, k and the tuple's interval
abbrev pub Durations : Type 0
Durations = ℕ → ℕ → Interval → ℕ

-- each duration is within the interval
abbrev pub IsTiming : Durations → Type 0
IsTiming durations = (p k : ℕ) (interval : Interval) → interval.least ≤ interval.most → IsWithin interval (durations p k interval)

-- how many tuples processor p has started in the whole run
abbrev pub starts : ℕ → List Action → ℕ
starts p [] = 0
starts p (Start q d ∷ past) = counted (nat_eq q p) (starts p past)
starts p (Finish q ∷ past) = starts p past
starts p (Fire j ∷ past) = starts p past
starts p (Branch ∷ past) = starts p past
starts p (Advance ∷ past) = starts p past
starts p (Enter ∷ past) = starts p past

-- the action with this number, where there is a number
abbrev pub numbered : (ℕ → Action) → Option ℕ → Option Action
numbered action None = None
numbered action (Some n) = Some (action n)

-- the first of two that there is
abbrev pub or_else : Option Action → Option Action → Option Action
or_else None o = o
or_else (Some a) o = Some a

-- a due Finish of the lowest processor
abbrev pub due_finish : Program → State → Option Action
due_finish m s = numbered Finish (first_from (λ p. is_due s.clock (processor s p).work) 0 m.machine.processors)

abbrev pub is_do : Option StreamItem → Bool
is_do (Some (Do t)) = true
is_do (Some Wait) = false
is_do None = false

-- processor p is free, and its next item is a tuple
abbrev pub can_start : Code → State → ℕ → Bool
can_start code s p = is_free s.clock (processor s p).work && is_do (next_item code s p)

-- the duration of the tuple that is processor p's next item, after this run
abbrev pub time_from : Durations → Program → List Action → ℕ → Option Tuple → ℕ
time_from durations m past p None = 0
time_from durations m past p (Some t) = durations p (starts p past) (interval_of m t)

abbrev pub time_for : Durations → Program → Code → List Action → ℕ → Option StreamItem → ℕ
time_for durations m code past p (Some (Do t)) = time_from durations m past p (tuple_at code t)
time_for durations m code past p (Some Wait) = 0
time_for durations m code past p None = 0

-- the Start of the lowest processor
abbrev pub lowest_start : Durations → Program → Code → List Action → State → Option Action
lowest_start durations m code past s = numbered (λ p. Start p (time_for durations m code past p (next_item code s p)))
    (first_from (can_start code s) 0 m.machine.processors)

abbrev pub is_none : {X : Type 0} → Option X → Bool
is_none None = true
is_none (Some x) = false

-- processor p is free at its stream's end
abbrev pub is_at_end : Code → State → ℕ → Bool
is_at_end code s p = is_free s.clock (processor s p).work && is_none (next_item code s p)

-- the Branch, where all processors are free at their streams' ends
abbrev pub block_branch : Program → Code → State → Option Action
block_branch m code s = if is_none (first_from (λ p. not (is_at_end code s p)) 0 m.machine.processors) then Some Branch else None

-- the Advance, where a processor is busy or held past the clock
abbrev pub block_advance : State → Option Action
block_advance s = if is_none (least_tick s.clock s.processors) then None else Some Advance

-- in block b after a run: a due Finish of the lowest processor; else the mask that the unit picks; else the Start of the lowest
-- processor; else the Branch; else the Advance
abbrev pub next_in : Choice → Durations → Program → ℕ → List Action → State → Option Action
next_in choice durations m b past s = or_else (due_finish m s)
    (or_else (numbered Fire (answer_at choice m b s))
    (or_else (lowest_start durations m (code_at m b) past s)
    (or_else (block_branch m (code_at m b) s) (block_advance s))))

-- the action that the canonical run takes next, none at its end
abbrev pub next_to : Choice → Durations → Program → Mode → List Action → State → Option Action
next_to choice durations m (In b) past s = next_in choice durations m b past s
next_to choice durations m (Entering b) past s = Some Enter
next_to choice durations m Ended past s = None

abbrev pub next_action : Choice → Durations → Program → List Content → List Action → Option Action
next_action choice durations m memory past = next_to choice durations m (state_after m memory past).mode past (state_after m memory past)

abbrev pub and_then : Option Action → List Action → List Action
and_then None past = past
and_then (Some a) past = a ∷ past

-- the canonical run's first n actions, the latest first; all of them where it has fewer
abbrev pub canonical : Choice → Durations → Program → List Content → ℕ → List Action
canonical choice durations m memory zero = []
canonical choice durations m memory (suc n) = let past = canonical choice durations m memory n
    in and_then (next_action choice durations m memory past) past

-- these actions are a beginning of the canonical run
abbrev pub IsCanonical : Choice → Durations → Program → List Content → List Action → Type 0
IsCanonical choice durations m memory [] = Unit {0}
IsCanonical choice durations m memory (a ∷ past) = IsCanonical choice durations m memory past
    × (next_action choice durations m memory past ≡ Some a)
