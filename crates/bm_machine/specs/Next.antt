-- What each call of `next` does: it takes the next actions of the canonical run, which end with the one that gives the event.
--
-- The counts of what each processor has started stand for the run so far, of which the canonical run asks nothing else.
use Rattle.std.specs.Prelude.{◌≡◌, ℕ, ◌+◌, ◌-◌, ◌*◌, ◌<◌, ◌⊎◌, Bool, true, false, List, [], ◌∷◌, get_or, set, drop, replicate, Option}
use Rattle.std.specs.Prelude.{Some, None, count_by, not, ℤ}
use Rattle.bm_base.specs.Memory.{Content}
use Rattle.bm_base.specs.Memories.{IsMemoryOf}
use Rattle.tuple_ir.specs.declared.event.Event.{Event}
use Rattle.tuple_ir.specs.declared.event.Event.TheVariants.{Started, Finished, Printed, Fired, Entered, Ended as Over, Reached}
use Rattle.tuple_ir.specs.Conflict.{Conflict}
use Rattle.line_model.specs.declared.line.StreamItem.{StreamItem}
use Rattle.line_model.specs.declared.line.StreamItem.TheVariants.{Do, Wait}
use Rattle.line_model.specs.Streams.{stream}
use Rattle.unit_law.specs.State.{Code, Program, Mode, In, Entering, Ended, State, Work, Idle, Busy, Held, code_at, processor}
use Rattle.unit_law.specs.Units.{Choice}
use Rattle.unit_law.specs.Steps.{Action, Finish, Fire, Start, Branch, Advance, Enter, May, after, IsRun, state_after}
use Rattle.unit_law.specs.Canonical.{Durations, next_to}
use Rattle.unit_law.specs.Determinate.{sum_below}
use Rattle.unit_law.specs.Execution.{HasFinished}
use Rattle.bm_machine.specs.Shown.{Shown, HasCounts}
use Rattle.unit_law.specs.Events.{event_of}

-- the machine is of the same program, on the same choice, with the same timing
pub record Stays {U T : Type 0} (chosen : U → Choice) (before now : Shown U T) : Type 0 where
  pub program : now.program ≡ before.program
  pub choice : chosen now.unit ≡ chosen before.unit
  pub timing : now.timing ≡ before.timing

-- the action may be taken, and where a run has these counts and is in this state, the canonical run takes it next
pub record IsNextAction (choice : Choice) (durations : Durations) (m : Program) (counts : List ℕ) (s : State) (a : Action) : Type 0 where
  pub may : May m s a
  pub canonical : (past : List Action) → HasCounts counts past → next_to choice durations m s.mode past s ≡ Some a

-- a Start adds 1 to its processor's count, and nothing else changes a count
abbrev pub counts_after : List ℕ → Action → List ℕ
counts_after counts (Start p d) = set counts p (get_or counts p 0 + 1)
counts_after counts (Finish p) = counts
counts_after counts (Fire j) = counts
counts_after counts Branch = counts
counts_after counts Advance = counts
counts_after counts Enter = counts

-- these actions, the first first, are the next ones of the canonical run, and lead to this state and these counts
abbrev pub Takes : Choice → Durations → Program → List ℕ → State → List Action → List ℕ → State → Type 0
Takes choice durations m counts s [] counts' s' = (counts' ≡ counts) × (s' ≡ s)
Takes choice durations m counts s (a ∷ actions) counts' s' = IsNextAction choice durations m counts s a
    × Takes choice durations m (counts_after counts a) (after m s a) actions counts' s'

-- of these actions the last one gives the event, and no other gives any
abbrev pub EndsWith : Program → State → List Action → Event → Type 0
EndsWith m s [] event = ⊥
EndsWith m s (a ∷ []) event = event_of m s a ≡ Some event
EndsWith m s (a ∷ b ∷ actions) event = (event_of m s a ≡ None) × EndsWith m (after m s a) (b ∷ actions) event

-- the actions of a call that answers this event: they end with it; once the run has ended its end is told again, with none; and
-- where the tick is reached they are Advances
abbrev pub StandsFor : Program → State → Event → List Action → Type 0
StandsFor m s Reached actions = (n : ℕ) × (actions ≡ replicate n Advance)
StandsFor m s (Over at) actions = EndsWith m s actions (Over at) ⊎ ((s.mode ≡ Ended) × (at ≡ s.clock) × (actions ≡ []))
StandsFor m s event actions = EndsWith m s actions event

-- an event's tick is the clock of the state after it; the block that is entered is that of this state, and at the end the run has ended
abbrev pub is_at : Event → State → Type 0
is_at (Started at p t d) s' = at ≡ s'.clock
is_at (Finished at p t v) s' = at ≡ s'.clock
is_at (Printed at p t v) s' = at ≡ s'.clock
is_at (Fired at j mask) s' = at ≡ s'.clock
is_at (Entered at b) s' = (at ≡ s'.clock) × (s'.mode ≡ In b)
is_at (Over at) s' = (at ≡ s'.clock) × (s'.mode ≡ Ended)
is_at Reached s' = Unit {0}

-- what an event prints
abbrev pub printed_by : Event → List ℤ
printed_by (Printed at p t v) = v ∷ []
printed_by _ = []

-- the clock once the event has happened whose first action leads to this state: to enter a block takes one tick
abbrev pub clock_then : Mode → ℕ → ℕ
clock_then (In b) clock = clock
clock_then (Entering b) clock = clock + 1
clock_then Ended clock = clock

-- no event's clock is before this one, where its next action, if any is left, is this one
abbrev pub event_clock : Program → State → Option Action → ℕ
event_clock m s None = s.clock
event_clock m s (Some a) = clock_then (after m s a).mode (after m s a).clock

-- where a run has these counts and is in this state, its next event is past this clock: so is already its next action, with the
-- Enter behind a Branch
abbrev pub IsPast : Choice → Durations → Program → List ℕ → State → ℕ → Type 0
IsPast choice durations m counts s until = (past : List Action) → HasCounts counts past
    → until < event_clock m s (next_to choice durations m s.mode past s)

-- where tuple t starts, each tuple that conflicts with t and stands before it has finished in this execution of the block, by
-- every run from a memory of the names that leads to this state, in which the event comes next
abbrev pub ProducersHaveFinished : Program → State → Event → Type 0
ProducersHaveFinished m s (Started at p t d) = (memory : List Content) (past : List Action) → IsMemoryOf m.names memory
    → IsRun m memory past → state_after m memory past ≡ s → (b a : ℕ) → s.mode ≡ In b → Conflict (code_at m b).tuples a t
    → HasFinished m memory past a
ProducersHaveFinished m s _ = Unit {0}

-- whether the run goes on by this event
abbrev pub goes_on : Event → Bool
goes_on (Over at) = false
goes_on Reached = false
goes_on _ = true

-- whether an item is a tuple
abbrev pub is_run : StreamItem → Bool
is_run (Do t) = true
is_run Wait = false

-- a tuple that is worked on has its Finish left
abbrev pub busy_one : Work → ℕ
busy_one Idle = 0
busy_one (Busy until t operands) = 1
busy_one (Held until) = 0

-- the Starts and Finishes that processor p has left in the block
abbrev pub left_of : Code → State → ℕ → ℕ
left_of code s p = 2 * count_by is_run (drop (processor s p).place (stream p code.line)) + busy_one (processor s p).work

-- the Starts, Finishes and Fires that are left in the block
abbrev pub left_in : Program → State → Mode → ℕ
left_in m s (In b) = sum_below (left_of (code_at m b) s) m.machine.processors + count_by not s.fired
left_in m s (Entering b) = 0
left_in m s Ended = 0

-- more than the Starts, Finishes and Fires of any block
abbrev pub most_left : ℕ
most_left = 1000

-- the number that falls at each event but Reached and Ended
abbrev pub still : ℕ → Program → State → ℕ
still until m s = most_left * (until + 1 - s.clock) + left_in m s s.mode
