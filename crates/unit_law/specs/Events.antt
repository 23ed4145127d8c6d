-- What a run shows: the event of each action, and those of a whole run.
use Rattle.std.specs.Prelude.{ℕ, ◌+◌, Bool, true, false, List, [], ◌∷◌, ◌++◌, Option, Some, None, slice_get, ℤ}
use Rattle.bm_base.specs.Memory.{Content}
use Rattle.tuple_ir.specs.declared.tuple.Tuple.{Tuple}
use Rattle.tuple_ir.specs.declared.tuple.Tuple.TheVariants.{Print}
use Rattle.tuple_ir.specs.declared.block.Next.{Next}
use Rattle.tuple_ir.specs.declared.block.Next.TheVariants.{Halt, Goto, If}
use Rattle.tuple_ir.specs.declared.event.Event.{Event}
use Rattle.tuple_ir.specs.declared.event.Event.TheVariants as event
use Rattle.tuple_ir.specs.World.{value_of}
use Rattle.line_model.specs.declared.line.StreamItem.{StreamItem}
use Rattle.line_model.specs.declared.line.StreamItem.TheVariants.{Do, Wait}
use Rattle.line_model.specs.Streams.{masks}
use Rattle.unit_law.specs.State.{Code, Program, Mode, In, Entering, Ended, Work, Idle, Busy, Held, State, code_at, processor, next_item}
use Rattle.unit_law.specs.Steps.{Action, Finish, Fire, Start, Branch, Advance, Enter, tuple_at, state_after}

-- processor p finishes tuple number t, with this value: a print shows what it prints
abbrev pub value_event : (clock p t : ℕ) → Tuple → Option ℤ → Option Event
value_event clock p t tuple None = None
value_event clock p t (Print c) (Some v) = Some (event.Printed clock p t v)
value_event clock p t tuple (Some v) = Some (event.Finished clock p t v)

abbrev pub tuple_event : (clock p t : ℕ) → Option Tuple → List ℤ → Option Event
tuple_event clock p t None operands = None
tuple_event clock p t (Some tuple) operands = value_event clock p t tuple (value_of tuple operands)

-- a Finish of processor p, by what it works on
abbrev pub finish_event : Code → (clock p : ℕ) → Work → Option Event
finish_event code clock p Idle = None
finish_event code clock p (Busy until t operands) = tuple_event clock p t (tuple_at code t) operands
finish_event code clock p (Held until) = None

-- a Start of processor p, by its next item and the time that it takes
abbrev pub start_event : (clock p time : ℕ) → Option StreamItem → Option Event
start_event clock p time (Some (Do t)) = Some (event.Started clock p t time)
start_event clock p time (Some Wait) = None
start_event clock p time None = None

-- a Fire of mask j, where there is one
abbrev pub fire_event : (clock j : ℕ) → Option ℕ → Option Event
fire_event clock j None = None
fire_event clock j (Some mask) = Some (event.Fired clock j mask)

-- a Branch shows something only where it ends the run
abbrev pub branch_event : (clock : ℕ) → Next → Option Event
branch_event clock Halt = Some (event.Ended clock)
branch_event clock (Goto b) = None
branch_event clock (If c one other) = None

-- what an action shows in a block
abbrev pub event_in : Code → State → Action → Option Event
event_in code s (Finish p) = finish_event code s.clock p (processor s p).work
event_in code s (Fire j) = fire_event s.clock j (slice_get (masks code.line) j)
event_in code s (Start p d) = start_event s.clock p d (next_item code s p)
event_in code s Branch = branch_event s.clock code.next
event_in code s Advance = None
event_in code s Enter = None

-- what an action shows in a state of this mode; a block is entered at the clock that follows
abbrev pub event_to : Program → Mode → State → Action → Option Event
event_to m (In b) s a = event_in (code_at m b) s a
event_to m (Entering b) s Enter = Some (event.Entered (s.clock + 1) b)
event_to m (Entering b) s _ = None
event_to m Ended s a = None

-- the event of an action at a state, none where it shows nothing
abbrev pub event_of : Program → State → Action → Option Event
event_of m s a = event_to m s.mode s a

abbrev pub and_event : List Event → Option Event → List Event
and_event events None = events
and_event events (Some e) = events ++ e ∷ []

-- the events of a run, the first first
abbrev pub events_of : Program → List Content → List Action → List Event
events_of m memory [] = []
events_of m memory (a ∷ past) = and_event (events_of m memory past) (event_of m (state_after m memory past) a)

abbrev pub leads_on : Next → Bool
leads_on Halt = false
leads_on (Goto b) = true
leads_on (If c one other) = true

-- which actions show nothing: an Advance, and a Branch that leads on to a block
abbrev pub is_silent : Program → Mode → Action → Bool
is_silent m (In b) Branch = leads_on (code_at m b).next
is_silent m mode Advance = true
is_silent m mode a = false
