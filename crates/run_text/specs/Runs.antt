-- What it is that a machine runs on from a state of the canonical run.
use Rattle.std.specs.Prelude.{◌≡◌, ℕ, ◌≤◌, List, ◌++◌, length, Option, Some, None, Result, Ok, Err, ℤ}
use Rattle.bm_base.specs.Memory.{Content}
use Rattle.bm_io.specs.declared.sinks.SinkFault.{SinkFault}
use Rattle.bm_io.specs.Values.{Took}
use Rattle.tuple_ir.specs.declared.event.Event.{Event}
use Rattle.unit_law.specs.State.{Program, State}
use Rattle.unit_law.specs.Units.{Choice}
use Rattle.unit_law.specs.Steps.{Action, state_after}
use Rattle.unit_law.specs.Canonical.{Durations, IsCanonical}
use Rattle.bm_machine.specs.Shown.{Shown, HasCounts}
use Rattle.run_text.specs.declared.runs.RunEnd.{RunEnd}
use Rattle.run_text.specs.declared.runs.RunEnd.TheVariants.{Ended, Going}
use Rattle.run_text.specs.RunUpTo.{End, IsRunUpTo, IsShownBy}
use Rattle.run_text.specs.Told.{told_by, prints_of, Tells, IsToldUpTo, IsToldBy}

-- the canonical run from this memory has come to this state, in which each processor has started so many tuples in all
pub record HasCome (choice : Choice) (durations : Durations) (m : Program) (memory : List Content) (s : State)
    (counts : List ℕ) : Type 0 where
  pub past : List Action
  pub canonical : IsCanonical choice durations m memory past
  pub state_is : state_after m memory past ≡ s
  pub counted : HasCounts counts past
  pub each : length counts ≡ m.machine.processors

-- the end that an answer tells of, in this state
abbrev pub end_told : RunEnd → State → Option End
end_told Ended s = Some (record { clock = s.clock; memory = s.world.memory })
end_told Going s = None

-- an answer tells all that the run shows at clocks of at most `until`; where a value was refused, the run shows what was given on
abbrev pub answers : Choice → Durations → Program → List Content → ℕ → List ℤ → State → Result RunEnd SinkFault → Type 0
answers choice durations m memory until output s (Ok told) = IsRunUpTo choice durations m memory until output (end_told told s)
answers choice durations m memory until output s (Err fault) = IsShownBy choice durations m memory until output

-- Behind the output `before`, the values that the run prints were given on in order, up to the first that was refused. It ran to
-- state s. `next` is what is held once one more value is taken, and `leaves` what a refused one may leave.
pub record RunsOn {Held : Type 0} (choice : Choice) (durations : Durations) (m : Program) (memory : List Content) (until : ℕ)
    (before : List ℤ) (s : State) (next : Held → ℤ → Held) (leaves : SinkFault → Held → ℤ → Held → Type 0) (old now : Held)
    (result : Result RunEnd SinkFault) : Type 0 where
  pub values : List ℤ
  pub took : Took next leaves old now values result
  pub shows : answers choice durations m memory until (before ++ values) s result

-- wherever the canonical run had come to where a machine stood before, it has come to where it stands now
abbrev pub ComesOn : {U T : Type 0} → (U → Choice) → (T → Durations) → Shown U T → Shown U T → Type 0
ComesOn choice durations before now = (memory : List Content)
    → HasCome (choice before.unit) (durations before.timing) before.program memory before.state before.counts
    → HasCome (choice before.unit) (durations before.timing) before.program memory now.state now.counts

-- from a state of the canonical run, at a clock of at most `until`, the machine has run on to where it stands now
abbrev pub RunsTo : {U T Held : Type 0} → (U → Choice) → (T → Durations) → Shown U T → Shown U T → ℕ → (Held → ℤ → Held)
    → (SinkFault → Held → ℤ → Held → Type 0) → Held → Held → Result RunEnd SinkFault → Type 0
RunsTo choice durations before now until next leaves old held result = (memory : List Content)
    → HasCome (choice before.unit) (durations before.timing) before.program memory before.state before.counts
    → before.state.clock ≤ until
    → RunsOn (choice before.unit)
    (durations before.timing) before.program memory until before.state.world.output now.state next leaves old held result

-- whatever the canonical run shows up to `until`, the values behind those printed before were given on, up to the first that was refused
abbrev pub GivesOn : {U T Held : Type 0} → (U → Choice) → (T → Durations) → Shown U T → ℕ → (Held → ℤ → Held)
    → (SinkFault → Held → ℤ → Held → Type 0) → Held → Held → Result RunEnd SinkFault → Type 0
GivesOn choice durations before until next leaves old held result = (memory : List Content)
    → HasCome (choice before.unit) (durations before.timing) before.program memory before.state before.counts
    → before.state.clock ≤ until → (values : List ℤ) (end : Option End)
    → IsRunUpTo (choice before.unit) (durations before.timing) before.program memory until (before.state.world.output ++ values) end
    → Took next leaves old held values result

-- an answer tells all that the run tells at clocks of at most `until`; where an event was refused, a beginning of the run tells what
-- was given on
abbrev pub tells_all : Choice → Durations → Program → List Content → ℕ → List Event → State → Result RunEnd SinkFault → Type 0
tells_all choice durations m memory until events s (Ok told) = IsToldUpTo choice durations m memory until events (end_told told s)
tells_all choice durations m memory until events s (Err fault) = IsToldBy choice durations m memory until events

-- Behind the events `front` and the output `before`, the events by which the run goes on were given on in order, up to the first that
-- was refused. It ran to state s.
pub record TellsOn {Held : Type 0} (choice : Choice) (durations : Durations) (m : Program) (memory : List Content) (until : ℕ)
    (front : List Event) (before : List ℤ) (s : State) (next : Held → Event → Held) (leaves : SinkFault → Held → Event → Held → Type 0)
    (old now : Held) (result : Result RunEnd SinkFault) : Type 0 where
  pub events : List Event
  pub told : Tells next leaves old now events result
  pub shows : answers choice durations m memory until (before ++ prints_of events) s result
  pub tells : tells_all choice durations m memory until (front ++ events) s result

-- from a state of the canonical run, at a clock of at most `until`, the machine has run on to where it stands now
abbrev pub TellsTo : {U T Held : Type 0} → (U → Choice) → (T → Durations) → Shown U T → Shown U T → ℕ → (Held → Event → Held)
    → (SinkFault → Held → Event → Held → Type 0) → Held → Held → Result RunEnd SinkFault → Type 0
TellsTo choice durations before now until next leaves old held result = (memory : List Content)
    → (h : HasCome (choice before.unit) (durations before.timing) before.program memory before.state before.counts)
    → before.state.clock ≤ until
    → TellsOn (choice before.unit) (durations before.timing) before.program memory until
    (told_by before.program memory h.past) before.state.world.output now.state next leaves old held result
