-- For private functions: a machine before its first event, and the trace of its run.
use Rattle.std.specs.Prelude.{ℕ, ◌≡◌, List, replicate, Result}
use Rattle.bm_base.specs.Memory.{Content}
use Rattle.bm_io.specs.declared.sinks.SinkFault.{SinkFault}
use Rattle.bm_io.specs.Sink.{Taken}
use Rattle.unit_law.specs.State.{Program, State, start}
use Rattle.unit_law.specs.Units.{Choice}
use Rattle.unit_law.specs.Canonical.{Durations}
use Rattle.bm_machine.specs.Shown.{Shown}
use Rattle.bm_course.specs.Course.{Output}
use Rattle.bm_course.specs.Sends.{Sends}
use Rattle.run_text.specs.TraceText.{IsTraceOf}

-- The run from this memory has its first state, and nothing was started.
pub record Starts (m : Program) (memory : List Content) (s : State) (counts : List ℕ) : Type 0 where
  pub state_is : s ≡ start m memory
  pub counts_are : counts ≡ replicate m.machine.processors 0

-- from whatever memory the run begins where the machine stands, its trace is sent
abbrev pub SendsTrace : {U T : Type 0} → (U → Choice) → (T → Durations) → Shown U T → ℕ → Taken → Taken → Result ℕ SinkFault → Type 0
SendsTrace choice durations machine budget old now result = (memory : List Content) (text : Output)
    → Starts machine.program memory machine.state machine.counts
    → IsTraceOf (choice machine.unit) (durations machine.timing) machine.program memory budget text → Sends old now text result
