-- For private functions: a machine before its first event, and the text of its run.
use Rattle.std.specs.Prelude.{ℕ, ◌≡◌, List, [], Result}
use Rattle.bm_base.specs.Memory.{Content}
use Rattle.bm_io.specs.declared.sinks.SinkFault.{SinkFault}
use Rattle.bm_io.specs.Sink.{Taken}
use Rattle.unit_law.specs.State.{Program, State}
use Rattle.unit_law.specs.Units.{Choice}
use Rattle.unit_law.specs.Canonical.{Durations}
use Rattle.bm_machine.specs.Shown.{Shown}
use Rattle.run_text.specs.Runs.{HasCome}
use Rattle.bm_course.specs.Course.{Output}
use Rattle.bm_course.specs.Sends.{Sends}
use Rattle.run_text.specs.RunText.{IsTextOf}

-- The canonical run from this memory has come to this state, at clock 0, and nothing was printed.
pub record Begins (choice : Choice) (durations : Durations) (m : Program) (memory : List Content) (s : State)
    (counts : List ℕ) : Type 0 where
  pub come : HasCome choice durations m memory s counts
  pub clock : s.clock ≡ 0
  pub output : s.world.output ≡ []

-- from whatever memory the run begins where the machine stands, its text is sent
abbrev pub SendsText : {U T : Type 0} → (U → Choice) → (T → Durations) → Shown U T → ℕ → Taken → Taken → Result ℕ SinkFault → Type 0
SendsText choice durations machine budget old now result = (memory : List Content) (text : Output)
    → Begins (choice machine.unit) (durations machine.timing) machine.program memory machine.state machine.counts
    → IsTextOf (choice machine.unit) (durations machine.timing) machine.program memory budget text → Sends old now text result
