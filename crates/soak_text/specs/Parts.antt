-- Of private functions: what they hand on, and lines that were sent.
use Rattle.std.specs.Prelude.{◌≡◌, Bool, List, map, Result, IfOk}
use Rattle.std.specs.List.{list_any}
use Rattle.bm_base.specs.Memory.{Content}
use Rattle.bm_io.specs.Sink.{Taken, Sent}
use Rattle.bm_io.specs.declared.sinks.SinkFault.{SinkFault}
use Rattle.unit_law.specs.State.{Program}
use Rattle.unit_law.specs.Units.{Choice}
use Rattle.unit_law.specs.Canonical.{Durations}
use Rattle.run_text.specs.RunUpTo.{IsRunUpTo}
use Rattle.src_meaning.specs.Meaning.{Outcome}
use Rattle.soak_text.specs.declared.evaluating.Evaluated.{Evaluated}
use Rattle.soak_text.specs.declared.running.Ran.{Ran}
use Rattle.soak_text.specs.Lines.{Part, Shown, clock_of, summed, budget}

-- what is kept of an outcome, and of a run
abbrev pub evaluated_of : Outcome → Evaluated
evaluated_of o = record { end = o.end; prints = summed o.output }

abbrev pub ran_of : Shown → Ran
ran_of shown = record { end = clock_of shown.end; prints = summed shown.output }

-- the canonical run from this memory shows at clocks of at most the budget what this was kept of
pub record HasRan (choice : Choice) (durations : Durations) (m : Program) (memory : List Content) (ran : Ran) : Type 0 where
  pub shown : Shown
  pub shows : IsRunUpTo choice durations m memory budget shown.output shown.end
  pub kept : ran ≡ ran_of shown

-- the lines of these parts were sent, one write each, and the answer is whether one of them is still going
pub record SendsParts (before now : Taken) (parts : List Part) (result : Result Bool SinkFault) : Type 0 where
  pub sent : Sent before now (map (λ part. part.line) parts) result
  pub going : IfOk result (λ going. going ≡ list_any (λ part. part.going) parts)
