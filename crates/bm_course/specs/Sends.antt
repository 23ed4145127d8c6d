-- A text that is written.
use Rattle.std.specs.Prelude.{ℕ, ◌≡◌, Result, IfOk}
use Rattle.bm_io.specs.Sink.{Taken, Sent}
use Rattle.bm_io.specs.declared.sinks.SinkFault.{SinkFault}
use Rattle.bm_course.specs.Course.{Output}

-- the lines were sent, and the answer is the status
pub record Sends (before now : Taken) (text : Output) (result : Result ℕ SinkFault) : Type 0 where
  pub sent : Sent before now text.lines result
  pub status : IfOk result (λ status. status ≡ text.status)
