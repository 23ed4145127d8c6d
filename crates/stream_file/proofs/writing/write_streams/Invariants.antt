use Rattle.std.proofs.Common.{◌≡◌, ◌++◌, ◌-◌}
use Rattle.unit_law.specs.State.{code_at}
use Rattle.stream_file.specs.Written.{stream_rows, streams_from}
use Rattle.stream_file.specs.Texts.{text_of_rows}
use Rattle.stream_file.proofs.writing.write_streams.Given as goal

abbrev pub invariant-loop-p : goal.invariant-loop-p
invariant-loop-p l = l.out.items ++ text_of_rows (stream_rows (streams_from l.p (l.image.machine.processors - l.p) (code_at l.image l.b).line)) ≡ l.fn.out.items ++ text_of_rows (stream_rows (streams_from 0 l.image.machine.processors (code_at l.image l.b).line))
