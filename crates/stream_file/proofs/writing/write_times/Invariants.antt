use Rattle.std.proofs.Common.{◌≡◌, ◌++◌, drop}
use Rattle.stream_file.specs.Words.{classes}
use Rattle.stream_file.specs.Written.{time_lines}
use Rattle.stream_file.specs.Texts.{text_of_rows}
use Rattle.stream_file.proofs.writing.write_times.Given as goal

abbrev pub invariant-loop-number : goal.invariant-loop-number
invariant-loop-number l = l.out.items ++ text_of_rows (time_lines l.spec (drop l.number classes)) ≡ l.fn.out.items ++ text_of_rows (time_lines l.spec classes)
