use Rattle.std.proofs.Common.{◌≡◌, ◌+◌, ◌-◌, ◌<◌, ◌≤◌, ◌^◌, length, List}
use Rattle.bm_base.specs.Lines.{whole_lines, cut_line}
use Rattle.stream_file.specs.Fields.{BlockFields}
use Rattle.stream_file.specs.Draft.{reading, reading_from}
use Rattle.stream_file.specs.Drafted.{drafted, head_drafted}
use Rattle.stream_file.specs.Built.{Builds}
use Rattle.stream_file.proofs.SoFar.{Sound}
use Rattle.stream_file.proofs.reading.read.Given as goal

-- what is left gives behind the blocks so far what all lines give
abbrev pub invariant-loop-line : goal.invariant-loop-line
invariant-loop-line l = record {
  blocks : List BlockFields;
  left : reading_from l.lines.count (drafted blocks l.draft) (whole_lines l.lines.rest) (cut_line l.lines.rest) ≡ reading l.fn.bytes;
  sound : Sound (drafted blocks l.draft);
  builds : Builds (head_drafted l.draft) blocks l.built;
  below : length blocks ≤ l.lines.count;
  counted : l.count ≡ l.lines.count;
  few : l.lines.count + length l.lines.rest < 2 ^ 32 - 1;
}

abbrev pub decreases-loop-line : goal.decreases-loop-line
decreases-loop-line l = length l.lines.rest
