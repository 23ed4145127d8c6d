use Rattle.std.proofs.Common.{◌≡◌, ◌+◌, ◌-◌, ◌^◌, ◌<◌, length}
use Rattle.bm_base.specs.Lines.{whole_lines, cut_line}
use Rattle.timing_script.specs.Rows.{rows_from}
use Rattle.timing_script.proofs.rows.Rows.next.Given as goal

abbrev pub invariant-loop-line : goal.invariant-loop-line
invariant-loop-line l = record {
  left : rows_from l.self-inside.lines.count (whole_lines l.self-inside.lines.rest) (cut_line l.self-inside.lines.rest) ≡ l.fn.self;
  few : l.self-inside.lines.count + length l.self-inside.lines.rest < 2 ^ 32 - 1;
}

abbrev pub decreases-loop-line : goal.decreases-loop-line
decreases-loop-line l = length l.self-inside.lines.rest
