use Rattle.std.proofs.Common.{◌≡◌}
use Rattle.std.specs.List.{AllByRecursion}
use Rattle.bm_base.specs.Machine.{IsTime}
use Rattle.toml.specs.View.{table_view}
use Rattle.machine_file.specs.MachineFile.{intervals_of}
use Rattle.machine_file.proofs.Times.{names, so_far}
use Rattle.machine_file.proofs.read.read_intervals.Given as goal

abbrev pub invariant-loop-place : goal.invariant-loop-place
invariant-loop-place l = record {
  rest : intervals_of (names l.keys) (table_view l.times) ≡ so_far l.keys (table_view l.times) l.place l.intervals;
  time : AllByRecursion IsTime l.intervals;
}
