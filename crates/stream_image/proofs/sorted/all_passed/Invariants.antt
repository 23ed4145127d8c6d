use Rattle.std.proofs.Common.{◌≡◌, drop}
use Rattle.stream_image.specs.Sorted.{all_in}
use Rattle.stream_image.proofs.sorted.all_passed.Given as goal

abbrev pub invariant-loop-number : goal.invariant-loop-number
invariant-loop-number l = all_in l.passed (drop l.number-index l.numbers) ≡ all_in l.passed l.numbers
