use Rattle.std.proofs.Common.{◌≡◌, take, Some}
use Rattle.src_tree.specs.Limits.{KeepsLimits}
use Rattle.src_parser.specs.Machine.{run, start}
use Rattle.src_parser.proofs.Tallies.{IsTally}
use Rattle.src_parser.proofs.program.read.Given as goal

abbrev pub invariant-loop-token : goal.invariant-loop-token
invariant-loop-token l =
    (run l.src start (take l.token-index l.tokens) ≡ Some l.state) × IsTally l.counted (take l.token-index l.tokens) × KeepsLimits (take l.token-index l.tokens)
