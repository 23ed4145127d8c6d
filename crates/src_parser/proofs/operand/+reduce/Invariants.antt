use Rattle.std.proofs.Common.{length}
use Rattle.src_parser.proofs.operand.+reduce.Given as goal

abbrev pub decreases-reduce : goal.decreases-reduce
decreases-reduce l = length l.parts
