use Rattle.std.proofs.Common.{◌+◌, ◌*◌}
use Rattle.soak_text.proofs.expressions.+expressions.Given as goal

abbrev pub decreases-binary : goal.decreases-binary
decreases-binary l = l.most * 2 + 1

abbrev pub decreases-expr : goal.decreases-expr
decreases-expr l = l.most * 2

abbrev pub decreases-unary : goal.decreases-unary
decreases-unary l = l.most * 2 + 1
