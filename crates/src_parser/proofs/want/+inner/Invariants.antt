use Rattle.std.proofs.Common.{length}
use Rattle.src_parser.proofs.want.+inner.Given as goal

abbrev pub decreases-inner : goal.decreases-inner
decreases-inner l = length l.parts.now
