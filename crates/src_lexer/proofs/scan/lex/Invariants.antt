use Rattle.std.proofs.Common.{◌-◌, length}
use Rattle.src_lexer.proofs.Unique.{Read}
use Rattle.src_lexer.proofs.scan.lex.Given as goal

abbrev pub invariant-loop-at : goal.invariant-loop-at
invariant-loop-at l = Read l.src l.at l.tokens.items

abbrev pub decreases-loop-at : goal.decreases-loop-at
decreases-loop-at l = length l.src - l.at
