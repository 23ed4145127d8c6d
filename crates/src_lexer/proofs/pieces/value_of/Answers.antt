use Rattle.std.proofs.Common.{arith}
use Rattle.src_lexer.proofs.Numbers.{uncounted}
use Rattle.src_lexer.proofs.pieces.value_of.Goals as goal

pub returns-in-Err : goal.returns-in-Err
returns-in-Err c = omega (arith, uncounted c.args.digits.now c.requires.some c.requires.each c.in-Err.ensures)
