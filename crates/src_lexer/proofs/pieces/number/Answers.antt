use Rattle.std.proofs.Common.{refl}
use Rattle.src_lexer.specs.Spell.{number}
use Rattle.src_lexer.proofs.pieces.number.Goals as goal

pub returns-in-None : goal.returns-in-None
returns-in-None c = (refl, c.number_end-to.result, _, number c.requires.begins c.number_end-to.ensures refl, c.in-None.ensures)
