use Rattle.std.proofs.Common.{refl}
use Rattle.src_lexer.specs.Spell.{symbol}
use Rattle.src_lexer.proofs.Unique.{no_symbol}
use Rattle.src_lexer.proofs.pieces.symbol.Goals as goal

pub returns-in-None : goal.returns-in-None
returns-in-None c = (refl, c.requires.here, no_symbol c.args.src.now c.args.from c.requires.only c.in-None.ensures)

pub returns-in-Some : goal.returns-in-Some
returns-in-Some c = let s = c.in-Some.ensures in (s.within, s.ordered, symbol c.in-Some.symbol s refl, (tt, tt))
