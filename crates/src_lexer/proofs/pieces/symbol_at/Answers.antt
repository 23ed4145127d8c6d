use Rattle.src_lexer.proofs.Unique.{pair_at, single_at, none_at}
use Rattle.src_lexer.proofs.pieces.symbol_at.Goals as goal

pub returns-in-Some : goal.returns-in-Some
returns-in-Some c = let h = c.in-Some.ensures in pair_at c.args.src.now c.args.from c.in-Some.symbol h.0 h.1

pub returns-in-Some-symbol_by_bytes : goal.returns-in-Some-symbol_by_bytes
returns-in-Some-symbol_by_bytes c = single_at c.args.src.now c.args.from c.in_default.ensures c.in-Some-symbol_by_bytes.symbol c.requires c.in-Some-symbol_by_bytes.ensures

pub returns-in-None : goal.returns-in-None
returns-in-None c = none_at c.args.src.now c.args.from c.in_default.ensures c.in-None.ensures
