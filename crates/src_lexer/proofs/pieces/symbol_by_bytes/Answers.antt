use Rattle.std.proofs.Common.{arith}
use Rattle.src_lexer.proofs.SymbolFacts.{none_of}
use Rattle.src_lexer.proofs.pieces.symbol_by_bytes.Goals as goal

pub returns : goal.returns
returns c = none_of c.args.bytes.now (λ i h. c.loop-symbol.invariant i (omega (arith, h, c.loop-symbol-test.false)))
