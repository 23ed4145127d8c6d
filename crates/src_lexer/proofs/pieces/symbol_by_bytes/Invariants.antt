use Rattle.std.proofs.Common.{◌≡◌, ℕ, ◌<◌, get_or}
use Rattle.src_lexer.specs.declared.token.TheConstants.{SYMBOLS}
use Rattle.src_lexer.specs.declared.token.Symbol.TheVariants.{Semi}
use Rattle.src_lexer.specs.Symbols.{spelling}
use Rattle.src_lexer.proofs.pieces.symbol_by_bytes.Given as goal

abbrev pub invariant-loop-symbol : goal.invariant-loop-symbol
invariant-loop-symbol l = (i : ℕ) → i < l.symbol-index → l.bytes ≡ spelling (get_or SYMBOLS i Semi) → ⊥
