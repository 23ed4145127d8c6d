-- What the private functions that read a symbol say; no public definition stands on these.
use Rattle.std.specs.Prelude.{◌≡◌, ℕ, ◌+◌, ◌≤◌, false, List, length, slice_range}
use Rattle.std.specs.Char.{is_ascii_digit}
use Rattle.src_lexer.specs.declared.token.Symbol.{Symbol}
use Rattle.src_lexer.specs.Symbols.{spelling}
use Rattle.src_lexer.specs.Spell.{is_white, begins_comment}
use Rattle.bm_base.specs.Names.{begins_name}

-- where the byte stands, no piece but a symbol begins
pub record OnlySymbol (b : ℕ) : Type 0 where
  pub white : is_white b ≡ false
  pub comment : begins_comment b ≡ false
  pub name : begins_name b ≡ false
  pub digit : is_ascii_digit b ≡ false

-- no symbol of two bytes begins here
pub record NoPair (src : List ℕ) (from : ℕ) : Type 0 where
  pub pair : (k : Symbol) → from + 2 ≤ length src → slice_range src from (from + 2) ≡ spelling k → ⊥
