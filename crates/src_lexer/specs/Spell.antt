-- Which tokens a text spells, and where its first fault stands.
use Rattle.std.specs.Prelude.{◌≡◌, ℕ, suc, ◌+◌, ◌-◌, ◌^◌, ◌<◌, ◌≤◌, pos, Bool, true, false, ◌||◌, ◌==◌, not, List, [], ◌∷◌, ◌++◌}
use Rattle.std.specs.Prelude.{length, Option, Some, None, slice_index, slice_range}
use Rattle.std.specs.Char.{is_ascii_digit}
use Rattle.src_lexer.specs.declared.token.Symbol.{Symbol}
use Rattle.src_lexer.specs.declared.token.TokenKind.{TokenKind}
use Rattle.src_lexer.specs.declared.token.TokenKind.TheVariants.{Name, Number, Sym}
use Rattle.src_lexer.specs.declared.token.Token.{Token}
use Rattle.src_lexer.specs.declared.fault.LexFault.{LexFault}
use Rattle.src_lexer.specs.declared.fault.LexFault.TheVariants as f
use Rattle.src_lexer.specs.Symbols.{spelling, word_of}
use Rattle.bm_base.specs.Names.{begins_name, goes_on_name}
use Rattle.bm_base.specs.Numeral.{value_from}
use Rattle.bm_base.specs.declared.limits.TheConstants.{MOST_NAME_BYTES}

-- space, tab, CR, LF
abbrev pub is_white : ℕ → Bool
is_white b = b == 32 || b == 9 || b == 13 || b == 10

-- a comment begins with `#`
abbrev pub begins_comment : ℕ → Bool
begins_comment b = b == 35

-- a comment ends before the next LF
abbrev pub in_comment : ℕ → Bool
in_comment b = not (b == 10)

-- the value of digits
abbrev pub value_of : List ℕ → ℕ
value_of bytes = value_from 0 bytes

-- one token, that stands for these bytes
abbrev pub token : TokenKind → ℕ → ℕ → List Token
token k from to = record { kind = k; at = from; end = to } ∷ []

-- the token that a piece is, if any
abbrev pub tokens : Option TokenKind → ℕ → ℕ → List Token
tokens None from to = []
tokens (Some k) from to = token k from to

module _ (src : List ℕ) where
  -- the longest row of such bytes from here, which may be empty
  pub record IsSpan (p : ℕ → Bool) (from to : ℕ) : Type 0 where
    pub ordered : from ≤ to
    pub within : to ≤ length src
    pub each : (i : ℕ) → from ≤ i → i < to → p (slice_index src i) ≡ true
    pub ends : to < length src → p (slice_index src to) ≡ false

  -- a symbol that could not be made longer
  pub record IsSymbol (from to : ℕ) (k : Symbol) : Type 0 where
    pub ordered : from < to
    pub within : to ≤ length src
    pub spelled : slice_range src from to ≡ spelling k
    pub longest : (more : ℕ) (j : Symbol) → to < more → more ≤ length src → slice_range src from more ≡ spelling j → ⊥

  -- a byte that passes stands here
  pub record Begins (p : ℕ → Bool) (from : ℕ) : Type 0 where
    pub here : from < length src
    pub passes : p (slice_index src from) ≡ true

  -- A piece of the text, and the token that it is, if any: a byte of white space, a comment, a word or name, a number or a symbol, each
  -- but white space as long as it can be. Here a number may still be too large and a name too long.
  pub data IsPiece (from to : ℕ) (ts : List Token) : Type 0 where
    white : Begins is_white from → to ≡ suc from → ts ≡ [] → IsPiece from to ts
    comment : Begins begins_comment from → IsSpan in_comment from to → ts ≡ [] → IsPiece from to ts
    word : Begins begins_name from → IsSpan goes_on_name from to → ts ≡ token (word_of (slice_range src from to)) from to
        → IsPiece from to ts
    number : Begins is_ascii_digit from → IsSpan is_ascii_digit from to → ts
        ≡ token (Number (pos (value_of (slice_range src from to)))) from to →
        IsPiece from to ts
    symbol : (k : Symbol) → IsSymbol from to k → ts ≡ token (Sym k) from to → IsPiece from to ts

  -- from here on the text is a row of pieces, and these are their tokens
  pub data Spells : ℕ → List Token → Type 0 where
    done : Spells (length src) []
    more : {from to : ℕ} {ts us : List Token} → IsPiece from to ts → Spells to us → Spells from (ts ++ us)

  -- the limits: a number is below 2^63, a name has at most MOST_NAME_BYTES bytes
  abbrev pub Allowed : Token → TokenKind → Type 0
  Allowed t (Number (pos n)) = n < 2 ^ 63
  Allowed t Name = t.end - t.at ≤ MOST_NAME_BYTES
  Allowed t _ = Unit {0}

  abbrev pub AreAllowed : List Token → Type 0
  AreAllowed [] = Unit {0}
  AreAllowed (t ∷ ts) = Allowed t t.kind × AreAllowed ts

  -- a piece of at least one byte within the text, whose token, if any, is allowed
  abbrev pub IsAllowedPiece : ℕ → ℕ → Option TokenKind → Type 0
  IsAllowedPiece from to k = (to ≤ length src) × (from < to) × IsPiece from to (tokens k from to) × AreAllowed (tokens k from to)

  -- a fault that stands here: no piece begins, a number is too large, or a name too long
  abbrev pub IsFaultAt : ℕ → LexFault → Type 0
  IsFaultAt from (f.BadByte at) = (at ≡ from) × (from < length src) × ((to : ℕ) (ts : List Token) → IsPiece from to ts → ⊥)
  IsFaultAt from (f.LongNumber at) = (at ≡ from) × (to : ℕ) × (n : ℕ) × IsPiece from to (token (Number (pos n)) from to) × (2 ^ 63 ≤ n)
  IsFaultAt from (f.LongName at len) = (at ≡ from) × (to : ℕ) × IsPiece from to (token Name from to) × (len + from ≡ to)
      × (MOST_NAME_BYTES < len)
  IsFaultAt from f.Memory = ⊥

  -- the first fault from here on
  pub data Faults : ℕ → LexFault → Type 0 where
    here : {from : ℕ} {e : LexFault} → IsFaultAt from e → Faults from e
    later : {from to : ℕ} {ts : List Token} {e : LexFault} → IsPiece from to ts → AreAllowed ts → Faults to e → Faults from e
