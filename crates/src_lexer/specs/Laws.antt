-- What holds of every text and the tokens that it spells.
use Rattle.std.specs.Prelude.{◌≡◌, ℕ, ◌<◌, ◌≤◌, ℤ, pos, true, false, List, [], ◌∷◌, length, All, slice_range}
use Rattle.std.specs.Char.{is_ascii_digit}
use Rattle.src_lexer.specs.declared.token.TokenKind.{TokenKind}
use Rattle.src_lexer.specs.declared.token.TokenKind.TheVariants.{Name, Number, Word, Sym}
use Rattle.src_lexer.specs.declared.token.Token.{Token}
use Rattle.src_lexer.specs.Symbols.{spelling, keyword}
use Rattle.bm_base.specs.Names.{begins_name, goes_on_name, is_reserved}
use Rattle.src_lexer.specs.declared.fault.LexFault.{LexFault}
use Rattle.src_lexer.specs.Spell.{Spells, AreAllowed, Faults, value_of}

-- the tokens stand between these places, one behind the other, none empty
abbrev pub InOrder : ℕ → ℕ → List Token → Type 0
InOrder from to [] = from ≤ to
InOrder from to (t ∷ ts) = (from ≤ t.at) × (t.at < t.end) × InOrder t.end to ts

abbrev pub BeginsName : List ℕ → Type 0
BeginsName [] = ⊥
BeginsName (b ∷ bs) = begins_name b ≡ true

-- a letter or `_`, then letters, digits and `_`; no reserved word
pub record IsNameText (bs : List ℕ) : Type 0 where
  pub begins : BeginsName bs
  pub goes_on : All (λ b. goes_on_name b ≡ true) bs
  pub free : is_reserved bs ≡ false

-- digits, one at least, whose value is the number; so the number is 0 or more
pub record IsNumberText (bs : List ℕ) (v : ℤ) : Type 0 where
  pub some : 0 < length bs
  pub digits : All (λ b. is_ascii_digit b ≡ true) bs
  pub value : v ≡ pos (value_of bs)

-- what the bytes of a token of each kind are
abbrev pub IsTextOf : TokenKind → List ℕ → Type 0
IsTextOf Name bs = IsNameText bs
IsTextOf (Number v) bs = IsNumberText bs v
IsTextOf (Word k) bs = bs ≡ keyword k
IsTextOf (Sym k) bs = bs ≡ spelling k

-- each token is its slice of the text
abbrev pub AreSlices : List ℕ → List Token → Type 0
AreSlices src [] = Unit {0}
AreSlices src (t ∷ ts) = IsTextOf t.kind (slice_range src t.at t.end) × AreSlices src ts

-- a text spells at most one list of tokens
abbrev pub HasOneSpelling : Type 0
HasOneSpelling = (src : List ℕ) (ts us : List Token) → Spells src 0 ts → Spells src 0 us → ts ≡ us

-- The tokens that a text spells stand in order within it, are no more than its bytes, and each is its slice.
pub record Ordered (src : List ℕ) (ts : List Token) : Type 0 where
  pub in_order : InOrder 0 (length src) ts
  pub few : length ts ≤ length src
  pub slices : AreSlices src ts

abbrev pub AreOrdered : Type 0
AreOrdered = (src : List ℕ) (ts : List Token) → Spells src 0 ts → Ordered src ts

-- what a text is: a row of tokens within the limits, or one with a first fault
pub data Answer (src : List ℕ) : Type 0 where
  tokens : {ts : List Token} → Spells src 0 ts → AreAllowed src ts → Answer src
  fault : {e : LexFault} → Faults src 0 e → Answer src

-- each text is one of the two and not both, and has no other first fault
pub record HaveOneAnswer : Type 0 where
  pub some : (src : List ℕ) → Answer src
  pub not_both : (src : List ℕ) (ts : List Token) (e : LexFault) → Spells src 0 ts → AreAllowed src ts → Faults src 0 e → ⊥
  pub one_fault : (src : List ℕ) (d e : LexFault) → Faults src 0 d → Faults src 0 e → d ≡ e
