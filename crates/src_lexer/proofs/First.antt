-- What the first byte of a piece tells.
use Rattle.std.proofs.Common.{◌≡◌, ℕ, ◌+◌, ◌-◌, ◌<◌, Bool, true, false, ◌||◌, List, get_or, drop, refl, ap, sym, ◌∙◌, arith}
use Rattle.std.proofs.lemmas.List.{get_or-take, get_or-drop}
use Rattle.std.specs.Char.{is_ascii_digit}
use Rattle.std.specs.Prelude.{slice_range, slice_index}
use Rattle.src_lexer.specs.declared.token.Symbol.{Symbol}
use Rattle.src_lexer.specs.declared.token.Symbol.TheVariants as y
use Rattle.src_lexer.specs.Symbols.{spelling}
use Rattle.src_lexer.specs.Spell.{is_white, begins_comment, in_comment, IsSymbol}
use Rattle.bm_base.specs.Names.{begins_name, goes_on_name}

pub white_no_comment : (b : ℕ) → is_white b ≡ true → begins_comment b ≡ true → ⊥
white_no_comment b h g = grind arith

pub white_no_name : (b : ℕ) → is_white b ≡ true → begins_name b ≡ true → ⊥
white_no_name b h g = grind arith

pub white_no_digit : (b : ℕ) → is_white b ≡ true → is_ascii_digit b ≡ true → ⊥
white_no_digit b h g = grind arith

pub comment_no_name : (b : ℕ) → begins_comment b ≡ true → begins_name b ≡ true → ⊥
comment_no_name b h g = grind arith

pub comment_no_digit : (b : ℕ) → begins_comment b ≡ true → is_ascii_digit b ≡ true → ⊥
comment_no_digit b h g = grind arith

pub name_no_digit : (b : ℕ) → begins_name b ≡ true → is_ascii_digit b ≡ true → ⊥
name_no_digit b h g = grind arith

pub comment_goes_on : (b : ℕ) → begins_comment b ≡ true → in_comment b ≡ true
comment_goes_on b h = grind arith

pub name_goes_on : (b : ℕ) → begins_name b ≡ true → goes_on_name b ≡ true
name_goes_on b h = ap (λ z. z || is_ascii_digit b) h

-- what begins any piece but a symbol
abbrev begins_other : ℕ → Bool
begins_other b = is_white b || begins_comment b || begins_name b || is_ascii_digit b

white_other : (b : ℕ) → is_white b ≡ true → begins_other b ≡ true
white_other b h = grind arith

comment_other : (b : ℕ) → begins_comment b ≡ true → begins_other b ≡ true
comment_other b h = grind arith

name_other : (b : ℕ) → begins_name b ≡ true → begins_other b ≡ true
name_other b h = grind arith

digit_other : (b : ℕ) → is_ascii_digit b ≡ true → begins_other b ≡ true
digit_other b h = grind arith

spelling_begins : (k : Symbol) → begins_other (get_or (spelling k) 0 0) ≡ false
spelling_begins y.Semi = refl
spelling_begins y.Assign = refl
spelling_begins y.LBracket = refl
spelling_begins y.RBracket = refl
spelling_begins y.LBrace = refl
spelling_begins y.RBrace = refl
spelling_begins y.LParen = refl
spelling_begins y.RParen = refl
spelling_begins y.Or = refl
spelling_begins y.Xor = refl
spelling_begins y.And = refl
spelling_begins y.Eq = refl
spelling_begins y.Ne = refl
spelling_begins y.Lt = refl
spelling_begins y.Le = refl
spelling_begins y.Gt = refl
spelling_begins y.Ge = refl
spelling_begins y.Shl = refl
spelling_begins y.Shr = refl
spelling_begins y.Add = refl
spelling_begins y.Sub = refl
spelling_begins y.Mul = refl
spelling_begins y.Div = refl
spelling_begins y.Rem = refl
spelling_begins y.Not = refl

module _ (src : List ℕ) {from to : ℕ} where
  -- the first byte of a slice
  pub head_of : from < to → (d : ℕ) → get_or (slice_range src from to) 0 d ≡ get_or src from d
  head_of h d =
      let x : get_or (slice_range src from to) 0 d ≡ get_or src (from + 0) d = get_or-take (to - from) (drop from src) 0 d (omega (arith, h)) ∙ get_or-drop from src 0 d in
      let z : from + 0 ≡ from = omega arith in
      x ∙ ap (λ i. get_or src i d) z

  module _ {k : Symbol} (s : IsSymbol src from to k) where
    symbol_begins : begins_other (slice_index src from) ≡ false
    symbol_begins = ap begins_other (sym (head_of s.ordered 0) ∙ ap (λ z. get_or z 0 0) s.spelled) ∙ spelling_begins k

    no_other : begins_other (slice_index src from) ≡ true → ⊥
    no_other h = let x : true ≡ false = sym h ∙ symbol_begins in cc

    pub symbol_no_white : is_white (slice_index src from) ≡ true → ⊥
    symbol_no_white h = no_other (white_other (slice_index src from) h)

    pub symbol_no_comment : begins_comment (slice_index src from) ≡ true → ⊥
    symbol_no_comment h = no_other (comment_other (slice_index src from) h)

    pub symbol_no_name : begins_name (slice_index src from) ≡ true → ⊥
    symbol_no_name h = no_other (name_other (slice_index src from) h)

    pub symbol_no_digit : is_ascii_digit (slice_index src from) ≡ true → ⊥
    symbol_no_digit h = no_other (digit_other (slice_index src from) h)
