-- The tokens that a text spells stand in order, each on its slice.
use Rattle.std.proofs.Common.{◌≡◌, ℕ, Bool, true, false, cond, ◌+◌, ◌-◌, ◌<◌, ◌≤◌, ℤ, List, [], ◌∷◌, ◌++◌, length, get_or, drop, length-take, length-drop, refl, ap, ◌∙◌, sym, subst, arith, All}
use Rattle.std.proofs.lemmas.List.{get_or-take, get_or-drop, get_or_default}
use Rattle.std.proofs.lemmas.Slice.Eq.{bytes_eq-Decides}
use Rattle.std.specs.Prelude.{slice_range, slice_index}
use Rattle.std.specs.Char.{is_ascii_digit}
use Rattle.std.specs.Str.{bytes_eq}
use Rattle.src_lexer.specs.declared.token.Keyword.{Keyword}
use Rattle.src_lexer.specs.declared.token.Keyword.TheVariants as w
use Rattle.src_lexer.specs.declared.token.Symbol.{Symbol}
use Rattle.src_lexer.specs.declared.token.TokenKind.{TokenKind}
use Rattle.src_lexer.specs.declared.token.TokenKind.TheVariants.{Name, Number, Word, Sym}
use Rattle.src_lexer.specs.declared.token.Token.{Token}
use Rattle.src_lexer.specs.Symbols.{word_of, keyword}
use Rattle.src_lexer.specs.Spell.{token, IsSpan, IsPiece, white, comment, word, number, symbol, Spells, done, more}
use Rattle.src_lexer.specs.Laws.{InOrder, BeginsName, IsTextOf, AreSlices, Ordered}
use Rattle.bm_base.specs.Names.{begins_name, goes_on_name}
use Rattle.src_lexer.proofs.First.{head_of}
use Rattle.src_lexer.proofs.Unique.{moves}
use Rattle.src_lexer.proofs.Words.{not_reserved}

sooner : (from to last : ℕ) (ts : List Token) → from ≤ to → InOrder to last ts → InOrder from last ts
sooner from to last [] h o = omega (arith, h, o)
sooner from to last (t ∷ ts) h o = (omega (arith, h, o.0), o.1, o.2)

-- which reserved word a row of name bytes is
branch : (a : Bool) (x z k : TokenKind) (Q : Type 0) → (a ≡ true → x ≡ k → Q) → (z ≡ k → Q) → cond a x z ≡ k → Q
branch true x z k Q f g h = f refl h
branch false x z k Q f g h = g h

written : (bs cs : List ℕ) → bytes_eq bs cs ≡ true → bs ≡ cs
written bs cs h = (bytes_eq-Decides bs cs).0 h

is_word : (bs : List ℕ) (k : Keyword) → word_of bs ≡ Word k → bs ≡ keyword k
is_word bs k =
    let Q : Type 0 = bs ≡ keyword k in
    let at : (j : Keyword) → bytes_eq bs (keyword j) ≡ true → Word j ≡ Word k → Q = λ j h e. let x : j ≡ k = cc in written bs (keyword j) h ∙ ap keyword x in
    branch (bytes_eq bs (keyword w.Var)) _ _ _ Q (at w.Var) (
    branch (bytes_eq bs (keyword w.Array)) _ _ _ Q (at w.Array) (
    branch (bytes_eq bs (keyword w.Print)) _ _ _ Q (at w.Print) (
    branch (bytes_eq bs (keyword w.If)) _ _ _ Q (at w.If) (
    branch (bytes_eq bs (keyword w.Else)) _ _ _ Q (at w.Else) (
    branch (bytes_eq bs (keyword w.While)) _ _ _ Q (at w.While) (λ e. absurd cc))))))

is_no_other : (bs : List ℕ) (k : TokenKind) → ((j : Keyword) → Word j ≡ k → ⊥) → (Name ≡ k → ⊥) → word_of bs ≡ k → ⊥
is_no_other bs k f g =
    branch (bytes_eq bs (keyword w.Var)) _ _ _ ⊥ (λ h. f w.Var) (
    branch (bytes_eq bs (keyword w.Array)) _ _ _ ⊥ (λ h. f w.Array) (
    branch (bytes_eq bs (keyword w.Print)) _ _ _ ⊥ (λ h. f w.Print) (
    branch (bytes_eq bs (keyword w.If)) _ _ _ ⊥ (λ h. f w.If) (
    branch (bytes_eq bs (keyword w.Else)) _ _ _ ⊥ (λ h. f w.Else) (
    branch (bytes_eq bs (keyword w.While)) _ _ _ ⊥ (λ h. f w.While) g)))))

word_no_number : (j : Keyword) (v : ℤ) → Word j ≡ Number v → ⊥
word_no_number j v h = absurd cc

name_no_number : (v : ℤ) → Name ≡ Number v → ⊥
name_no_number v h = absurd cc

word_no_symbol : (j : Keyword) (y : Symbol) → Word j ≡ Sym y → ⊥
word_no_symbol j y h = absurd cc

name_no_symbol : (y : Symbol) → Name ≡ Sym y → ⊥
name_no_symbol y h = absurd cc

text_of_word : (bs : List ℕ) (k : TokenKind) → word_of bs ≡ k → BeginsName bs → All (λ b. goes_on_name b ≡ true) bs → IsTextOf k bs
text_of_word bs Name e b g = record { begins = b; goes_on = g; free = not_reserved bs e }
text_of_word bs (Word k) e b g = is_word bs k e
text_of_word bs (Number v) e b g = absurd (is_no_other bs (Number v) (λ j h. word_no_number j v h) (λ h. name_no_number v h) e)
text_of_word bs (Sym y) e b g = absurd (is_no_other bs (Sym y) (λ j h. word_no_symbol j y h) (λ h. name_no_symbol y h) e)

module _ (src : List ℕ) (p : ℕ → Bool) (from to : ℕ) (s : IsSpan src p from to) where
  span_length : length (slice_range src from to) ≡ to - from
  span_length = let h = s.ordered in let k = s.within in simp (length-take, length-drop) (omega arith)

  span_all : All (λ b. p b ≡ true) (slice_range src from to)
  span_all k d h =
      let n : k < to - from = omega (arith, h, span_length) in
      let x : get_or (slice_range src from to) k d ≡ get_or src (from + k) d = get_or-take (to - from) (drop from src) k d n ∙ get_or-drop from src k d in
      let z : get_or src (from + k) d ≡ get_or src (from + k) 0 = get_or_default src (from + k) d 0 (omega (arith, n, s.within, s.ordered)) in
      ap p (x ∙ z) ∙ s.each (from + k) (omega arith) (omega (arith, n))

begins_of : (src bs : List ℕ) (from : ℕ) → 0 < length bs → ((d : ℕ) → get_or bs 0 d ≡ get_or src from 0) → begins_name (get_or src from 0) ≡ true → BeginsName bs
begins_of src [] from n h b = absurd (omega (arith, n))
begins_of src (x ∷ bs) from n h b = ap begins_name (h 0) ∙ b

module _ (src : List ℕ) where
  none_more : (from to last : ℕ) (ts us : List Token) → InOrder to last us → from ≤ to → ts ≡ [] → InOrder from last (ts ++ us)
  none_more from to last ts us o h e = let P : List Token → Type 0 = λ z. InOrder from last (z ++ us) in subst P (sym e) (sooner from to last us h o)

  token_more : (from to last : ℕ) (ts us : List Token) (k : TokenKind) → InOrder to last us → from < to → ts ≡ token k from to → InOrder from last (ts ++ us)
  token_more from to last ts us k o h e = let P : List Token → Type 0 = λ z. InOrder from last (z ++ us) in subst P (sym e) (omega arith, h, o)

  one_more : (from to last : ℕ) (ts us : List Token) → InOrder to last us → from < to → IsPiece src from to ts → InOrder from last (ts ++ us)
  one_more from to last ts us o h (white g e t) = none_more from to last ts us o (omega arith) t
  one_more from to last ts us o h (comment g s t) = none_more from to last ts us o (omega arith) t
  one_more from to last ts us o h (word g s t) = token_more from to last ts us _ o h t
  one_more from to last ts us o h (number g s t) = token_more from to last ts us _ o h t
  one_more from to last ts us o h (symbol k s t) = token_more from to last ts us _ o h t

  in_order : {from : ℕ} {ts : List Token} → Spells src from ts → InOrder from (length src) ts
  in_order done = omega arith
  in_order (more {from = from} {to = to} {ts = ts} {us = us} p s) = one_more from to (length src) ts us (in_order s) (moves src from to ts p) p

  first_of : (from to : ℕ) → from < to → to ≤ length src → (d : ℕ) → get_or (slice_range src from to) 0 d ≡ get_or src from 0
  first_of from to h w d = head_of src h d ∙ get_or_default src from d 0 (omega (arith, h, w))

  slice_word : (from to : ℕ) → from < to → begins_name (slice_index src from) ≡ true → IsSpan src goes_on_name from to →
      IsTextOf (word_of (slice_range src from to)) (slice_range src from to)
  slice_word from to h letter p =
      let bs : List ℕ = slice_range src from to in
      let n : length bs ≡ to - from = span_length src goes_on_name from to p in
      let head : (d : ℕ) → get_or bs 0 d ≡ get_or src from 0 = λ d. first_of from to h p.within d in
      text_of_word bs (word_of bs) refl (begins_of src bs from (omega (arith, n, h)) head letter) (span_all src goes_on_name from to p)

  one_slice : (from to : ℕ) (ts us : List Token) → from < to → IsPiece src from to ts → AreSlices src us → AreSlices src (ts ++ us)
  one_slice from to ts us h (white g e t) o = let P : List Token → Type 0 = λ z. AreSlices src (z ++ us) in subst P (sym t) o
  one_slice from to ts us h (comment g s t) o = let P : List Token → Type 0 = λ z. AreSlices src (z ++ us) in subst P (sym t) o
  one_slice from to ts us h (word g s t) o = let P : List Token → Type 0 = λ z. AreSlices src (z ++ us) in subst P (sym t) (slice_word from to h g.passes s, o)
  one_slice from to ts us h (number g s t) o =
      let P : List Token → Type 0 = λ z. AreSlices src (z ++ us) in
      let n : length (slice_range src from to) ≡ to - from = span_length src is_ascii_digit from to s in
      subst P (sym t) (record { some = omega (arith, n, h); digits = span_all src is_ascii_digit from to s; value = refl }, o)
  one_slice from to ts us h (symbol k s t) o = let P : List Token → Type 0 = λ z. AreSlices src (z ++ us) in subst P (sym t) (s.spelled, o)

  slices : {from : ℕ} {ts : List Token} → Spells src from ts → AreSlices src ts
  slices done = tt
  slices (more {from = from} {to = to} {ts = ts} {us = us} p s) = one_slice from to ts us (moves src from to ts p) p (slices s)

few : (from to : ℕ) (ts : List Token) → InOrder from to ts → from + length ts ≤ to
few from to [] o = omega (arith, o)
few from to (t ∷ ts) o = let h : t.end + length ts ≤ to = few t.end to ts o.2 in omega (arith, h, o.0, o.1)

pub ordered : (src : List ℕ) (ts : List Token) → Spells src 0 ts → Ordered src ts
ordered src ts s =
    let o : InOrder 0 (length src) ts = in_order src s in
    record { in_order = o; few = omega (arith, few 0 (length src) ts o); slices = slices src s }
