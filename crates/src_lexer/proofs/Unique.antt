-- A text spells one row of tokens, or has one first fault.
use Rattle.std.proofs.Common.{◌≡◌, ℕ, suc, ◌+◌, ◌<◌, ◌≤◌, ◌⊎◌, inl, inr, pos, Bool, true, false, List, [], ◌∷◌, ◌++◌, length, refl, ap, sym, subst, ◌∙◌, arith, append_assoc, length-take, length-drop}
use Rattle.std.proofs.lemmas.List.{append-nil}
use Rattle.std.specs.Char.{is_ascii_digit}
use Rattle.std.specs.Prelude.{slice_range, slice_index}
use Rattle.src_lexer.specs.declared.token.Symbol.{Symbol}
use Rattle.src_lexer.specs.declared.token.TokenKind.{TokenKind}
use Rattle.src_lexer.specs.declared.token.TokenKind.TheVariants.{Name, Number, Sym}
use Rattle.src_lexer.specs.declared.token.Token.{Token}
use Rattle.src_lexer.specs.declared.fault.LexFault.{LexFault}
use Rattle.src_lexer.specs.declared.fault.LexFault.TheVariants as f
use Rattle.src_lexer.specs.Symbols.{spelling, word_of}
use Rattle.src_lexer.specs.Spell.{IsSpan, IsSymbol, Begins, IsPiece, white, comment, word, number, symbol, Spells, done, more, token, value_of, AreAllowed, IsFaultAt, Faults, here, later, begins_comment, in_comment, is_white}
use Rattle.src_lexer.specs.Scanning.{OnlySymbol, NoPair}
use Rattle.bm_base.specs.Names.{begins_name, goes_on_name}
use Rattle.src_lexer.proofs.First.{white_no_comment, white_no_name, white_no_digit, comment_no_name, comment_no_digit, name_no_digit, comment_goes_on, name_goes_on, symbol_no_white, symbol_no_comment, symbol_no_name, symbol_no_digit}
use Rattle.src_lexer.proofs.SymbolFacts.{short, one_symbol}

at_most : (a b : ℕ) → (a ≤ b) ⊎ (b < a)
at_most a b = grind arith

module _ (src : List ℕ) where
  span_least : {p : ℕ → Bool} {from a b : ℕ} → IsSpan src p from a → IsSpan src p from b → a < b → ⊥
  span_least {a = a} s t h = let e : true ≡ false = sym (t.each a s.ordered h) ∙ s.ends (omega (arith, t.within)) in cc

  pub one_span : {p : ℕ → Bool} {from a b : ℕ} → IsSpan src p from a → IsSpan src p from b → a ≡ b
  one_span {p} {from} {a} {b} s t = let x : a < b → ⊥ = span_least s t in let y : b < a → ⊥ = span_least t s in omega (arith, x, y)

  symbol_least : {from a b : ℕ} {j k : Symbol} → IsSymbol src from a j → IsSymbol src from b k → a < b → ⊥
  symbol_least {b = b} {k = k} s t h = s.longest b k h t.within t.spelled

  one_end : {from a b : ℕ} {j k : Symbol} → IsSymbol src from a j → IsSymbol src from b k → a ≡ b
  one_end {from} {a} {b} s t = let x : a < b → ⊥ = symbol_least s t in let y : b < a → ⊥ = symbol_least t s in omega (arith, x, y)

  -- the piece that begins here is one
  pub record Same (a b : ℕ) (ts us : List Token) : Type 0 where
    pub to : a ≡ b
    pub tokens : ts ≡ us

  module _ {from b : ℕ} {us : List Token} where
    one_white : Begins src is_white from → IsPiece src from b us → Same (suc from) b [] us
    one_white g (white h e t) = record { to = sym e; tokens = sym t }
    one_white g (comment h s t) = absurd (white_no_comment (slice_index src from) g.passes h.passes)
    one_white g (word h s t) = absurd (white_no_name (slice_index src from) g.passes h.passes)
    one_white g (number h s t) = absurd (white_no_digit (slice_index src from) g.passes h.passes)
    one_white g (symbol k s t) = absurd (symbol_no_white src s g.passes)

    one_comment : {a : ℕ} → Begins src begins_comment from → IsSpan src in_comment from a → IsPiece src from b us → Same a b [] us
    one_comment g r (white h e t) = absurd (white_no_comment (slice_index src from) h.passes g.passes)
    one_comment g r (comment h s t) = record { to = one_span r s; tokens = sym t }
    one_comment g r (word h s t) = absurd (comment_no_name (slice_index src from) g.passes h.passes)
    one_comment g r (number h s t) = absurd (comment_no_digit (slice_index src from) g.passes h.passes)
    one_comment g r (symbol k s t) = absurd (symbol_no_comment src s g.passes)

    one_word : {a : ℕ} → Begins src begins_name from → IsSpan src goes_on_name from a → IsPiece src from b us → Same a b (token (word_of (slice_range src from a)) from a) us
    one_word g r (white h e t) = absurd (white_no_name (slice_index src from) h.passes g.passes)
    one_word g r (comment h s t) = absurd (comment_no_name (slice_index src from) h.passes g.passes)
    one_word g r (word h s t) = let e = one_span r s in record { to = e; tokens = ap (λ (z : ℕ). token (word_of (slice_range src from z)) from z) e ∙ sym t }
    one_word g r (number h s t) = absurd (name_no_digit (slice_index src from) g.passes h.passes)
    one_word g r (symbol k s t) = absurd (symbol_no_name src s g.passes)

    one_number : {a : ℕ} → Begins src is_ascii_digit from → IsSpan src is_ascii_digit from a → IsPiece src from b us →
        Same a b (token (Number (pos (value_of (slice_range src from a)))) from a) us
    one_number g r (white h e t) = absurd (white_no_digit (slice_index src from) h.passes g.passes)
    one_number g r (comment h s t) = absurd (comment_no_digit (slice_index src from) h.passes g.passes)
    one_number g r (word h s t) = absurd (name_no_digit (slice_index src from) h.passes g.passes)
    one_number g r (number h s t) =
        let e = one_span r s in record { to = e; tokens = ap (λ (z : ℕ). token (Number (pos (value_of (slice_range src from z)))) from z) e ∙ sym t }
    one_number g r (symbol k s t) = absurd (symbol_no_digit src s g.passes)

    one_sign : {a : ℕ} (j : Symbol) → IsSymbol src from a j → IsPiece src from b us → Same a b (token (Sym j) from a) us
    one_sign j r (white h e t) = absurd (symbol_no_white src r h.passes)
    one_sign j r (comment h s t) = absurd (symbol_no_comment src r h.passes)
    one_sign j r (word h s t) = absurd (symbol_no_name src r h.passes)
    one_sign j r (number h s t) = absurd (symbol_no_digit src r h.passes)
    one_sign {a} j r (symbol k s t) =
        let e = one_end r s in
        let same : j ≡ k = one_symbol (slice_range src from a) j k r.spelled (ap (λ (z : ℕ). slice_range src from z) e ∙ s.spelled) in
        record { to = e; tokens = ap (λ (z : ℕ). token (Sym j) from z) e ∙ ap (λ z. token (Sym z) from b) same ∙ sym t }

  as_well : {a a' b : ℕ} {ts ts' us : List Token} → a ≡ a' → ts ≡ ts' → Same a' b ts' us → Same a b ts us
  as_well e t s = record { to = e ∙ s.to; tokens = t ∙ s.tokens }

  pub one_piece : {from a b : ℕ} {ts us : List Token} → IsPiece src from a ts → IsPiece src from b us → Same a b ts us
  one_piece (white h e t) q = as_well e t (one_white h q)
  one_piece (comment h s t) q = as_well refl t (one_comment h s q)
  one_piece (word h s t) q = as_well refl t (one_word h s q)
  one_piece (number h s t) q = as_well refl t (one_number h s q)
  one_piece (symbol k s t) q = as_well refl t (one_sign k s q)

  -- a piece begins within the text
  pub inside : {from to : ℕ} {ts : List Token} → IsPiece src from to ts → from < length src
  inside (white h e t) = h.here
  inside (comment h s t) = h.here
  inside (word h s t) = h.here
  inside (number h s t) = h.here
  inside (symbol k s t) = omega (arith, s.ordered, s.within)

  -- what is spelled from here, behind a piece
  pub rest_spells : {from to : ℕ} {ts us : List Token} → IsPiece src from to ts → Spells src from us → (vs : List Token) × Spells src to vs × (us ≡ ts ++ vs)
  rest_spells p done = absurd (omega (arith, inside p))
  rest_spells {from} {to} {ts} p (more {to = b} {ts = xs} {us = vs} q r) =
      let e : Same to b ts xs = one_piece p q in
      let P : ℕ → Type 0 = λ z. Spells src z vs in
      (vs, subst P (sym e.to) r, ap (λ z. z ++ vs) (sym e.tokens))

  at_end : {from : ℕ} {us : List Token} → length src ≤ from → Spells src from us → us ≡ []
  at_end h done = refl
  at_end h (more p s) = absurd (omega (arith, h, inside p))

  pub one_spelling : {from : ℕ} {ts us : List Token} → Spells src from ts → Spells src from us → ts ≡ us
  one_spelling done s = sym (at_end (omega arith) s)
  one_spelling (more {ts = ts} p r) s = let (vs, t, e) = rest_spells p s in ap (λ z. ts ++ z) (one_spelling r t) ∙ sym e

  not_allowed : (from to : ℕ) (ts : List Token) (e : LexFault) → IsPiece src from to ts → AreAllowed src ts → IsFaultAt src from e → ⊥
  not_allowed from to ts (f.BadByte at) p a h = h.2 to ts p
  not_allowed from to ts (f.LongNumber at) p a (x, b, n, q, big) =
      let s : Same to b ts (token (Number (pos n)) from b) = one_piece p q in
      let P : List Token → Type 0 = AreAllowed src in
      let small : AreAllowed src (token (Number (pos n)) from b) = subst P s.tokens a in
      omega (arith, small.0)
  not_allowed from to ts (f.LongName at len) p a (x, b, q, e, big) =
      let s : Same to b ts (token Name from b) = one_piece p q in
      let P : List Token → Type 0 = AreAllowed src in
      let small : AreAllowed src (token Name from b) = subst P s.tokens a in
      omega (arith, small.0)
  not_allowed from to ts f.Memory p a h = absurd h

  -- the first fault from here, behind a piece
  pub rest_faults : {from to : ℕ} {ts : List Token} {e : LexFault} → IsPiece src from to ts → AreAllowed src ts → Faults src from e → Faults src to e
  rest_faults p a (here h) = absurd (not_allowed _ _ _ _ p a h)
  rest_faults {from} {to} {ts} {e} p a (later {to = b} {ts = xs} q x r) =
      let s : Same to b ts xs = one_piece p q in let P : ℕ → Type 0 = λ z. Faults src z e in subst P (sym s.to) r

module _ (src : List ℕ) (from : ℕ) where
  -- more than two bytes are no symbol
  past : (to : ℕ) (j : Symbol) → from + 2 < to → to ≤ length src → slice_range src from to ≡ spelling j → ⊥
  past to j h k e =
      let x : 2 < length (slice_range src from to) = simp (length-take, length-drop) (omega arith) in
      let y : length (slice_range src from to) ≤ 2 = rw e (short j) in
      omega (arith, x, y)

  pub pair_at : (k : Symbol) → from + 2 ≤ length src → slice_range src from (from + 2) ≡ spelling k → IsSymbol src from (from + 2) k
  pair_at k h e = record { ordered = omega arith; within = h; spelled = e; longest = λ up j a b f. past up j (omega arith) b f }

  longer : NoPair src from → (more : ℕ) (j : Symbol) → from + 1 < more → more ≤ length src → slice_range src from more ≡ spelling j → ⊥
  longer n up j a b f = decide (at_most up (from + 2))
    where
      decide : (up ≤ from + 2) ⊎ (from + 2 < up) → ⊥
      decide (inl h) = let e : from + 2 ≡ up = omega (arith, h, a) in n.pair j (omega (arith, a, b)) (ap (λ z. slice_range src from z) e ∙ f)
      decide (inr h) = past up j h b f

  pub single_at : NoPair src from → (k : Symbol) → from < length src → slice_range src from (from + 1) ≡ spelling k → IsSymbol src from (from + 1) k
  single_at n k h e = record { ordered = omega arith; within = omega arith; spelled = e; longest = λ up j a b f. longer n up j a b f }

  pub none_at : NoPair src from → ((k : Symbol) → slice_range src from (from + 1) ≡ spelling k → ⊥) → (to : ℕ) (k : Symbol) → IsSymbol src from to k → ⊥
  none_at n e to k s = decide (at_most to (from + 1))
    where
      decide : (to ≤ from + 1) ⊎ (from + 1 < to) → ⊥
      decide (inl h) = let same : from + 1 ≡ to = omega (arith, h, s.ordered) in e k (ap (λ z. slice_range src from z) same ∙ s.spelled)
      decide (inr h) = longer n to k h s.within s.spelled

fails : {b : Bool} → b ≡ false → b ≡ true → ⊥
fails f t = let x : true ≡ false = sym t ∙ f in cc

-- where a symbol must begin and none does, no piece begins
pub no_symbol : (src : List ℕ) (from : ℕ) → OnlySymbol (slice_index src from) → ((to : ℕ) (k : Symbol) → IsSymbol src from to k → ⊥) → (to : ℕ) (ts : List Token) → IsPiece src from to ts → ⊥
no_symbol src from o n to ts (white h e t) = fails o.white h.passes
no_symbol src from o n to ts (comment h s t) = fails o.comment h.passes
no_symbol src from o n to ts (word h s t) = fails o.name h.passes
no_symbol src from o n to ts (number h s t) = fails o.digit h.passes
no_symbol src from o n to ts (symbol k s t) = n to k s

module _ (src : List ℕ) where
  span_moves : (p : ℕ → Bool) (from to : ℕ) → IsSpan src p from to → from < length src → p (slice_index src from) ≡ true → from < to
  span_moves p from to s h e = decide (at_most to from)
    where
      decide : (to ≤ from) ⊎ (from < to) → from < to
      decide (inl k) = let same : to ≡ from = omega (arith, s.ordered) in let x = sym e ∙ ap (λ z. p (slice_index src z)) (sym same) ∙ s.ends (omega arith) in cc
      decide (inr k) = k

  pub moves : (from to : ℕ) (ts : List Token) → IsPiece src from to ts → from < to
  moves from to ts (white h e t) = omega (arith, e)
  moves from to ts (comment h s t) = span_moves in_comment from to s h.here (comment_goes_on (slice_index src from) h.passes)
  moves from to ts (word h s t) = span_moves goes_on_name from to s h.here (name_goes_on (slice_index src from) h.passes)
  moves from to ts (number h s t) = span_moves is_ascii_digit from to s h.here h.passes
  moves from to ts (symbol k s t) = s.ordered

pub allowed_append : (src : List ℕ) (ts us : List Token) → AreAllowed src ts → AreAllowed src us → AreAllowed src (ts ++ us)
allowed_append src [] us a b = b
allowed_append src (t ∷ ts) us a b = (a.0, allowed_append src ts us a.1 b)

-- the bytes up to a place are whole pieces, and these are their tokens
pub record Read (src : List ℕ) (at : ℕ) (ts : List Token) : Type 0 where
  pub within : at ≤ length src
  pub allowed : AreAllowed src ts
  pub spells : (us : List Token) → Spells src at us → Spells src 0 (ts ++ us)
  pub spells_only : (us : List Token) → Spells src 0 us → (vs : List Token) × Spells src at vs × (us ≡ ts ++ vs)
  pub faults : (e : LexFault) → Faults src at e → Faults src 0 e
  pub faults_only : (e : LexFault) → Faults src 0 e → Faults src at e

pub read_none : (src : List ℕ) → Read src 0 []
read_none src = record {
  within = omega arith;
  allowed = tt;
  spells = λ us s. s;
  spells_only = λ us s. (us, s, refl);
  faults = λ e h. h;
  faults_only = λ e h. h;
}

pub read_more : (src : List ℕ) (at to : ℕ) (ts us : List Token) → Read src at ts → IsPiece src at to us → AreAllowed src us → to ≤ length src → Read src to (ts ++ us)
read_more src at to ts us r p a h = record {
  within = h;
  allowed = allowed_append src ts us r.allowed a;
  spells = λ vs s. let P : List Token → Type 0 = Spells src 0 in subst P (sym (append_assoc ts us vs)) (r.spells (us ++ vs) (more p s));
  spells_only = λ vs s.
      let (xs, x, e) = r.spells_only vs s in
      let (zs, z, f) = rest_spells src p x in
      (zs, z, e ∙ ap (λ q. ts ++ q) f ∙ sym (append_assoc ts us zs));
  faults = λ e f. r.faults e (later p a f);
  faults_only = λ e f. rest_faults src p a (r.faults_only e f);
}

pub allowed_back : (src : List ℕ) (ts us : List Token) → AreAllowed src (ts ++ us) → AreAllowed src us
allowed_back src [] us a = a
allowed_back src (t ∷ ts) us a = allowed_back src ts us a.1

allowed_front : (src : List ℕ) (ts us : List Token) → AreAllowed src (ts ++ us) → AreAllowed src ts
allowed_front src [] us a = tt
allowed_front src (t ∷ ts) us a = (a.0, allowed_front src ts us a.1)

module _ (src : List ℕ) where
  end_fault : (from : ℕ) (e : LexFault) → length src ≤ from → IsFaultAt src from e → ⊥
  end_fault from (f.BadByte at) k h = omega arith
  end_fault from (f.LongNumber at) k (x, to, n, p, big) = omega (arith, inside src p)
  end_fault from (f.LongName at len) k (x, to, p, e, big) = omega (arith, inside src p)
  end_fault from f.Memory k h = absurd h

  pub no_end : {e : LexFault} (from : ℕ) → length src ≤ from → Faults src from e → ⊥
  no_end {e = e} from k (here h) = end_fault from e k h
  no_end from k (later p a r) = omega (arith, inside src p)

  -- what is spelled within the limits has no fault
  pub no_fault : {from : ℕ} {ts : List Token} (e : LexFault) → Spells src from ts → AreAllowed src ts → Faults src from e → ⊥
  no_fault e done a h = no_end (length src) (omega arith) h
  no_fault e (more {ts = ts} {us = us} p s) a h = no_fault e s (allowed_back src ts us a) (rest_faults src p (allowed_front src ts us a) h)

  first_kind : List Token → TokenKind
  first_kind [] = Name
  first_kind (t ∷ ts) = t.kind

  apart : (n : ℕ) (a b c d : ℕ) → token (Number (pos n)) a b ≡ token Name c d → ⊥
  unfolding first_kind
  apart n a b c d e = let k : Number (pos n) ≡ Name = ap first_kind e in cc

  same_fault : (from : ℕ) (d e : LexFault) → IsFaultAt src from d → IsFaultAt src from e → d ≡ e
  same_fault from (f.BadByte a) (f.BadByte b) g h = ap f.BadByte (g.0 ∙ sym h.0)
  same_fault from (f.BadByte a) (f.LongNumber b) g (x, to, n, p, big) = absurd (g.2 _ _ p)
  same_fault from (f.BadByte a) (f.LongName b len) g (x, to, p, y, big) = absurd (g.2 _ _ p)
  same_fault from (f.LongNumber a) (f.BadByte b) (x, to, n, p, big) h = absurd (h.2 _ _ p)
  same_fault from (f.LongNumber a) (f.LongNumber b) g h = ap f.LongNumber (g.0 ∙ sym h.0)
  same_fault from (f.LongNumber a) (f.LongName b len) (x, to, n, p, big) (x', to', q, z, big') = absurd (apart n from to from to' (one_piece src p q).tokens)
  same_fault from (f.LongName a len) (f.BadByte b) (x, to, p, z, big) h = absurd (h.2 _ _ p)
  same_fault from (f.LongName a len) (f.LongNumber b) (x, to, p, z, big) (x', to', n, q, big') = absurd (apart n from to' from to (sym (one_piece src p q).tokens))
  same_fault from (f.LongName a len) (f.LongName b len') (x, to, p, z, big) (x', to', q, z', big') =
      let s : to ≡ to' = (one_piece src p q).to in let same : len ≡ len' = omega arith in let e : a ≡ b = omega arith in cc
  same_fault from f.Memory _ g h = absurd g
  same_fault from _ f.Memory g h = absurd h

  pub one_fault : {from : ℕ} {d e : LexFault} → IsFaultAt src from d → Faults src from e → d ≡ e
  one_fault {from} {d} {e} g (here h) = same_fault from d e g h
  one_fault {from} {d} g (later p a r) = absurd (not_allowed src _ _ _ d p a g)

pub finished : (src : List ℕ) (at : ℕ) (ts : List Token) → Read src at ts → length src ≤ at → Spells src 0 ts
finished src at ts r h =
    let e : length src ≡ at = omega (arith, r.within) in
    let Q : ℕ → Type 0 = λ z. Spells src z [] in
    let P : List Token → Type 0 = Spells src 0 in
    subst P (append-nil ts) (r.spells [] (subst Q e done))

pub fault_only : (src : List ℕ) (at : ℕ) (ts : List Token) (e : LexFault) → Read src at ts → IsFaultAt src at e → (us : List Token) → Spells src 0 us → AreAllowed src us → ⊥
fault_only src at ts e r h us s a =
    let (vs, t, q) = r.spells_only us s in
    let P : List Token → Type 0 = AreAllowed src in
    no_fault src e t (allowed_back src ts vs (subst P q a)) (here h)
