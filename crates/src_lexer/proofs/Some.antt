-- Each text has tokens within the limits, or a first fault.
use Rattle.std.proofs.Common.{◌≡◌, ◌⊎◌, inl, inr, ℕ, zero, suc, ◌+◌, ◌-◌, ◌^◌, ◌<◌, ◌≤◌, pos, negsuc, Bool, true, false, List, [], length, Option, Some, None, refl, ap, sym, ◌∙◌, subst, arith}
use Rattle.std.specs.Prelude.{slice_index, slice_range}
use Rattle.std.proofs.lemmas.Bool.Decides.{leb_tells}
use Rattle.std.specs.Char.{is_ascii_digit}
use Rattle.src_lexer.specs.declared.token.Symbol.{Symbol}
use Rattle.src_lexer.specs.declared.token.TokenKind.{TokenKind}
use Rattle.src_lexer.specs.declared.token.TokenKind.TheVariants.{Name, Number, Word, Sym}
use Rattle.src_lexer.specs.declared.token.Token.{Token}
use Rattle.src_lexer.specs.declared.fault.LexFault.{LexFault}
use Rattle.src_lexer.specs.declared.fault.LexFault.TheVariants as f
use Rattle.src_lexer.specs.Symbols.{word_of}
use Rattle.src_lexer.specs.Spell.{is_white, begins_comment, in_comment, token, value_of, IsSpan, IsSymbol, Begins, IsPiece, white, comment, word, number, symbol, Spells, done, more, AreAllowed, IsFaultAt, Faults, here, later}
use Rattle.src_lexer.specs.Scanning.{OnlySymbol, NoPair}
use Rattle.bm_base.specs.Names.{begins_name, goes_on_name}
use Rattle.bm_base.specs.declared.limits.TheConstants.{MOST_NAME_BYTES}
use Rattle.src_lexer.specs.Laws.{Answer, tokens, fault}
use Rattle.src_lexer.proofs.SymbolFacts.{symbol_of, found, not_found}
use Rattle.src_lexer.proofs.Unique.{pair_at, single_at, none_at, no_symbol, moves, allowed_append, one_fault, no_fault, rest_faults}

at_most : (m n : ℕ) → (m ≤ n) ⊎ (n < m)
at_most m n = elim (leb_tells m n) [ inl h ↦ inl h.1 | inr h ↦ inr h.1 ]

module _ (src : List ℕ) where
  record SpanFrom (p : ℕ → Bool) (from : ℕ) : Type 0 where
    pub to : ℕ
    pub span : IsSpan src p from to

  span_here : (p : ℕ → Bool) (from : ℕ) → from ≤ length src → (from < length src → p (slice_index src from) ≡ false) → SpanFrom p from
  span_here p from e h = record { to = from; span = record { ordered = omega arith; within = e; each = λ i a b. absurd (omega arith); ends = h } }

  span_more : (p : ℕ → Bool) (from : ℕ) → p (slice_index src from) ≡ true → SpanFrom p (suc from) → SpanFrom p from
  span_more p from h r =
      let o = r.span.ordered in
      record {
        to = r.to;
        span = record {
          ordered = omega arith;
          within = r.span.within;
          each = λ i a b. elim (at_most i from) [ inl k ↦ (let same : from ≡ i = omega arith in ap (λ z. p (slice_index src z)) (sym same) ∙ h) | inr k ↦ r.span.each i k b ];
          ends = r.span.ends;
        };
      }

  span_by : (p : ℕ → Bool) (from : ℕ) → from ≤ length src → SpanFrom p (suc from) → (b : Bool) → p (slice_index src from) ≡ b → SpanFrom p from
  span_by p from e r false h = span_here p from e (λ _. h)
  span_by p from e r true h = span_more p from h r

  -- a longest row begins at each place
  span_from : (p : ℕ → Bool) (n from : ℕ) → from + n ≡ length src → SpanFrom p from
  span_from p zero from e = span_here p from (omega arith) (λ h. absurd (omega arith))
  span_from p (suc n) from e = span_by p from (omega arith) (span_from p n (suc from) (omega arith)) (p (slice_index src from)) refl

  -- what stands at a place: an allowed piece, or a fault
  data Step (from : ℕ) : Type 0 where
    piece : {to : ℕ} {ts : List Token} → IsPiece src from to ts → AreAllowed src ts → to ≤ length src → Step from
    bad : (e : LexFault) → IsFaultAt src from e → Step from

  -- a piece that is one token
  token_step : (from to : ℕ) (w : TokenKind) → IsPiece src from to (token w from to) → from ≤ to → to ≤ length src → Step from
  token_step from to (Number (pos n)) p o h = elim (at_most (2 ^ 63) n) [ inl k ↦ bad (f.LongNumber from) (refl, to, n, p, k) | inr k ↦ piece p (k, tt) h ]
  token_step from to (Number (negsuc n)) p o h = piece p (tt, tt) h
  token_step from to Name p o h = elim (at_most (to - from) MOST_NAME_BYTES) [ inl k ↦ piece p (k, tt) h | inr k ↦ bad (f.LongName from (to - from)) (refl, to, p, omega arith, k) ]
  token_step from to (Word k) p o h = piece p (tt, tt) h
  token_step from to (Sym k) p o h = piece p (tt, tt) h

  symbol_step : (from to : ℕ) (k : Symbol) → IsSymbol src from to k → Step from
  symbol_step from to k s = let o = s.ordered in token_step from to (Sym k) (symbol k s refl) (omega arith) s.within

  single_step : (from : ℕ) → OnlySymbol (slice_index src from) → from < length src → NoPair src from → (k : Option Symbol) → symbol_of (slice_range src from (from + 1)) ≡ k → Step from
  single_step from e h n (Some k) g = symbol_step from (from + 1) k (single_at src from n k h (found (slice_range src from (from + 1)) k g))
  single_step from e h n None g = bad (f.BadByte from) (refl, h, no_symbol src from e (none_at src from n (not_found (slice_range src from (from + 1)) g)))

  pair_step : (from : ℕ) → OnlySymbol (slice_index src from) → from < length src → from + 2 ≤ length src → (k : Option Symbol) → symbol_of (slice_range src from (from + 2)) ≡ k → Step from
  pair_step from e h l (Some k) g = symbol_step from (from + 2) k (pair_at src from k l (found (slice_range src from (from + 2)) k g))
  pair_step from e h l None g =
      let n : NoPair src from = record { pair = λ k m. not_found (slice_range src from (from + 2)) g k } in
      single_step from e h n (symbol_of (slice_range src from (from + 1))) refl

  mark_step : (from : ℕ) → OnlySymbol (slice_index src from) → from < length src → Step from
  mark_step from e h = elim (at_most (from + 2) (length src)) [
    | inl l ↦ pair_step from e h l (symbol_of (slice_range src from (from + 2))) refl
    | inr l ↦ single_step from e h (record { pair = λ k m. absurd (omega arith) }) (symbol_of (slice_range src from (from + 1))) refl
  ]

  comment_step : (from : ℕ) → Begins src begins_comment from → Step from
  comment_step from g = let h = g.here in let r = span_from in_comment (length src - from) from (omega arith) in piece (comment g r.span refl) tt r.span.within

  word_step : (from : ℕ) → Begins src begins_name from → Step from
  word_step from g =
      let h = g.here in
      let r = span_from goes_on_name (length src - from) from (omega arith) in
      token_step from r.to (word_of (slice_range src from r.to)) (word g r.span refl) r.span.ordered r.span.within

  number_step : (from : ℕ) → Begins src is_ascii_digit from → Step from
  number_step from g =
      let h = g.here in
      let r = span_from is_ascii_digit (length src - from) from (omega arith) in
      token_step from r.to (Number (pos (value_of (slice_range src from r.to)))) (number g r.span refl) r.span.ordered r.span.within

  step_of : (from : ℕ) → from < length src → (w h a d : Bool) → is_white (slice_index src from) ≡ w → begins_comment (slice_index src from) ≡ h →
      begins_name (slice_index src from) ≡ a → is_ascii_digit (slice_index src from) ≡ d → Step from
  step_of from i true h a d ew eh ea ed = piece (white (record { here = i; passes = ew }) refl refl) tt (omega arith)
  step_of from i false true a d ew eh ea ed = comment_step from (record { here = i; passes = eh })
  step_of from i false false true d ew eh ea ed = word_step from (record { here = i; passes = ea })
  step_of from i false false false true ew eh ea ed = number_step from (record { here = i; passes = ed })
  step_of from i false false false false ew eh ea ed = mark_step from (record { white = ew; comment = eh; name = ea; digit = ed }) i

  -- what stands from a place on
  data Rest (from : ℕ) : Type 0 where
    row : {ts : List Token} → Spells src from ts → AreAllowed src ts → Rest from
    stop : {e : LexFault} → Faults src from e → Rest from

  behind : {from to : ℕ} {ts : List Token} → IsPiece src from to ts → AreAllowed src ts → Rest to → Rest from
  behind {ts = ts} p a (row {ts = us} s b) = row (more p s) (allowed_append src ts us a b)
  behind p a (stop g) = stop (later p a g)

  at_end : (from : ℕ) → length src ≡ from → Rest from
  at_end from e = let P : ℕ → Type 0 = λ z. Spells src z [] in row (subst P e done) tt

  go_on : (from : ℕ) → ((to : ℕ) → from < to → to ≤ length src → Rest to) → Step from → Rest from
  go_on from rest (piece {to = to} {ts = ts} p a l) = behind p a (rest to (moves src from to ts p) l)
  go_on from rest (bad e g) = stop (here g)

  walk : (n from : ℕ) → length src ≤ from + n → from ≤ length src → Rest from
  walk zero from e h = at_end from (omega arith)
  walk (suc n) from e h = elim (at_most (length src) from) [
    | inl k ↦ at_end from (omega arith)
    | inr k ↦ go_on from (λ to m l. walk n to (omega arith) l) (step_of from k _ _ _ _ refl refl refl refl)
  ]

  answer_of : Rest 0 → Answer src
  answer_of (row s a) = tokens s a
  answer_of (stop g) = fault g

  pub some : Answer src
  some = answer_of (walk (length src) 0 (omega arith) (omega arith))

  pub not_both : (ts : List Token) (e : LexFault) → Spells src 0 ts → AreAllowed src ts → Faults src 0 e → ⊥
  not_both ts e s a g = no_fault src e s a g

  pub one_first : {from : ℕ} {d e : LexFault} → Faults src from d → Faults src from e → d ≡ e
  one_first (here g) h = one_fault src g h
  one_first (later p a r) h = one_first r (rest_faults src p a h)
