-- From a place in a text, over some bytes of it, to the tokens that they spell.
use Rattle.std.proofs.Common.{◌≡◌, ℕ, zero, suc, ◌+◌, ◌-◌, ◌*◌, ◌/◌, ◌%◌, ◌^◌, ◌<◌, ◌≤◌, pos, Bool, true, false, List, [], ◌∷◌, ◌++◌, length, get_or, Some, None, refl, ap, sym, subst, ◌∙◌, arith, take, drop, append_assoc, length-take, length-drop, All}
use Rattle.std.proofs.lemmas.List.{append-nil, length-append, get_or-append-add}
use Rattle.std.proofs.Math.Seq.{drop-append_seam, take-append_seam, get_or-append_seam}
use Rattle.std.proofs.Math.ListN.{get_or-append}
use Rattle.std.specs.Fmt.{decimal}
use Rattle.std.proofs.lemmas.Fmt.{decimal_by_steps}
use Rattle.std.specs.Prelude.{slice_range}
use Rattle.std.specs.Char.{is_ascii_digit}
use Rattle.src_lexer.specs.declared.token.Symbol.{Symbol}
use Rattle.src_lexer.specs.declared.token.Symbol.TheVariants as y
use Rattle.src_lexer.specs.declared.token.TokenKind.{TokenKind}
use Rattle.src_lexer.specs.declared.token.TokenKind.TheVariants.{Number, Sym}
use Rattle.src_lexer.specs.declared.token.Token.{Token}
use Rattle.src_lexer.specs.Symbols.{spelling, word_of}
use Rattle.src_lexer.proofs.SymbolFacts.{symbol_of, symbol_of-spelling, short}
use Rattle.src_lexer.proofs.Unique.{allowed_append}
use Rattle.src_lexer.specs.Spell.{IsSpan, IsSymbol, IsPiece, white, word, number, symbol, Spells, more, token, value_of, AreAllowed, Allowed, is_white}
use Rattle.src_lexer.specs.Laws.{BeginsName}
use Rattle.bm_base.specs.Names.{begins_name, goes_on_name}
use Rattle.bm_base.specs.Numeral.{value_from}

-- the bytes behind a place do not go on with such a byte
abbrev pub Stops : (ℕ → Bool) → List ℕ → Type 0
Stops p [] = Unit {0}
Stops p (r ∷ rs) = p r ≡ false

-- a symbol of these bytes is not made longer by the bytes behind it
abbrev pub Quiet : List ℕ → List ℕ → Type 0
Quiet (b ∷ []) (r ∷ rs) = symbol_of (b ∷ r ∷ []) ≡ None
Quiet _ _ = Unit {0}

symbol_some : (k : Symbol) → 0 < length (spelling k)
symbol_some y.Semi = omega arith
symbol_some y.Assign = omega arith
symbol_some y.LBracket = omega arith
symbol_some y.RBracket = omega arith
symbol_some y.LBrace = omega arith
symbol_some y.RBrace = omega arith
symbol_some y.LParen = omega arith
symbol_some y.RParen = omega arith
symbol_some y.Or = omega arith
symbol_some y.Xor = omega arith
symbol_some y.And = omega arith
symbol_some y.Eq = omega arith
symbol_some y.Ne = omega arith
symbol_some y.Lt = omega arith
symbol_some y.Le = omega arith
symbol_some y.Gt = omega arith
symbol_some y.Ge = omega arith
symbol_some y.Shl = omega arith
symbol_some y.Shr = omega arith
symbol_some y.Add = omega arith
symbol_some y.Sub = omega arith
symbol_some y.Mul = omega arith
symbol_some y.Div = omega arith
symbol_some y.Rem = omega arith
symbol_some y.Not = omega arith

-- each of the bytes passes
abbrev pub Each : (ℕ → Bool) → List ℕ → Type 0
Each p [] = Unit {0}
Each p (b ∷ bs) = (p b ≡ true) × Each p bs

pub all_of : (p : ℕ → Bool) (bs : List ℕ) → Each p bs → All (λ b. p b ≡ true) bs
all_of p [] h k d n = absurd (omega (arith, n))
all_of p (b ∷ bs) h zero d n = h.0
all_of p (b ∷ bs) h (suc k) d n = all_of p bs h.1 k d (omega (arith, n))

each_more : (p : ℕ → Bool) (bs : List ℕ) (b : ℕ) → Each p bs → p b ≡ true → Each p (bs ++ b ∷ [])
each_more p [] b h x = (x, tt)
each_more p (c ∷ bs) b h x = (h.0, each_more p bs b h.1 x)

value_from-more : (n : ℕ) (bs : List ℕ) (b : ℕ) → value_from n (bs ++ b ∷ []) ≡ value_from n bs * 10 + (b - 48)
value_from-more n [] b = refl
value_from-more n (c ∷ bs) b = value_from-more (n * 10 + (c - 48)) bs b

-- digits whose value is the number
pub record IsWritten (n : ℕ) (ds : List ℕ) : Type 0 where
  pub each : Each is_ascii_digit ds
  pub value : value_of ds ≡ n
  pub some : 0 < length ds

digit_glyph : (n : ℕ) → n < 10 → is_ascii_digit (48 + n) ≡ true
digit_glyph n h = grind arith

written : (n : ℕ) → n < 2 ^ 64 → IsWritten n (decimal n)
written = decimal_by_steps IsWritten
    (λ n h. record { each = (digit_glyph n h, tt); value = omega arith; some = omega arith })
    (λ n ds h w.
    let v : value_from 0 ds ≡ n / 10 = w.value in
    let x : value_from 0 (ds ++ (48 + n % 10) ∷ []) ≡ value_from 0 ds * 10 + (48 + n % 10 - 48) = value_from-more 0 ds (48 + n % 10) in
    record { each = each_more is_ascii_digit ds (48 + n % 10) w.each (digit_glyph (n % 10) (omega arith)); value = omega (arith, v, x); some = rw length-append (omega arith) })

module _ (src : List ℕ) where
  -- some bytes that stand at the front's end
  module _ (front bs rest : List ℕ) (e : src ≡ front ++ (bs ++ rest)) where
    long : length src ≡ length front + length bs + length rest
    long = ap length e ∙ simp (length-append) (omega arith)

    pub end : length (front ++ bs) ≡ length front + length bs
    end = length-append front bs

    at : (k : ℕ) → get_or src (length front + k) 0 ≡ get_or (bs ++ rest) k 0
    at k = ap (λ z. get_or z (length front + k) 0) e ∙ get_or-append-add front (bs ++ rest) k 0

    first : get_or src (length front) 0 ≡ get_or (bs ++ rest) 0 0
    first = let x : length front + 0 ≡ length front = omega arith in ap (λ z. get_or src z 0) (sym x) ∙ at 0

    pub slice : slice_range src (length front) (length (front ++ bs)) ≡ bs
    slice =
        let d : drop (length front) src ≡ bs ++ rest = ap (λ z. drop (length front) z) e ∙ drop-append_seam front (bs ++ rest) in
        let n : length (front ++ bs) - length front ≡ length bs = omega (arith, end) in
        ap (λ z. take z (drop (length front) src)) n ∙ ap (λ z. take (length bs) z) d ∙ take-append_seam bs rest

    last : (p : ℕ → Bool) → (r : List ℕ) → src ≡ front ++ (bs ++ r) → Stops p r → length (front ++ bs) < length src → p (get_or src (length (front ++ bs)) 0) ≡ false
    last p [] f stops h =
        let x : length src ≡ length (front ++ bs) = ap length (f ∙ ap (λ z. front ++ z) (append-nil bs)) in
        absurd (omega (arith, h, x))
    last p (r ∷ rs) f stops h =
        let x : src ≡ (front ++ bs) ++ r ∷ rs = f ∙ sym (append_assoc front bs (r ∷ rs)) in
        ap p (ap (λ z. get_or z (length (front ++ bs)) 0) x ∙ get_or-append_seam (front ++ bs) r rs 0) ∙ stops

    span : (p : ℕ → Bool) → All (λ b. p b ≡ true) bs → Stops p rest → IsSpan src p (length front) (length (front ++ bs))
    span p each stops = record {
      ordered = omega (arith, end);
      within = omega (arith, end, long);
      each = λ i a b.
          let k : length front + (i - length front) ≡ i = omega (arith, a) in
          let h : i - length front < length bs = omega (arith, a, b, end) in
          let x : get_or src i 0 ≡ get_or bs (i - length front) 0 = ap (λ z. get_or src z 0) (sym k) ∙ at (i - length front) ∙ get_or-append bs rest 0 (i - length front) h in
          ap p x ∙ each (i - length front) 0 h;
      ends = λ h. last p rest e stops h;
    }

    place : 0 < length bs → length front < length src
    place n = omega (arith, n, long)

cut : (src : List ℕ) (from up : ℕ) → from ≤ up → up ≤ length src → length (slice_range src from up) ≡ up - from
cut src from up h k = simp (length-take, length-drop) (omega arith)

longer : (src front bs rest : List ℕ) → src ≡ front ++ (bs ++ rest) → 0 < length bs → Quiet bs rest → (up : ℕ) (j : Symbol) →
    length (front ++ bs) < up → up ≤ length src → slice_range src (length front) up ≡ spelling j → ⊥
longer src front [] rest e n q up j a h f = omega (arith, n)
longer src front (b ∷ []) [] e n q up j a h f =
    let x : length src ≡ length (front ++ b ∷ []) = ap length e in
    omega (arith, a, h, x)
longer src front (b ∷ []) (r ∷ rs) e n q up j a h f =
    let w : length (front ++ b ∷ []) ≡ length front + 1 = length-append front (b ∷ []) in
    let v : length (front ++ b ∷ r ∷ []) ≡ length front + 2 = length-append front (b ∷ r ∷ []) in
    let x : length (slice_range src (length front) up) ≡ up - length front = cut src (length front) up (omega (arith, a, w)) h in
    let z : length (slice_range src (length front) up) ≤ 2 = rw f (short j) in
    let two : up ≡ length (front ++ b ∷ r ∷ []) = omega (arith, a, w, v, x, z) in
    let g : b ∷ r ∷ [] ≡ spelling j = sym (slice src front (b ∷ r ∷ []) rs e) ∙ ap (λ u. slice_range src (length front) u) (sym two) ∙ f in
    let t : None ≡ Some j = sym q ∙ ap symbol_of g ∙ symbol_of-spelling j in
    absurd cc
longer src front (b ∷ d ∷ ds) rest e n q up j a h f =
    let w : length (front ++ b ∷ d ∷ ds) ≡ length front + length (b ∷ d ∷ ds) = length-append front (b ∷ d ∷ ds) in
    let x : length (slice_range src (length front) up) ≡ up - length front = cut src (length front) up (omega (arith, a, w)) h in
    let z : length (slice_range src (length front) up) ≤ 2 = rw f (short j) in
    omega (arith, a, w, x, z)

-- the bytes behind the front are spelled by the tokens
pub record Way (src front bs : List ℕ) (ts : List Token) : Type 0 where
  pub leads : (us : List Token) → Spells src (length (front ++ bs)) us → Spells src (length front) (ts ++ us)
  pub allowed : AreAllowed src ts

-- one behind the other
pub follows : {src front bs cs : List ℕ} {ts us : List Token} → Way src front bs ts → Way src (front ++ bs) cs us → Way src front (bs ++ cs) (ts ++ us)
follows {src} {front} {bs} {cs} {ts} {us} v w = record {
  leads = λ vs s.
      let P : List ℕ → Type 0 = λ z. Spells src (length z) vs in
      let Q : List Token → Type 0 = Spells src (length front) in
      subst Q (sym (append_assoc ts us vs)) (v.leads (us ++ vs) (w.leads vs (subst P (sym (append_assoc front bs cs)) s)));
  allowed = allowed_append src ts us v.allowed w.allowed;
}

-- a piece that spells these tokens
by_piece : {src front bs : List ℕ} {ts : List Token} → IsPiece src (length front) (length (front ++ bs)) ts → AreAllowed src ts → Way src front bs ts
by_piece p a = record { leads = λ us s. more p s; allowed = a }

-- a blank or a line's end
pub blank : (src front : List ℕ) (b : ℕ) (rest : List ℕ) → src ≡ front ++ ((b ∷ []) ++ rest) → is_white b ≡ true → Way src front (b ∷ []) []
blank src front b rest e w =
    let n : length (front ++ b ∷ []) ≡ suc (length front) = omega (arith, length-append front (b ∷ [])) in
    let here = place src front (b ∷ []) rest e (omega arith) in
    by_piece (white (record { here = here; passes = ap is_white (first src front (b ∷ []) rest e) ∙ w }) n refl) tt

pub one_symbol : (src front : List ℕ) (k : Symbol) (rest : List ℕ) → src ≡ front ++ (spelling k ++ rest) → Quiet (spelling k) rest →
    Way src front (spelling k) (token (Sym k) (length front) (length (front ++ spelling k)))
one_symbol src front k rest e q =
    let from = length front in
    let to = length (front ++ spelling k) in
    let is : IsSymbol src from to k = record {
      ordered = omega (arith, end src front (spelling k) rest e, symbol_some k);
      within = omega (arith, end src front (spelling k) rest e, long src front (spelling k) rest e);
      spelled = slice src front (spelling k) rest e;
      longest = longer src front (spelling k) rest e (symbol_some k) q;
    } in
    by_piece (symbol k is refl) (tt, tt)

pub one_word : (src front bs rest : List ℕ) → src ≡ front ++ (bs ++ rest) → BeginsName bs → All (λ b. goes_on_name b ≡ true) bs → Stops goes_on_name rest →
    (k : TokenKind) → word_of bs ≡ k → Allowed src (record { kind = k; at = length front; end = length (front ++ bs) }) k →
    Way src front bs (token k (length front) (length (front ++ bs)))
one_word src front [] rest e begins each stops k is allowed = absurd begins
one_word src front (b ∷ bs) rest e begins each stops k is allowed =
    let from = length front in
    let to = length (front ++ b ∷ bs) in
    let letter : begins_name (get_or src from 0) ≡ true = ap begins_name (first src front (b ∷ bs) rest e) ∙ begins in
    let same : k ≡ word_of (slice_range src from to) = sym is ∙ ap word_of (sym (slice src front (b ∷ bs) rest e)) in
    let here = place src front (b ∷ bs) rest e (omega arith) in
    by_piece (word (record { here = here; passes = letter }) (span src front (b ∷ bs) rest e goes_on_name each stops) (ap (λ z. token z from to) same)) (allowed, tt)

number_piece : (src front bs rest : List ℕ) (n : ℕ) → src ≡ front ++ (bs ++ rest) → IsWritten n bs → n < 2 ^ 63 → Stops is_ascii_digit rest →
    Way src front bs (token (Number (pos n)) (length front) (length (front ++ bs)))
number_piece src front [] rest n e w small stops = absurd (omega (arith, w.some))
number_piece src front (b ∷ bs) rest n e w small stops =
    let from = length front in
    let to = length (front ++ b ∷ bs) in
    let digit : is_ascii_digit (get_or src from 0) ≡ true = ap is_ascii_digit (first src front (b ∷ bs) rest e) ∙ (w.each).0 in
    let same : n ≡ value_of (slice_range src from to) = sym w.value ∙ ap value_of (sym (slice src front (b ∷ bs) rest e)) in
    let here = place src front (b ∷ bs) rest e (omega arith) in
    let digits : IsSpan src is_ascii_digit from to = span src front (b ∷ bs) rest e is_ascii_digit (all_of is_ascii_digit (b ∷ bs) w.each) stops in
    by_piece (number (record { here = here; passes = digit }) digits (ap (λ z. token (Number (pos z)) from to) same)) (small, tt)

pub one_number : (src front : List ℕ) (n : ℕ) (rest : List ℕ) → src ≡ front ++ (decimal n ++ rest) → n < 2 ^ 63 → Stops is_ascii_digit rest →
    Way src front (decimal n) (token (Number (pos n)) (length front) (length (front ++ decimal n)))
one_number src front n rest e small stops = number_piece src front (decimal n) rest n e (written n (omega (arith, small))) small stops
