-- The hexadecimal text that is read is the one that is written.
use Rattle.std.proofs.Common.{◌≡◌, ℕ, ◌+◌, ◌-◌, ◌*◌, ◌/◌, ◌%◌, ◌^◌, ◌<◌, ◌≤◌, zero, suc, refl, sym, ap, subst, ◌∙◌, arith, Bool, true, false, List, [], ◌∷◌, ◌++◌, length, get_or, Some, None, Option, append_assoc, append-nil, pow-suc, inl, inr}
use Rattle.std.specs.Prelude.{nat_le, nat_lt, if◌then◌else◌, ◌==◌, ◌&&◌, ◌⊎◌, not}
use Rattle.std.specs.Option.{option_and_then}
use Rattle.std.specs.Fmt.{digits, digits_onto, digit_glyph}
use Rattle.std.proofs.lemmas.Fmt.{hex_one_digit}
use Rattle.std.proofs.lemmas.Bool.Decides.{nat_tests}
use Rattle.bm_base.specs.Numeral.{hexadecimal}
use Rattle.bm_base.specs.Strict.{leads}
use Rattle.bm_base.specs.Lines.{has_byte}
use Rattle.bm_base.specs.Hex.{hex_digit_of, hex_from, hex_of}
use Rattle.bm_base.proofs.StrictTexts.{chosen, both_true, none_some, some_same}

order : (m n : ℕ) → (m < n) ⊎ (n ≤ m)
order m n = by (nat_lt m n) refl
  where
    by : (t : Bool) → nat_lt m n ≡ t → (m < n) ⊎ (n ≤ m)
    by true e = inl (grind (arith, nat_tests))
    by false e = inr (grind (arith, nat_tests))

abbrev spell : ℕ → ℕ → List ℕ → List ℕ
spell k n acc = digits_onto k 16 false n acc

abbrev glyph : ℕ → ℕ
glyph n = digit_glyph false (n % 16)

spell_last : (k n : ℕ) (acc : List ℕ) → n < 16 → spell (suc k) n acc ≡ glyph n ∷ acc
spell_last k n acc h = let t : (n / 16 == 0) ≡ true = grind (arith, nat_tests) in rw t refl

spell_next : (k n : ℕ) (acc : List ℕ) → 16 ≤ n → spell (suc k) n acc ≡ spell k (n / 16) (glyph n ∷ acc)
spell_next k n acc h = let t : (n / 16 == 0) ≡ false = grind (arith, nat_tests) in rw t refl

spell-append : (k n : ℕ) (acc : List ℕ) → spell k n acc ≡ spell k n [] ++ acc
spell-append zero n acc = refl
spell-append (suc k) n acc = elim (order n 16) [
  | inl l ↦ spell_last k n acc l ∙ ap (λ x. x ++ acc) (sym (spell_last k n [] l))
  | inr l ↦ spell_next k n acc l ∙ spell-append k (n / 16) (glyph n ∷ acc) ∙ sym (append_assoc (spell k (n / 16) []) (glyph n ∷ []) acc) ∙ ap (λ x. x ++ acc) (sym (spell_next k n [] l ∙ spell-append k (n / 16) (glyph n ∷ [])))
]

-- the digit limit does not matter once it is large enough
spell_enough : (j k n : ℕ) (acc : List ℕ) → n < 16 ^ suc j → n < 16 ^ suc k → spell (suc j) n acc ≡ spell (suc k) n acc
spell_enough zero k n acc p q = spell_last zero n acc (omega (arith, pow-suc 16 0)) ∙ sym (spell_last k n acc (omega (arith, pow-suc 16 0)))
spell_enough (suc j) zero n acc p q = spell_last (suc j) n acc (omega (arith, pow-suc 16 0)) ∙ sym (spell_last zero n acc (omega (arith, pow-suc 16 0)))
spell_enough (suc j) (suc k) n acc p q = elim (order n 16) [
  | inl l ↦ spell_last (suc j) n acc l ∙ sym (spell_last (suc k) n acc l)
  | inr l ↦ spell_next (suc j) n acc l ∙ spell_enough j k (n / 16) (glyph n ∷ acc) (omega (arith, pow-suc 16 (suc j))) (omega (arith, pow-suc 16 (suc k))) ∙ sym (spell_next (suc k) n acc l)
]

as_spell : (n : ℕ) → hexadecimal n ≡ spell 64 n []
unfolding digits
as_spell n = refl

hex_step : (n : ℕ) → 16 ≤ n → n < 16 ^ 64 → hexadecimal n ≡ hexadecimal (n / 16) ++ glyph n ∷ []
hex_step n h small =
    as_spell n ∙ spell_next 63 n [] h ∙ spell_enough 62 63 (n / 16) (glyph n ∷ []) (omega arith) (omega arith) ∙ spell-append 64 (n / 16) (glyph n ∷ []) ∙ ap (λ (x : List ℕ). x ++ glyph n ∷ []) (sym (as_spell (n / 16)))

-- ---- digits

digit_low : (b : ℕ) → 48 ≤ b → b ≤ 57 → hex_digit_of b ≡ Some (b - 48)
digit_low b l h =
    let s : nat_le 48 b ≡ true = grind (arith, nat_tests) in
    let t : nat_le b 57 ≡ true = grind (arith, nat_tests) in
    rw (s, t) refl

digit_high : (b : ℕ) → 97 ≤ b → b ≤ 102 → hex_digit_of b ≡ Some (b - 87)
digit_high b l h =
    let s : nat_le 48 b ≡ true = grind (arith, nat_tests) in
    let t : nat_le b 57 ≡ false = grind (arith, nat_tests) in
    let u : nat_le 97 b ≡ true = grind (arith, nat_tests) in
    let v : nat_le b 102 ≡ true = grind (arith, nat_tests) in
    rw (s, t, u, v) refl

glyph_low : (d : ℕ) → d < 10 → digit_glyph false d ≡ 48 + d
glyph_low d h = let t : nat_lt d 10 ≡ true = grind (arith, nat_tests) in rw t refl

glyph_high : (d : ℕ) → 10 ≤ d → digit_glyph false d ≡ 87 + d
glyph_high d h = let t : nat_lt d 10 ≡ false = grind (arith, nat_tests) in rw t refl

digit_of_glyph : (d : ℕ) → d < 16 → hex_digit_of (digit_glyph false d) ≡ Some d
digit_of_glyph d h = elim (order d 10) [
  | inl l ↦ ap hex_digit_of (glyph_low d l) ∙ digit_low (48 + d) (omega arith) (omega arith) ∙ ap Some (omega arith)
  | inr l ↦ ap hex_digit_of (glyph_high d l) ∙ digit_high (87 + d) (omega arith) (omega arith) ∙ ap Some (omega arith)
]

record IsDigit (b d : ℕ) : Type 0 where
  small : d < 16
  written : digit_glyph false d ≡ b
  zero_is : d ≡ 0 → b ≡ 48

digit_is : (b d : ℕ) → hex_digit_of b ≡ Some d → IsDigit b d
digit_is b d e = elim (chosen (nat_le 48 b && nat_le b 57) (Some (b - 48)) (if nat_le 97 b && nat_le b 102 then Some (b - 87) else None) (Some d) e) [
  | inl p ↦
      (let k = both_true (nat_le 48 b) (nat_le b 57) p.0 in
      let l : 48 ≤ b = grind (arith, nat_tests) in
      let h : b ≤ 57 = grind (arith, nat_tests) in
      let v : b - 48 ≡ d = some_same p.1 in
      record { small = omega arith; written = glyph_low d (omega arith) ∙ omega arith; zero_is = λ z. omega arith })
  | inr q ↦ elim (chosen (nat_le 97 b && nat_le b 102) (Some (b - 87)) None (Some d) q.1) [
    | inl p ↦
        (let k = both_true (nat_le 97 b) (nat_le b 102) p.0 in
        let l : 97 ≤ b = grind (arith, nat_tests) in
        let h : b ≤ 102 = grind (arith, nat_tests) in
        let v : b - 87 ≡ d = some_same p.1 in
        record { small = omega arith; written = glyph_high d (omega arith) ∙ omega arith; zero_is = λ z. omega arith })
    | inr p ↦ absurd (none_some p.1)
  ]
]

record IsNextDigit (n b : ℕ) (bs : List ℕ) (m : ℕ) : Type 0 where
  d : ℕ
  digit : IsDigit b d
  rest : hex_from (n * 16 + d) bs ≡ Some m

next_digit : (n b : ℕ) (bs : List ℕ) (m : ℕ) → hex_from n (b ∷ bs) ≡ Some m → IsNextDigit n b bs m
next_digit n b bs m e = by (hex_digit_of b) refl e
  where
    by : (o : Option ℕ) → hex_digit_of b ≡ o → option_and_then (λ d. hex_from (n * 16 + d) bs) o ≡ Some m → IsNextDigit n b bs m
    by None p h = absurd (none_some h)
    by (Some d) p h = record { d = d; digit = digit_is b d p; rest = h }

from_le : (n : ℕ) (bs : List ℕ) (m : ℕ) → hex_from n bs ≡ Some m → n ≤ m
from_le n [] m e = let s : n ≡ m = some_same e in omega arith
from_le n (b ∷ bs) m e = let d = next_digit n b bs m e in omega (arith, from_le (n * 16 + d.d) bs m d.rest)

from_below : (j n : ℕ) (bs : List ℕ) (m : ℕ) → n < 16 ^ j → hex_from n bs ≡ Some m → m < 16 ^ (j + length bs)
from_below j n [] m h e =
    let s : n ≡ m = some_same e in
    let p : 16 ^ (j + 0) ≡ 16 ^ j = ap (λ (x : ℕ). 16 ^ x) (omega arith) in
    omega arith
from_below j n (b ∷ bs) m h e =
    let d = next_digit n b bs m e in
    let small : d.d < 16 = d.digit.small in
    let q : suc j + length bs ≡ j + length (b ∷ bs) = omega arith in
    subst (λ (x : ℕ). m < 16 ^ x) q (from_below (suc j) (n * 16 + d.d) bs m (omega (arith, pow-suc 16 j)) d.rest)

value_after : (n : ℕ) (bs : List ℕ) (m : ℕ) → 0 < n → m < 16 ^ 64 → hex_from n bs ≡ Some m → hexadecimal m ≡ hexadecimal n ++ bs
value_after n [] m some small e = let s : n ≡ m = some_same e in ap hexadecimal (sym s) ∙ sym (append-nil (hexadecimal n))
value_after n (c ∷ cs) m some small e =
    let d = next_digit n c cs m e in
    let below : d.d < 16 = d.digit.small in
    let front : (n * 16 + d.d) / 16 ≡ n = omega arith in
    let last : (n * 16 + d.d) % 16 ≡ d.d = omega arith in
    let le : n * 16 + d.d ≤ m = from_le (n * 16 + d.d) cs m d.rest in
    let w : digit_glyph false ((n * 16 + d.d) % 16) ≡ c = ap (λ (x : ℕ). digit_glyph false x) last ∙ d.digit.written in
    value_after (n * 16 + d.d) cs m (omega arith) small d.rest
    ∙ ap (λ (x : List ℕ). x ++ cs) (hex_step (n * 16 + d.d) (omega arith) (omega arith) ∙ (λ i. hexadecimal (front i) ++ (w i ∷ [])))
    ∙ append_assoc (hexadecimal n) (c ∷ []) cs

one_digit : (b d : ℕ) → IsDigit b d → hexadecimal (0 * 16 + d) ≡ b ∷ []
one_digit b d h =
    let z : 0 * 16 + d ≡ d = omega arith in
    ap hexadecimal z ∙ hex_one_digit false d h.small ∙ ap (λ (x : ℕ). x ∷ []) h.written

spelled : (bs : List ℕ) (m : ℕ) → 1 ≤ length bs → leads bs ≡ true → m < 16 ^ 64 → hex_from 0 bs ≡ Some m → bs ≡ hexadecimal m
spelled [] m some l small e = absurd (omega arith)
spelled (b ∷ []) m some l small e =
    let d = next_digit 0 b [] m e in
    let s : 0 * 16 + d.d ≡ m = some_same d.rest in
    sym (one_digit b d.d d.digit) ∙ ap hexadecimal s
spelled (b ∷ c ∷ bs) m some l small e =
    let d = next_digit 0 b (c ∷ bs) m e in
    let no : b ≡ 48 → ⊥ = λ z. leading b z l in
    let pos : 0 < 0 * 16 + d.d = positive d.d (λ z. no (d.digit.zero_is z)) in
    ap (λ (x : List ℕ). x ++ (c ∷ bs)) (sym (one_digit b d.d d.digit)) ∙ sym (value_after (0 * 16 + d.d) (c ∷ bs) m pos small d.rest)
  where
    leading : (x : ℕ) → x ≡ 48 → not (x == 48) ≡ true → ⊥
    leading x z h = grind (arith, nat_tests)

    positive : (x : ℕ) → (x ≡ 0 → ⊥) → 0 < 0 * 16 + x
    positive zero h = absurd (h refl)
    positive (suc x) h = omega arith

pow_grows : (a b : ℕ) → a ≤ b → 16 ^ a ≤ 16 ^ b
pow_grows a zero l = let z : a ≡ 0 = omega arith in subst (λ (x : ℕ). 16 ^ x ≤ 16 ^ 0) (sym z) (omega arith)
pow_grows a (suc b) l = elim (order b a) [
  | inl q ↦ (let z : a ≡ suc b = omega arith in subst (λ (x : ℕ). 16 ^ x ≤ 16 ^ suc b) (sym z) (omega arith))
  | inr q ↦ omega (arith, pow_grows a b q, pow-suc 16 b)
]

within : (n m : ℕ) → n ≤ 32 → m < 16 ^ n → m < 16 ^ 32
within n m l h = omega (arith, pow_grows n 32 l)

pub hex-spelled : (bs : List ℕ) (m : ℕ) → hex_of bs ≡ Some m → (bs ≡ hexadecimal m) × (m < 2 ^ 128)
hex-spelled bs m e = elim (chosen (nat_le 1 (length bs) && nat_le (length bs) 32 && leads bs) (hex_from 0 bs) None (Some m) e) [
  | inr p ↦ absurd (none_some p.1)
  | inl p ↦
      (let k = both_true (nat_le 1 (length bs) && nat_le (length bs) 32) (leads bs) p.0 in
      let j = both_true (nat_le 1 (length bs)) (nat_le (length bs) 32) k.0 in
      let some : 1 ≤ length bs = grind (arith, nat_tests) in
      let few : length bs ≤ 32 = grind (arith, nat_tests) in
      let below : m < 16 ^ (0 + length bs) = from_below 0 0 bs m (omega arith) p.1 in
      let most : m < 16 ^ 32 = within (0 + length bs) m (omega arith) below in
      (spelled bs m some k.1 (omega arith) p.1, omega arith))
]

-- ---- what is written is read

read_spell : (k n : ℕ) (acc : List ℕ) → n < 16 ^ k → hex_from 0 (spell k n acc) ≡ hex_from n acc
read_spell zero n acc h = let z : 0 ≡ n = omega arith in ap (λ (x : ℕ). hex_from x acc) z
read_spell (suc k) n acc h = elim (order n 16) [
  | inl l ↦
      (let z : 0 * 16 + n % 16 ≡ n = omega arith in
      ap (hex_from 0) (spell_last k n acc l) ∙ ap (option_and_then (λ (d : ℕ). hex_from (0 * 16 + d) acc)) (digit_of_glyph (n % 16) (omega arith)) ∙ ap (λ (x : ℕ). hex_from x acc) z)
  | inr l ↦
      (let z : n / 16 * 16 + n % 16 ≡ n = omega arith in
      ap (hex_from 0) (spell_next k n acc l) ∙ read_spell k (n / 16) (glyph n ∷ acc) (omega (arith, pow-suc 16 k)) ∙ ap (option_and_then (λ (d : ℕ). hex_from (n / 16 * 16 + d) acc)) (digit_of_glyph (n % 16) (omega arith)) ∙ ap (λ (x : ℕ). hex_from x acc) z)
]

abbrev Sized : ℕ → List ℕ → List ℕ → Type 0
Sized j acc l = (length l ≤ suc j + length acc) × (1 ≤ length l)

spell_length : (k j n : ℕ) (acc : List ℕ) → n < 16 ^ suc j → Sized j acc (spell (suc k) n acc)
spell_length zero j n acc h = elim (order n 16) [
  | inl l ↦ subst (Sized j acc) (sym (spell_last zero n acc l)) (omega arith, omega arith)
  | inr l ↦ subst (Sized j acc) (sym (spell_next zero n acc l)) (omega arith, omega arith)
]
spell_length (suc k) zero n acc h = subst (Sized zero acc) (sym (spell_last (suc k) n acc (omega (arith, pow-suc 16 0)))) (omega arith, omega arith)
spell_length (suc k) (suc j) n acc h = elim (order n 16) [
  | inl l ↦ subst (Sized (suc j) acc) (sym (spell_last (suc k) n acc l)) (omega arith, omega arith)
  | inr l ↦
      (let r = spell_length k j (n / 16) (glyph n ∷ acc) (omega (arith, pow-suc 16 (suc j))) in
      subst (Sized (suc j) acc) (sym (spell_next (suc k) n acc l)) (omega arith, omega arith))
]

glyph_some : (d : ℕ) → 0 < d → d < 16 → digit_glyph false d ≡ 48 → ⊥
glyph_some d p h e = elim (order d 10) [
  | inl l ↦ omega (arith, glyph_low d l)
  | inr l ↦ omega (arith, glyph_high d l)
]

abbrev NotZero : List ℕ → Type 0
NotZero l = get_or l 0 0 ≡ 48 → ⊥

spell_first : (k n : ℕ) (acc : List ℕ) → 0 < n → n < 16 ^ suc k → NotZero (spell (suc k) n acc)
spell_first zero n acc p h = subst NotZero (sym (spell_last zero n acc (omega (arith, pow-suc 16 0)))) (λ f. glyph_some (n % 16) (omega (arith, pow-suc 16 0)) (omega arith) f)
spell_first (suc k) n acc p h = elim (order n 16) [
  | inl l ↦ subst NotZero (sym (spell_last (suc k) n acc l)) (λ f. glyph_some (n % 16) (omega arith) (omega arith) f)
  | inr l ↦ subst NotZero (sym (spell_next (suc k) n acc l)) (spell_first k (n / 16) (glyph n ∷ acc) (omega arith) (omega (arith, pow-suc 16 (suc k))))
]

leads_not : (bs : List ℕ) → (get_or bs 0 0 ≡ 48 → ⊥) → leads bs ≡ true
leads_not [] h = refl
leads_not (b ∷ []) h = refl
leads_not (b ∷ c ∷ bs) h = by (b == 48) refl
  where
    by : (t : Bool) → (b == 48) ≡ t → not t ≡ true
    by true e = absurd (h (grind (arith, nat_tests)))
    by false e = refl

leads_hex : (n : ℕ) → n < 16 ^ 64 → leads (hexadecimal n) ≡ true
leads_hex zero h = ap leads (as_spell 0 ∙ spell_last 63 0 [] (omega arith))
leads_hex (suc n) h = leads_not (hexadecimal (suc n)) (λ e. spell_first 63 (suc n) [] (omega arith) h (sym (ap (λ (x : List ℕ). get_or x 0 0) (as_spell (suc n))) ∙ e))

pub hex-hexadecimal : (n : ℕ) → n < 2 ^ 128 → hex_of (hexadecimal n) ≡ Some n
hex-hexadecimal n h =
    let size = spell_length 63 31 n [] (omega arith) in
    let len = ap length (as_spell n) in
    let some : nat_le 1 (length (hexadecimal n)) ≡ true = grind (arith, nat_tests) in
    let few : nat_le (length (hexadecimal n)) 32 ≡ true = grind (arith, nat_tests) in
    rw (some, few, leads_hex n (omega arith)) (ap (hex_from 0) (as_spell n) ∙ read_spell 64 n [] (omega arith))

-- 31 digits leave room for one more
pub below_most : (i n : ℕ) → i < 32 → n < 16 ^ i → n < 16 ^ 31
below_most i n h l = omega (arith, pow_grows i 31 (omega arith))

digit_apart : (b d s : ℕ) → IsDigit b d → s < 48 → (b == s) ≡ false
digit_apart b d s h l =
    let w = h.written in
    let small : d < 16 = h.small in
    let above : 48 ≤ b = elim (order d 10) [ inl q ↦ omega (arith, glyph_low d q) | inr q ↦ omega (arith, glyph_high d q) ] in
    grind (arith, nat_tests)

from_plain : (s n : ℕ) (bs : List ℕ) (m : ℕ) → s < 48 → hex_from n bs ≡ Some m → has_byte s bs ≡ false
from_plain s n [] m l e = refl
from_plain s n (b ∷ bs) m l e =
    let d = next_digit n b bs m e in
    rw (digit_apart b d.d s d.digit l) (from_plain s (n * 16 + d.d) bs m l d.rest)

-- hexadecimal digits have no byte below 48
pub hexadecimal-plain : (s m : ℕ) → s < 48 → m < 2 ^ 128 → has_byte s (hexadecimal m) ≡ false
hexadecimal-plain s m l h = from_plain s 0 (hexadecimal m) m l (ap (hex_from 0) (as_spell m) ∙ read_spell 64 m [] (omega arith))
