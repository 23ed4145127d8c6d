-- Fields, one by one: what is read is spelled so, and what is spelled so is read.
use Rattle.std.proofs.Common.{◌≡◌, ℕ, ◌^◌, ◌<◌, ◌≤◌, refl, sym, ap, subst, ◌∙◌, arith, Bool, true, false, List, [], ◌∷◌, Some, None, Option, true≢false, cond}
use Rattle.std.specs.Prelude.{nat_le, ◌==◌, ◌&&◌, decimal, ◌⊎◌}
use Rattle.std.proofs.Common.{inl, inr}
use Rattle.std.specs.Str.{bytes_eq}
use Rattle.std.specs.Char.{is_ascii_digit}
use Rattle.std.proofs.lemmas.Slice.Eq.{bytes_eq-Decides}
use Rattle.std.proofs.lemmas.Fmt.{digits_decimal}
use Rattle.std.proofs.lemmas.Bool.Decides.{nat_tests}
use Rattle.bm_base.specs.Lines.{front_of, behind_of, has_byte}
use Rattle.bm_base.specs.Numeral.{all_digits}
use Rattle.bm_base.specs.Strict.{strict_count_of}
use Rattle.bm_base.proofs.NumberTexts.{numerals}
use Rattle.bm_base.proofs.StrictTexts.{chosen, both_true, none_some, some_same, strict_count-spelled, strict_count-decimal}
use Rattle.stream_file.specs.Cuts.{◌>>=◌, cut, within, count_within, two_of, three_of}
use Rattle.stream_file.specs.Words.{named_by}
use Rattle.stream_file.specs.Rows.{◌‿◌, mapped}

-- ---- steps that may give nothing

pub record Bound {A B : Type 0} (o : Option A) (f : A → Option B) (y : B) : Type 0 where
  pub x : A
  pub first : o ≡ Some x
  pub next : f x ≡ Some y

pub bind_some : {A B : Type 0} (o : Option A) (f : A → Option B) (y : B) → (o >>= f) ≡ Some y → Bound o f y
bind_some None f y e = absurd (none_some e)
bind_some (Some x) f y e = record { x = x; first = refl; next = e }

pub record MappedTo {A B : Type 0} (o : Option A) (f : A → B) (y : B) : Type 0 where
  pub x : A
  pub first : o ≡ Some x
  pub same : f x ≡ y

pub mapped_some : {A B : Type 0} (f : A → B) (o : Option A) (y : B) → mapped f o ≡ Some y → MappedTo o f y
mapped_some f None y e = absurd (none_some e)
mapped_some f (Some x) y e = record { x = x; first = refl; same = some_same e }

-- which way a test of words went
pub named : {A : Type 0} (w v : List ℕ) (x y : Option A) (z : A) → cond (bytes_eq w v) x y ≡ Some z → ((w ≡ v) × (x ≡ Some z)) ⊎ (y ≡ Some z)
named w v x y z e = elim (chosen (bytes_eq w v) x y (Some z) e) [
  | inl p ↦ inl ((bytes_eq-Decides w v).0 p.0, p.1)
  | inr p ↦ inr p.1
]

pub named_by-is : {A : Type 0} (word : A → List ℕ) (w : List ℕ) (xs : List A) (x : A) → named_by word w xs ≡ Some x → w ≡ word x
named_by-is word w [] x e = absurd (none_some e)
named_by-is word w (y ∷ ys) x e = elim (named w (word y) (Some y) (named_by word w ys) x e) [
  | inl p ↦ p.0 ∙ ap word (some_same p.1)
  | inr p ↦ named_by-is word w ys x p
]

-- ---- a space

join_front : (bs : List ℕ) → has_byte 32 bs ≡ true → bs ≡ front_of 32 bs ‿ behind_of 32 bs
join_front [] h = absurd (true≢false (sym h))
join_front (b ∷ bs) h = elim (chosen (b == 32) true (has_byte 32 bs) true h) [
  | inl p ↦ (let e : b ≡ 32 = grind (arith, nat_tests) in rw p.0 (ap (λ (x : ℕ). x ∷ bs) e))
  | inr p ↦ rw p.0 (ap (λ (x : List ℕ). b ∷ x) (join_front bs p.1))
]

pub cut_is : (bs : List ℕ) (p : List ℕ × List ℕ) → cut bs ≡ Some p → bs ≡ p.0 ‿ p.1
cut_is bs p e = elim (chosen (has_byte 32 bs) (Some (front_of 32 bs, behind_of 32 bs)) None (Some p) e) [
  | inl q ↦ (let s : (front_of 32 bs, behind_of 32 bs) ≡ p = some_same q.1 in join_front bs q.0 ∙ ap (λ (x : List ℕ × List ℕ). x.0 ‿ x.1) s)
  | inr q ↦ absurd (none_some q.1)
]

pub cut_plain : (bs : List ℕ) (p : List ℕ × List ℕ) → cut bs ≡ Some p → has_byte 32 p.0 ≡ false
cut_plain bs p e = elim (chosen (has_byte 32 bs) (Some (front_of 32 bs, behind_of 32 bs)) None (Some p) e) [
  | inl q ↦ subst (λ (x : List ℕ × List ℕ). has_byte 32 x.0 ≡ false) (some_same q.1) (front_plain bs)
  | inr q ↦ absurd (none_some q.1)
]
  where
    plain_more : (b : ℕ) (t : Bool) (bs : List ℕ) → (b == 32) ≡ t → has_byte 32 bs ≡ false → has_byte 32 (cond t [] (b ∷ bs)) ≡ false
    plain_more b true bs e h = refl
    plain_more b false bs e h = rw e h

    front_plain : (bs : List ℕ) → has_byte 32 (front_of 32 bs) ≡ false
    front_plain [] = refl
    front_plain (b ∷ bs) = plain_more b (b == 32) (front_of 32 bs) refl (front_plain bs)

has_joined : (a b : List ℕ) → has_byte 32 (a ‿ b) ≡ true
has_joined [] b = refl
has_joined (x ∷ a) b = elim (x == 32) as (λ t. cond t true (has_byte 32 (a ‿ b)) ≡ true) [ true ↦ refl | false ↦ has_joined a b ]

plain_rest : (x : ℕ) (a : List ℕ) → has_byte 32 (x ∷ a) ≡ false → ((x == 32) ≡ false) × (has_byte 32 a ≡ false)
plain_rest x a h = elim (chosen (x == 32) true (has_byte 32 a) false h) [ inl p ↦ absurd (true≢false p.1) | inr p ↦ p ]

front_joined : (a b : List ℕ) → has_byte 32 a ≡ false → front_of 32 (a ‿ b) ≡ a
front_joined [] b h = refl
front_joined (x ∷ a) b h = let p = plain_rest x a h in rw p.0 (ap (λ (y : List ℕ). x ∷ y) (front_joined a b p.1))

behind_joined : (a b : List ℕ) → has_byte 32 a ≡ false → behind_of 32 (a ‿ b) ≡ b
behind_joined [] b h = refl
behind_joined (x ∷ a) b h = let p = plain_rest x a h in rw p.0 (behind_joined a b p.1)

pub cut_again : (a b : List ℕ) → has_byte 32 a ≡ false → cut (a ‿ b) ≡ Some (a, b)
cut_again a b h = rw (has_joined a b) (λ i. Some (front_joined a b h i, behind_joined a b h i))

-- ---- numbers

digits_plain : (ds : List ℕ) → all_digits ds ≡ true → has_byte 32 ds ≡ false
digits_plain [] h = refl
digits_plain (d ∷ ds) h =
    let e = both_true (is_ascii_digit d) (all_digits ds) h in
    let i : is_ascii_digit d ≡ true = e.0 in
    let t : (d == 32) ≡ false = grind (arith, nat_tests) in
    rw t (digits_plain ds e.1)

pub decimal_plain : (n : ℕ) → n < 2 ^ 64 → has_byte 32 (decimal n) ≡ false
decimal_plain n h = digits_plain (decimal n) (digits_decimal numerals n h)

within_is : (least most n m : ℕ) → within least most n ≡ Some m → (n ≡ m) × (least ≤ m) × (m ≤ most)
within_is least most n m e = elim (chosen (nat_le least n && nat_le n most) (Some n) None (Some m) e) [
  | inl p ↦
      (let k = both_true (nat_le least n) (nat_le n most) p.0 in
      let l : least ≤ n = grind (arith, nat_tests) in
      let h : n ≤ most = grind (arith, nat_tests) in
      let s : n ≡ m = some_same p.1 in
      (s, omega arith, omega arith))
  | inr p ↦ absurd (none_some p.1)
]

pub count_is : (least most : ℕ) (bs : List ℕ) (n : ℕ) → count_within least most bs ≡ Some n → (bs ≡ decimal n) × (least ≤ n) × (n ≤ most)
count_is least most bs n e =
    let b = bind_some (strict_count_of bs) (within least most) n e in
    let w = within_is least most b.x n b.next in
    (strict_count-spelled bs b.x b.first ∙ ap decimal w.0, w.1, w.2)

pub count_again : (least most n : ℕ) → least ≤ n → n ≤ most → n < 2 ^ 64 → count_within least most (decimal n) ≡ Some n
count_again least most n l h s =
    let a : nat_le least n ≡ true = grind (arith, nat_tests) in
    let b : nat_le n most ≡ true = grind (arith, nat_tests) in
    rw (strict_count-decimal n s, a, b) refl

pub two_is : (ma mb : ℕ) (bs : List ℕ) (p : ℕ × ℕ) → two_of ma mb bs ≡ Some p → (bs ≡ decimal p.0 ‿ decimal p.1) × (p.0 ≤ ma) × (p.1 ≤ mb)
two_is ma mb bs p e =
    let c = bind_some (cut bs) (λ (parts : List ℕ × List ℕ). count_within 0 ma parts.0 >>= (λ (a : ℕ). count_within 0 mb parts.1 >>= (λ (b : ℕ). Some (a, b)))) p e in
    let a = bind_some (count_within 0 ma c.x.0) (λ (a : ℕ). count_within 0 mb c.x.1 >>= (λ (b : ℕ). Some (a, b))) p c.next in
    let b = bind_some (count_within 0 mb c.x.1) (λ (b : ℕ). Some (a.x, b)) p a.next in
    let s : (a.x, b.x) ≡ p = some_same b.next in
    let ia = count_is 0 ma c.x.0 a.x a.first in
    let ib = count_is 0 mb c.x.1 b.x b.first in
    subst (λ (q : ℕ × ℕ). (bs ≡ decimal q.0 ‿ decimal q.1) × (q.0 ≤ ma) × (q.1 ≤ mb)) s (cut_is bs c.x c.first ∙ (λ i. ia.0 i ‿ ib.0 i), ia.2, ib.2)

pub two_again : (ma mb a b : ℕ) → ma < 2 ^ 64 → mb < 2 ^ 64 → a ≤ ma → b ≤ mb → two_of ma mb (decimal a ‿ decimal b) ≡ Some (a, b)
two_again ma mb a b sa sb la lb =
    rw (cut_again (decimal a) (decimal b) (decimal_plain a (omega arith)), count_again 0 ma a (omega arith) la (omega arith), count_again 0 mb b (omega arith) lb (omega arith)) refl

pub three_is : (ma mb mc : ℕ) (bs : List ℕ) (p : ℕ × ℕ × ℕ) → three_of ma mb mc bs ≡ Some p → (bs ≡ decimal p.0 ‿ (decimal p.1 ‿ decimal p.2)) × (p.0 ≤ ma) × (p.1 ≤ mb) × (p.2 ≤ mc)
three_is ma mb mc bs p e =
    let c = bind_some (cut bs) (λ (parts : List ℕ × List ℕ). count_within 0 ma parts.0 >>= (λ (a : ℕ). two_of mb mc parts.1 >>= (λ (bc : ℕ × ℕ). Some (a, bc.0, bc.1)))) p e in
    let a = bind_some (count_within 0 ma c.x.0) (λ (a : ℕ). two_of mb mc c.x.1 >>= (λ (bc : ℕ × ℕ). Some (a, bc.0, bc.1))) p c.next in
    let b = bind_some (two_of mb mc c.x.1) (λ (bc : ℕ × ℕ). Some (a.x, bc.0, bc.1)) p a.next in
    let s : (a.x, b.x.0, b.x.1) ≡ p = some_same b.next in
    let ia = count_is 0 ma c.x.0 a.x a.first in
    let ib = two_is mb mc c.x.1 b.x b.first in
    subst (λ (q : ℕ × ℕ × ℕ). (bs ≡ decimal q.0 ‿ (decimal q.1 ‿ decimal q.2)) × (q.0 ≤ ma) × (q.1 ≤ mb) × (q.2 ≤ mc)) s (cut_is bs c.x c.first ∙ (λ i. ia.0 i ‿ ib.0 i), ia.2, ib.1, ib.2)

pub three_again : (ma mb mc a b c : ℕ) → ma < 2 ^ 64 → mb < 2 ^ 64 → mc < 2 ^ 64 → a ≤ ma → b ≤ mb → c ≤ mc → three_of ma mb mc (decimal a ‿ (decimal b ‿ decimal c)) ≡ Some (a, b, c)
three_again ma mb mc a b c sa sb sc la lb lc =
    rw (cut_again (decimal a) (decimal b ‿ decimal c) (decimal_plain a (omega arith)), count_again 0 ma a (omega arith) la (omega arith), two_again mb mc b c sb sc lb lc) refl
