-- What stands in front of the tuples of a line, one item after the other.
use Rattle.std.proofs.Common.{◌≡◌, ℕ, zero, suc, ◌+◌, ◌<◌, ◌≤◌, ◌^◌, ◌||◌, ◌&&◌, Bool, true, false, nat_eq, bit_or, List, [], ◌∷◌, ◌++◌, length, get_or, slice_get, Some, set, take, drop, append-nil, Contains, All, replicate, refl, sym, ap, ap₂, subst, ◌∙◌, arith, ◌⊎◌, inl, inr, if◌then◌else◌}
use Rattle.std.specs.List.{IsDistinct}
use Rattle.std.proofs.Math.Seq.{split_at}
use Rattle.std.proofs.lemmas.Bool.{cases_eq, eq-eqb, ne_eqb}
use Rattle.std.proofs.lemmas.Bool.Decides.{nat_tests}
use Rattle.std.proofs.lemmas.List.{take_more, length-set}
use Rattle.std.proofs.lemmas.List.Elements.{All-take, Contains-append_cases}
use Rattle.bm_base.specs.Mask.{has_bit}
use Rattle.bm_base.proofs.MaskBits.{has_bit-or}
use Rattle.line_model.specs.declared.line.Item.{Item}
use Rattle.line_model.specs.declared.line.Item.TheVariants.{Run, Bar}
use Rattle.line_model.specs.declared.line.StreamItem.TheVariants.{Do}
use Rattle.line_model.specs.Streams.{stream}
use Rattle.line_model.proofs.LineFacts.{item_front}
use Rattle.time_interval.specs.Lines.{IsItem, tuples}
use Rattle.time_interval.specs.Seen.{seen_of_members, past_run_seen, past_bar_seen, seen_along, stands_on}
use Rattle.time_interval.specs.Sets.{set_at, seen_by}
use Rattle.time_interval.proofs.NextFacts.{tuples-append}
use Rattle.time_interval.proofs.Once.{stand_once}
use Rattle.time_interval.proofs.SetFacts.{seen_none, put_at, run_seen}
use Rattle.compiled_image.specs.Fronts.{IsFrontOf}

-- ---- one item more
seen_run : (n : ℕ) (s : ℕ → ℕ → Bool) (xs : List Item) (q t : ℕ) → seen_along n s (xs ++ Run q t ∷ []) ≡ past_run_seen q t (seen_along n s xs)
seen_run n s [] q t = refl
seen_run n s (Run r u ∷ xs) q t = seen_run n (past_run_seen r u s) xs q t
seen_run n s (Bar m ∷ xs) q t = seen_run n (past_bar_seen n m s) xs q t

seen_bar : (n : ℕ) (s : ℕ → ℕ → Bool) (xs : List Item) (m : ℕ) → seen_along n s (xs ++ Bar m ∷ []) ≡ past_bar_seen n m (seen_along n s xs)
seen_bar n s [] m = refl
seen_bar n s (Run r u ∷ xs) m = seen_bar n (past_run_seen r u s) xs m
seen_bar n s (Bar o ∷ xs) m = seen_bar n (past_bar_seen n o s) xs m

stands_run : (xs : List Item) (q t p g : ℕ) → stands_on (xs ++ Run q t ∷ []) p g ≡ past_run_seen q t (stands_on xs) p g
stands_run [] q t p g = go (nat_eq q p) (nat_eq t g) (nat_eq g t) (turned t g)
  where
    turned : (a b : ℕ) → nat_eq a b ≡ nat_eq b a
    turned a b = grind (arith, nat_tests)

    go : (x y z : Bool) → y ≡ z → ((x && y) || false) ≡ (if x then z || false else false)
    go true true z e = ap (λ b. b || false) e
    go true false z e = ap (λ b. b || false) e
    go false y z e = refl
stands_run (Run r u ∷ xs) q t p g = ap (λ b. (nat_eq r p && nat_eq u g) || b) (stands_run xs q t p g) ∙ go (nat_eq r p && nat_eq u g) (nat_eq q p) (nat_eq g t) (stands_on xs p g)
  where
    go : (a b c d : Bool) → (a || (if b then c || d else d)) ≡ (if b then c || (a || d) else a || d)
    go true true true d = refl
    go true true false d = refl
    go true false c d = refl
    go false true c d = refl
    go false false c d = refl
stands_run (Bar m ∷ xs) q t p g = stands_run xs q t p g

stands_bar : (xs : List Item) (m p g : ℕ) → stands_on (xs ++ Bar m ∷ []) p g ≡ stands_on xs p g
stands_bar [] m p g = refl
stands_bar (Run r u ∷ xs) m p g = ap (λ b. (nat_eq r p && nat_eq u g) || b) (stands_bar xs m p g)
stands_bar (Bar o ∷ xs) m p g = stands_bar xs m p g

-- ---- the tables behind the first k items of a line
pub record AreFronts (P : ℕ) (items : List Item) (k : ℕ) (on seen ons seens : List ℕ) : Type 0 where
  pub on_is : (p g : ℕ) → seen_by on p g ≡ stands_on (take k items) p g
  pub seen_is : seen_by seen ≡ seen_along P (λ p g. false) (take k items)
  pub fronts : (t : ℕ) → Contains (tuples (take k items)) t → IsFrontOf P items t (set_at ons t) (set_at seens t)
  pub long_on : length on ≡ 128
  pub long_seen : length seen ≡ 128
  pub long_ons : length ons ≡ 128
  pub long_seens : length seens ≡ 128

pub at_first : (P : ℕ) (items : List Item) → AreFronts P items 0 (replicate 128 0) (replicate 128 0) (replicate 128 0) (replicate 128 0)
at_first P items = record {
  on_is = λ p g. ap (λ h. h p g) (seen_none 128);
  seen_is = seen_none 128;
  fronts = λ t c. absurd (omega (arith, c.1));
  long_on = refl;
  long_seen = refl;
  long_ons = refl;
  long_seens = refl;
}

module _ (P : ℕ) (items : List Item) (k : ℕ) (on seen ons seens : List ℕ) (l : k < length items) (h : AreFronts P items k on seen ons seens) where
  -- the front of the tuple that comes now
  now_front : (q t : ℕ) → All (IsItem 128 P) items → IsDistinct nat_eq (tuples items) → get_or items k (Run q t) ≡ Run q t → IsFrontOf P items t (set_at on q) (set_at seen q)
  now_front q t all once e =
      let s : items ≡ take k items ++ Run q t ∷ drop (suc k) items = split_at items k (Run q t) l ∙ ap (λ y. take k items ++ y ∷ drop (suc k) items) e in
      record {
        front = take k items;
        p = q;
        behind = record {
          back = drop (suc k) items;
          split = s;
          once = λ r j at. stand_once items t r j q (length (stream q (take k items))) once at.item (subst (λ xs. slice_get (stream q xs) (length (stream q (take k items))) ≡ Some (Do t)) (sym s) (item_front (take k items) q t (drop (suc k) items)));
        };
        items = All-take (IsItem 128 P) k items all;
        on_is = λ g. h.on_is q g;
        seen_is = λ g. ap (λ f. f q g) h.seen_is;
      }

  pub past_run : (q t y z : ℕ) → All (IsItem 128 P) items → IsDistinct nat_eq (tuples items) → get_or items k (Run q t) ≡ Run q t → P ≤ 128
      → y ≡ bit_or (set_at on q) (2 ^ t) → z ≡ bit_or (set_at seen q) (2 ^ t) → AreFronts P items (k + 1) (set on q y) (set seen q z) (set ons t (set_at on q)) (set seens t (set_at seen q))
  past_run q t y z all once e few ye ze =
      let m : take (k + 1) items ≡ take k items ++ Run q t ∷ [] = take_more items k (Run q t) l ∙ ap (λ x. take k items ++ x ∷ []) e in
      record {
        long_on = length-set on q y ∙ h.long_on;
        long_seen = length-set seen q z ∙ h.long_seen;
        long_ons = length-set ons t (set_at on q) ∙ h.long_ons;
        long_seens = length-set seens t (set_at seen q) ∙ h.long_seens;
        on_is = λ p g. ap (λ f. f p g) (run_seen on q t y la ye) ∙ same p g (nat_eq q p) ∙ sym (stands_run (take k items) q t p g) ∙ ap (λ xs. stands_on xs p g) (sym m);
        seen_is = run_seen seen q t z lb ze ∙ ap (past_run_seen q t) h.seen_is ∙ sym (seen_run P (λ p g. false) (take k items) q t) ∙ ap (seen_along P (λ p g. false)) (sym m);
        fronts = λ u c. go u (cases_eq t u) (subst (λ xs. Contains (tuples xs) u) m c);
      }
    where
      fits : (q < P) × (t < 128)
      fits = subst (IsItem 128 P) e (all k (Run q t) l)

      la : q < length on
      la = let f = fits in let j = h.long_on in omega (arith, few)

      lb : q < length seen
      lb = let f = fits in let j = h.long_seen in omega (arith, few)

      lc : t < length ons
      lc = let f = fits in let j = h.long_ons in omega arith

      ld : t < length seens
      ld = let f = fits in let j = h.long_seens in omega arith

      same : (p g : ℕ) (b : Bool) → (if b then nat_eq g t || seen_by on p g else seen_by on p g) ≡ (if b then nat_eq g t || stands_on (take k items) p g else stands_on (take k items) p g)
      same p g true = ap (λ x. nat_eq g t || x) (h.on_is p g)
      same p g false = h.on_is p g

      there : (u : ℕ) (a b : List ℕ) → Contains (tuples (take k items) ++ t ∷ []) u → (t ≡ u → ⊥) → Contains (tuples (take k items)) u
      there u a b c ne = elim (Contains-append_cases (tuples (take k items)) (t ∷ []) u c) [ inl d ↦ d | inr d ↦ absurd (last d) ]
        where
          last : Contains (t ∷ []) u → ⊥
          last (zero, within, at) = ne at
          last (suc j, within, at) = absurd (omega arith)

      go : (u : ℕ) → (t ≡ u) ⊎ (t ≡ u → ⊥) → Contains (tuples (take k items ++ Run q t ∷ [])) u → IsFrontOf P items u (set_at (set ons t (set_at on q)) u) (set_at (set seens t (set_at seen q)) u)
      go u (inl same_t) c =
          subst (λ v. IsFrontOf P items v (set_at (set ons t (set_at on q)) v) (set_at (set seens t (set_at seen q)) v)) same_t
          (rw (put_at ons t t (set_at on q) lc, put_at seens t t (set_at seen q) ld, eq-eqb t t refl) (now_front q t all once e))
      go u (inr ne) c =
          rw (put_at ons t u (set_at on q) lc, put_at seens t u (set_at seen q) ld, ne_eqb t u ne)
          (h.fronts u (there u [] [] (subst (λ us. Contains us u) (tuples-append (take k items) (Run q t ∷ [])) c) ne))

  pub past_bar : (m : ℕ) (news : List ℕ) → get_or items k (Bar m) ≡ Bar m → length news ≡ 128 → seen_by news ≡ past_bar_seen P m (seen_by seen) → AreFronts P items (k + 1) on news ons seens
  past_bar m news e long f =
      let n : take (k + 1) items ≡ take k items ++ Bar m ∷ [] = take_more items k (Bar m) l ∙ ap (λ x. take k items ++ x ∷ []) e in
      record {
        long_on = h.long_on;
        long_seen = long;
        long_ons = h.long_ons;
        long_seens = h.long_seens;
        on_is = λ p g. h.on_is p g ∙ sym (stands_bar (take k items) m p g) ∙ ap (λ xs. stands_on xs p g) (sym n);
        seen_is = f ∙ ap (past_bar_seen P m) h.seen_is ∙ sym (seen_bar P (λ p g. false) (take k items) m) ∙ ap (seen_along P (λ p g. false)) (sym n);
        fronts = λ t c. h.fronts t (subst (λ us. Contains us t) (tuples-append (take k items) (Bar m ∷ []) ∙ append-nil (tuples (take k items))) (subst (λ xs. Contains (tuples xs) t) n c));
      }
