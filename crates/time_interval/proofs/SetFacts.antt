-- Tables of sets of tuples.
use Rattle.std.proofs.Common.{◌≡◌, ℕ, zero, suc, ◌+◌, ◌^◌, ◌<◌, Bool, true, false, nat_eq, ◌==◌, ◌&&◌, ◌||◌, List, length, set, replicate, bit_or, refl, sym, ap, ap₂, ◌∙◌, arith, if◌then◌else◌, eqb-true}
use Rattle.std.proofs.lemmas.Grind.{common_steps}
use Rattle.std.proofs.lemmas.Bool.Decides.{nat_tests}
use mathlib.Core.Path.{fun_ext}
use Rattle.bm_base.specs.Mask.{has_bit}
use Rattle.bm_base.proofs.MaskBits.{has_bit-none, has_bit-or, has_bit-insert}
use Rattle.time_interval.specs.Members.{IsNextBelow}
use Rattle.time_interval.specs.Seen.{seen_of_members, past_run_seen, past_bar_seen}
use Rattle.time_interval.specs.Sets.{set_at, seen_by}
use Rattle.time_interval.proofs.MemberFacts.{first_is, next_is}

zeros : (n p : ℕ) → set_at (replicate n 0) p ≡ 0
zeros zero p = refl
zeros (suc n) zero = refl
zeros (suc n) (suc p) = zeros n p

pub seen_none : (n : ℕ) → seen_by (replicate n 0) ≡ (λ p g. false)
seen_none n = fun_ext (λ p. fun_ext (λ g. ap (λ s. has_bit s g) (zeros n p) ∙ has_bit-none g))

-- the members' sets together
union_step : (m : ℕ) (sets : List ℕ) (g n : ℕ) → has_bit m n ≡ false → seen_of_members (suc n) m (seen_by sets) g ≡ seen_of_members n m (seen_by sets) g
union_step m sets g n h = ap (λ y. seen_of_members n m (seen_by sets) g || (y && seen_by sets n g)) h ∙ sym (or_false (seen_of_members n m (seen_by sets) g))
  where
    or_false : (b : Bool) → b ≡ (b || false)
    or_false true = refl
    or_false false = refl

pub union_first : (m : ℕ) (sets : List ℕ) (end p : ℕ) → IsNextBelow m 0 end p → (g : ℕ) → has_bit 0 g ≡ seen_of_members p m (seen_by sets) g
union_first m sets end p h g = has_bit-none g ∙ sym (first_is (λ n. seen_of_members n m (seen_by sets) g) m (union_step m sets g) end p h)

pub union_next : (m : ℕ) (sets : List ℕ) (end n p u : ℕ) → IsNextBelow m (n + 1) end p → has_bit m n ≡ true → ((g : ℕ) → has_bit u g ≡ seen_of_members n m (seen_by sets) g) → (g : ℕ) → has_bit (bit_or u (set_at sets n)) g ≡ seen_of_members p m (seen_by sets) g
union_next m sets end n p u h e s g =
    has_bit-or u (set_at sets n) g ∙ ap₂ (λ x y. x || (y && seen_by sets n g)) (s g) (sym e) ∙ sym (next_is (λ k. seen_of_members k m (seen_by sets) g) m (union_step m sets g) end n p h)

pub put_at : (sets : List ℕ) (q p y : ℕ) → q < length sets → set_at (set sets q y) p ≡ (if nat_eq q p then y else set_at sets p)
put_at sets q p y h = grind (arith, common_steps, nat_tests)

or_comm : (a b : Bool) → (a || b) ≡ (b || a)
or_comm true true = refl
or_comm true false = refl
or_comm false true = refl
or_comm false false = refl

pub run_seen : (sets : List ℕ) (q t y : ℕ) → q < length sets → y ≡ bit_or (set_at sets q) (2 ^ t) → seen_by (set sets q y) ≡ past_run_seen q t (seen_by sets)
run_seen sets q t y h e = fun_ext (λ p. fun_ext (λ g. ap (λ s. has_bit s g) (put_at sets q p y h) ∙ go p g (nat_eq q p) refl))
  where
    go : (p g : ℕ) (b : Bool) → nat_eq q p ≡ b → has_bit (if b then y else set_at sets p) g ≡ (if b then nat_eq g t || seen_by sets p g else seen_by sets p g)
    go p g true f = ap (λ s. has_bit s g) e ∙ has_bit-insert (set_at sets q) t g ∙ or_comm (has_bit (set_at sets q) g) (g == t) ∙ ap (λ r. nat_eq g t || seen_by sets r g) (eqb-true q p f)
    go p g false f = refl

pub bar_seen : (n m : ℕ) (sets news : List ℕ) (u : ℕ) → ((g : ℕ) → has_bit u g ≡ seen_of_members n m (seen_by sets) g) → ((q : ℕ) → set_at news q ≡ (if has_bit m q then u else set_at sets q)) → seen_by news ≡ past_bar_seen n m (seen_by sets)
bar_seen n m sets news u e f = fun_ext (λ p. fun_ext (λ g. ap (λ s. has_bit s g) (f p) ∙ go p g (has_bit m p)))
  where
    go : (p g : ℕ) (b : Bool) → has_bit (if b then u else set_at sets p) g ≡ (if b then seen_of_members n m (seen_by sets) g else seen_by sets p g)
    go p g true = e g
    go p g false = refl
