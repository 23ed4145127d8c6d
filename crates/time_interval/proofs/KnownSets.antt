-- Sets of Bars.
use Rattle.std.proofs.Common.{◌≡◌, ℕ, suc, ◌+◌, ◌^◌, Bool, true, false, nat_eq, ◌==◌, ◌&&◌, ◌||◌, List, replicate, bit_and, bit_or, refl, sym, ap, ◌∙◌, if◌then◌else◌, add-one}
use Rattle.bm_base.specs.Mask.{has_bit}
use Rattle.bm_base.proofs.MaskBits.{has_bit-none, has_bit-and, has_bit-insert}
use Rattle.time_interval.specs.Knows.{Knows, all_know, past_bar_knows, knows_nothing}
use Rattle.time_interval.specs.Members.{IsNextBelow}
use Rattle.time_interval.specs.Sets.{set_at, seen_by}
use Rattle.time_interval.proofs.MemberFacts.{first_is, next_is}
use Rattle.time_interval.proofs.SetFacts.{seen_none}

pub knows_none : ◌≡◌ {A = Knows} (record { bars = 0; fired = has_bit 0; up = seen_by (replicate 128 0) }) knows_nothing
knows_none = λ i. record { bars = 0; fired = λ r. has_bit-none r i; up = seen_none 128 i }

-- the Bars that all members know
all_step : (m fired : ℕ) (ups : List ℕ) (r n : ℕ) → has_bit m n ≡ false → all_know (suc n) m (has_bit fired) (seen_by ups) r ≡ all_know n m (has_bit fired) (seen_by ups) r
all_step m fired ups r n h = ap (λ b. if b then all_know n m (has_bit fired) (seen_by ups) r && seen_by ups n r else all_know n m (has_bit fired) (seen_by ups) r) h

pub all_first : (m fired : ℕ) (ups : List ℕ) (end p : ℕ) → IsNextBelow m 0 end p → (r : ℕ) → has_bit fired r ≡ all_know p m (has_bit fired) (seen_by ups) r
all_first m fired ups end p h r = sym (first_is (λ n. all_know n m (has_bit fired) (seen_by ups) r) m (all_step m fired ups r) end p h)

pub all_next : (m fired : ℕ) (ups : List ℕ) (end n p u : ℕ) → IsNextBelow m (n + 1) end p → has_bit m n ≡ true → ((r : ℕ) → has_bit u r ≡ all_know n m (has_bit fired) (seen_by ups) r) → (r : ℕ) → has_bit (bit_and u (set_at ups n)) r ≡ all_know p m (has_bit fired) (seen_by ups) r
all_next m fired ups end n p u h e s r =
    has_bit-and u (set_at ups n) r ∙ ap (λ x. x && seen_by ups n r) (s r) ∙ ap (λ b. if b then all_know n m (has_bit fired) (seen_by ups) r && seen_by ups n r else all_know n m (has_bit fired) (seen_by ups) r) (sym e) ∙ sym (next_is (λ k. all_know k m (has_bit fired) (seen_by ups) r) m (all_step m fired ups r) end n p h)

or_comm : (a b : Bool) → (a || b) ≡ (b || a)
or_comm true true = refl
or_comm true false = refl
or_comm false true = refl
or_comm false false = refl

pub bar_knows : (n m bars fired : ℕ) (ups news : List ℕ) (u all : ℕ) → ((r : ℕ) → has_bit u r ≡ all_know n m (has_bit fired) (seen_by ups) r) → all ≡ bit_or u (2 ^ bars) → ((q : ℕ) → set_at news q ≡ (if has_bit m q then all else set_at ups q)) → ◌≡◌ {A = Knows} (record { bars = bars + 1; fired = has_bit all; up = seen_by news }) (past_bar_knows n m (record { bars = bars; fired = has_bit fired; up = seen_by ups }))
bar_knows n m bars fired ups news u all e f g = λ i. record { bars = add-one bars i; fired = λ r. whole r i; up = λ p r. each p r i }
  where
    whole : (r : ℕ) → has_bit all r ≡ (nat_eq r bars || all_know n m (has_bit fired) (seen_by ups) r)
    whole r = ap (λ x. has_bit x r) f ∙ has_bit-insert u bars r ∙ or_comm (has_bit u r) (r == bars) ∙ ap (λ x. nat_eq r bars || x) (e r)

    each : (p r : ℕ) → seen_by news p r ≡ (if has_bit m p then nat_eq r bars || all_know n m (has_bit fired) (seen_by ups) r else seen_by ups p r)
    each p r = ap (λ s. has_bit s r) (g p) ∙ go (has_bit m p)
      where
        go : (b : Bool) → has_bit (if b then all else set_at ups p) r ≡ (if b then nat_eq r bars || all_know n m (has_bit fired) (seen_by ups) r else seen_by ups p r)
        go true = whole r
        go false = refl
