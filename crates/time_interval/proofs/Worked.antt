-- The worked line is a line.
use Rattle.std.proofs.Common.{◌≡◌, ℕ, ◌^◌, ◌<◌, ◌≤◌, true, nat_eq, List, [], ◌∷◌, refl, sym, ap, ◌∙◌, arith, ◌⊎◌, inl, inr, true≢false, Contains, All, length}
use Rattle.std.proofs.lemmas.Bool.{cases_lt}
use Rattle.std.proofs.lemmas.Cmp.{nat_eq_equiv}
use Rattle.std.proofs.lemmas.List.Elements.{All-cons, All-nil}
use Rattle.std.proofs.lemmas.Map.Made.{IsDistinct-from_count}
use Rattle.std.proofs.lemmas.Nat.Bits.{bit_at_above}
use Rattle.bm_base.specs.Mask.{has_bit}
use Rattle.line_model.specs.declared.line.Item.{Item}
use Rattle.line_model.specs.declared.line.Item.TheVariants.{Run, Bar}
use Rattle.line_model.specs.Streams.{masks}
use Rattle.time_interval.specs.Examples.{divided, divided_merged}
use Rattle.time_interval.specs.Lines.{IsItem, IsLine, tuples}

-- a mask below 2 ^ k has members below k alone
below : (m k : ℕ) → m < 2 ^ k → (p : ℕ) → has_bit m p ≡ true → p < k
below m k h p e = go (cases_lt p k)
  where
    go : (p < k) ⊎ (k ≤ p) → p < k
    go (inl l) = l
    go (inr l) = absurd (true≢false (sym e ∙ ap (λ n. nat_eq n 1) (bit_at_above m k p h l)))

-- each item of a list, one after the other
abbrev AreItems : List Item → Type 0
AreItems [] = Unit {0}
AreItems (x ∷ items) = IsItem 9 5 x × AreItems items

all_items : (items : List Item) → AreItems items → All (IsItem 9 5) items
all_items [] h = All-nil (IsItem 9 5)
all_items (x ∷ items) h = All-cons (IsItem 9 5) x items h.0 (all_items items h.1)

run : (q t : ℕ) → q < 5 → t < 9 → IsItem 9 5 (Run q t)
run q t lq lt = (lq, lt)

bar : (m p : ℕ) → has_bit m p ≡ true → m < 32 → IsItem 9 5 (Bar m)
bar m p e l = ((p, e), below m 5 (omega arith))

pub divided_is_line : IsLine 9 5 divided
divided_is_line = record {
  items = all_items divided (run 0 0 (omega arith) (omega arith), (run 1 1 (omega arith) (omega arith), (run 2 2 (omega arith) (omega arith), (run 2 3 (omega arith) (omega arith), (run 4 4 (omega arith) (omega arith), (run 4 5 (omega arith) (omega arith), (bar 3 0 refl (omega arith), (run 0 6 (omega arith) (omega arith), (bar 12 2 refl (omega arith), (run 3 7 (omega arith) (omega arith), (run 4 8 (omega arith) (omega arith), tt)))))))))));
  once = IsDistinct-from_count nat_eq_equiv (tuples divided) refl;
  few = (let e : length (masks divided) ≡ 2 = refl in omega arith);
}

pub has_6 : Contains (tuples divided) 6
has_6 = (6, omega arith, refl)

pub has_8 : Contains (tuples divided) 8
has_8 = (8, omega arith, refl)

pub merged_has_6 : Contains (tuples divided_merged) 6
merged_has_6 = (6, omega arith, refl)
