-- What is shown of a program on a machine, from what is told of it.
use Rattle.std.proofs.Common.{◌≡◌, List, [], ◌∷◌, map, refl, ap, ap₂}
use Rattle.bm_base.specs.Machine.{Machine}
use Rattle.tuple_ir.specs.declared.block.Block.{Block}
use Rattle.line_model.specs.declared.line.Item.{Item}
use Rattle.time_interval.specs.declared.reference.Reason.{Reason}
use Rattle.time_interval.specs.Bounds.{Pace, pace_on}
use Rattle.compiled_image.specs.Reasons.{Pair, pairs_of, AreReasons}
use Rattle.compiled_image.specs.Summarised.{Told, AreTold}
use Rattle.show_text.specs.declared.shown.ShownPair.{ShownPair}
use Rattle.show_text.specs.declared.shown.ShownBlock.{ShownBlock}
use Rattle.show_text.specs.Shown.{IsShown, AreShown, ArePairs, pair_of, shown_item}

abbrev with_reason : Pair → Reason → ShownPair
with_reason x reason = record { a = x.earlier; b = x.later; reason = reason }

abbrev with_reasons : List Pair → List Reason → List ShownPair
with_reasons [] reasons = []
with_reasons (x ∷ pairs) [] = []
with_reasons (x ∷ pairs) (reason ∷ reasons) = with_reason x reason ∷ with_reasons pairs reasons

are_pairs : (pace : Pace) (line : List Item) (pairs : List Pair) (reasons : List Reason) → AreReasons pace line pairs reasons → ArePairs pace line pairs (with_reasons pairs reasons)
are_pairs pace line [] [] h = record { pairs_are = refl; reasons = tt }
are_pairs pace line [] (r ∷ rs) h = absurd h
are_pairs pace line (x ∷ xs) [] h = absurd h
are_pairs pace line (x ∷ xs) (r ∷ rs) h =
    let k = are_pairs pace line xs rs h.1 in
    record { pairs_are = ap₂ (λ (y : Pair) (ys : List Pair). y ∷ ys) (same x) k.pairs_are; reasons = (h.0, k.reasons) }
  where
    same : (x : Pair) → pair_of (with_reason x r) ≡ x
    same x = refl

pub shown_of : (machine : Machine) (blocks : List Block) (told : List Told) → AreTold machine blocks told → (shown : List ShownBlock) × AreShown machine blocks shown
shown_of machine [] [] h = ([], tt)
shown_of machine [] (t ∷ told) h = absurd h
shown_of machine (b ∷ blocks) [] h = absurd h
shown_of machine (b ∷ blocks) (t ∷ told) h =
    let k = shown_of machine blocks told h.1 in
    let pairs : List ShownPair = with_reasons (pairs_of b.tuples) t.reasons in
    let one : ShownBlock = record { items = map (shown_item t.plan) t.plan.line.items; pairs = pairs; next = b.next } in
    let is : IsShown machine b one = record {
      plan = t.plan;
      planned = h.0.planned;
      items = refl;
      pairs = are_pairs (pace_on machine b.tuples) t.plan.line.items (pairs_of b.tuples) t.reasons h.0.reasons;
      next = refl;
    } in
    (one ∷ k.0, (is, k.1))
