-- The search for a turn.
use Rattle.std.proofs.Common.{◌≡◌, ℕ, zero, suc, ◌<◌, ◌≤◌, Bool, false, List, [], ◌∷◌, length, slice_index_or, refl, sym, ap, ◌∙◌, arith, subst, Contains, Option, Some, None, is_some, not, MatchOption, true≢false}
use Rattle.tuple_ir.specs.declared.tuple.Tuple.{Tuple}
use Rattle.dependence.specs.Producers.{producers_of, in_conflict}
use Rattle.dependence.proofs.Kept.{kept_from}
use Rattle.dependence.proofs.Rows.{row_at, as_many}
use Rattle.line_model.specs.declared.line.Item.{Item}
use Rattle.line_model.specs.Streams.{masks}
use Rattle.time_interval.specs.declared.edit.Edit.{Edit}
use Rattle.time_interval.specs.declared.edit.Edit.TheVariants.{Remove, Merge}
use Rattle.time_interval.specs.declared.reference.Reason.{Reason}
use Rattle.time_interval.specs.Bounds.{Pace}
use Rattle.time_interval.specs.Edits.{edited}
use Rattle.time_interval.specs.Lines.{tuples}
use Rattle.time_interval.specs.Ordered.{IsOrdered, IsReason, AreBehind}
use Rattle.time_interval.proofs.OrderFacts.{ordered_of}
use Rattle.mask_merge.specs.declared.turns.Kind.{Kind}
use Rattle.mask_merge.specs.declared.turns.Kind.TheVariants.{Removal, Merging}
use Rattle.mask_merge.specs.Reduced.{IsAdmissible, NoneAdmissible, IsTurn, IsIrreducible}
use Rattle.mask_merge.specs.Search.{edit_of, AllStand, IsOnTurn}
use Rattle.mask_merge.proofs.Edited.{edited_tuples}
use Rattle.mask_merge.proofs.LawFacts.{turn_admissible}

pub stand_edited : (producers : List (List ℕ)) (line : List Item) (edit : Edit) → AllStand producers line → AllStand producers (edited edit line)
stand_edited producers line edit h = record {
  each = λ i l. subst (λ us. Contains us i) (sym (edited_tuples edit line)) (h.each i l);
  theirs = λ i g l c. subst (λ us. Contains us g) (sym (edited_tuples edit line)) (h.theirs i g l c);
}

-- behind a turn there may be another one
pub on_turn_again : (pace : Pace) (producers : List (List ℕ)) (line : List Item) (in_order : Bool) (edit : Edit) → IsTurn pace producers line edit → IsOnTurn pace producers line in_order → IsOnTurn pace producers (edited edit line) in_order
on_turn_again pace producers line in_order edit t h = record {
  stand = stand_edited producers line edit h.stand;
  ordered = (turn_admissible pace producers line edit t).1;
  behind = λ e. subst (AreBehind producers []) (sym (edited_tuples edit line)) (h.behind e);
}

pub some_ordered : (pace : Pace) (line : List Item) (g i : ℕ) (r : Option Reason) (b : Bool) → is_some r ≡ not b → b ≡ false → MatchOption r (¬ IsOrdered pace line g i) (IsReason pace line g i) → IsOrdered pace line g i
some_ordered pace line g i None b e f h = absurd (true≢false (sym (e ∙ ap not f)))
some_ordered pace line g i (Some x) b e f h = ordered_of pace line g i x h

pub same_default : (xs : List ℕ) (k d e : ℕ) → k < length xs → slice_index_or xs k d ≡ slice_index_or xs k e
same_default [] k d e h = absurd (omega arith)
same_default (x ∷ xs) zero d e h = refl
same_default (x ∷ xs) (suc k) d e h = same_default xs k d e (omega arith)

-- no edit of a kind is one of the line's from a place on
pub none_left : (pace : Pace) (producers : List (List ℕ)) (line : List Item) (kind : Kind) (n : ℕ) → length (masks line) ≤ n → ((k : ℕ) → k < n → ¬ IsAdmissible pace producers line (edit_of kind k)) → NoneAdmissible pace producers line (edit_of kind)
none_left pace producers line Removal n le f k a = f k (let l : k < length (masks line) = a.0 in omega arith) a
none_left pace producers line Merging n le f k a = f k (let l : suc k < length (masks line) = a.0.0 in omega arith) a

pub none_of_both : (pace : Pace) (producers : List (List ℕ)) (line : List Item) → NoneAdmissible pace producers line (edit_of Removal) → NoneAdmissible pace producers line (edit_of Merging) → IsIrreducible pace producers line
none_of_both pace producers line n m edit = go edit
  where
    go : (e : Edit) → ¬ IsAdmissible pace producers line e
    go (Remove j) = n j
    go (Merge j) = m j

pub all_stand : (ts : List Tuple) (line : List Item) → ((t : ℕ) → t < length ts → Contains (tuples line) t) → AllStand (producers_of ts) line
all_stand ts line h = record {
  each = λ i l. h i (let n : length (producers_of ts) ≡ length ts = as_many ts in omega arith);
  theirs = λ i g l c.
      let n : length (producers_of ts) ≡ length ts = as_many ts in
      let il : i < length ts = omega arith in
      let k = kept_from (in_conflict ts i) i g (subst (λ xs. Contains xs g) (row_at ts i il) c) in
      h g (let gl : g < i = k.0 in omega arith);
}
