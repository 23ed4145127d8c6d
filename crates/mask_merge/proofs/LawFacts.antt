-- Laws of reduced lines.
use Rattle.std.proofs.Common.{◌≡◌, ℕ, zero, suc, ◌<◌, ◌≤◌, List, length, refl, sym, ap, arith, inl, inr, subst, Contains}
use Rattle.std.proofs.lemmas.Bool.{cases_lt}
use Rattle.line_model.specs.declared.line.Item.{Item}
use Rattle.line_model.specs.Streams.{masks}
use Rattle.time_interval.specs.declared.edit.Edit.{Edit}
use Rattle.time_interval.specs.declared.edit.Edit.TheVariants.{Remove, Merge}
use Rattle.time_interval.specs.Bounds.{Pace}
use Rattle.time_interval.specs.Edits.{edited}
use Rattle.time_interval.specs.Lines.{IsLine, tuples}
use Rattle.time_interval.proofs.EditFacts.{edited_line}
use Rattle.mask_merge.specs.Reduced.{IsAdmissible, IsFirst, IsTurn, IsReduced}
use Rattle.mask_merge.specs.Reduced.IsTurn.{removal, merge}
use Rattle.mask_merge.specs.Reduced.IsReduced.{done, turn}
use Rattle.mask_merge.specs.Laws.{TheReducedLineIsOne, EachLineHasAReducedLine, ReducedLinesAreIrreducible, ReductionKeepsOrder, EachTurnLeavesOneBarFewer, ReductionKeepsTuples, ReductionKeepsLines}
use Rattle.mask_merge.proofs.Edited.{edited_tuples, same_tuples, edit_keeps_tuples, edited_one}
use Rattle.mask_merge.proofs.Decided.{turn_or_none}

-- a turn is admissible
pub turn_admissible : (pace : Pace) (producers : List (List ℕ)) (line : List Item) (edit : Edit) → IsTurn pace producers line edit → IsAdmissible pace producers line edit
turn_admissible pace producers line _ (removal j f) = f.admissible
turn_admissible pace producers line _ (merge j n f) = f.admissible

-- ---- one

one_first : (pace : Pace) (producers : List (List ℕ)) (line : List Item) (kind : ℕ → Edit) (i j : ℕ) → IsFirst pace producers line kind i → IsFirst pace producers line kind j → i ≡ j
one_first pace producers line kind i j f g = elim (cases_lt i j) [
  | inl l ↦ absurd (g.earlier i l f.admissible)
  | inr l ↦ elim (cases_lt j i) [ inl m ↦ absurd (f.earlier j m g.admissible) | inr m ↦ omega arith ]
]

one_turn : (pace : Pace) (producers : List (List ℕ)) (line : List Item) (edit other : Edit) → IsTurn pace producers line edit → IsTurn pace producers line other → edit ≡ other
one_turn pace producers line _ _ (removal i f) (removal j g) = ap Remove (one_first pace producers line Remove i j f g)
one_turn pace producers line _ _ (removal i f) (merge j n g) = absurd (n i f.admissible)
one_turn pace producers line _ _ (merge i n f) (removal j g) = absurd (n j g.admissible)
one_turn pace producers line _ _ (merge i n f) (merge j m g) = ap Merge (one_first pace producers line Merge i j f g)

pub one : TheReducedLineIsOne
one pace producers line _ _ (done i) (done j) = refl
one pace producers line _ other (done i) (turn edit t r) = absurd (i edit (turn_admissible pace producers line edit t))
one pace producers line result _ (turn edit t r) (done i) = absurd (i edit (turn_admissible pace producers line edit t))
one pace producers line result other (turn edit t r) (turn edit2 u s) =
    one pace producers (edited edit line) result other r (subst (λ e. IsReduced pace producers (edited e line) other) (sym (one_turn pace producers line edit edit2 t u)) s)

pub irreducible : ReducedLinesAreIrreducible
irreducible pace producers line _ (done i) = i
irreducible pace producers line result (turn edit t r) = irreducible pace producers (edited edit line) result r

pub ordered : ReductionKeepsOrder
ordered pace producers line _ h (done i) = h
ordered pace producers line result h (turn edit t r) = ordered pace producers (edited edit line) result (turn_admissible pace producers line edit t).1 r

pub fewer : EachTurnLeavesOneBarFewer
fewer pace producers line edit t = edited_one edit line (turn_admissible pace producers line edit t).0

pub keeps_tuples : ReductionKeepsTuples
keeps_tuples pace producers line _ (done i) = same_tuples line
keeps_tuples pace producers line result (turn edit t r) = edit_keeps_tuples edit line result (keeps_tuples pace producers (edited edit line) result r)

pub keeps_lines : ReductionKeepsLines
keeps_lines pace producers line _ count processors h (done i) = h
keeps_lines pace producers line result count processors h (turn edit t r) = keeps_lines pace producers (edited edit line) result count processors (edited_line count processors line edit (turn_admissible pace producers line edit t).0 h) r

-- ---- there is one

-- n is no less than the number of Bars
within : (pace : Pace) (producers : List (List ℕ)) (n : ℕ) (line : List Item) (count : ℕ) → length (masks line) ≤ n → IsLine count pace.processors line → ((i : ℕ) → i < length producers → Contains (tuples line) i) → (result : List Item) × IsReduced pace producers line result
within pace producers zero line count m is stand = elim (turn_or_none pace producers line count is stand) [
  | inr i ↦ (line, done i)
  | inl (edit, t) ↦ absurd (let e : suc (length (masks (edited edit line))) ≡ length (masks line) = fewer pace producers line edit t in omega arith)
]
within pace producers (suc n) line count m is stand = elim (turn_or_none pace producers line count is stand) [
  | inr i ↦ (line, done i)
  | inl (edit, t) ↦ (
      let e : suc (length (masks (edited edit line))) ≡ length (masks line) = fewer pace producers line edit t in
      let r = within pace producers n (edited edit line) count (omega arith) (edited_line count pace.processors line edit (turn_admissible pace producers line edit t).0 is) (λ i l. subst (λ us. Contains us i) (sym (edited_tuples edit line)) (stand i l)) in
      (r.0, turn edit t r.1)
      )
]

pub some : EachLineHasAReducedLine
some pace producers line count is stand = within pace producers (length (masks line)) line count (omega arith) is stand
