use Rattle.std.proofs.Common.{◌≡◌, ◌<◌, ℕ, suc, List, length, Result, Ok, Err, IfOk, None, sym, subst, subst₂, ap, ap₂, ◌∙◌, refl, arith}
use Rattle.line_model.specs.declared.line.Item.{Item}
use Rattle.line_model.specs.declared.line.Line.{Line}
use Rattle.line_model.specs.Streams.{masks}
use Rattle.time_interval.specs.Bounds.{pace_on}
use Rattle.time_interval.specs.Edits.{Changing, edited, IsEdit}
use Rattle.time_interval.specs.Lines.{IsLine}
use Rattle.time_interval.specs.Ordered.{AllOrdered}
use Rattle.mask_merge.specs.Reduced.{IsReduced, IsTurn, IsIrreducible}
use Rattle.mask_merge.specs.Reduced.IsReduced.{done, turn}
use Rattle.mask_merge.specs.Laws.{KeepsTuples}
use Rattle.mask_merge.specs.Search.{AllStand, IsOnTurn}
use Rattle.mask_merge.proofs.LawFacts.{turn_admissible, irreducible, ordered, fewer, keeps_tuples, keeps_lines}
use Rattle.mask_merge.proofs.TurnFacts.{all_stand, on_turn_again}
use Rattle.mask_merge.proofs.turns.reduce.Goals as goal
use Rattle.mask_merge.proofs.turns.reduce.Goals.{After-settle, After-copy_of}

pub loop-edit-init : goal.loop-edit-init
loop-edit-init c = record {
  led = λ result r. r;
  on_turn = record {
    stand = subst (λ (v : Changing). AllStand c.args.deps.now.producers v.line) (sym c.in_ok-bounds.ensures) (subst (λ ps. AllStand ps c.args.line.now.items) (sym c.requires.deps.producers) (all_stand c.args.block.now.tuples c.args.line.now.items c.requires.stand));
    ordered = subst (λ (v : Changing). AllOrdered v.pace c.args.deps.now.producers v.line) (sym c.in_ok-bounds.ensures) c.requires.ordered;
    behind = c.in_order-in_order.ensures.0;
  };
  rest = ap (λ (v : Changing). v.before) c.in_ok-bounds.ensures;
  pace = refl;
}

pub change-requires-clause-edit : goal.change-requires-clause-edit
change-requires-clause-edit c = subst (λ (v : Changing). IsEdit v.line c.in-Some.edit) (sym c.next_edit.ensures.same) (turn_admissible _ _ _ _ c.in-Some.ensures.turn).0

-- the edit is done
after : (c : After-settle) → c.settle.new.self ≡ record { pace = c.loop-edit.bounds.pace; line = edited c.in-Some.edit c.loop-edit.bounds.line; before = None }
after c =
    c.settle.ensures.change c.next_edit.new.bounds.line (ap (λ (v : Changing). v.before) c.change.ensures)
    ∙ ap₂ (λ p l. record { pace = p; line = l; before = None })
    (ap (λ (v : Changing). v.pace) c.change.ensures ∙ ap (λ (v : Changing). v.pace) c.next_edit.ensures.same)
    (ap (λ (v : Changing). v.line) c.change.ensures ∙ ap (λ (v : Changing). edited c.in-Some.edit v.line) c.next_edit.ensures.same)

pub loop-edit-smaller : goal.loop-edit-smaller
loop-edit-smaller c =
    let e : suc (length (masks (edited c.in-Some.edit c.loop-edit.bounds.line))) ≡ length (masks c.loop-edit.bounds.line) = fewer _ _ _ _ c.in-Some.ensures.turn in
    let f : length (masks c.settle.new.self.line) ≡ length (masks (edited c.in-Some.edit c.loop-edit.bounds.line)) = ap (λ (v : Changing). length (masks v.line)) (after ((goal.at.loop-edit-smaller c).After-settle)) in
    less _ _ _ e f
  where
    less : (x y z : ℕ) → suc y ≡ z → x ≡ y → x < z
    less x y z e f = omega arith

pub loop-edit-preserved : goal.loop-edit-preserved
loop-edit-preserved c =
    let d = after ((goal.at.loop-edit-preserved c).After-settle) in
    record {
      led = λ result r. c.loop-edit.invariant.led result (turn c.in-Some.edit (subst (λ p. IsTurn p c.args.deps.now.producers c.loop-edit.bounds.line c.in-Some.edit) c.loop-edit.invariant.pace c.in-Some.ensures.turn) (subst (λ (v : Changing). IsReduced c.in_ok-bounds.bounds.pace c.args.deps.now.producers v.line result) d r));
      on_turn = subst (λ (v : Changing). IsOnTurn v.pace c.args.deps.now.producers v.line c.in_order-in_order.result) (sym d) (on_turn_again _ _ _ _ _ c.in-Some.ensures.turn c.loop-edit.invariant.on_turn);
      rest = ap (λ (v : Changing). v.before) d;
      pace = ap (λ (v : Changing). v.pace) d ∙ c.loop-edit.invariant.pace;
    }

-- turns led from the line to that behind the loop, and none is left
reduced : (c : After-copy_of) → IsReduced (pace_on c.args.spec.now c.args.block.now.tuples) c.args.deps.now.producers c.args.line.now.items c.line.result.now.items
reduced c =
    let first = c.in_ok-bounds.ensures in
    let irr = subst (λ p. IsIrreducible p c.args.deps.now.producers c.loop-edit.bounds.line) c.loop-edit.invariant.pace c.in_default.ensures.turn in
    subst (IsReduced (pace_on c.args.spec.now c.args.block.now.tuples) c.args.deps.now.producers c.args.line.now.items) (sym (c.line.ensures ∙ ap (λ (v : Changing). v.line) c.next_edit.ensures.same))
    (subst₂ (λ p l. IsReduced p c.args.deps.now.producers l c.loop-edit.bounds.line) (ap (λ (v : Changing). v.pace) first) (ap (λ (v : Changing). v.line) first) (c.loop-edit.invariant.led c.loop-edit.bounds.line (done irr)))

-- what holds of the line holds of its copy
copied : {E : Type 0} (r : Result Line E) (line : List Item) (P : List Item → Type 0) → P line → IfOk r (λ (x : Line). x.items ≡ line) → IfOk r (λ (x : Line). P x.items)
copied (Ok x) line P h e = subst P (sym e) h
copied (Err x) line P h e = e

pub returns-clause-reduced : goal.returns-clause-reduced
returns-clause-reduced c = copied c.copy_of.result c.line.result.now.items (IsReduced (pace_on c.args.spec.now c.args.block.now.tuples) c.args.deps.now.producers c.args.line.now.items) (reduced ((goal.at.returns-clause-reduced c).After-copy_of)) c.copy_of.ensures

pub returns-clause-irreducible : goal.returns-clause-irreducible
returns-clause-irreducible c = copied c.copy_of.result c.line.result.now.items (IsIrreducible (pace_on c.args.spec.now c.args.block.now.tuples) c.args.deps.now.producers) (irreducible _ _ _ _ (reduced ((goal.at.returns-clause-irreducible c).After-copy_of))) c.copy_of.ensures

pub returns-clause-ordered : goal.returns-clause-ordered
returns-clause-ordered c = copied c.copy_of.result c.line.result.now.items (AllOrdered (pace_on c.args.spec.now c.args.block.now.tuples) c.args.deps.now.producers) (ordered _ _ _ _ c.requires.ordered (reduced ((goal.at.returns-clause-ordered c).After-copy_of))) c.copy_of.ensures

pub returns-clause-line : goal.returns-clause-line
returns-clause-line c = copied c.copy_of.result c.line.result.now.items (IsLine (length c.args.block.now.tuples) c.args.spec.now.processors) (keeps_lines _ _ _ _ _ _ c.requires.line (reduced ((goal.at.returns-clause-line c).After-copy_of))) c.copy_of.ensures

pub returns-clause-tuples : goal.returns-clause-tuples
returns-clause-tuples c = copied c.copy_of.result c.line.result.now.items (KeepsTuples c.args.line.now.items) (keeps_tuples _ _ _ _ (reduced ((goal.at.returns-clause-tuples c).After-copy_of))) c.copy_of.ensures
