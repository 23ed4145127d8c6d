use Rattle.std.proofs.Common.{◌≡◌, ℕ, sym, subst, subst₂, ap, ◌∙◌, below_more, true≢false, false}
use Rattle.time_interval.specs.declared.edit.Edit.{Edit}
use Rattle.time_interval.specs.Edits.{Changing}
use Rattle.mask_merge.specs.Reduced.{IsAdmissible}
use Rattle.mask_merge.specs.Search.{edit_of, IsOnTurn}
use Rattle.mask_merge.proofs.turns.first_of.Goals as goal
use Rattle.mask_merge.proofs.turns.first_of.Goals.{After-is_admissible}

pub is_admissible-requires-clause-none : goal.is_admissible-requires-clause-none
is_admissible-requires-clause-none c = ap (λ (v : Changing). v.before) c.loop-index.invariant.same ∙ c.requires.none

pub is_admissible-requires-clause-line : goal.is_admissible-requires-clause-line
is_admissible-requires-clause-line c = subst (λ (v : Changing). IsOnTurn v.pace c.args.deps.now.producers v.line c.args.in_order) (sym c.loop-index.invariant.same) c.requires.line

not_here : (c : After-is_admissible) → c.is_admissible.result ≡ false → ¬ IsAdmissible c.args.bounds.now.pace c.args.deps.now.producers c.args.bounds.now.line (edit_of c.args.kind c.loop-index.index)
not_here c e a = true≢false (sym (c.is_admissible.ensures.exact.1 (subst₂ (λ (v : Changing) (x : Edit). IsAdmissible v.pace c.args.deps.now.producers v.line x) (sym c.loop-index.invariant.same) (sym c.edit-edit.ensures) a)) ∙ e)

pub loop-index-preserved : goal.loop-index-preserved
loop-index-preserved c = record {
  same = c.is_admissible.ensures.same ∙ c.loop-index.invariant.same;
  tried = below_more (λ (k : ℕ). ¬ IsAdmissible c.args.bounds.now.pace c.args.deps.now.producers c.args.bounds.now.line (edit_of c.args.kind k)) c.loop-index.index c.loop-index.invariant.tried (not_here ((goal.at.loop-index-preserved c).After-is_admissible) c.if-is_admissible.false);
}
