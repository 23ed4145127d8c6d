use Rattle.std.proofs.Common.{sym, subst, Decides}
use Rattle.time_interval.specs.Edits.{Changing}
use Rattle.time_interval.specs.Ordered.{AllOrdered}
use Rattle.mask_merge.specs.Search.{AllStand}
use Rattle.mask_merge.proofs.TurnFacts.{stand_edited}
use Rattle.mask_merge.proofs.turns.is_admissible.Goals as goal

pub all_ordered-ordered-requires : goal.all_ordered-ordered-requires
all_ordered-ordered-requires c = subst (λ (v : Changing). AllStand c.args.deps.now.producers v.line) (sym c.change.ensures) (stand_edited c.args.deps.now.producers c.args.bounds.now.line c.args.edit c.requires.line.stand)

pub returns-clause-exact : goal.returns-clause-exact
returns-clause-exact c =
    let d = subst (λ (v : Changing). Decides c.all_ordered-ordered.result (AllOrdered v.pace c.args.deps.now.producers v.line)) c.change.ensures c.all_ordered-ordered.ensures in
    (λ e. (c.is_edit.ensures.0 c.if-not-is_edit.false, d.0 e), λ a. d.1 a.1)
