use Rattle.std.proofs.Common.{Option, Some, None, MatchOption, sym, subst}
use Rattle.time_interval.specs.declared.edit.Edit.{Edit}
use Rattle.time_interval.specs.Edits.{Changing}
use Rattle.mask_merge.specs.declared.turns.Kind.TheVariants.{Merging}
use Rattle.mask_merge.specs.Reduced.{NoneAdmissible, IsTurn}
use Rattle.mask_merge.specs.Reduced.IsTurn.{removal, merge}
use Rattle.mask_merge.specs.Search.{edit_of, IsFirstEdit}
use Rattle.mask_merge.proofs.TurnFacts.{none_of_both}
use Rattle.mask_merge.proofs.turns.next_edit.Goals as goal

match_more : {P Q : Type 0} (R S : Edit → Type 0) (o : Option Edit) → (P → Q) → ((e : Edit) → R e → S e) → MatchOption o P R → MatchOption o Q S
match_more R S None f g h = f h
match_more R S (Some e) f g h = g e h

pub returns-in-Some-clause-turn : goal.returns-in-Some-clause-turn
returns-in-Some-clause-turn c =
    let (j, e, f) = c.in-Some.ensures.first in
    subst (IsTurn c.args.bounds.now.pace c.args.deps.now.producers c.args.bounds.now.line) (sym e) (removal j f)

pub returns-in-None-clause-turn : goal.returns-in-None-clause-turn
returns-in-None-clause-turn c =
    let pace = c.args.bounds.now.pace in
    let line = c.args.bounds.now.line in
    match_more (IsFirstEdit pace c.args.deps.now.producers line (edit_of Merging)) (IsTurn pace c.args.deps.now.producers line) c.first_of-in-None.result
    (none_of_both pace c.args.deps.now.producers line c.in-None.ensures.first)
    (λ e m. let (j, is, f) = m in subst (IsTurn pace c.args.deps.now.producers line) (sym is) (merge j c.in-None.ensures.first f))
    (subst (λ (v : Changing). MatchOption c.first_of-in-None.result (NoneAdmissible v.pace c.args.deps.now.producers v.line (edit_of Merging)) (IsFirstEdit v.pace c.args.deps.now.producers v.line (edit_of Merging))) c.first_of.ensures.same c.first_of-in-None.ensures.first)
