use Rattle.std.proofs.Common.{◌≡◌, ap, subst, ◌∙◌}
use Rattle.time_interval.specs.Lines.{Timed, IsTimed}
use Rattle.time_interval.proofs.EditFacts.{timed_edit, place_inside, made_by_removal, place_inside_merge, earlier_place, made_by_merge}
use Rattle.time_interval.proofs.timed.TimedLine.edit_from.Goals as goal
use Rattle.time_interval.proofs.timed.TimedLine.edit_from.Goals.{After-self}

items_are : (c : After-self) → c.items-items.result.now ≡ c.args.from.now.line
items_are c = c.items-items.ensures ∙ ap (λ (v : Timed). v.line) c.from.view_is

from_is : (c : After-self) → IsTimed c.args.from.now
from_is c = subst IsTimed c.from.view_is c.from.invariant

pace_is : (c : After-self) → c.self.inside.timing ≡ c.args.from.now.pace
pace_is c = ap (λ (v : Timed). v.pace) c.self.view_is ∙ c.requires.pace

pub copy_without-requires-clause-inside : goal.copy_without-requires-clause-inside
copy_without-requires-clause-inside c = let d = (goal.at.copy_without-requires-clause-inside c).After-self in place_inside _ _ _ _ _ (items_are d) c.requires.edit c.in-Remove.is c.place_of_bar.ensures

pub returns-in-Remove-clause-line : goal.returns-in-Remove-clause-line
returns-in-Remove-clause-line c = let d = (goal.at.returns-in-Remove-clause-line c).After-self in made_by_removal _ _ _ _ _ _ (items_are d) c.requires.edit c.in-Remove.is c.place_of_bar.ensures c.copy_without.ensures

pub invariant_of-self : goal.invariant_of-self
invariant_of-self c = let d = (goal.at.invariant_of-self c).After-self in timed_edit _ _ _ _ (from_is d) (pace_is d) c.requires.edit (made_by_removal _ _ _ _ _ _ (items_are d) c.requires.edit c.in-Remove.is c.place_of_bar.ensures c.copy_without.ensures)

pub copy_without-requires-in-Merge-clause-inside : goal.copy_without-requires-in-Merge-clause-inside
copy_without-requires-in-Merge-clause-inside c = let d = (goal.at.copy_without-requires-in-Merge-clause-inside c).After-self in place_inside_merge _ _ _ _ _ (items_are d) c.requires.edit c.in-Merge.is c.place_of_bar-in-Merge.ensures

pub set-requires : goal.set-requires
set-requires c = let d = (goal.at.set-requires c).After-self in earlier_place _ _ _ _ _ _ _ (items_are d) c.requires.edit c.in-Merge.is c.place_of_bar-in-Merge-2.ensures (place_inside_merge _ _ _ _ _ (items_are d) c.requires.edit c.in-Merge.is c.place_of_bar-in-Merge.ensures) c.copy_without-in-Merge.ensures

pub returns-in-Merge-clause-line : goal.returns-in-Merge-clause-line
returns-in-Merge-clause-line c = let d = (goal.at.returns-in-Merge-clause-line c).After-self in made_by_merge _ _ _ _ _ _ _ _ _ _ _ (items_are d) c.requires.edit c.in-Merge.is c.place_of_bar-in-Merge.ensures c.place_of_bar-in-Merge-2.ensures c.mask_of_bar.ensures c.mask_of_bar-in-Merge.ensures c.union-mask.ensures.value c.copy_without-in-Merge.ensures c.set.ensures

pub invariant_of-self-in-Merge : goal.invariant_of-self-in-Merge
invariant_of-self-in-Merge c = let d = (goal.at.invariant_of-self-in-Merge c).After-self in timed_edit _ _ _ _ (from_is d) (pace_is d) c.requires.edit (made_by_merge _ _ _ _ _ _ _ _ _ _ _ (items_are d) c.requires.edit c.in-Merge.is c.place_of_bar-in-Merge.ensures c.place_of_bar-in-Merge-2.ensures c.mask_of_bar.ensures c.mask_of_bar-in-Merge.ensures c.union-mask.ensures.value c.copy_without-in-Merge.ensures c.set.ensures)
