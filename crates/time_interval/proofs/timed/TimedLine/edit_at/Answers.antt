use Rattle.std.proofs.Common.{◌≡◌, ◌+◌, ◌<◌, suc, length, ap, subst, sym, arith, ◌∙◌}
use Rattle.line_model.specs.Streams.{masks}
use Rattle.time_interval.specs.Edits.{IsEdit}
use Rattle.time_interval.specs.Lines.{Timed, IsTimed}
use Rattle.time_interval.specs.Places.{place_of_bar}
use Rattle.time_interval.proofs.EditFacts.{timed_edit, place_inside, made_by_removal, place_inside_merge, earlier_place, made_by_merge}
use Rattle.time_interval.proofs.timed.TimedLine.edit_at.Goals as goal
use Rattle.time_interval.proofs.timed.TimedLine.edit_at.Goals.{After-self, After-at, After-at-in-Merge, After-at-in-Merge-2}

items_are : (c : After-self) → c.items-items.result.now ≡ c.args.from.now.line
items_are c = c.items-items.ensures ∙ ap (λ (v : Timed). v.line) c.from.view_is

from_is : (c : After-self) → IsTimed c.args.from.now
from_is c = subst IsTimed c.from.view_is c.from.invariant

pace_is : (c : After-self) → c.self.inside.timing ≡ c.args.from.now.pace
pace_is c = ap (λ (v : Timed). v.pace) c.self.view_is ∙ c.requires.pace

removed_is : (c : After-at) → c.items-items.result.now ≡ c.args.from.now.line → c.at.result ≡ place_of_bar c.in-Remove.index c.items-items.result.now
removed_is c e = c.at.ensures c.args.from.now.line c.requires.places (subst (IsEdit c.args.from.now.line) c.in-Remove.is c.requires.edit) ∙ ap (place_of_bar c.in-Remove.index) (sym e)

next_is : (c : After-at-in-Merge) → c.items-items.result.now ≡ c.args.from.now.line → c.at-in-Merge.result ≡ place_of_bar (c.in-Merge.index + 1) c.items-items.result.now
next_is c e = c.at-in-Merge.ensures c.args.from.now.line c.requires.places (let k : suc c.in-Merge.index < length (masks c.args.from.now.line) = (subst (IsEdit c.args.from.now.line) c.in-Merge.is c.requires.edit).0 in omega arith) ∙ ap (place_of_bar (c.in-Merge.index + 1)) (sym e)

first_is : (c : After-at-in-Merge-2) → c.items-items.result.now ≡ c.args.from.now.line → c.at-in-Merge-2.result ≡ place_of_bar c.in-Merge.index c.items-items.result.now
first_is c e = c.at-in-Merge-2.ensures c.args.from.now.line c.requires.places (let k : suc c.in-Merge.index < length (masks c.args.from.now.line) = (subst (IsEdit c.args.from.now.line) c.in-Merge.is c.requires.edit).0 in omega arith) ∙ ap (place_of_bar c.in-Merge.index) (sym e)

pub move_gap-requires-clause-inside : goal.move_gap-requires-clause-inside
move_gap-requires-clause-inside c = let e = items_are ((goal.at.move_gap-requires-clause-inside c).After-self) in place_inside _ _ _ _ _ e c.requires.edit c.in-Remove.is (removed_is c e)

pub returns-in-Remove-clause-line : goal.returns-in-Remove-clause-line
returns-in-Remove-clause-line c = let e = items_are ((goal.at.returns-in-Remove-clause-line c).After-self) in made_by_removal _ _ _ _ _ _ e c.requires.edit c.in-Remove.is (removed_is ((goal.at.returns-in-Remove-clause-line c).After-at) e) c.move_gap.ensures

pub invariant_of-self : goal.invariant_of-self
invariant_of-self c =
    let d = (goal.at.invariant_of-self c).After-self in
    timed_edit _ _ _ _ (from_is d) (pace_is d) c.requires.edit (made_by_removal _ _ _ _ _ _ (items_are d) c.requires.edit c.in-Remove.is (removed_is ((goal.at.invariant_of-self c).After-at) (items_are d)) c.move_gap.ensures)

pub move_gap-requires-in-Merge-clause-inside : goal.move_gap-requires-in-Merge-clause-inside
move_gap-requires-in-Merge-clause-inside c = let e = items_are ((goal.at.move_gap-requires-in-Merge-clause-inside c).After-self) in place_inside_merge _ _ _ _ _ e c.requires.edit c.in-Merge.is (next_is c e)

pub set-requires : goal.set-requires
set-requires c =
    let e = items_are ((goal.at.set-requires c).After-self) in
    earlier_place _ _ _ _ _ _ _ e c.requires.edit c.in-Merge.is (first_is c e) (place_inside_merge _ _ _ _ _ e c.requires.edit c.in-Merge.is (next_is ((goal.at.set-requires c).After-at-in-Merge) e)) c.move_gap-in-Merge.ensures

pub returns-in-Merge-clause-line : goal.returns-in-Merge-clause-line
returns-in-Merge-clause-line c =
    let e = items_are ((goal.at.returns-in-Merge-clause-line c).After-self) in
    made_by_merge _ _ _ _ _ _ _ _ _ _ _ e c.requires.edit c.in-Merge.is (next_is ((goal.at.returns-in-Merge-clause-line c).After-at-in-Merge) e) (first_is ((goal.at.returns-in-Merge-clause-line c).After-at-in-Merge-2) e) c.mask.ensures c.mask-in-Merge.ensures c.union-mask.ensures.value c.move_gap-in-Merge.ensures c.set.ensures

pub invariant_of-self-in-Merge : goal.invariant_of-self-in-Merge
invariant_of-self-in-Merge c =
    let d = (goal.at.invariant_of-self-in-Merge c).After-self in
    let e = items_are d in
    timed_edit _ _ _ _ (from_is d) (pace_is d) c.requires.edit
    (made_by_merge _ _ _ _ _ _ _ _ _ _ _ e c.requires.edit c.in-Merge.is (next_is ((goal.at.invariant_of-self-in-Merge c).After-at-in-Merge) e) (first_is ((goal.at.invariant_of-self-in-Merge c).After-at-in-Merge-2) e) c.mask.ensures c.mask-in-Merge.ensures c.union-mask.ensures.value c.move_gap-in-Merge.ensures c.set.ensures)
