use Rattle.std.proofs.Common.{◌≡◌, ◌<◌, suc, length, set, get_or, ap, ap₂, subst, sym, arith, ◌∙◌, add-one}
use Rattle.line_model.specs.Streams.{masks}
use Rattle.line_model.specs.Reductions.{merged_at}
use Rattle.time_interval.specs.declared.edit.Edit.TheVariants.{Remove}
use Rattle.time_interval.specs.Edits.{IsEdit, edited}
use Rattle.time_interval.specs.Lines.{Timed, IsTimed}
use Rattle.time_interval.specs.Places.{place_of_bar, without_place}
use Rattle.time_interval.proofs.EditFacts.{bar_inside, removed_at, timed_edit}
use Rattle.time_interval.proofs.GapFacts.{split_again, place_short}
use Rattle.time_interval.proofs.timed.TimedLine.leave.Goals as goal
use Rattle.time_interval.proofs.timed.TimedLine.leave.Goals.{After-at, After-at-place, After-set, After-at-in-Merge}

is_there : (c : After-at) → c.in-Remove.index < length (masks c.args.from.now.line)
is_there c = subst (IsEdit c.args.from.now.line) c.in-Remove.is c.requires.edit

removed_is : (c : After-at) → c.at.result ≡ place_of_bar c.in-Remove.index c.args.from.now.line
removed_is c = c.at.ensures c.args.from.now.line c.requires.places (is_there c)

pub returns-in-Remove-clause-line : goal.returns-in-Remove-clause-line
returns-in-Remove-clause-line c = c.requires.line ∙ ap (λ x. edited x c.args.from.now.line) c.in-Remove.is ∙ sym (removed_at c.in-Remove.index c.args.from.now.line (is_there c)) ∙ ap (λ n. without_place n c.args.from.now.line) (sym (removed_is c))

pub returns-in-Remove-clause-inside : goal.returns-in-Remove-clause-inside
returns-in-Remove-clause-inside c = subst (λ n. n < length c.args.from.now.line) (sym (removed_is c)) (bar_inside c.in-Remove.index c.args.from.now.line (is_there c))

two_there : (c : After-at-place) → suc c.in-Merge.index < length (masks c.args.from.now.line)
two_there c = (subst (IsEdit c.args.from.now.line) c.in-Merge.is c.requires.edit).0

first_is : (c : After-at-place) → c.at-place.result ≡ place_of_bar c.in-Merge.index c.args.from.now.line
first_is c = c.at-place.ensures c.args.from.now.line c.requires.places (let k = two_there c in omega arith)

items_are : (c : After-at-place) → c.items-items.result.now ≡ c.args.from.now.line
items_are c = c.items-items.ensures ∙ ap (λ (v : Timed). v.line) c.from.view_is

pub prove-unreachable-requires : goal.prove-unreachable-requires
prove-unreachable-requires c =
    let d = (goal.at.prove-unreachable-requires c).After-at-place in
    let i : place_of_bar c.in-Merge.index c.args.from.now.line < length c.args.from.now.line = bar_inside c.in-Merge.index c.args.from.now.line (let k = two_there d in omega arith) in
    let l : length c.items-items.result.now ≡ length c.args.from.now.line = ap length (items_are d) in
    omega (arith, first_is d, c.if-prove.true)

line_is : (c : After-at-place) → c.self.inside.line.items ≡ merged_at c.in-Merge.index c.args.from.now.line
line_is c = ap (λ (v : Timed). v.line) c.self.view_is ∙ c.requires.line ∙ ap (λ x. edited x c.args.from.now.line) c.in-Merge.is

pub set-requires : goal.set-requires
set-requires c =
    let d = (goal.at.set-requires c).After-at-place in
    let n : length c.self.inside.line.items ≡ length (merged_at c.in-Merge.index c.args.from.now.line) = ap length (line_is d) in
    omega (arith, first_is d, place_short c.in-Merge.index c.args.from.now.line (two_there d))

made : (c : After-set) → suc c.in-Merge.index < length (masks c.args.from.now.line) → c.at-place.result ≡ place_of_bar c.in-Merge.index c.args.from.now.line → c.items-items.result.now ≡ c.args.from.now.line → c.self.inside.line.items ≡ merged_at c.in-Merge.index c.args.from.now.line → c.set.new.self ≡ without_place (place_of_bar (suc c.in-Merge.index) c.args.from.now.line) c.args.from.now.line
made c two first items line =
    c.set.ensures
    ∙ ap₂ (λ l n. set l n c.index-items-place.result) line first
    ∙ split_again c.in-Merge.index c.args.from.now.line c.index-items-place.result two (c.index-items-place.is ∙ ap₂ (λ l n. get_or l n c.index-items-place.result) items first)

next_is : (c : After-at-in-Merge) → suc c.in-Merge.index < length (masks c.args.from.now.line) → c.at-in-Merge.result ≡ place_of_bar (suc c.in-Merge.index) c.args.from.now.line
next_is c two = c.at-in-Merge.ensures c.args.from.now.line c.requires.places (omega arith) ∙ ap (λ j. place_of_bar j c.args.from.now.line) (add-one c.in-Merge.index)

pub invariant_of-self : goal.invariant_of-self
invariant_of-self c =
    let d = (goal.at.invariant_of-self c).After-at-place in
    let w = made ((goal.at.invariant_of-self c).After-set) (two_there d) (first_is d) (items_are d) (line_is d) in
    timed_edit c.args.from.now c.self.inside.timing c.set.new.self (Remove (suc c.in-Merge.index)) (subst IsTimed c.from.view_is c.from.invariant) (ap (λ (v : Timed). v.pace) c.self.view_is ∙ c.requires.pace) (two_there d) (w ∙ removed_at (suc c.in-Merge.index) c.args.from.now.line (two_there d))

pub returns-in-Merge-clause-line : goal.returns-in-Merge-clause-line
returns-in-Merge-clause-line c =
    let d = (goal.at.returns-in-Merge-clause-line c).After-at-place in
    let w = made ((goal.at.returns-in-Merge-clause-line c).After-set) (two_there d) (first_is d) (items_are d) (line_is d) in
    w ∙ ap (λ n. without_place n c.args.from.now.line) (sym (next_is c (two_there d)))

pub returns-in-Merge-clause-inside : goal.returns-in-Merge-clause-inside
returns-in-Merge-clause-inside c =
    let d = (goal.at.returns-in-Merge-clause-inside c).After-at-place in
    subst (λ n. n < length c.args.from.now.line) (sym (next_is c (two_there d))) (bar_inside (suc c.in-Merge.index) c.args.from.now.line (two_there d))
