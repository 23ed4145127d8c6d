use Rattle.std.proofs.Common.{◌≡◌, ◌<◌, ◌≤◌, [], false, true≢false, take, length, Contains, Decides, arith, ap, sym, subst, subst₂, ◌∙◌}
use Rattle.line_model.specs.Streams.{masks}
use Rattle.time_interval.specs.Ahead.{IsAhead, RestOrdered}
use Rattle.time_interval.specs.Ordered.{AreBehind, AllOrdered}
use Rattle.time_interval.specs.Edits.{Changing, IsEdit, edited}
use Rattle.time_interval.specs.Places.{place_of_bar, bar_of}
use Rattle.time_interval.specs.Lines.{tuples}
use Rattle.time_interval.proofs.AheadOrder.{rest_line, rests, edit_bar, edited_tuples, taken_edited, place_within, rest_decides}
use Rattle.time_interval.proofs.EditFacts.{bar_inside}
use Rattle.time_interval.proofs.GapFacts.{spare_gap}
use Rattle.time_interval.proofs.bounds.Bounds.admits.Goals as goal
use Rattle.time_interval.proofs.bounds.Bounds.admits.Goals.{After-at-place}

line_is : (c : After-at-place) → c.self.inside.settled.line ≡ c.args.self.now.line
line_is c = sym (rest_line c.self.inside.stands c.self.inside.settled.line c.self.inside.edited.line (ap (λ (v : Changing). v.before) c.self.view_is ∙ c.requires.none)) ∙ ap (λ (v : Changing). v.line) c.self.view_is

edit_is : (c : After-at-place) → IsEdit c.self.inside.settled.line c.args.edit
edit_is c = subst (λ l. IsEdit l c.args.edit) (sym (line_is c)) c.requires.edit

place_is : (c : After-at-place) → c.at-place.result ≡ place_of_bar (bar_of c.args.edit) c.self.inside.settled.line
place_is c = c.at-place.ensures c.self.inside.settled.line c.self.invariant.stand_at (subst (λ j. j < length (masks c.self.inside.settled.line)) (sym c.index.ensures) (edit_bar c.self.inside.settled.line c.args.edit (edit_is c))) ∙ ap (λ j. place_of_bar j c.self.inside.settled.line) c.index.ensures

order_is : (c : After-at-place) → AreBehind c.args.deps.now.producers [] (tuples c.self.inside.settled.line)
order_is c = subst (λ l. AreBehind c.args.deps.now.producers [] (tuples l)) (sym (line_is c)) c.requires.order

inside : (c : After-at-place) → c.at-place.result ≤ length c.self.inside.settled.line
inside c =
    let i : place_of_bar (bar_of c.args.edit) c.self.inside.settled.line < length c.self.inside.settled.line = bar_inside (bar_of c.args.edit) c.self.inside.settled.line (edit_bar c.self.inside.settled.line c.args.edit (edit_is c)) in
    subst (λ n. n ≤ length c.self.inside.settled.line) (sym (place_is c)) (omega arith)

pub seek-self-inside-requires-clause-to : goal.seek-self-inside-requires-clause-to
seek-self-inside-requires-clause-to c = inside ((goal.at.seek-self-inside-requires-clause-to c).After-at-place)

pub ordered_from-ordered-requires-clause-ahead : goal.ordered_from-ordered-requires-clause-ahead
ordered_from-ordered-requires-clause-ahead c =
    let d = (goal.at.ordered_from-ordered-requires-clause-ahead c).After-at-place in
    let same : take c.at-place.result (edited c.args.edit c.self.inside.settled.line) ≡ take c.at-place.result c.self.inside.settled.line = subst (λ n. take n (edited c.args.edit c.self.inside.settled.line) ≡ take n c.self.inside.settled.line) (sym (place_is d)) (taken_edited c.args.edit c.self.inside.settled.line) in
    subst₂ (λ p ys. IsAhead p ys c.seek-self-inside.new.front) (sym c.edit_at.ensures.pace) (sym (ap (take c.at-place.result) c.edit_at.ensures.line ∙ same)) c.seek-self-inside.ensures.ahead

pub ordered_from-ordered-requires-clause-from : goal.ordered_from-ordered-requires-clause-from
ordered_from-ordered-requires-clause-from c =
    let d = (goal.at.ordered_from-ordered-requires-clause-from c).After-at-place in
    subst₂ (λ n l. n ≤ length l) (sym (place_is d)) (sym c.edit_at.ensures.line) (place_within c.self.inside.settled.line c.args.edit (edit_is d))

pub ordered_from-ordered-requires-clause-order : goal.ordered_from-ordered-requires-clause-order
ordered_from-ordered-requires-clause-order c =
    let d = (goal.at.ordered_from-ordered-requires-clause-order c).After-at-place in
    subst (AreBehind c.args.deps.now.producers []) (sym (ap tuples c.edit_at.ensures.line ∙ edited_tuples c.args.edit c.self.inside.settled.line)) (order_is d)

pub invariant_of-self : goal.invariant_of-self
invariant_of-self c =
    let d = (goal.at.invariant_of-self c).After-at-place in
    let rest : c.self.inside.stands ≡ false = rests c.self.inside.stands c.self.inside.settled.line (ap (λ (v : Changing). v.before) c.self.view_is ∙ c.requires.none) in
    record {
      spare = spare_gap c.self.inside.settled c.leave-self-inside.new.self c.leave-self-inside.result c.leave-self-inside.ensures.line c.leave-self-inside.ensures.inside c.leave-self-inside.ensures.pace;
      ahead = subst (λ n. IsAhead c.self.inside.settled.pace (take n c.self.inside.settled.line) c.seek-self-inside.new.front) (sym c.seek-self-inside.ensures.place) c.seek-self-inside.ensures.ahead;
      within = subst (λ n. n ≤ length c.self.inside.settled.line) (sym c.seek-self-inside.ensures.place) (inside d);
      same = λ e. absurd (true≢false (sym e ∙ rest));
      inside = λ e. absurd (true≢false (sym e ∙ rest));
      stand_at = c.self.invariant.stand_at;
      gapped = λ _ _. c.leave-self-inside.ensures.line;
    }

pub returns-clause-exact : goal.returns-clause-exact
returns-clause-exact c =
    let d = (goal.at.returns-clause-exact c).After-at-place in
    let pace : c.self.inside.settled.pace ≡ c.args.self.now.pace = ap (λ (v : Changing). v.pace) c.self.view_is in
    let asked : Decides c.ordered_from-ordered.result (RestOrdered c.self.inside.settled.pace c.args.deps.now.producers (place_of_bar (bar_of c.args.edit) c.self.inside.settled.line) (edited c.args.edit c.self.inside.settled.line)) =
    subst (λ n. Decides c.ordered_from-ordered.result (RestOrdered c.self.inside.settled.pace c.args.deps.now.producers n (edited c.args.edit c.self.inside.settled.line))) (place_is d)
    (subst₂ (λ p l. Decides c.ordered_from-ordered.result (RestOrdered p c.args.deps.now.producers c.at-place.result l)) c.edit_at.ensures.pace c.edit_at.ensures.line c.ordered_from-ordered.ensures) in
    subst₂ (λ p l. Decides c.ordered_from-ordered.result (AllOrdered p c.args.deps.now.producers (edited c.args.edit l))) pace (line_is d)
    (rest_decides c.self.inside.settled c.edit_at.ensures.timed c.args.deps.now.producers (order_is d)
    (λ i l. subst (λ ys. Contains (tuples ys) i) (sym (line_is d)) (c.requires.stand i l))
    (subst₂ (λ p l. AllOrdered p c.args.deps.now.producers l) (sym pace) (sym (line_is d)) c.requires.ordered)
    c.args.edit (edit_is d) c.ordered_from-ordered.result asked)
