use Rattle.std.proofs.Common.{◌≡◌, ◌≤◌, take, length, true≢false, ap, sym, subst, subst₂, ◌∙◌}
use Rattle.time_interval.specs.Edits.{IsEdit, Changing}
use Rattle.time_interval.specs.Places.{place_of_bar, bar_of}
use Rattle.time_interval.proofs.AheadOrder.{taken_edited, place_within}
use Rattle.time_interval.proofs.EditFacts.{spare_after, at_rest}
use Rattle.time_interval.proofs.bounds.Bounds.change.Goals as goal

pub invariant_of-self : goal.invariant_of-self
invariant_of-self c =
    let line = c.self.inside.settled.line in
    let is : IsEdit line c.args.edit = at_rest c.self.inside.stands line c.self.inside.edited.line c.args.edit (ap (λ (v : Changing). v.before) c.self.view_is ∙ c.requires.none) (subst (λ (v : Changing). IsEdit v.line c.args.edit) (sym c.self.view_is) c.requires.edit) in
    let at : c.place-self-inside.result ≡ place_of_bar (bar_of c.args.edit) line = c.place-self-inside.ensures.value ∙ ap (λ j. place_of_bar j line) c.index.ensures in
    record {
      spare = spare_after c.self.inside.settled c.self.inside.edited c.edit_from.new.self c.args.edit is c.edit_from.ensures.line c.edit_from.ensures.pace;
      ahead = c.self.invariant.ahead;
      within = c.self.invariant.within;
      same = λ _. subst₂ (λ n l. take n l ≡ take n line) (sym at) (sym c.edit_from.ensures.line) (taken_edited c.args.edit line);
      inside = λ _. subst₂ (λ n l. n ≤ length l) (sym at) (sym c.edit_from.ensures.line) (place_within line c.args.edit is);
      stand_at = c.self.invariant.stand_at;
      gapped = λ e. absurd (true≢false e);
    }
