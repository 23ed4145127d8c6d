use Rattle.std.proofs.Common.{◌≡◌, ◌<◌, suc, take, get_or, length, ap, sym, subst, ◌∙◌}
use Rattle.time_interval.specs.Ahead.{IsAhead}
use Rattle.time_interval.specs.Lines.{Timed}
use Rattle.time_interval.proofs.AheadFacts.{ahead_small, ahead_room, new_at, taken_next}
use Rattle.time_interval.proofs.timed.TimedLine.step.Goals as goal
use Rattle.time_interval.proofs.timed.TimedLine.step.Goals.{After-index-items-k}

at : (c : After-index-items-k) → get_or c.self.inside.line.items c.args.k c.index-items-k.result ≡ c.index-items-k.result
at c = ap (λ xs. get_or xs c.args.k c.index-items-k.result) (sym c.items.ensures) ∙ sym c.index-items-k.is

ahead : (c : After-index-items-k) → IsAhead c.self.inside.timing (take c.args.k c.self.inside.line.items) c.args.front.now
ahead c = subst (λ (v : Timed). IsAhead v.pace (take c.args.k v.line) c.args.front.now) (sym c.self.view_is) c.requires.ahead

inside : (c : After-index-items-k) → c.args.k < length c.self.inside.line.items
inside c = subst (λ (v : Timed). c.args.k < length v.line) (sym c.self.view_is) c.requires.inside

pub past-requires-clause-small : goal.past-requires-clause-small
past-requires-clause-small c = ahead_small (record { pace = c.self.inside.timing; line = c.self.inside.line.items }) c.self.invariant c.args.k c.args.front.now (ahead ((goal.at.past-requires-clause-small c).After-index-items-k))

pub past-requires-clause-room : goal.past-requires-clause-room
past-requires-clause-room c = λ m e.
    let d = (goal.at.past-requires-clause-room c).After-index-items-k in
    ahead_room (record { pace = c.self.inside.timing; line = c.self.inside.line.items }) c.self.invariant c.args.k c.args.front.now (ahead d) m (inside d) (subst (λ x. get_or c.self.inside.line.items c.args.k x ≡ x) e (at d))

pub returns : goal.returns
returns c =
    let d = (goal.at.returns c).After-index-items-k in
    subst (λ (v : Timed). IsAhead v.pace (take (suc c.args.k) v.line) c.past.new.self) c.self.view_is
    (subst (λ ys. IsAhead c.self.inside.timing ys c.past.new.self) (sym (taken_next c.self.inside.line.items c.args.k c.index-items-k.result (inside d) (at d)))
    (c.past.ensures (take c.args.k c.self.inside.line.items) (ahead d) (new_at c.self.inside.line.items c.args.k c.index-items-k.result c.self.invariant.line.once (inside d) (at d))))
