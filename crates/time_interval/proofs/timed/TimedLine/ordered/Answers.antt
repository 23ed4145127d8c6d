use Rattle.std.proofs.Common.{◌≡◌, ◌<◌, ℕ, Bool, false, true, List, ap, sym, subst, ◌∙◌, arith, Contains, All, length}
use Rattle.line_model.specs.declared.line.Item.{Item}
use Rattle.time_interval.specs.Lines.{Timed, IsItem, tuples}
use Rattle.time_interval.specs.Ordered.IsReason.{processor, barrier, time}
use Rattle.time_interval.specs.Seen.{StandsBehind, seen_along, stands_on}
use Rattle.time_interval.proofs.Fronts.{run_front, front_in_sets, tuple_has_time, IsFront}
use Rattle.time_interval.proofs.OrderFacts.{at_tuple, processor_below, on_processor, not_on_processor, by_barriers, not_by_barriers, no_reason}
use Rattle.time_interval.proofs.timed.TimedLine.ordered.Goals as goal
use Rattle.time_interval.proofs.timed.TimedLine.ordered.Goals.{After-run_of-p}

line_is : (c : After-run_of-p) → c.self.inside.line.items ≡ c.args.self.now.line
line_is c = ap (λ (v : Timed). v.line) c.self.view_is

pace_is : (c : After-run_of-p) → c.self.inside.timing ≡ c.args.self.now.pace
pace_is c = ap (λ (v : Timed). v.pace) c.self.view_is

behind : (c : After-run_of-p) → StandsBehind c.self.inside.line.items c.run_of-p.result.0.now c.run_of-p.result.1 c.args.i
behind c = at_tuple (record { pace = c.self.inside.timing; line = c.self.inside.line.items }) c.self.invariant c.args.i (subst (λ (v : Timed). Contains (tuples v.line) c.args.i) (sym c.self.view_is) c.requires.second) _ _ _ c.items.ensures c.run_of-p.ensures.front c.run_of-p.ensures.processor

-- the same at the line that the contract speaks of
behind_now : (c : After-run_of-p) → StandsBehind c.args.self.now.line c.run_of-p.result.0.now c.run_of-p.result.1 c.args.i
behind_now c = subst (λ l. StandsBehind l c.run_of-p.result.0.now c.run_of-p.result.1 c.args.i) (line_is c) (behind c)

front_is : (c : After-run_of-p) → IsFront (record { pace = c.self.inside.timing; line = c.self.inside.line.items }) c.run_of-p.result.0.now
front_is c = run_front _ c.self.invariant c.args.i _ _ c.items.ensures c.run_of-p.ensures.front

front_sets : (c : After-run_of-p) → All (IsItem 128 c.self.inside.timing.processors) c.run_of-p.result.0.now
front_sets c = front_in_sets _ c.self.invariant _ (front_is c)

pub returns-then-stands_on : goal.returns-then-stands_on
returns-then-stands_on c = processor (on_processor _ _ _ _ _ (behind_now ((goal.at.returns-then-stands_on c).After-run_of-p)) (sym c.stands_on.ensures ∙ c.if-stands_on.true))

pub seen-requires-clause-items : goal.seen-requires-clause-items
seen-requires-clause-items c = subst (λ n. All (IsItem 128 n) c.run_of-p.result.0.now) (sym c.processors.ensures.value) (front_sets ((goal.at.seen-requires-clause-items c).After-run_of-p))

pub has-requires-clause-processor : goal.has-requires-clause-processor
has-requires-clause-processor c =
    let below : c.run_of-p.result.1 < c.self.inside.timing.processors = processor_below _ c.self.invariant _ _ _ (behind ((goal.at.has-requires-clause-processor c).After-run_of-p)) in
    omega (arith, c.self.invariant.pace.few)

pub has-requires-clause-tuple : goal.has-requires-clause-tuple
has-requires-clause-tuple c =
    let below : c.args.g < length c.self.inside.timing.times = tuple_has_time _ _ c.self.invariant (subst (λ (v : Timed). Contains (tuples v.line) c.args.g) (sym c.self.view_is) c.requires.first) in
    omega (arith, c.self.invariant.few)

-- the set that was asked is what is seen
asked : (n : ℕ) (s : ℕ → ℕ → Bool) (m : ℕ) (front : List Item) (p g : ℕ) → n ≡ m → s ≡ seen_along n (λ p g. false) front → s p g ≡ seen_along m (λ p g. false) front p g
asked n s m front p g e f = ap (λ h. h p g) f ∙ ap (λ k. seen_along k (λ p g. false) front p g) e

pub returns-then-has : goal.returns-then-has
returns-then-has c =
    let d = (goal.at.returns-then-has c).After-run_of-p in
    let off : stands_on c.run_of-p.result.0.now c.run_of-p.result.1 c.args.g ≡ false = sym c.stands_on.ensures ∙ c.if-stands_on.false in
    let on : seen_along c.self.inside.timing.processors (λ p g. false) c.run_of-p.result.0.now c.run_of-p.result.1 c.args.g ≡ true = sym (asked _ _ _ c.run_of-p.result.0.now c.run_of-p.result.1 c.args.g c.processors.ensures.value c.seen.ensures) ∙ sym c.has.ensures ∙ c.if-has.true in
    barrier (not_on_processor _ _ _ _ _ (behind_now d) off) (by_barriers c.self.inside.timing.processors 128 _ _ _ _ _ (front_sets d) (behind_now d) off on)

pub returns-in-Some : goal.returns-in-Some
returns-in-Some c =
    let d = (goal.at.returns-in-Some c).After-run_of-p in
    let off : stands_on c.run_of-p.result.0.now c.run_of-p.result.1 c.args.g ≡ false = sym c.stands_on.ensures ∙ c.if-stands_on.false in
    let unseen : seen_along c.self.inside.timing.processors (λ p g. false) c.run_of-p.result.0.now c.run_of-p.result.1 c.args.g ≡ false = sym (asked _ _ _ c.run_of-p.result.0.now c.run_of-p.result.1 c.args.g c.processors.ensures.value c.seen.ensures) ∙ sym c.has.ensures ∙ c.if-has.false in
    time (not_on_processor _ _ _ _ _ (behind_now d) off) (not_by_barriers c.self.inside.timing.processors 128 _ _ _ _ _ (front_sets d) (behind_now d) unseen) c.in-Some.ensures

pub returns-in-None : goal.returns-in-None
returns-in-None c =
    let d = (goal.at.returns-in-None c).After-run_of-p in
    let off : stands_on c.run_of-p.result.0.now c.run_of-p.result.1 c.args.g ≡ false = sym c.stands_on.ensures ∙ c.if-stands_on.false in
    let unseen : seen_along c.self.inside.timing.processors (λ p g. false) c.run_of-p.result.0.now c.run_of-p.result.1 c.args.g ≡ false = sym (asked _ _ _ c.run_of-p.result.0.now c.run_of-p.result.1 c.args.g c.processors.ensures.value c.seen.ensures) ∙ sym c.has.ensures ∙ c.if-has.false in
    no_reason _ _ _ _ (not_on_processor _ _ _ _ _ (behind_now d) off) (not_by_barriers c.self.inside.timing.processors 128 _ _ _ _ _ (front_sets d) (behind_now d) unseen) c.in-None.ensures
