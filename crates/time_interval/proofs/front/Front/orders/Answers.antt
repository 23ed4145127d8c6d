use Rattle.std.proofs.Common.{◌≡◌, length, arith, inl, refl, sym, subst₂, ◌∙◌, true≢false}
use Rattle.line_model.specs.Streams.{masks}
use Rattle.time_interval.specs.Ahead.{IsAtMost}
use Rattle.time_interval.proofs.AheadFacts.{seen_before, since_start, next_decided, ahead_bars}
use Rattle.time_interval.proofs.front.Front.orders.Goals as goal

pub returns-then-has : goal.returns-then-has
returns-then-has c = (λ _. inl ((seen_before c.args.timing.now _ c.args.items.now c.args.self.now c.args.g c.args.p c.requires.items c.requires.ahead).0 (sym c.has.ensures ∙ c.if-has.true)), λ _. refl)

pub in_time_since_some-requires-clause-bars : goal.in_time_since_some-requires-clause-bars
in_time_since_some-requires-clause-bars c = let e : c.args.self.now.knows.bars ≡ length (masks c.args.items.now) = ahead_bars c.args.timing.now c.args.items.now c.args.self.now c.requires.ahead in omega (arith, c.requires.bars)

pub returns : goal.returns
returns c = next_decided c.args.timing.now c.args.items.now c.args.self.now c.args.g c.args.p c.args.self.now.knows.bars c.in_time_since_some.result (ahead_bars c.args.timing.now c.args.items.now c.args.self.now c.requires.ahead)
    (λ s. true≢false (sym (c.has.ensures ∙ (seen_before c.args.timing.now _ c.args.items.now c.args.self.now c.args.g c.args.p c.requires.items c.requires.ahead).1 s) ∙ c.if-has.false))
    (λ t. true≢false (sym (c.at_most.ensures.1 (subst₂ IsAtMost (sym c.finish.ensures) (sym c.lo.ensures) ((since_start c.args.timing.now c.args.items.now c.args.self.now c.args.g c.args.p c.requires.here c.requires.ahead).1 t))) ∙ c.if-at_most.false))
    c.in_time_since_some.ensures
