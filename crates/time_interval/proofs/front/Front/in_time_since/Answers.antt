use Rattle.std.proofs.Common.{◌≡◌, ◌+◌, Some, None, true≢false, sym, ap, ◌∙◌, arith}
use Rattle.std.proofs.lemmas.Bool.{leb-true, le-leb}
use Rattle.time_interval.specs.Bounds.{since_bar, up_of}
use Rattle.time_interval.specs.declared.reference.Point.TheVariants.{FinishOf}
use Rattle.time_interval.specs.declared.reference.Reference.TheVariants as reference
use Rattle.time_interval.proofs.AheadFacts.{FinishSince, finish_since, too_early}
use Rattle.time_interval.proofs.front.Front.in_time_since.Goals as goal
use Rattle.time_interval.proofs.front.Front.in_time_since.Goals.{Start, In-Some}

known : (c : Start) → FinishSince c.args.timing.now c.args.items.now c.args.self.now c.args.g c.args.index
known c = finish_since c.args.timing.now c.args.items.now c.args.self.now c.args.g c.args.index c.requires.here c.requires.ahead c.requires.index c.requires.known

pub latest_since-requires-clause-order : goal.latest_since-requires-clause-order
latest_since-requires-clause-order c = λ f t ef et.
    let s = known c in
    let a : s.fire ≡ f = (let w : Some s.fire ≡ Some f = sym s.fires ∙ ef in cc) in
    let b : s.latest + s.fire ≡ t = (let w : Some (s.latest + s.fire) ≡ Some t = sym s.finish ∙ et in cc) in
    omega arith

pub returns-in_default : goal.returns-in_default
returns-in_default c =
    let s = known ((goal.at.returns-in_default c).Start) in
    absurd (c.in_default.not-Some s.latest (c.latest_since.ensures s.latest s.fire s.fires s.finish))

-- the tick that is told is that of the finish
latest_is : (c : In-Some) → FinishSince c.args.timing.now c.args.items.now c.args.self.now c.args.g c.args.index → up_of c.args.timing.now c.args.items.now (reference.Bar c.args.index) (FinishOf c.args.g) ≡ Some c.in-Some.latest
latest_is c s = s.is ∙ sym (c.latest_since.ensures s.latest s.fire s.fires s.finish) ∙ c.in-Some.is

pub returns-then-is_early : goal.returns-then-is_early
returns-then-is_early c = (λ e. absurd (true≢false (sym e)), λ t. absurd (too_early c.args.timing.now c.args.items.now c.args.self.now c.args.g c.args.p c.args.index c.in-Some.latest c.requires.ahead c.requires.index (latest_is ((goal.at.returns-then-is_early c).In-Some) (known ((goal.at.returns-then-is_early c).Start))) (c.is_early.ensures c.if-is_early.true) t))

pub returns-in-None : goal.returns-in-None
returns-in-None c = (λ e. absurd (true≢false (sym e)), λ t. let w : None ≡ Some t.earliest = sym c.in-None.is ∙ c.lo.ensures ∙ ap (λ f. f c.args.p) c.least_since.ensures ∙ t.start in absurd (cc))

pub returns-in-Some-lo : goal.returns-in-Some-lo
returns-in-Some-lo c =
    let start : (since_bar c.args.timing.now c.args.index c.args.items.now).lo c.args.p ≡ Some c.in-Some-lo.earliest = sym (ap (λ f. f c.args.p) c.least_since.ensures) ∙ sym c.lo.ensures ∙ c.in-Some-lo.is in
    let finish = latest_is ((goal.at.returns-in-Some-lo c).In-Some) (known ((goal.at.returns-in-Some-lo c).Start)) in (
      λ e. record { latest = c.in-Some.latest; earliest = c.in-Some-lo.earliest; finish = finish; start = start; order = leb-true c.in-Some.latest c.in-Some-lo.earliest e },
      λ t. le-leb c.in-Some.latest c.in-Some-lo.earliest (
          let a : c.in-Some.latest ≡ t.latest = (let w : Some c.in-Some.latest ≡ Some t.latest = sym finish ∙ t.finish in cc) in
          let b : c.in-Some-lo.earliest ≡ t.earliest = (let w : Some c.in-Some-lo.earliest ≡ Some t.earliest = sym start ∙ t.start in cc) in
          omega (arith, t.order)
          ),
    )
