use Rattle.std.proofs.Common.{sym, subst, All, Decides}
use Rattle.time_interval.specs.Ahead.{IsBefore, StandsOrdered}
use Rattle.time_interval.proofs.front.stands_ordered.Goals as goal

pub returns-in-Run : goal.returns-in-Run
returns-in-Run c = subst (λ x. Decides c.all_before.result (StandsOrdered c.args.timing.now c.args.deps.now.producers c.args.items.now x)) (sym c.in-Run.is)
    (subst (λ ps. Decides c.all_before.result (All (λ g. IsBefore c.args.timing.now c.args.items.now g c.in-Run.processor) ps)) c.producers.ensures.value c.all_before.ensures)
