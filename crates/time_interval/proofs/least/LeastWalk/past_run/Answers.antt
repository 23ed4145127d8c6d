use Rattle.std.proofs.Common.{◌+◌, ◌≤◌, arith, ap, subst, ◌∙◌}
use Rattle.bm_base.specs.declared.spec.Interval.{Interval}
use Rattle.time_interval.specs.Bounds.{later}
use Rattle.time_interval.specs.Steps.{by_processor}
use Rattle.time_interval.specs.Walks.{least_of}
use Rattle.time_interval.proofs.SinceFacts.{low_up_to}
use Rattle.time_interval.proofs.Tables.{set_later, past_run_up_to}
use Rattle.time_interval.proofs.least.LeastWalk.past_run.Goals as goal

pub returns-clause-value : goal.returns-clause-value
returns-clause-value c = λ i p. set_later c.args.self.now.lo c.args.q p _ _ (omega arith) (c.later.ensures ∙ ap (later (by_processor c.args.self.now.lo c.args.q)) (c.from-least.ensures ∙ ap (λ x. x.least) c.time.ensures.value)) i

pub returns-clause-small : goal.returns-clause-small
returns-clause-small c = λ n h. low_up_to (n + 1100) _ _ (returns-clause-value c)
    (past_run_up_to c.args.timing.now c.args.q c.args.t n (least_of c.args.self.now)
    (subst (λ (x : Interval). x.least ≤ 1000) c.time.ensures.value c.time.ensures.least)
    (subst (λ (x : Interval). x.most ≤ 1000) c.time.ensures.value c.time.ensures.most)
    h)
