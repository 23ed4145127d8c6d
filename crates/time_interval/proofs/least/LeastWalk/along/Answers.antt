use Rattle.std.proofs.Common.{◌≡◌, ◌+◌, ◌*◌, drop, arith, ap, refl, sym, subst, ◌∙◌}
use Rattle.time_interval.specs.Bounds.{Known, past_run, past_bar}
use Rattle.time_interval.specs.Steps.{IsUpTo}
use Rattle.time_interval.specs.Walks.{least_of}
use Rattle.time_interval.proofs.SinceFacts.{lo_alone}
use Rattle.time_interval.proofs.Tables.{run_along, bar_along}
use Rattle.time_interval.proofs.least.LeastWalk.along.Goals as goal
use Rattle.time_interval.proofs.least.LeastWalk.along.Goals.{in-Run, in-Bar}

pub loop-item-preserved : goal.loop-item-preserved
loop-item-preserved c =
    let n = c.loop-item.item-index in
    let more : (1000 + 1100 * n) + 1100 ≡ 1000 + 1100 * (n + 1) = omega arith in
    elim c.match-item.branch [
      | in-Run w ↦ record {
        small = subst (λ b. IsUpTo b (least_of c.match-item.self)) more (subst (λ v. IsUpTo ((1000 + 1100 * n) + 1100) (least_of v)) (sym w.self-is) (w.past_run.ensures.small (1000 + 1100 * n) c.loop-item.invariant.small));
        same = c.loop-item.invariant.same ∙ ap (λ (k : Known). k.lo) (run_along c.args.timing.now (least_of c.loop-item.self) (past_run c.args.timing.now w.in-Run.processor w.in-Run.tuple (least_of c.loop-item.self)) c.args.items.now n c.item-item.result w.in-Run.processor w.in-Run.tuple c.loop-item-test.true c.item-item.is w.in-Run.is refl) ∙ lo_alone c.args.timing.now (past_run c.args.timing.now w.in-Run.processor w.in-Run.tuple (least_of c.loop-item.self)) (least_of c.match-item.self) (drop (n + 1) c.args.items.now) (sym (ap (λ v. (least_of v).lo) w.self-is ∙ w.past_run.ensures.value));
      }
      | in-Bar w ↦ record {
        small = subst (λ b. IsUpTo b (least_of c.match-item.self)) more (subst (λ v. IsUpTo ((1000 + 1100 * n) + 1100) (least_of v)) (sym w.self-is) (w.past_bar.ensures.small (1000 + 1100 * n) c.loop-item.invariant.small));
        same = c.loop-item.invariant.same ∙ ap (λ (k : Known). k.lo) (bar_along c.args.timing.now (least_of c.loop-item.self) (past_bar c.args.timing.now w.in-Bar.mask (least_of c.loop-item.self)) c.args.items.now n c.item-item.result w.in-Bar.mask c.loop-item-test.true c.item-item.is w.in-Bar.is refl) ∙ lo_alone c.args.timing.now (past_bar c.args.timing.now w.in-Bar.mask (least_of c.loop-item.self)) (least_of c.match-item.self) (drop (n + 1) c.args.items.now) (sym (ap (λ v. (least_of v).lo) w.self-is ∙ w.past_bar.ensures.value));
      }
    ]
