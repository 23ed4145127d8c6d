use Rattle.std.proofs.Common.{◌≡◌, ◌≤◌, ◌+◌, ℕ, arith, sym, subst, ap, ◌∙◌, if◌then◌else◌}
use Rattle.bm_base.specs.Mask.{has_bit}
use Rattle.time_interval.specs.Bounds.{fire_lo, later}
use Rattle.time_interval.specs.Steps.{by_processor, is_up_to}
use Rattle.time_interval.specs.Walks.{least_of}
use Rattle.time_interval.proofs.SinceFacts.{low_up_to}
use Rattle.time_interval.proofs.Tables.{fire_lo_up_to, up_to_more, past_bar_up_to}
use Rattle.time_interval.proofs.least.LeastWalk.past_bar.Goals as goal

pub later-requires-clause-small : goal.later-requires-clause-small
later-requires-clause-small c = subst (is_up_to 4000000000) (sym c.fire_lo-lo.ensures) (up_to_more 3000000000 4000000000 _ (omega arith) (fire_lo_up_to c.processors-processors.result c.args.mask (by_processor c.args.self.now.lo) 3000000000 c.requires.small.lo))

pub returns-clause-value : goal.returns-clause-value
returns-clause-value c =
    let n : c.processors-processors.result ≡ c.args.timing.now.processors = c.processors-processors.ensures.value in
    let lo : c.later.result ≡ later (fire_lo c.args.timing.now.processors c.args.mask (by_processor c.args.self.now.lo)) c.args.timing.now.delay = cc in
    λ i p. (c.resume.ensures p ∙ ap (λ y. if has_bit c.args.mask p then y else by_processor c.args.self.now.lo p) lo) i

pub returns-clause-small : goal.returns-clause-small
returns-clause-small c = λ n h. low_up_to (n + 1100) _ _ (returns-clause-value c) (past_bar_up_to c.args.timing.now c.args.mask n (least_of c.args.self.now) (subst (λ (x : ℕ). x ≤ 100) c.delay.ensures.value c.delay.ensures.short) h)
