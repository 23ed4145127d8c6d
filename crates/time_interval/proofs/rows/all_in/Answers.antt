use Rattle.std.proofs.Common.{sym, true≢false, ◌∙◌}
use Rattle.bm_base.proofs.MaskBits.{has_bit-above}
use Rattle.time_interval.proofs.rows.all_in.Goals as goal

pub returns-then-g-ge128 : goal.returns-then-g-ge128
returns-then-g-ge128 c = (λ e. absurd (true≢false (sym e)), λ h. absurd (true≢false (sym (h c.loop-g.g-index 0 c.loop-g-test.true) ∙ has_bit-above c.args.set _ c.ranges.set.fits c.if-g-ge128.true)))
