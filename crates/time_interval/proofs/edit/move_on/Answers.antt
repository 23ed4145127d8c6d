use Rattle.std.proofs.Common.{◌≡◌, length, set, ap, arith, ◌∙◌}
use Rattle.time_interval.specs.Places.{without_place}
use Rattle.time_interval.proofs.GapFacts.{gap_on, without_short}
use Rattle.time_interval.proofs.edit.move_on.Goals as goal

pub set-requires : goal.set-requires
set-requires c = let n : length c.loop-k.target ≡ length (without_place c.loop-k.k c.args.items.now) = ap length c.loop-k.invariant in omega (arith, without_short c.loop-k.k c.args.items.now (omega arith))

pub loop-k-preserved : goal.loop-k-preserved
loop-k-preserved c = c.set.ensures ∙ ap (λ l. set l c.loop-k.k c.index-items-k.result) c.loop-k.invariant ∙ gap_on c.loop-k.k c.args.items.now c.index-items-k.result (omega arith) c.index-items-k.is
