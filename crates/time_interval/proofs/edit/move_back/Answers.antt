use Rattle.std.proofs.Common.{◌≡◌, ◌-◌, ◌+◌, length, set, ap, arith, ◌∙◌}
use Rattle.time_interval.specs.Places.{without_place}
use Rattle.time_interval.proofs.GapFacts.{gap_back, without_short}
use Rattle.time_interval.proofs.edit.move_back.Goals as goal

pub set-requires : goal.set-requires
set-requires c = let n : length c.loop-k.target ≡ length (without_place c.loop-k.k c.args.items.now) = ap length c.loop-k.invariant.made in omega (arith, without_short c.loop-k.k c.args.items.now (omega arith))

pub loop-k-preserved : goal.loop-k-preserved
loop-k-preserved c =
    let e : c.loop-k.k ≡ (c.loop-k.k - 1) + 1 = omega arith in
    record {
      lower = omega arith;
      made = c.set.ensures ∙ ap (λ l. set l (c.loop-k.k - 1) c.index-items-k.result) (c.loop-k.invariant.made ∙ ap (λ n. without_place n c.args.items.now) e) ∙ gap_back (c.loop-k.k - 1) c.args.items.now c.index-items-k.result (omega arith) c.index-items-k.is;
    }

pub returns : goal.returns
returns c = let e : c.loop-k.k ≡ c.args.dropped = omega (arith, c.loop-k.invariant.lower) in c.loop-k.invariant.made ∙ ap (λ n. without_place n c.args.items.now) e
