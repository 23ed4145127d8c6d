use Rattle.std.proofs.Common.{◌+◌, drop, ap, sym, ◌∙◌, arith}
use Rattle.std.proofs.lemmas.List.{take_rest}
use Rattle.time_interval.specs.Bounds.{Known, along, at_bar}
use Rattle.time_interval.specs.Walks.{least_of}
use Rattle.time_interval.proofs.SinceFacts.{lo_alone, since_here}
use Rattle.time_interval.proofs.least.least_since.Goals as goal

pub returns-then-left-eq0 : goal.returns-then-left-eq0
returns-then-left-eq0 c =
    c.along.ensures
    ∙ ap (λ ys. (along c.args.timing.now (least_of c.at_bar-walk.result) ys).lo) (take_rest c.args.items.now (c.loop-place.place + 1))
    ∙ lo_alone c.args.timing.now (least_of c.at_bar-walk.result) (at_bar c.args.timing.now c.in-Bar.mask) (drop (c.loop-place.place + 1) c.args.items.now) c.at_bar-walk.ensures.value
    ∙ sym (ap (λ (k : Known). k.lo) (c.loop-place.invariant ∙ since_here c.args.timing.now c.loop-place.left c.args.items.now c.loop-place.place c.index-items-place.result c.in-Bar.mask (omega arith) c.index-items-place.is c.in-Bar.is (omega arith)))
