use Rattle.std.proofs.Common.{◌≡◌, ◌<◌, length, get_or, ap, ◌∙◌, arith}
use Rattle.line_model.specs.Streams.{masks}
use Rattle.line_model.specs.Reductions.{mask_at}
use Rattle.time_interval.specs.Places.{place_of_bar}
use Rattle.time_interval.proofs.EditFacts.{bar_inside}
use Rattle.time_interval.proofs.GapFacts.{bar_at}
use Rattle.time_interval.proofs.places.Places.mask.Goals as goal
use Rattle.time_interval.proofs.places.Places.mask.Goals.{After-at-place}

below : (c : After-at-place) → c.args.index < length (masks c.args.items.now)
below c = omega (arith, c.requires.places.bars_are)

place_is : (c : After-at-place) → c.at-place.result ≡ place_of_bar c.args.index c.args.items.now
place_is c = c.at-place.ensures c.args.items.now c.requires.places (below c)

pub prove-unreachable-requires : goal.prove-unreachable-requires
prove-unreachable-requires c =
    let d = (goal.at.prove-unreachable-requires c).After-at-place in
    let i : place_of_bar c.args.index c.args.items.now < length c.args.items.now = bar_inside c.args.index c.args.items.now (below d) in
    omega (arith, place_is d, c.if-prove.true)

pub returns : goal.returns
returns c =
    let d = (goal.at.returns c).After-at-place in
    c.mask_there.ensures (mask_at c.args.items.now c.args.index) (c.index-items-place.is ∙ ap (λ n. get_or c.args.items.now n c.index-items-place.result) (place_is d) ∙ bar_at c.args.index c.args.items.now c.index-items-place.result (below d))
