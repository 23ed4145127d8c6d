use Rattle.std.proofs.Common.{◌≤◌, take, length, arith, sym}
use Rattle.line_model.specs.Streams.{masks}
use Rattle.time_interval.proofs.AheadFacts.{taken_length, behind_at}
use Rattle.time_interval.proofs.EditFacts.{taken_masks}
use Rattle.time_interval.proofs.Fronts.{line_length}
use Rattle.time_interval.proofs.front.rest_ordered.Goals as goal

pub stands_ordered-requires-clause-short : goal.stands_ordered-requires-clause-short
stands_ordered-requires-clause-short c =
    let l : length c.args.items.now ≤ 384 = line_length (length c.args.timing.now.times) c.args.timing.now.processors c.args.items.now c.requires.timed.few c.requires.timed.line in
    let t : length (take c.args.from c.args.items.now) ≤ length c.args.items.now = taken_length c.args.from c.args.items.now in
    omega arith

pub stands_ordered-requires-clause-bars : goal.stands_ordered-requires-clause-bars
stands_ordered-requires-clause-bars c =
    let t : length (masks (take c.args.from c.args.items.now)) ≤ length (masks c.args.items.now) = taken_masks c.args.from c.args.items.now in
    omega (arith, c.requires.timed.line.few)

pub stands_ordered-requires-clause-stand : goal.stands_ordered-requires-clause-stand
stands_ordered-requires-clause-stand c = behind_at c.args.deps.now.producers c.args.items.now c.args.from c.index-items-from.result c.requires.order (omega arith) (sym c.index-items-from.is)
