use Rattle.std.proofs.Common.{◌≡◌, ◌<◌, ◌≤◌, take, length, get_or, arith, sym, subst, add-one}
use Rattle.line_model.specs.Streams.{masks}
use Rattle.time_interval.specs.Ahead.{IsAhead}
use Rattle.time_interval.proofs.AheadFacts.{taken_length, behind_at, ahead_small, ahead_room, taken_next, new_at, held_more}
use Rattle.time_interval.proofs.EditFacts.{taken_masks}
use Rattle.time_interval.proofs.Fronts.{line_length}
use Rattle.time_interval.proofs.front.walk_ordered.Goals as goal

pub stands_ordered-requires-clause-short : goal.stands_ordered-requires-clause-short
stands_ordered-requires-clause-short c =
    let l : length c.args.items.now ≤ 384 = line_length (length c.args.timing.now.times) c.args.timing.now.processors c.args.items.now c.requires.timed.few c.requires.timed.line in
    let t : length (take c.loop-k.k c.args.items.now) ≤ length c.args.items.now = taken_length c.loop-k.k c.args.items.now in
    omega arith

pub stands_ordered-requires-clause-bars : goal.stands_ordered-requires-clause-bars
stands_ordered-requires-clause-bars c =
    let t : length (masks (take c.loop-k.k c.args.items.now)) ≤ length (masks c.args.items.now) = taken_masks c.loop-k.k c.args.items.now in
    omega (arith, c.requires.timed.line.few)

pub stands_ordered-requires-clause-stand : goal.stands_ordered-requires-clause-stand
stands_ordered-requires-clause-stand c = behind_at c.args.deps.now.producers c.args.items.now c.loop-k.k c.index-items-k.result c.requires.order (omega arith) (sym c.index-items-k.is)

pub past-requires-clause-small : goal.past-requires-clause-small
past-requires-clause-small c = ahead_small (record { pace = c.args.timing.now; line = c.args.items.now }) c.requires.timed c.loop-k.k c.loop-k.front c.loop-k.invariant.ahead

pub past-requires-clause-room : goal.past-requires-clause-room
past-requires-clause-room c = λ m e. ahead_room (record { pace = c.args.timing.now; line = c.args.items.now }) c.requires.timed c.loop-k.k c.loop-k.front c.loop-k.invariant.ahead m (omega arith) (subst (λ x. get_or c.args.items.now c.loop-k.k x ≡ x) e (sym c.index-items-k-in-loop-k.is))

pub loop-k-preserved : goal.loop-k-preserved
loop-k-preserved c =
    let l : c.loop-k.k < length c.args.items.now = omega arith in
    record {
      ahead = subst (λ n. IsAhead c.args.timing.now (take n c.args.items.now) c.past.new.self) (sym (add-one c.loop-k.k))
          (subst (λ ys. IsAhead c.args.timing.now ys c.past.new.self) (sym (taken_next c.args.items.now c.loop-k.k c.index-items-k-in-loop-k.result l (sym c.index-items-k-in-loop-k.is)))
          (c.past.ensures (take c.loop-k.k c.args.items.now) c.loop-k.invariant.ahead (new_at c.args.items.now c.loop-k.k c.index-items-k-in-loop-k.result c.requires.timed.line.once l (sym c.index-items-k-in-loop-k.is))));
      held = held_more c.args.timing.now c.args.deps.now.producers c.args.items.now c.args.from c.loop-k.k c.index-items-k.result c.loop-k.invariant.held l c.index-items-k.is (c.stands_ordered.ensures.0 c.if-not-stands_ordered.false);
    }
