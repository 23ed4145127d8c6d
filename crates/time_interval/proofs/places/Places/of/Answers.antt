use Rattle.std.proofs.Common.{◌≡◌, ◌<◌, ◌+◌, ◌++◌, ◌∷◌, [], set, length, take, sym, ap, subst, subst₂, ◌∙◌, arith}
use Rattle.std.proofs.lemmas.List.{length-set, length-take-le}
use Rattle.time_interval.specs.Gaps.{AreFirstPlaces}
use Rattle.time_interval.proofs.GapFacts.{room_for, places_other, places_bar, taken_on}
use Rattle.time_interval.proofs.places.Places.of.Goals as goal
use Rattle.time_interval.proofs.places.Places.of.Goals.{in-Bar, in_default}

pub bounds-places-bars : goal.bounds-places-bars
bounds-places-bars c = omega (arith, room_for c.args.items.now c.loop-place.place c.in-Bar.mask c.index-items-place.result (omega arith) c.index-items-place.is c.in-Bar.is, c.loop-place.invariant.first.bars_are, c.requires)

pub overflow_add-bars : goal.overflow_add-bars
overflow_add-bars c = let low : c.loop-place.bars < 128 = omega (arith, room_for c.args.items.now c.loop-place.place c.in-Bar.mask c.index-items-place.result (omega arith) c.index-items-place.is c.in-Bar.is, c.loop-place.invariant.first.bars_are, c.requires) in omega arith

pub loop-place-preserved : goal.loop-place-preserved
loop-place-preserved c =
    let more = taken_on c.args.items.now c.loop-place.place c.index-items-place.result (omega arith) c.index-items-place.is in
    record {
      long = elim c.match-item.branch as (λ _. length c.match-item.places ≡ 128) [
        | in-Bar w ↦ ap length w.places-is ∙ length-set c.loop-place.places c.loop-place.bars c.loop-place.place ∙ c.loop-place.invariant.long
        | in_default w ↦ ap length w.places-is ∙ c.loop-place.invariant.long
      ];
      first = elim c.match-item.branch as (λ _. AreFirstPlaces (take (c.loop-place.place + 1) c.args.items.now) c.match-item.bars c.match-item.places) [
        | in-Bar w ↦ (
            let low : c.loop-place.bars < 128 = omega (arith, room_for c.args.items.now c.loop-place.place w.in-Bar.mask c.index-items-place.result (omega arith) c.index-items-place.is w.in-Bar.is, c.loop-place.invariant.first.bars_are, c.requires) in
            let made = places_bar (take c.loop-place.place c.args.items.now) w.in-Bar.mask c.loop-place.bars c.loop-place.place c.loop-place.places (omega (arith, c.loop-place.invariant.long)) (sym (length-take-le c.loop-place.place c.args.items.now (omega arith))) c.loop-place.invariant.first in
            subst₂ (λ b p. AreFirstPlaces (take (c.loop-place.place + 1) c.args.items.now) b p) (sym w.bars-is) (sym w.places-is) (subst (λ ys. AreFirstPlaces ys (c.loop-place.bars + 1) (set c.loop-place.places c.loop-place.bars c.loop-place.place)) (sym (more ∙ ap (λ y. take c.loop-place.place c.args.items.now ++ y ∷ []) w.in-Bar.is)) made)
            )
        | in_default w ↦ subst₂ (λ b p. AreFirstPlaces (take (c.loop-place.place + 1) c.args.items.now) b p) (sym w.bars-is) (sym w.places-is) (subst (λ ys. AreFirstPlaces ys c.loop-place.bars c.loop-place.places) (sym more) (places_other (take c.loop-place.place c.args.items.now) c.index-items-place.result c.loop-place.bars c.loop-place.places w.in_default.not-Bar c.loop-place.invariant.first))
      ];
    }
