use Rattle.std.proofs.Common.{◌≡◌, ◌+◌, ◌∙◌, ℕ, List, set, drop, length-set, sym, ap, ap₂, subst, get_or, length, arith, true, false}
use Rattle.bm_base.specs.Mask.{has_bit}
use Rattle.stream_image.specs.Rest.{rest_of}
use Rattle.stream_image.proofs.Put.{more_runs, same_runs, DoneTo, LeftFrom, done_more, left_more, done_same}
use Rattle.stream_image.proofs.line.put_members.Goals.{then-has+in_ok-places, else-has}
use Rattle.stream_image.proofs.line.put_members.Goals as goal

pub loop-p-preserved : goal.loop-p-preserved
loop-p-preserved c = elim c.if-has.branch [
  | then-has+in_ok-places w ↦
      (let here : has_bit c.args.mask c.loop-p.p ≡ true = sym c.has.ensures.value ∙ w.if-has.true in
      let long : length c.if-has.places ≡ 128 = c.if-has.array_long in
      let own = w.items_of.ensures in
      record {
        runs = w.items-is ∙ more_runs c.args.items.now c.loop-p.items w.put_runs.new.items c.loop-p.p (has_bit c.args.mask) (rest_of c.args.streams.now c.args.places.now) _ c.loop-p.invariant.runs w.in_ok-places.ensures.runs (ap₂ (λ n o. drop n o) (c.loop-p.invariant.left c.loop-p.p (omega arith)) own) here;
        done = subst (DoneTo c.args.streams.now c.args.mask c.args.places.now (c.loop-p.p + 1)) (sym w.places-is) (done_more c.args.streams.now c.args.mask c.args.places.now c.loop-p.p w.in_ok-places.field-0 c.loop-p.places w.items_of.result.now (let n = length_of c.loop-p.places c.loop-p.p w.in_ok-places.field-0 c.if-has.places w.places-is in omega (arith, n, long, c.requires, c.loop-p-test.true)) own w.in_ok-places.ensures.place here c.loop-p.invariant.done c.loop-p.invariant.left);
        left = subst (LeftFrom c.args.streams.now c.args.mask c.args.places.now (c.loop-p.p + 1)) (sym w.places-is) (left_more c.args.streams.now c.args.mask c.args.places.now c.loop-p.p w.in_ok-places.field-0 c.loop-p.places c.loop-p.invariant.left);
      })
  | else-has w ↦
      (let none : has_bit c.args.mask c.loop-p.p ≡ false = sym c.has.ensures.value ∙ w.if-has.false in
      record {
        runs = w.items-is ∙ same_runs c.args.items.now c.loop-p.items c.loop-p.p (has_bit c.args.mask) (rest_of c.args.streams.now c.args.places.now) c.loop-p.invariant.runs none;
        done = subst (DoneTo c.args.streams.now c.args.mask c.args.places.now (c.loop-p.p + 1)) (sym w.places-is) (done_same c.args.streams.now c.args.mask c.args.places.now c.loop-p.p c.loop-p.places none c.loop-p.invariant.done c.loop-p.invariant.left);
        left = λ q k. ap (λ places. get_or places q 0) w.places-is ∙ c.loop-p.invariant.left q (omega (arith, k));
      })
]
  where
    length_of : (xs : List ℕ) (i v : ℕ) (ys : List ℕ) → ys ≡ set xs i v → length ys ≡ length xs
    length_of xs i v ys e = ap length e ∙ length-set xs i v
