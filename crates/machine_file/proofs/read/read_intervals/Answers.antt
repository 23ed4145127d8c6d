use Rattle.std.proofs.Common.{◌≡◌, ◌<◌, [], length, ◌∙◌, inl, inr, arith, Bor, List, ℕ}
use Rattle.std.proofs.lemmas.Result.{err_from_is_err_and}
use Rattle.toml.specs.View.{table_view}
use Rattle.machine_file.proofs.Times.{none_read, one_more, one_wrong, all_read, all_set}
use Rattle.machine_file.proofs.read.read_intervals.Goals as goal

abbrev none : Bor (List ℕ)
none = record { ref_ptr = (0, 0); now = [] }

pub loop-place-init : goal.loop-place-init
loop-place-init c = record { rest = none_read c.args.keys.now (table_view c.args.times.now) c.args.intervals.now; time = c.requires.time }

pub loop-place-preserved : goal.loop-place-preserved
loop-place-preserved c =
    let within : c.loop-place.place < length c.loop-place.intervals = omega (arith, c.requires.count, c.loop-place.auto.intervals) in
    let more = one_more c.args.keys.now (table_view c.args.times.now) c.loop-place.place c.loop-place.intervals none c.in_ok-intervals.field-0 c.loop-place-test.true within c.in_ok-intervals.ensures.told in
    record {
      rest = c.loop-place.invariant.rest ∙ more;
      time = all_set c.loop-place.intervals c.loop-place.place c.in_ok-intervals.field-0 c.loop-place.invariant.time c.in_ok-intervals.ensures.time;
    }

pub returns-in_err-intervals-clause-err : goal.returns-in_err-intervals-clause-err
returns-in_err-intervals-clause-err c =
    let p = err_from_is_err_and c.from_residual.result c.from_residual.ensures.1 in
    rw (p.1, p.2) (elim c.in_err-intervals.ensures.told [
      | inl e ↦ inl (c.loop-place.invariant.rest ∙ one_wrong c.args.keys.now (table_view c.args.times.now) c.loop-place.place c.loop-place.intervals none c.in_err-intervals.field-0.0 c.loop-place-test.true e)
      | inr e ↦ inr e
    ])

pub returns : goal.returns
returns c =
    let whole : length c.loop-place.intervals ≡ length c.args.keys.now = c.loop-place.auto.intervals ∙ c.requires.count in
    record {
      ok = c.loop-place.invariant.rest ∙ all_read c.args.keys.now (table_view c.args.times.now) c.loop-place.place c.loop-place.intervals (omega arith) (omega arith);
      err = tt;
      time = c.loop-place.invariant.time;
    }
