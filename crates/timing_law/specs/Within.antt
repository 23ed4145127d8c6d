-- Every offset picks a duration within the interval, and each of those is picked.
use Rattle.std.proofs.Common.{◌≡◌, ℕ, ◌+◌, ◌-◌, ◌%◌, ◌<◌, ◌≤◌, arith}
use Rattle.std.proofs.lemmas.Nat.{mod_below}
use Rattle.std.proofs.Math.Nat.{mod-eq_of_lt}
use Rattle.bm_base.specs.declared.spec.Interval.{Interval}
use Rattle.timing_law.specs.Duration.{IsWithin, duration_by}

pub duration_by-within : (offset : ℕ) (interval : Interval) → interval.least ≤ interval.most
    → IsWithin interval (duration_by offset interval)
duration_by-within offset interval ordered =
    let below : offset % (interval.most - interval.least + 1) < interval.most - interval.least + 1 =
    mod_below offset (interval.most - interval.least + 1) (omega arith) in
    record { low = omega arith; high = omega arith }

-- by the offset that is what the duration lies above the least
pub duration_by-reached : (duration : ℕ) (interval : Interval) → IsWithin interval duration
    → duration_by (duration - interval.least) interval ≡ duration
duration_by-reached duration interval within =
    let low : interval.least ≤ duration = within.low in
    let high : duration ≤ interval.most = within.high in
    let below : duration - interval.least < interval.most - interval.least + 1 = omega arith in
    let same : (duration - interval.least) % (interval.most - interval.least + 1) ≡ duration - interval.least = mod-eq_of_lt below in
    omega arith
