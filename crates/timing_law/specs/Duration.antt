-- How long an instruction takes.
use Rattle.std.specs.Prelude.{ℕ, ◌+◌, ◌-◌, ◌%◌, ◌≤◌}
use Rattle.bm_base.specs.declared.spec.Interval.{Interval}

-- at least the least and at most the greatest
pub record IsWithin (interval : Interval) (duration : ℕ) : Type 0 where
  pub low : interval.least ≤ duration
  pub high : duration ≤ interval.most

-- The duration that an offset picks: so many ticks above the least, and round again past the greatest.
abbrev pub duration_by : ℕ → Interval → ℕ
duration_by offset interval = interval.least + offset % (interval.most - interval.least + 1)
