-- What the calls of the processors' lists say. Private: they are a part of the dynamic unit.
use Rattle.std.specs.Prelude.{ℕ, Option, Some, if◌then◌else◌}
use Rattle.bm_base.specs.Mask.{has_bit}

-- the front of processor p's list once mask j is put there, where p is its member
abbrev pub led : ℕ → ℕ → ℕ → Option ℕ → Option ℕ
led mask j p first = if has_bit mask p then Some j else first

-- and once its front is taken, with what follows in the list
abbrev pub advanced : ℕ → Option ℕ → ℕ → Option ℕ → Option ℕ
advanced mask next p first = if has_bit mask p then next else first
