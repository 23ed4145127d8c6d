-- Of private functions: what tables of sets hold.
use Rattle.std.specs.Prelude.{ℕ, Bool, List, slice_index}
use Rattle.bm_base.specs.Mask.{has_bit}
use Rattle.time_interval.specs.declared.seen.Sets.{Sets}
use Rattle.time_interval.specs.declared.knows.KnownSince.{KnownSince}
use Rattle.time_interval.specs.Knows.{Knows}

abbrev pub set_at : List ℕ → ℕ → ℕ
set_at sets p = slice_index sets p

abbrev pub seen_by : List ℕ → ℕ → ℕ → Bool
seen_by sets p g = has_bit (set_at sets p) g

abbrev pub seen_of : Sets → ℕ → ℕ → Bool
seen_of s = seen_by s.sets

abbrev pub knows_of : KnownSince → Knows
knows_of k = record { bars = k.bars; fired = has_bit k.fired; up = seen_by k.ups }
