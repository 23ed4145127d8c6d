-- The offsets of a script.
use Rattle.std.specs.Prelude.{ℕ, ◌+◌, ◌-◌, ◌*◌, ◌%◌, ◌^◌, List, [], get_or}
use Rattle.bm_base.specs.Mixing.{mixed}
use Rattle.bm_base.specs.declared.spec.Interval.{Interval}
use Rattle.timing_law.specs.Duration.{duration_by}
use Rattle.timing_script.specs.declared.script.Script.{Script}
use Rattle.timing_script.specs.declared.script.Script.TheVariants.{Least, Most, Seed, File}

-- the number of a processor, from 1, and the count of its starts, from 0, spread over 64 bits above a seed
abbrev pub seed_offset : ℕ → ℕ → ℕ → ℕ
seed_offset n processor k = mixed ((n + (processor + 1) * 0x9E3779B97F4A7C15 + k * 0xBF58476D1CE4E5B9) % 2 ^ 64)

-- the k-th offset of a processor, by its list; one that is missing is 0
abbrev pub offset_at : List (List ℕ) → ℕ → ℕ → ℕ
offset_at lists processor k = get_or (get_or lists processor []) k 0

-- the offset of the k-th instruction that a processor starts
abbrev pub offset_of : Script → ℕ → ℕ → Interval → ℕ
offset_of Least processor k interval = 0
offset_of Most processor k interval = interval.most - interval.least
offset_of (Seed n) processor k interval = seed_offset n processor k
offset_of (File lists) processor k interval = offset_at lists processor k

-- how long that instruction takes
abbrev pub script_duration : Script → ℕ → ℕ → Interval → ℕ
script_duration script processor k interval = duration_by (offset_of script processor k interval) interval
