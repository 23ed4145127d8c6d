-- The mixing of 64 bits.
use Rattle.std.specs.Prelude.{ℕ, ◌*◌, ◌/◌, ◌%◌, ◌^◌, bit_xor}

-- z with its own high bits, moved down, turned into it
abbrev pub stirred : ℕ → ℕ → ℕ
stirred by z = bit_xor z (z / 2 ^ by)

-- the finaliser of the generator SplitMix64, on 64 bits
abbrev pub mixed : ℕ → ℕ
mixed z = stirred 31 (stirred 27 (stirred 30 z * 0xBF58476D1CE4E5B9 % 2 ^ 64) * 0x94D049BB133111EB % 2 ^ 64)
