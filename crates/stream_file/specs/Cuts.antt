-- Fields behind one another, a space between two. 32 is the space.
use Rattle.std.specs.Prelude.{ℕ, ◌&&◌, nat_le, if◌then◌else◌, List, Option, Some, None}
use Rattle.bm_base.specs.Lines.{front_of, behind_of, has_byte}
use Rattle.bm_base.specs.Strict.{strict_count_of}

-- a step, and the next one where it gives something
infixl 10 ◌>>=◌
abbrev pub ◌>>=◌ : {A B : Type 0} → Option A → (A → Option B) → Option B
None >>= f = None
Some x >>= f = f x

-- the first field and what stands behind its space, where there is one
abbrev pub cut : List ℕ → Option (List ℕ × List ℕ)
cut bs = if has_byte 32 bs then Some (front_of 32 bs, behind_of 32 bs) else None

abbrev pub within : ℕ → ℕ → ℕ → Option ℕ
within least most n = if nat_le least n && nat_le n most then Some n else None

-- a number in its one spelling, from least to most
abbrev pub count_within : ℕ → ℕ → List ℕ → Option ℕ
count_within least most bs = strict_count_of bs >>= within least most

-- two numbers, each from 0
abbrev pub two_of : ℕ → ℕ → List ℕ → Option (ℕ × ℕ)
two_of most_a most_b bs = do
  parts ← cut bs
  a ← count_within 0 most_a parts.0
  b ← count_within 0 most_b parts.1
  Some (a, b)

-- three numbers, each from 0
abbrev pub three_of : ℕ → ℕ → ℕ → List ℕ → Option (ℕ × ℕ × ℕ)
three_of most_a most_b most_c bs = do
  parts ← cut bs
  a ← count_within 0 most_a parts.0
  bc ← two_of most_b most_c parts.1
  Some (a, bc.0, bc.1)
