-- Draws of numbers, each from the state that the draw before it left.
use Rattle.std.specs.Prelude.{ℕ, ◌+◌, ◌%◌, ◌^◌}
use Rattle.bm_base.specs.Mixing.{mixed}

-- from a state to what is drawn, and the state behind it
abbrev pub Draw : Type 0 → Type 0
Draw A = ℕ → A × ℕ

-- a draw, and then one that may look at what it gave
infixl 10 ◌>>=◌
abbrev pub ◌>>=◌ : {A B : Type 0} → Draw A → (A → Draw B) → Draw B
m >>= f = λ s. f (m s).0 (m s).1

-- nothing is drawn
abbrev pub give : {A : Type 0} → A → Draw A
give x = λ s. (x, s)

-- the next state
unfoldable pub after : ℕ → ℕ
after s = (s + 0x9E3779B97F4A7C15) % 2 ^ 64

-- a number below n
abbrev pub below : ℕ → Draw ℕ
below n = λ s. (mixed (after s) % n, after s)
