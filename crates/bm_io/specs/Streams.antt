-- What a reader gives, where the bytes that it has left are told.
use Rattle.std.specs.Prelude.{ℕ, ◌≡◌, ◌+◌, List, take, Option, IfSome}

-- the first `most + 1` of the bytes that it had left
abbrev pub GivesFirst : Option (List ℕ) → ℕ → List ℕ → Type 0
GivesFirst told most bytes = IfSome told (λ left. bytes ≡ take (most + 1) left)
