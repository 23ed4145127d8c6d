-- The starts of a draft, of which some are none.
use Rattle.std.proofs.Common.{◌≡◌, ℕ, zero, suc, ◌+◌, ◌<◌, ◌++◌, ◌∙◌, List, [], ◌∷◌, length, map, replicate, set, slice_index, Option, Some, None, refl, ap, arith}
use Rattle.std.specs.Option.{unwrap_or}
use Rattle.list_schedule.specs.Steps.{never, tick_of, AreTicks}

abbrev none : Option ℕ
none = None

-- one start more
pub ticks_set : (xs : List (Option ℕ)) (i z : ℕ) → z < never → AreTicks xs → AreTicks (set xs i (Some z))
ticks_set [] i z lt h u s e = h u s e
ticks_set (x ∷ xs) zero z lt h zero s e = let q : z ≡ s = cc in omega arith
ticks_set (x ∷ xs) zero z lt h (suc u) s e = h (suc u) s e
ticks_set (x ∷ xs) (suc i) z lt h zero s e = h zero s e
ticks_set (x ∷ xs) (suc i) z lt h (suc u) s e = ticks_set xs i z lt (λ v r q. h (suc v) r q) u s e

-- none at first
pub no_ticks : (n : ℕ) → AreTicks (replicate n None)
no_ticks zero u s e = absurd (cc)
no_ticks (suc n) zero s e = absurd (cc)
no_ticks (suc n) (suc u) s e = no_ticks n u s e

pub none_starts : (n u : ℕ) → u < n → slice_index (map tick_of (replicate n None)) u ≡ never
none_starts zero u lt = absurd (omega arith)
none_starts (suc n) zero lt = refl
none_starts (suc n) (suc u) lt = none_starts n u (omega arith)

-- with all placed
pub all_ticks : (xs : List (Option ℕ)) → ((u : ℕ) → u < length xs → slice_index (map tick_of xs) u < never) → map (λ start. unwrap_or start 0) xs ≡ map tick_of xs
all_ticks [] h = refl
all_ticks (Some s ∷ xs) h = ap (λ l. s ∷ l) (all_ticks xs (λ u lt. h (suc u) (omega arith)))
all_ticks (None ∷ xs) h = absurd (let no : never < never = h zero (omega arith) in omega arith)

replicate_more : (n : ℕ) → replicate n none ++ none ∷ [] ≡ replicate (suc n) none
replicate_more zero = refl
replicate_more (suc n) = ap (λ l. none ∷ l) (replicate_more n)

pub none_more : (n : ℕ) → replicate n none ++ none ∷ [] ≡ replicate (n + 1) none
none_more n = let on : suc n ≡ n + 1 = omega arith in replicate_more n ∙ ap (λ k. replicate k none) on
