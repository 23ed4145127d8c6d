-- Loops and the turns that are left.
use Rattle.std.proofs.Common.{◌≡◌, ℕ, zero, suc, ◌≤◌, ℤ, List, [], ◌∷◌, Bool, true, false, refl, ap, ◌∙◌, arith}
use Rattle.std.specs.Prelude.{if◌then◌else◌}
use Rattle.bm_base.specs.Memory.{Content}
use Rattle.src_meaning.specs.declared.evaluate.End.{End}
use Rattle.src_meaning.specs.declared.evaluate.End.TheVariants.{Done, More}
use Rattle.src_meaning.specs.Meaning.{Outcome, Action, done, stopped, continued, and_then, behind, loop, while_loop, is_zero, in_order}

-- an action leaves no more turns than it had
abbrev pub Spends : Action → Type 0
Spends a = (turns : ℕ) (memory : List Content) → (a turns memory).turns ≤ turns

spends_behind : (end : End) (o : Outcome) (b : Action) (n : ℕ) → o.turns ≤ n → Spends b → (continued end o b).turns ≤ n
spends_behind Done o b n h s = let k = s o.turns o.memory in omega (arith, k)
spends_behind More o b n h s = h

pub spends_then : (o : Outcome) (b : Action) (n : ℕ) → o.turns ≤ n → Spends b → (and_then o b).turns ≤ n
spends_then o b n h s = spends_behind o.end o b n h s

pub spends_if : (c : Bool) (o q : Outcome) (n : ℕ) → o.turns ≤ n → q.turns ≤ n → (if c then o else q).turns ≤ n
spends_if true o q n h k = h
spends_if false o q n h k = k

-- statements that spend turns, in order
pub data AllSpend : List Action → Type 0 where
  none : AllSpend []
  more : {a : Action} {rest : List Action} → Spends a → AllSpend rest → AllSpend (a ∷ rest)

pub spends_in_order : (as' : List Action) → AllSpend as' → Spends (in_order as')
spends_in_order [] none n m = omega arith
spends_in_order (a ∷ rest) (more h k) n m = spends_then (a n m) (in_order rest) n (h n m) (spends_in_order rest k)

module _ (test : List Content → ℤ) (body : Action) (s : Spends body) where
  pub spends_loop : (often : ℕ) → Spends (loop often test body)
  spends_loop zero n m = spends_if (is_zero (test m)) (done n m) (stopped n m) n (omega arith) (omega arith)
  spends_loop (suc k) zero m = spends_if (is_zero (test m)) (done zero m) (stopped zero m) zero (omega arith) (omega arith)
  spends_loop (suc k) (suc n) m =
      let h = s n m in
      spends_if (is_zero (test m)) (done (suc n) m) (and_then (body n m) (loop k test body)) (suc n) (omega arith) (spends_then (body n m) (loop k test body) (suc n) (omega (arith, h)) (spends_loop k))

  same_behind : (end : End) (o : Outcome) (a b : Action) → a o.turns o.memory ≡ b o.turns o.memory → continued end o a ≡ continued end o b
  same_behind Done o a b e = ap (behind o.output) e
  same_behind More o a b e = refl

  same_bound : (j k n : ℕ) (m : List Content) → n ≤ j → n ≤ k → loop j test body n m ≡ loop k test body n m
  same_bound zero zero n m h i = refl
  same_bound zero (suc k) zero m h i = refl
  same_bound zero (suc k) (suc n) m h i = absurd (omega arith)
  same_bound (suc j) zero zero m h i = refl
  same_bound (suc j) zero (suc n) m h i = absurd (omega arith)
  same_bound (suc j) (suc k) zero m h i = refl
  same_bound (suc j) (suc k) (suc n) m h i =
      let o = body n m in
      let left = s n m in
      let same = same_bound j k o.turns o.memory (omega (arith, left)) (omega (arith, left)) in
      ap (λ q. if is_zero (test m) then done (suc n) m else q) (same_behind o.end o (loop j test body) (loop k test body) same)

  -- a bound above the turns changes nothing
  pub enough : (k n : ℕ) (m : List Content) → n ≤ k → loop k test body n m ≡ while_loop test body n m
  enough k n m h = same_bound k n n m h (omega arith)

  -- a turn, and then the loop again
  pub while-turn : (n : ℕ) (m : List Content) → is_zero (test m) ≡ false → while_loop test body (suc n) m ≡ and_then (body n m) (while_loop test body)
  while-turn n m f =
      let o = body n m in
      let left = s n m in
      ap (λ z. if z then done (suc n) m else and_then o (loop n test body)) f ∙ same_behind o.end o (loop n test body) (while_loop test body) (enough n o.turns o.memory left)

  pub while-done : (n : ℕ) (m : List Content) → is_zero (test m) ≡ true → while_loop test body n m ≡ done n m
  while-done zero m t = ap (λ z. if z then done zero m else stopped zero m) t
  while-done (suc n) m t = ap (λ z. if z then done (suc n) m else and_then (body n m) (loop n test body)) t

  pub while-stopped : (m : List Content) → is_zero (test m) ≡ false → while_loop test body zero m ≡ stopped zero m
  while-stopped m f = ap (λ z. if z then done zero m else stopped zero m) f
