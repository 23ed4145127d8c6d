-- One turn more.
use Rattle.std.proofs.Common.{◌≡◌, ℕ, zero, suc, ℤ, List, [], ◌∷◌, ◌++◌, Bool, true, false, refl, ap, sym, ◌∙◌, append_assoc}
use Rattle.std.specs.Prelude.{if◌then◌else◌}
use Rattle.bm_base.specs.Memory.{Content}
use Rattle.src_meaning.specs.declared.evaluate.End.{End}
use Rattle.src_meaning.specs.declared.evaluate.End.TheVariants.{Done, More}
use Rattle.src_meaning.specs.Meaning.{Outcome, Action, done, stopped, continued, and_then, behind, loop, while_loop, is_zero, in_order}
use Rattle.src_meaning.specs.Laws.{Prints}

-- the second outcome is that of one turn more: where the first is done it is the same, and in each case its output goes on
pub record Grows (o q : Outcome) : Type 0 where
  pub output : Prints o.output q.output
  pub same : o.end ≡ Done → q ≡ record { end = Done; turns = suc o.turns; memory = o.memory; output = o.output }

-- one turn more for one action than for another
abbrev pub GrowsTo : Action → Action → Type 0
GrowsTo a b = (turns : ℕ) (memory : List Content) → Grows (a turns memory) (b (suc turns) memory)

nothing_more : (xs : List ℤ) → Prints [] xs
nothing_more xs = record { rest = xs; whole_is = refl }

pub grows-done : (n : ℕ) (m : List Content) → Grows (done n m) (done (suc n) m)
grows-done n m = record { output = nothing_more []; same = λ _. refl }

stopped_grows : (n : ℕ) (m : List Content) (q : Outcome) → Grows (stopped n m) q
stopped_grows n m q = record { output = nothing_more q.output; same = λ e. let no : ⊥ = cc in absurd no }

prints_behind : (xs ys zs : List ℤ) → Prints ys zs → Prints (xs ++ ys) (xs ++ zs)
prints_behind xs ys zs p = record { rest = p.rest; whole_is = ap (λ l. xs ++ l) p.whole_is ∙ sym (append_assoc xs ys p.rest) }

prints_on : (xs ys zs : List ℤ) → Prints xs ys → Prints xs (ys ++ zs)
prints_on xs ys zs p = record { rest = p.rest ++ zs; whole_is = ap (λ l. l ++ zs) p.whole_is ∙ append_assoc xs p.rest zs }

pub grows-behind : (words : List ℤ) (o q : Outcome) → Grows o q → Grows (behind words o) (behind words q)
grows-behind words o q g = record { output = prints_behind words o.output q.output g.output; same = λ e. ap (behind words) (g.same e) }

-- behind what was done the other goes on with one turn more
done_then : (o q : Outcome) (a b : Action) → q ≡ record { end = Done; turns = suc o.turns; memory = o.memory; output = o.output } → GrowsTo a b → Grows (behind o.output (a o.turns o.memory)) (and_then q b)
done_then o q a b same g = rw same (grows-behind o.output (a o.turns o.memory) (b (suc o.turns) o.memory) (g o.turns o.memory))

more_then : (end : End) (o q : Outcome) (b : Action) → o.end ≡ More → Prints o.output q.output → Grows o (continued end q b)
more_then Done o q b m p = record { output = prints_on o.output q.output (b q.turns q.memory).output p; same = λ e. let no : ⊥ = cc in absurd no }
more_then More o q b m p = record { output = p; same = λ e. let no : ⊥ = cc in absurd no }

then_cases : (end : End) (o q : Outcome) (a b : Action) → o.end ≡ end → Grows o q → GrowsTo a b → Grows (continued end o a) (and_then q b)
then_cases Done o q a b e g h = done_then o q a b (g.same e) h
then_cases More o q a b e g h = more_then q.end o q b e g.output

pub grows-then : (o q : Outcome) (a b : Action) → Grows o q → GrowsTo a b → Grows (and_then o a) (and_then q b)
grows-then o q a b g h = then_cases o.end o q a b refl g h

pub grows-if : (c : Bool) (o p q r : Outcome) → Grows o q → Grows p r → Grows (if c then o else p) (if c then q else r)
grows-if true o p q r g h = g
grows-if false o p q r g h = h

-- actions that grow with one turn more
pub data AllGrow : List Action → Type 0 where
  none : AllGrow []
  more : {a : Action} {rest : List Action} → GrowsTo a a → AllGrow rest → AllGrow (a ∷ rest)

pub grows_in_order : (as' : List Action) → AllGrow as' → GrowsTo (in_order as') (in_order as')
grows_in_order [] none n m = grows-done n m
grows_in_order (a ∷ rest) (more g k) n m = grows-then (a n m) (a (suc n) m) (in_order rest) (in_order rest) (g n m) (grows_in_order rest k)

module _ (test : List Content → ℤ) (body : Action) (g : GrowsTo body body) where
  pub grows_loop : (often : ℕ) → GrowsTo (loop often test body) (loop (suc often) test body)
  grows_loop zero n m = grows-if (is_zero (test m)) (done n m) (stopped n m) (done (suc n) m) (and_then (body n m) (loop zero test body)) (grows-done n m) (stopped_grows n m (and_then (body n m) (loop zero test body)))
  grows_loop (suc k) zero m =
      grows-if (is_zero (test m)) (done zero m) (stopped zero m) (done 1 m) (and_then (body zero m) (loop (suc k) test body)) (grows-done zero m) (stopped_grows zero m (and_then (body zero m) (loop (suc k) test body)))
  grows_loop (suc k) (suc n) m =
      grows-if (is_zero (test m)) (done (suc n) m) (and_then (body n m) (loop k test body)) (done (suc (suc n)) m) (and_then (body (suc n) m) (loop (suc k) test body))
      (grows-done (suc n) m) (grows-then (body n m) (body (suc n) m) (loop k test body) (loop (suc k) test body) (g n m) (grows_loop k))

  pub grows_while : GrowsTo (while_loop test body) (while_loop test body)
  grows_while n m = grows_loop n n m
