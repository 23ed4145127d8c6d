-- Values that were taken in two parts, and the causes of faults over two parts.
use Rattle.std.proofs.Common.{◌≡◌, ℕ, ◌≤◌, ℤ, List, [], ◌∷◌, ◌++◌, Result, Ok, Err, refl, ap, sym, ◌∙◌, subst, append_assoc, arith}
use Rattle.std.specs.List.{fold}
use Rattle.std.proofs.lemmas.List.Sums.{fold-append}
use Rattle.bm_io.specs.declared.sinks.SinkFault.{SinkFault}
use Rattle.bm_io.specs.Causes.{HasCause, Rose}
use Rattle.bm_io.specs.Values.{Took, StopsAt}

module _ {Held : Type 0} (next : Held → ℤ → Held) (leaves : SinkFault → Held → ℤ → Held → Type 0) where
  pub Took-nothing : {T : Type 0} (held : Held) (x : T) → Took next leaves held held [] (Ok x)
  Took-nothing held x = record { ok = refl; err = tt }

  stops_behind : (h0 h1 h2 : Held) (xs ys : List ℤ) (e : SinkFault) → h1 ≡ fold next h0 xs → StopsAt next leaves h1 h2 ys e → StopsAt next leaves h0 h2 (xs ++ ys) e
  stops_behind h0 h1 h2 xs ys e t s = record {
    front = xs ++ s.front;
    refused = s.refused;
    rest = s.rest;
    values_are = ap (λ vs. xs ++ vs) s.values_are ∙ sym (append_assoc xs s.front (s.refused ∷ s.rest));
    left = subst (λ h. leaves e h s.refused h2) (ap (λ h. fold next h s.front) t ∙ sym (fold-append next h0 xs s.front)) s.left;
  }

  -- some values were taken, and then others
  pub Took-then : {T U : Type 0} (h0 h1 h2 : Held) (xs ys : List ℤ) (u : U) (r : Result T SinkFault) → Took next leaves h0 h1 xs (Ok u) → Took next leaves h1 h2 ys r → Took next leaves h0 h2 (xs ++ ys) r
  Took-then h0 h1 h2 xs ys u (Ok x) s t = record { ok = t.ok ∙ ap (λ h. fold next h ys) s.ok ∙ sym (fold-append next h0 xs ys); err = tt }
  Took-then h0 h1 h2 xs ys u (Err e) s t = record { ok = tt; err = stops_behind h0 h1 h2 xs ys e s.ok t.err }

  -- a refusal of the first values is one of all
  pub Took-stop : {T U : Type 0} (h0 h1 : Held) (xs ys : List ℤ) (e : SinkFault) → Took {T = T} next leaves h0 h1 xs (Err e) → Took {T = U} next leaves h0 h1 (xs ++ ys) (Err e)
  Took-stop h0 h1 xs ys e t = record {
    ok = tt;
    err = record {
      front = t.err.front;
      refused = t.err.refused;
      rest = t.err.rest ++ ys;
      values_are = ap (λ vs. vs ++ ys) t.err.values_are ∙ append_assoc t.err.front (t.err.refused ∷ t.err.rest) ys;
      left = t.err.left;
    };
  }

Rose-later : (a b c : ℕ) → a ≤ b → Rose b c → Rose a c
Rose-later a b c l r = omega arith

-- faults over two parts, the first without one
pub HasCause-then : {E T U : Type 0} (fault : E) (f0 f1 f2 : ℕ) (q : Result U E) (r : Result T E) → HasCause fault f0 f1 q → HasCause fault f1 f2 r → HasCause fault f0 f2 r
HasCause-then fault f0 f1 f2 q r s t = record { later = omega (arith, s.later, t.later); rose = λ e. Rose-later f0 f1 f2 s.later (t.rose e) }

-- no call was made
pub HasCause-nothing : {E T : Type 0} (fault : E) (f : ℕ) (x : T) → HasCause fault f f (Ok x)
HasCause-nothing fault f x = record { later = omega arith; rose = λ e. let no : ⊥ = cc in absurd no }
