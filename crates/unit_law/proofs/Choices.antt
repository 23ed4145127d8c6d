-- The tests and the choices are what their words say.
use Rattle.std.proofs.Common.{◌≡◌, ℕ, suc, Bool, true, false, not, ◌&&◌, List, [], ◌∷◌, length, get_or, Option, Some, None, refl, sym, ap, ◌∙◌, arith, ◌⊎◌, inl, inr, if◌then◌else◌}
use Rattle.std.specs.Prelude.{◌↔◌}
use Rattle.std.proofs.lemmas.Bool.{both_ways, and_parts, or_cases, not-true, not-false, cond-true, false_from_ne_true}
use Rattle.std.proofs.lemmas.Option.{slice_get_within}
use Rattle.bm_base.specs.Mask.{has_bit}
use Rattle.unit_law.specs.Units.{IsReady, IsAwaited, IsReadyFirst, IsLeastReady, is_ready, has_unfired, first_from, if_ready, static_choice, dynamic_choice}
use Rattle.unit_law.proofs.ReadyFacts.{ready_of, test_of, first_passes, none_passes, first_at}
use Rattle.unit_law.proofs.Waiters.{unfired_at}

pub ready_exactly : (ms : List ℕ) (fired : List Bool) (w j : ℕ) → (is_ready ms fired w j ≡ true) ↔ IsReady ms fired (has_bit w) j
ready_exactly ms fired w j = (ready_of ms fired w j, test_of ms fired w j)

-- an answer that is j exactly where j is so is none exactly where nothing is so
none_exactly : (o : Option ℕ) (P : ℕ → Type 0) → ((j : ℕ) → (o ≡ Some j) ↔ P j) → (o ≡ None) ↔ ((j : ℕ) → P j → ⊥)
none_exactly o P picks = (λ e j p. some_none j (sym ((picks j).1 p) ∙ e), go o refl)
  where
    some_none : (j : ℕ) → Some j ≡ None → ⊥
    some_none j e = cc

    go : (u : Option ℕ) → o ≡ u → ((j : ℕ) → P j → ⊥) → o ≡ None
    go None e n = e
    go (Some j) e n = absurd (n j ((picks j).0 e))

static_of : (ms : List ℕ) (fired : List Bool) (w j : ℕ) → static_choice ms fired w ≡ Some j → IsReadyFirst ms fired w j
static_of ms fired w j e = go (first_from (λ i. not (get_or fired i false)) 0 (length ms)) refl e
  where
    here : (k : ℕ) → first_from (λ i. not (get_or fired i false)) 0 (length ms) ≡ Some k → (v : Bool) → is_ready ms fired w k ≡ v → (if v then Some k else None) ≡ Some j → IsReadyFirst ms fired w j
    here k f true r h =
        let q : k ≡ j = cc in
        (ready_of ms fired w j (ap (is_ready ms fired w) (sym q) ∙ r), λ i lt. not-false _ ((first_passes (λ i. not (get_or fired i false)) 0 (length ms) k f).3 i (omega arith) (omega arith)))
    here k f false r h = absurd (cc)

    go : (o : Option ℕ) → first_from (λ i. not (get_or fired i false)) 0 (length ms) ≡ o → if_ready ms fired w o ≡ Some j → IsReadyFirst ms fired w j
    go None f h = absurd (cc)
    go (Some k) f h = here k f (is_ready ms fired w k) refl h

static_at : (ms : List ℕ) (fired : List Bool) (w j : ℕ) → IsReadyFirst ms fired w j → static_choice ms fired w ≡ Some j
static_at ms fired w j r =
    ap (if_ready ms fired w) (first_at (λ i. not (get_or fired i false)) 0 (length ms) j (omega arith) (let x = slice_get_within ms j r.0.mask r.0.at in omega arith) (ap not r.0.unfired) (λ i lo lt. ap not (r.1 i lt)))
    ∙ cond-true _ _ _ (test_of ms fired w j r.0)

pub static_exactly : (ms : List ℕ) (fired : List Bool) (w j : ℕ) → (static_choice ms fired w ≡ Some j) ↔ IsReadyFirst ms fired w j
static_exactly ms fired w j = (static_of ms fired w j, static_at ms fired w j)

pub static_none_exactly : (ms : List ℕ) (fired : List Bool) (w : ℕ) → (static_choice ms fired w ≡ None) ↔ ((j : ℕ) → IsReadyFirst ms fired w j → ⊥)
static_none_exactly ms fired w = none_exactly (static_choice ms fired w) (IsReadyFirst ms fired w) (static_exactly ms fired w)

not_ready : (ms : List ℕ) (fired : List Bool) (w j : ℕ) → is_ready ms fired w j ≡ false → IsReady ms fired (has_bit w) j → ⊥
not_ready ms fired w j e r = both_ways _ e (test_of ms fired w j r)

dynamic_of : (ms : List ℕ) (fired : List Bool) (w j : ℕ) → dynamic_choice ms fired w ≡ Some j → IsLeastReady ms fired w j
dynamic_of ms fired w j e =
    let f = first_passes (is_ready ms fired w) 0 (length ms) j e in
    (ready_of ms fired w j f.0, λ i lt. not_ready ms fired w i (f.3 i (omega arith) lt))

dynamic_at : (ms : List ℕ) (fired : List Bool) (w j : ℕ) → IsLeastReady ms fired w j → dynamic_choice ms fired w ≡ Some j
dynamic_at ms fired w j r = first_at (is_ready ms fired w) 0 (length ms) j (omega arith) (let x = slice_get_within ms j r.0.mask r.0.at in omega arith) (test_of ms fired w j r.0) (λ i lo lt. false_from_ne_true _ (λ t. r.1 i lt (ready_of ms fired w i t)))

pub dynamic_exactly : (ms : List ℕ) (fired : List Bool) (w j : ℕ) → (dynamic_choice ms fired w ≡ Some j) ↔ IsLeastReady ms fired w j
dynamic_exactly ms fired w j = (dynamic_of ms fired w j, dynamic_at ms fired w j)

pub dynamic_none_exactly : (ms : List ℕ) (fired : List Bool) (w : ℕ) → (dynamic_choice ms fired w ≡ None) ↔ ((j : ℕ) → IsReady ms fired (has_bit w) j → ⊥)
dynamic_none_exactly ms fired w = (λ e j r. not_ready ms fired w j (none_passes (is_ready ms fired w) 0 (length ms) e j (omega arith) (let x = slice_get_within ms j r.mask r.at in omega arith)) r, go (dynamic_choice ms fired w) refl)
  where
    go : (o : Option ℕ) → dynamic_choice ms fired w ≡ o → ((j : ℕ) → IsReady ms fired (has_bit w) j → ⊥) → dynamic_choice ms fired w ≡ None
    go None e n = e
    go (Some j) e n = absurd (n j (dynamic_of ms fired w j e).0)

-- a mask further on
further : (m : ℕ) (ms : List ℕ) (f : Bool) (fired : List Bool) (p : ℕ) → IsAwaited ms fired p → IsAwaited (m ∷ ms) (f ∷ fired) p
further m ms f fired p a = record { index = suc a.index; mask = a.mask; at = a.at; unfired = a.unfired; member = a.member }

awaited_of : (ms : List ℕ) (fired : List Bool) (p : ℕ) → has_unfired ms fired p ≡ true → IsAwaited ms fired p
awaited_of [] fired p e = absurd (both_ways true (sym e) refl)
awaited_of (m ∷ ms) [] p e = go (or_cases _ _ e) (awaited_of ms [] p)
  where
    go : (has_bit m p ≡ true) ⊎ (has_unfired ms [] p ≡ true) → (has_unfired ms [] p ≡ true → IsAwaited ms [] p) → IsAwaited (m ∷ ms) [] p
    go (inl h) ih = record { index = 0; mask = m; at = refl; unfired = refl; member = h }
    go (inr h) ih = let a = ih h in record { index = suc a.index; mask = a.mask; at = a.at; unfired = refl; member = a.member }
awaited_of (m ∷ ms) (f ∷ fired) p e = go (or_cases _ _ e) (awaited_of ms fired p)
  where
    go : ((has_bit m p && not f) ≡ true) ⊎ (has_unfired ms fired p ≡ true) → (has_unfired ms fired p ≡ true → IsAwaited ms fired p) → IsAwaited (m ∷ ms) (f ∷ fired) p
    go (inl h) ih = let (x, y) = and_parts (has_bit m p) (not f) h in record { index = 0; mask = m; at = refl; unfired = not-true f y; member = x }
    go (inr h) ih = further m ms f fired p (ih h)

pub awaited_exactly : (ms : List ℕ) (fired : List Bool) (p : ℕ) → (has_unfired ms fired p ≡ true) ↔ IsAwaited ms fired p
awaited_exactly ms fired p = (awaited_of ms fired p, λ a. unfired_at ms fired p a.index a.mask a.at a.member a.unfired)
