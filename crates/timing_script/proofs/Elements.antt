-- Values laid over an array, one at a time.
use Rattle.std.proofs.Common.{◌≡◌, ℕ, zero, suc, ◌+◌, ◌<◌, ◌≤◌, refl, sym, ap, subst, ◌∙◌, arith, List, [], ◌∷◌, ◌++◌, length, take, drop, get_or, Some, ℤ, pos, add-one}
use Rattle.std.specs.Prelude.{slice_get, slice_set}
use Rattle.bm_base.specs.Memory.{Content, Words, IsArray, set_element, with_element}
use Rattle.timing_script.specs.Data.{laid}
use Rattle.timing_script.specs.DataReading.{laid_on, laid_at, HasRoom, HasRoomIn}

-- ---- a place of a list that is written

pub set-same : {A : Type 0} (m : List A) (x : ℕ) (c : A) → slice_get m x ≡ Some c → slice_set m x c ≡ m
set-same [] x c h = refl
set-same (d ∷ m) zero c h = let same : d ≡ c = cc in ap (λ z. z ∷ m) (sym same)
set-same (d ∷ m) (suc x) c h = ap (λ l. d ∷ l) (set-same m x c h)

pub get-set : {A : Type 0} (m : List A) (x : ℕ) (b c : A) → slice_get m x ≡ Some b → slice_get (slice_set m x c) x ≡ Some c
get-set [] x b c h = let no : ⊥ = cc in absurd no
get-set (d ∷ m) zero b c h = refl
get-set (d ∷ m) (suc x) b c h = get-set m x b c h

pub get-set_other : {A : Type 0} (m : List A) (x y : ℕ) (c : A) → (y ≡ x → ⊥) → slice_get (slice_set m x c) y ≡ slice_get m y
get-set_other [] x y c h = refl
get-set_other (d ∷ m) zero zero c h = absurd (h refl)
get-set_other (d ∷ m) zero (suc y) c h = refl
get-set_other (d ∷ m) (suc x) zero c h = refl
get-set_other (d ∷ m) (suc x) (suc y) c h = get-set_other m x y c (λ e. h (ap suc e))

pub set-set : {A : Type 0} (m : List A) (x : ℕ) (b c : A) → slice_set (slice_set m x b) x c ≡ slice_set m x c
set-set [] x b c = refl
set-set (d ∷ m) zero b c = refl
set-set (d ∷ m) (suc x) b c = ap (λ l. d ∷ l) (set-set m x b c)

-- ---- elements

abbrev front : ℕ → List ℤ → List ℤ → List ℤ
front n vs ws = take n vs ++ drop (length (take n vs)) ws

front-more : (n : ℕ) (vs ws : List ℤ) (v : ℤ) → n < length vs → length vs ≤ length ws → v ≡ get_or vs n v → slice_set (front n vs ws) n v ≡ front (suc n) vs ws
front-more n [] ws v h k e = absurd (omega arith)
front-more n (x ∷ vs) [] v h k e = absurd (omega arith)
front-more zero (x ∷ vs) (w ∷ ws) v h k e = ap (λ z. z ∷ ws) e
front-more (suc n) (x ∷ vs) (w ∷ ws) v h k e = ap (λ l. x ∷ l) (front-more n vs ws v (omega arith) (omega arith) e)

module _ (m : List Content) (id : ℕ) (vs : List ℤ) (array : IsArray m id) where
  laid_is : laid_at m id vs ≡ slice_set m id (laid (Words array.0) vs)
  laid_is = ap (λ o. slice_set m id (laid_on o vs)) array.1

  pub none_laid : m ≡ laid_at m id []
  none_laid = sym (ap (λ o. slice_set m id (laid_on o [])) array.1 ∙ set-same m id (Words array.0) array.1)

  pub still_array : (now : List Content) → now ≡ laid_at m id vs → IsArray now id
  still_array now e = (vs ++ drop (length vs) array.0, ap (λ l. slice_get l id) (e ∙ laid_is) ∙ get-set m id (Words array.0) (laid (Words array.0) vs) array.1)

pub one_laid : (m now : List Content) (id n : ℕ) (vs : List ℤ) (v : ℤ) (array : IsArray m id) → HasRoom m id vs → now ≡ laid_at m id (take n vs) → n < length vs → v ≡ get_or vs n v
    → set_element now id (pos n) v ≡ laid_at m id (take (n + 1) vs)
one_laid m now id n vs v array room e h at =
    let ws : List ℤ = array.0 in
    let long : length vs ≤ length array.0 = subst (λ o. HasRoomIn o vs) array.1 room in
    let held : now ≡ slice_set m id (Words (front n vs array.0)) = e ∙ laid_is m id (take n vs) array in
    ap (λ l. set_element l id (pos n) v) held
    ∙ ap (λ o. slice_set (slice_set m id (Words (front n vs array.0))) id (with_element o (pos n) v)) (get-set m id (Words array.0) (Words (front n vs array.0)) array.1)
    ∙ set-set m id (Words (front n vs array.0)) (Words (slice_set (front n vs array.0) n v))
    ∙ ap (λ l. slice_set m id (Words l)) (front-more n vs array.0 v h long at)
    ∙ sym (laid_is m id (take (suc n) vs) array)
    ∙ ap (λ k. laid_at m id (take k vs)) (sym (add-one n))
