-- The elements of an array, one after another.
use Rattle.std.proofs.Common.{◌≡◌, ◌<◌, ◌≤◌, ◌+◌, ◌-◌, ℕ, suc, List, [], ◌++◌, length, take, drop, get_or, Option, Some, None, refl, sym, ap, subst, ◌∙◌, arith, drop-cons, length-drop, pos}
use Rattle.std.specs.Prelude.{codes, ℤ}
use Rattle.std.specs.Fmt.{signed_decimal}
use Rattle.std.proofs.lemmas.List.{take_rest, take_all}
use Rattle.bm_base.specs.Memory.{Content, Word, Words, element_of}
use Rattle.bm_report.specs.Text.{spaced}
use Rattle.bm_report.specs.Held.{elements_at, IsArrayOf}

pub an_array : (c : Option Content) (len : ℕ) → IsArrayOf c len → (vs : List ℤ) × (c ≡ Some (Words vs))
an_array (Some (Words vs)) len h = (vs, refl)
an_array (Some (Word v)) len h = absurd h
an_array None len h = absurd h

next_element : (vs : List ℤ) (i n : ℕ) → i < length vs → spaced (take (suc n) (drop i vs)) ≡ codes " " ++ signed_decimal (get_or vs i (pos 0)) ++ spaced (take n (drop (suc i) vs))
next_element vs i n h = ap (λ xs. spaced (take (suc n) xs)) (drop-cons vs i (pos 0) h)

-- the element at i stands first
pub elements_next : (c : Option Content) (len i j n : ℕ) → IsArrayOf c len → i < len → j ≡ suc i → elements_at c i (suc n) ≡ codes " " ++ signed_decimal (element_of c (pos i)) ++ elements_at c j n
elements_next (Some (Words vs)) len i j n h k e = next_element vs i n (omega arith) ∙ ap (λ m. codes " " ++ signed_decimal (get_or vs i (pos 0)) ++ spaced (take n (drop m vs))) (sym e)
elements_next (Some (Word v)) len i j n h k e = absurd h
elements_next None len i j n h k e = absurd h

few_left : (vs : List ℤ) (i len : ℕ) → length vs ≡ len → len ≤ i + 8 → take (len - i) (drop i vs) ≡ take 8 (drop i vs)
few_left vs i len e h =
    let l : length (drop i vs) ≤ 8 = omega (arith, length-drop i vs) in
    subst (λ n. take (n - i) (drop i vs) ≡ take 8 (drop i vs)) e (take_rest vs i ∙ sym (take_all 8 (drop i vs) l))

-- where fewer than eight are left, these are all
pub elements_end : (c : Option Content) (len i : ℕ) → IsArrayOf c len → len ≤ i + 8 → elements_at c i (len - i) ≡ elements_at c i 8
elements_end (Some (Words vs)) len i h k = ap spaced (few_left vs i len h k)
elements_end (Some (Word v)) len i h k = absurd h
elements_end None len i h k = absurd h

-- no element more
pub elements_none : (c : Option Content) (i : ℕ) → elements_at c i 0 ≡ []
elements_none (Some (Words vs)) i = refl
elements_none (Some (Word v)) i = refl
elements_none None i = refl
