-- Numbers below a power of two.
use Rattle.std.proofs.Common.{◌≡◌, ℕ, ◌+◌, ◌-◌, ◌/◌, ◌^◌, ◌<◌, ◌≤◌, zero, suc, refl, sym, ap, subst, arith, true, false, pow-suc, ◌∙◌, List}
use Rattle.stream_image.specs.declared.given.Stream.{Stream}
use Rattle.stream_image.specs.Check as spec
use Rattle.std.specs.Prelude.{◌==◌, not}
use Rattle.std.proofs.lemmas.Bool.Decides.{nat_tests}

pub pow_grows : (a b : ℕ) → 2 ^ a ≤ 2 ^ (a + b)
pow_grows a zero = let e : a + 0 ≡ a = omega arith in subst (λ (n : ℕ). 2 ^ a ≤ 2 ^ n) (sym e) (omega arith)
pow_grows a (suc b) = let e : a + suc b ≡ suc (a + b) = omega arith in subst (λ (n : ℕ). 2 ^ a ≤ 2 ^ n) (sym e) (omega (arith, pow_grows a b, pow-suc 2 (a + b)))

pub no_high : (n p : ℕ) → n < 2 ^ 128 → 128 ≤ p → not (n / 2 ^ p == 0) ≡ false
no_high n p l h =
    let e : 128 + (p - 128) ≡ p = omega arith in
    let g : 2 ^ 128 ≤ 2 ^ p = subst (λ (k : ℕ). 2 ^ 128 ≤ 2 ^ k) e (pow_grows 128 (p - 128)) in
    let z : n / 2 ^ p ≡ 0 = small n (2 ^ p) (omega arith) in
    ap (λ (k : ℕ). not (k == 0)) z
  where
    small : (a b : ℕ) → a < b → a / b ≡ 0
    small a b s = grind arith

-- one processor more
pub waits_step : (block p n : ℕ) (ss : List Stream) (ms : List ℕ) → p < n → spec.waits_of p ss ≡ spec.masks_of p ms → spec.waits_from block (p + 1) (n - (p + 1)) ss ms ≡ spec.waits_from block p (n - p) ss ms
waits_step block p n ss ms l e =
    let more : n - p ≡ suc (n - (p + 1)) = omega arith in
    let t : (spec.waits_of p ss == spec.masks_of p ms) ≡ true = grind (arith, nat_tests) in
    sym (ap (λ (k : ℕ). spec.waits_from block p k ss ms) more ∙ rw t refl)
