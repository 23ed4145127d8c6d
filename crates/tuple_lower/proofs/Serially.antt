-- Tuples one after another.
use Rattle.std.proofs.Common.{◌≡◌, ◌+◌, ℕ, suc, List, [], ◌∷◌, ◌++◌, length, Some, refl, ap, ◌∙◌, arith, append_assoc, length-append}
use Rattle.std.specs.Prelude.{slice_get}
use Rattle.tuple_ir.specs.World.{World, do_tuple, serial}
use Rattle.tuple_ir.specs.declared.tuple.Tuple as t

-- the world after these tuples, the first of which has number i
abbrev pub after_all : ℕ → List t.Tuple → World → World
after_all i [] w = w
after_all i (u ∷ us) w = after_all (suc i) us (do_tuple i (Some u) w)

pub after_all-append : (i : ℕ) (us vs : List t.Tuple) (w : World) → after_all i (us ++ vs) w ≡ after_all (i + length us) vs (after_all i us w)
after_all-append i [] vs w = ap (λ k. after_all k vs w) (let e : i ≡ i + 0 = omega arith in e)
after_all-append i (u ∷ us) vs w = after_all-append (suc i) us vs (do_tuple i (Some u) w)
    ∙ ap (λ k. after_all k vs (after_all (suc i) us (do_tuple i (Some u) w))) (let e : suc i + length us ≡ i + suc (length us) = omega arith in e)

seam : (pre : List t.Tuple) (u : t.Tuple) (us : List t.Tuple) → slice_get (pre ++ u ∷ us) (length pre) ≡ Some u
seam [] u us = refl
seam (p ∷ pre) u us = seam pre u us

serial_from : (pre us : List t.Tuple) (w : World) → serial (pre ++ us) w (length pre + length us) ≡ after_all (length pre) us (serial (pre ++ us) w (length pre))
serial_from pre [] w = ap (serial (pre ++ []) w) (let e : length pre + 0 ≡ length pre = omega arith in e)
serial_from pre (u ∷ us) w =
    let l : length (pre ++ u ∷ []) ≡ suc (length pre) = omega (arith, length-append pre (u ∷ [])) in
    let all : (pre ++ u ∷ []) ++ us ≡ pre ++ u ∷ us = append_assoc pre (u ∷ []) us in
    let n : length (pre ++ u ∷ []) + length us ≡ length pre + suc (length us) = omega arith in
    let r : serial ((pre ++ u ∷ []) ++ us) w (length (pre ++ u ∷ []) + length us) ≡ after_all (length (pre ++ u ∷ [])) us (serial ((pre ++ u ∷ []) ++ us) w (length (pre ++ u ∷ []))) = serial_from (pre ++ u ∷ []) us w in
    let s : serial (pre ++ u ∷ us) w (length pre + suc (length us)) ≡ after_all (suc (length pre)) us (serial (pre ++ u ∷ us) w (suc (length pre))) = rw (all, n, l) at r in
    s ∙ ap (λ o. after_all (suc (length pre)) us (do_tuple (length pre) o (serial (pre ++ u ∷ us) w (length pre)))) (seam pre u us)

-- the serial meaning, tuple by tuple
pub serial-is : (us : List t.Tuple) (w : World) → serial us w (length us) ≡ after_all 0 us w
serial-is us w = ap (serial us w) (let e : length us ≡ 0 + length us = omega arith in e) ∙ serial_from [] us w
