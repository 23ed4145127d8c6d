-- From the reading of a text to its contract.
use Rattle.std.proofs.Common.{◌≡◌, ℕ, ◌-◌, ◌<◌, ◌≤◌, zero, suc, refl, sym, ap, ◌∙◌, arith, List, [], ◌∷◌, ◌++◌, take, Ok, Err, Result, append_assoc}
use Rattle.bm_base.specs.Lines.{whole_lines}
use Rattle.stream_file.specs.Fields.{Fields, IsTextOf, CanStand}
use Rattle.stream_file.specs.First.{IsFirstWrong}
use Rattle.stream_file.specs.Laws.{Answer, text, wrong, TextsHaveOneAnswer}
use Rattle.stream_file.specs.Draft.{Draft, fields_of, reading}
use Rattle.stream_file.proofs.Theorems.{reading_found, reading_only, reading_first, ok_same}

take_less : {A : Type 0} (m n : ℕ) (xs : List A) → m ≤ n → (more : List A) × (take n xs ≡ take m xs ++ more)
take_less zero n xs h = (take n xs, refl)
take_less (suc m) zero xs h = absurd (omega arith)
take_less (suc m) (suc n) [] h = ([], refl)
take_less (suc m) (suc n) (x ∷ xs) h = let k = take_less m n xs (omega arith) in (k.0, ap (λ l. x ∷ l) k.1)

-- a front of lines that can stand can stand
stand_less : (m n : ℕ) (ls : List (List ℕ)) → m ≤ n → CanStand (take n ls) → CanStand (take m ls)
stand_less m n ls h c =
    let k = take_less m n ls h in
    record { fields = c.fields; fits = c.fits; more = k.0 ++ c.more; begins = c.begins ∙ ap (λ l. l ++ c.more) k.1 ∙ append_assoc (take m ls) k.0 c.more }

not_before : (bytes : List ℕ) (m n : ℕ) → IsFirstWrong bytes m → IsFirstWrong bytes n → m < n → ⊥
not_before bytes m n h k l = h.wrong (omega (arith, k.high)) (stand_less m (n - 1) (whole_lines bytes) (omega arith) k.before)

order : (m n : ℕ) → ((m < n → ⊥) → (n < m → ⊥) → m ≡ n)
order m n h k = omega arith

pub one_first : (bytes : List ℕ) (m n : ℕ) → IsFirstWrong bytes m → IsFirstWrong bytes n → m ≡ n
one_first bytes m n h k = order m n (λ l. not_before bytes m n h k l) (λ l. not_before bytes n m k h l)

pub some_answer : (bytes : List ℕ) → Answer bytes
some_answer bytes = by (reading bytes) refl
  where
    by : (r : Result Draft ℕ) → reading bytes ≡ r → Answer bytes
    by (Ok d) e = text (fields_of d) (reading_found bytes d e)
    by (Err n) e = wrong n (reading_first bytes n e)

pub one_image : (bytes : List ℕ) (f g : Fields) → IsTextOf bytes f → IsTextOf bytes g → f ≡ g
one_image bytes f g h k = ap fields_of (ok_same (sym (reading_only bytes f h) ∙ reading_only bytes g k))

pub answers : TextsHaveOneAnswer
answers = record {
  some = some_answer;
  one_image = one_image;
  one_text = λ f a b h k. h.text ∙ sym k.text;
  one_line = one_first;
  not_both = λ bytes f n h k. k.no_text f h;
}
