-- Scripts reach all timings.
use Rattle.std.proofs.Common.{◌≡◌, ℕ, zero, suc, ◌+◌, ◌-◌, ◌%◌, ◌^◌, ◌<◌, ◌≤◌, refl, sym, ap, subst, ◌∙◌, arith, true, false, List, [], ◌∷◌, ◌++◌, length, map, get_or, Some, cond, append-nil, inl, inr}
use Rattle.std.specs.Prelude.{◌==◌, slice_get, decimal}
use Rattle.std.specs.List.{AllByRecursion}
use Rattle.std.specs.Option.{option_map}
use Rattle.std.specs.Char.{is_ascii_digit}
use Rattle.std.proofs.lemmas.Bool.Decides.{nat_tests}
use Rattle.std.proofs.Math.ListN.{get_or-map}
use Rattle.std.proofs.lemmas.Bool.{cases_lt}
use Rattle.std.proofs.lemmas.List.{length-map, get_or_past}
use Rattle.std.proofs.lemmas.Option.{slice_get-map, slice_get_within, get_or_from_slice_get}
use Rattle.std.proofs.lemmas.Fmt.{digits_decimal}
use Rattle.bm_base.specs.Lines.{unlines}
use Rattle.bm_base.specs.Numeral.{all_digits, count_of}
use Rattle.bm_base.proofs.StrictTexts.{both_true, none_some}
use Rattle.bm_base.proofs.NumberTexts.{numerals, count_of-decimal}
use Rattle.timing_script.specs.Spelling.{is_plain, IsPlainField, IsPlainRow, spaced, numbered}
use Rattle.timing_script.proofs.Spelled.{spelled}
use Rattle.timing_law.specs.Within.{duration_by-reached}
use Rattle.timing_script.specs.declared.script.Script.TheVariants.{File}
use Rattle.timing_script.specs.Text.{Gift, GiveAll, offsets_for, IsTextOf}
use Rattle.timing_script.specs.Laws.{Timed, IsTimed, IsTimedRun, Keeps, ScriptsReachAllTimings}
use Rattle.timing_script.proofs.Readings.{all_taken, empty, from_nothing, from_nothing-count}

-- ---- the text

abbrev offset_of_time : Timed → ℕ
offset_of_time t = t.time - t.interval.least

abbrev offsets_of : List (List Timed) → List (List ℕ)
offsets_of starts = map (map offset_of_time) starts

-- the first of these processors has this number
abbrev gifts_from : ℕ → List (List ℕ) → List Gift
gifts_from p [] = []
gifts_from p (xs ∷ more) = record { processor = p; offsets = xs } ∷ gifts_from (p + 1) more

abbrev fields_from : ℕ → List (List ℕ) → List (List (List ℕ))
fields_from p [] = []
fields_from p (xs ∷ more) = (decimal p ∷ map decimal xs) ∷ fields_from (p + 1) more

-- ---- numbers that have a text

abbrev AreShort : List ℕ → Type 0
AreShort xs = AllByRecursion (λ x. x < 2 ^ 64) xs

digit_plain : (b : ℕ) → is_ascii_digit b ≡ true → is_plain b ≡ true
digit_plain b h = grind (arith, nat_tests)

digits_plain : (ds : List ℕ) → all_digits ds ≡ true → AllByRecursion (λ b. is_plain b ≡ true) ds
digits_plain [] h = tt
digits_plain (b ∷ bs) h = let k = both_true (is_ascii_digit b) (all_digits bs) h in (digit_plain b k.0, digits_plain bs k.1)

some_bytes : (ds : List ℕ) (n : ℕ) → count_of ds ≡ Some n → 1 ≤ length ds
some_bytes [] n e = absurd (none_some e)
some_bytes (b ∷ bs) n e = omega arith

decimal_plain : (n : ℕ) → n < 2 ^ 64 → IsPlainField (decimal n)
decimal_plain n h = record { some = some_bytes (decimal n) n (count_of-decimal n h); each = digits_plain (decimal n) (digits_decimal numerals n h) }

decimals_plain : (xs : List ℕ) → AreShort xs → AllByRecursion IsPlainField (map decimal xs)
decimals_plain [] h = tt
decimals_plain (x ∷ xs) h = (decimal_plain x h.0, decimals_plain xs h.1)

decimals_count : (xs : List ℕ) → AreShort xs → map count_of (map decimal xs) ≡ map Some xs
decimals_count [] h = refl
decimals_count (x ∷ xs) h = λ i. count_of-decimal x h.0 i ∷ decimals_count xs h.1 i

rows_plain : (p : ℕ) (lists : List (List ℕ)) → p + length lists ≤ 256 → AllByRecursion AreShort lists → AllByRecursion IsPlainRow (fields_from p lists)
rows_plain p [] few h = tt
rows_plain p (xs ∷ more) few h = (record { some = omega arith; each = (decimal_plain p (omega arith), decimals_plain xs h.0) }, rows_plain (p + 1) more (omega arith) h.1)

-- ---- what the text gives

gives_all : (n p : ℕ) (lists : List (List ℕ)) → p + length lists ≤ 256 → AllByRecursion AreShort lists → GiveAll (numbered n (fields_from p lists)) (gifts_from p lists)
gives_all n p [] few h = tt
gives_all n p (xs ∷ more) few h = (
  record {
    first = decimal p;
    further = map decimal xs;
    fields_are = refl;
    processor = count_of-decimal p (omega arith);
    known = omega arith;
    offsets = decimals_count xs h.0;
  },
  gives_all (n + 1) (p + 1) more (omega arith) h.1,
)

before_none : (p q : ℕ) (lists : List (List ℕ)) → q < p → offsets_for q (gifts_from p lists) ≡ []
before_none p q [] h = refl
before_none p q (xs ∷ more) h =
    let other : (p == q) ≡ false = grind (arith, nat_tests) in
    ap (λ t. cond t (xs ++ offsets_for q (gifts_from (p + 1) more)) (offsets_for q (gifts_from (p + 1) more))) other ∙ before_none (p + 1) q more (omega arith)

gifts-at : (p q r : ℕ) (lists : List (List ℕ)) → r ≡ p + q → offsets_for r (gifts_from p lists) ≡ get_or lists q []
gifts-at p q r [] e = refl
gifts-at p zero r (xs ∷ more) e =
    let here : (p == r) ≡ true = grind (arith, nat_tests) in
    ap (λ t. cond t (xs ++ offsets_for r (gifts_from (p + 1) more)) (offsets_for r (gifts_from (p + 1) more))) here
    ∙ ap (λ (l : List ℕ). xs ++ l) (before_none (p + 1) r more (omega arith))
    ∙ append-nil xs
gifts-at p (suc q) r (xs ∷ more) e =
    let other : (p == r) ≡ false = grind (arith, nat_tests) in
    ap (λ t. cond t (xs ++ offsets_for r (gifts_from (p + 1) more)) (offsets_for r (gifts_from (p + 1) more))) other
    ∙ gifts-at (p + 1) q r more (omega arith)

-- ---- durations

all_at : {X : Type 0} (P : X → Type 0) (xs : List X) (k : ℕ) (d : X) → AllByRecursion P xs → k < length xs → P (get_or xs k d)
all_at P [] k d h l = absurd (omega arith)
all_at P (x ∷ xs) zero d h l = h.0
all_at P (x ∷ xs) (suc k) d h l = all_at P xs k d h.1 (omega arith)

short_times : (ts : List Timed) → AllByRecursion IsTimed ts → AreShort (map offset_of_time ts)
short_times [] h = tt
short_times (t ∷ ts) h = (let s : t.time < 2 ^ 64 = h.0.short in omega arith, short_times ts h.1)

short_starts : (starts : List (List Timed)) → AllByRecursion (AllByRecursion IsTimed) starts → AllByRecursion AreShort (offsets_of starts)
short_starts [] h = tt
short_starts (ts ∷ starts) h = (short_times ts h.0, short_starts starts h.1)

module _ (starts : List (List Timed)) (p k : ℕ) (t : Timed) (here : slice_get (get_or starts p []) k ≡ Some t) where
  -- a processor that starts something is one of the first
  known_processor : p < length starts
  known_processor = elim (cases_lt p (length starts)) [
    | inl l ↦ l
    | inr l ↦
        (let none : get_or starts p [] ≡ [] = get_or_past starts p [] l in
        absurd (none_some (ap (λ ts. slice_get ts k) (sym none) ∙ here)))
  ]

  timed : AllByRecursion (AllByRecursion IsTimed) starts → IsTimed t
  timed h =
      let ts : List Timed = get_or starts p [] in
      subst IsTimed (get_or_from_slice_get ts k t t here) (all_at IsTimed ts k t (all_at (AllByRecursion IsTimed) starts p [] h known_processor) (slice_get_within ts k t here))

  offset_there : get_or (get_or (offsets_of starts) p []) k 0 ≡ offset_of_time t
  offset_there =
      let ts : List Timed = get_or starts p [] in
      ap (λ (xs : List ℕ). get_or xs k 0) (get_or-map (map offset_of_time) starts p [])
      ∙ get_or_from_slice_get (map offset_of_time ts) k (offset_of_time t) 0 (slice_get-map offset_of_time ts k ∙ ap (option_map offset_of_time) here)

module _ (starts : List (List Timed)) (h : IsTimedRun starts) where
  abbrev bytes : List ℕ
  bytes = unlines (map spaced (fields_from 0 (offsets_of starts)))

  abbrev script : List (List ℕ)
  script = all_taken empty (gifts_from 0 (offsets_of starts))

  few : 0 + length (offsets_of starts) ≤ 256
  few = let count : length starts ≤ 256 = h.0 in omega (arith, length-map starts (map offset_of_time))

  is_text : IsTextOf bytes script
  is_text = record {
    gifts = gifts_from 0 (offsets_of starts);
    rows = subst (λ rows. GiveAll rows (gifts_from 0 (offsets_of starts))) (sym (spelled (fields_from 0 (offsets_of starts)) (rows_plain 0 (offsets_of starts) few (short_starts starts h.1)))) (gives_all 0 0 (offsets_of starts) few (short_starts starts h.1));
    count = from_nothing-count (gifts_from 0 (offsets_of starts));
    each = from_nothing (gifts_from 0 (offsets_of starts));
  }

  keeps : Keeps (File script) starts
  keeps p k t here =
      let below : p < 256 = let few : length starts ≤ 256 = h.0 in let known : p < length starts = known_processor starts p k t here in omega arith in
      let offset : get_or (get_or script p []) k 0 ≡ offset_of_time t =
      ap (λ (xs : List ℕ). get_or xs k 0) (from_nothing (gifts_from 0 (offsets_of starts)) p below ∙ gifts-at 0 p p (offsets_of starts) (omega arith)) ∙ offset_there starts p k t here in
      ap (λ o. t.interval.least + o % (t.interval.most - t.interval.least + 1)) offset ∙ duration_by-reached t.time t.interval (timed starts p k t here h.1).within

pub reached : ScriptsReachAllTimings
reached starts h = (bytes starts h, (File (script starts h), (is_text starts h, keeps starts h)))
