-- What is read is what the text says, and what is refused is its first wrong line.
use Rattle.std.proofs.Common.{◌≡◌, ℕ, ◌<◌, ◌≤◌, refl, sym, ap, subst, ◌∙◌, arith, Bool, true, false, List, [], ◌∷◌, ◌++◌, length, map, get_or, replicate, Option, Some, None, Result, Ok, Err, cond, append_assoc, append-nil, inl, inr}
use Rattle.std.specs.Prelude.{◌⊎◌, ◌==◌, nat_le}
use Rattle.std.specs.List.{AllByRecursion}
use Rattle.std.specs.Option.{option_and_then}
use Rattle.std.proofs.lemmas.Bool.Decides.{nat_tests}
use Rattle.std.proofs.lemmas.List.{get_or-set_same, get_or-set_other, length-set, get_or-replicate, length-replicate, ext_get_or}
use Rattle.bm_base.specs.Numeral.{count_of}
use Rattle.bm_base.proofs.StrictTexts.{none_some, some_same, same_of_eq, differ_of_eq}
use Rattle.timing_script.specs.Rows.{TextRow, rows_of}
use Rattle.timing_script.specs.declared.reading.ScriptFault.{ScriptFault}
use Rattle.timing_script.specs.declared.reading.ScriptFault.TheVariants.{ScriptText, Memory}
use Rattle.timing_script.specs.Text.{Gift, Gives, GiveAll, offsets_for, IsTextOf, IsAllowed, IsFirstWrong, IsFault}
use Rattle.timing_script.specs.Laws.{Answer, text, wrong}
use Rattle.timing_script.specs.Reading.{pushed, known, processor_of, filled, taken, reading_from, reading, Reads}

-- ---- offsets of one processor

abbrev pub all_pushed : List (List ℕ) → ℕ → List ℕ → List (List ℕ)
all_pushed lists p [] = lists
all_pushed lists p (x ∷ xs) = all_pushed (pushed lists p x) p xs

-- what follows a value that is there
then_some : {A B : Type 0} (o : Option A) (f : A → Option B) (z : B) → option_and_then f o ≡ Some z → (x : A) × ((o ≡ Some x) × (f x ≡ Some z))
then_some None f z e = absurd (none_some e)
then_some (Some x) f z e = (x, (refl, e))

pub filled-found : (lists : List (List ℕ)) (p : ℕ) (fs out : List (List ℕ)) → filled lists p fs ≡ Some out → (xs : List ℕ) × ((map count_of fs ≡ map Some xs) × (out ≡ all_pushed lists p xs))
filled-found lists p [] out e = ([], (refl, sym (some_same e)))
filled-found lists p (f ∷ fs) out e =
    let k = then_some (count_of f) (λ x. filled (pushed lists p x) p fs) out e in
    let m = filled-found (pushed lists p k.0) p fs out k.1.1 in
    (k.0 ∷ m.0, ((λ i. k.1.0 i ∷ m.1.0 i), m.1.1))

pub filled-only : (lists : List (List ℕ)) (p : ℕ) (fs : List (List ℕ)) (xs : List ℕ) → map count_of fs ≡ map Some xs → filled lists p fs ≡ Some (all_pushed lists p xs)
filled-only lists p [] [] e = refl
filled-only lists p [] (x ∷ xs) e = cc
filled-only lists p (f ∷ fs) [] e = cc
filled-only lists p (f ∷ fs) (x ∷ xs) e =
    let here : count_of f ≡ Some x = cc in
    let more : map count_of fs ≡ map Some xs = cc in
    ap (option_and_then (λ x. filled (pushed lists p x) p fs)) here ∙ filled-only (pushed lists p x) p fs xs more

-- ---- one row

known_some : (n m : ℕ) → known n ≡ Some m → (n ≡ m) × (m ≤ 255)
known_some n m e = by (nat_le n 255) refl e
  where
    by : (t : Bool) → nat_le n 255 ≡ t → cond t (Some n) None ≡ Some m → (n ≡ m) × (m ≤ 255)
    by true h k = let l : n ≤ 255 = grind (arith, nat_tests) in (some_same k, subst (λ x. x ≤ 255) (some_same k) l)
    by false h k = absurd (none_some k)

known_is : (n : ℕ) → n ≤ 255 → known n ≡ Some n
known_is n h = let t : nat_le n 255 ≡ true = grind (arith, nat_tests) in ap (λ (t : Bool). cond t (Some n) None) t

pub taken-found : (lists fields out : List (List ℕ)) → taken lists fields ≡ Some out → (gift : Gift) × (Gives fields gift × (out ≡ all_pushed lists gift.processor gift.offsets))
taken-found lists [] out e = absurd (none_some e)
taken-found lists (f ∷ fs) out e =
    let k = then_some (processor_of f) (λ p. filled lists p fs) out e in
    let m = then_some (count_of f) known k.0 k.1.0 in
    let n = known_some m.0 k.0 m.1.1 in
    let o = filled-found lists k.0 fs out k.1.1 in (
      record { processor = k.0; offsets = o.0 },
      (record { first = f; further = fs; fields_are = refl; processor = m.1.0 ∙ ap Some n.0; known = n.1; offsets = o.1.0 }, o.1.1),
    )

pub taken-only : (lists fields : List (List ℕ)) (gift : Gift) → Gives fields gift → taken lists fields ≡ Some (all_pushed lists gift.processor gift.offsets)
taken-only lists fields gift g =
    ap (taken lists) g.fields_are
    ∙ ap (λ o. option_and_then (λ p. filled lists p g.further) (option_and_then known o)) g.processor
    ∙ ap (option_and_then (λ p. filled lists p g.further)) (known_is gift.processor g.known)
    ∙ filled-only lists gift.processor g.further gift.offsets g.offsets

-- ---- all rows

abbrev pub all_taken : List (List ℕ) → List Gift → List (List ℕ)
all_taken lists [] = lists
all_taken lists (g ∷ gs) = all_taken (all_pushed lists g.processor g.offsets) gs

abbrev behind_row : TextRow → List TextRow → Option (List (List ℕ)) → Result (List (List ℕ)) ℕ
behind_row r rs None = Err r.line
behind_row r rs (Some next) = reading_from next rs

reading-found : (lists : List (List ℕ)) (rows : List TextRow) (out : List (List ℕ)) → reading_from lists rows ≡ Ok out → (gifts : List Gift) × (GiveAll rows gifts × (out ≡ all_taken lists gifts))
reading-found lists [] out e = let same : lists ≡ out = cc in ([], (tt, sym same))
reading-found lists (r ∷ rs) out e = by (taken lists r.fields) refl e (λ next. reading-found next rs out)
  where
    by : (o : Option (List (List ℕ))) → taken lists r.fields ≡ o → behind_row r rs o ≡ Ok out
        → ((next : List (List ℕ)) → reading_from next rs ≡ Ok out → (gifts : List Gift) × (GiveAll rs gifts × (out ≡ all_taken next gifts)))
        → (gifts : List Gift) × (GiveAll (r ∷ rs) gifts × (out ≡ all_taken lists gifts))
    by None t h more = cc
    by (Some next) t h more =
        let k = taken-found lists r.fields next t in
        let m = more next h in
        (k.0 ∷ m.0, ((k.1.0, m.1.0), m.1.1 ∙ ap (λ x. all_taken x m.0) k.1.1))

reading-only : (lists : List (List ℕ)) (rows : List TextRow) (gifts : List Gift) → GiveAll rows gifts → reading_from lists rows ≡ Ok (all_taken lists gifts)
reading-only lists [] [] g = refl
reading-only lists [] (x ∷ gs) g = absurd g
reading-only lists (r ∷ rs) [] g = absurd g
reading-only lists (r ∷ rs) (x ∷ gs) g = ap (behind_row r rs) (taken-only lists r.fields x g.0) ∙ reading-only (all_pushed lists x.processor x.offsets) rs gs g.1

-- the first line that is not taken
record Refused (rows : List TextRow) (line : ℕ) : Type 0 where
  pub before : List TextRow
  pub row : TextRow
  pub behind : List TextRow
  pub rows_are : rows ≡ before ++ row ∷ behind
  pub lawful : AllByRecursion IsAllowed before
  pub wrong : IsAllowed row → ⊥
  pub number : row.line ≡ line

reading-refused : (lists : List (List ℕ)) (rows : List TextRow) (line : ℕ) → reading_from lists rows ≡ Err line → Refused rows line
reading-refused lists [] line e = cc
reading-refused lists (r ∷ rs) line e = by (taken lists r.fields) refl e (λ next. reading-refused next rs line)
  where
    by : (o : Option (List (List ℕ))) → taken lists r.fields ≡ o → behind_row r rs o ≡ Err line
        → ((next : List (List ℕ)) → reading_from next rs ≡ Err line → Refused rs line) → Refused (r ∷ rs) line
    by None t h more = record {
      before = [];
      row = r;
      behind = rs;
      rows_are = refl;
      lawful = tt;
      wrong = λ a. none_some (sym t ∙ taken-only lists r.fields a.0 a.1);
      number = let same : r.line ≡ line = cc in same;
    }
    by (Some next) t h more =
        let k = taken-found lists r.fields next t in
        let m = more next h in
        record {
          before = r ∷ m.before;
          row = m.row;
          behind = m.behind;
          rows_are = ap (λ l. r ∷ l) m.rows_are;
          lawful = ((k.0, k.1.0), m.lawful);
          wrong = m.wrong;
          number = m.number;
        }

-- ---- the offsets that are there in the end

length-all_pushed : (lists : List (List ℕ)) (p : ℕ) (xs : List ℕ) → length (all_pushed lists p xs) ≡ length lists
length-all_pushed lists p [] = refl
length-all_pushed lists p (x ∷ xs) = length-all_pushed (pushed lists p x) p xs ∙ length-set lists p (get_or lists p [] ++ x ∷ [])

all_pushed-same : (lists : List (List ℕ)) (p : ℕ) (xs : List ℕ) → p < length lists → get_or (all_pushed lists p xs) p [] ≡ get_or lists p [] ++ xs
all_pushed-same lists p [] h = sym (append-nil (get_or lists p []))
all_pushed-same lists p (x ∷ xs) h =
    let within : p < length (pushed lists p x) = omega (arith, length-set lists p (get_or lists p [] ++ x ∷ [])) in
    all_pushed-same (pushed lists p x) p xs within
    ∙ ap (λ (l : List ℕ). l ++ xs) (get_or-set_same lists p (get_or lists p [] ++ x ∷ []) [] h)
    ∙ append_assoc (get_or lists p []) (x ∷ []) xs

all_pushed-other : (lists : List (List ℕ)) (p q : ℕ) (xs : List ℕ) → (q ≡ p → ⊥) → get_or (all_pushed lists p xs) q [] ≡ get_or lists q []
all_pushed-other lists p q [] h = refl
all_pushed-other lists p q (x ∷ xs) h = all_pushed-other (pushed lists p x) p q xs h ∙ get_or-set_other lists p q (get_or lists p [] ++ x ∷ []) [] h

length-all_taken : (lists : List (List ℕ)) (gifts : List Gift) → length (all_taken lists gifts) ≡ length lists
length-all_taken lists [] = refl
length-all_taken lists (g ∷ gs) = length-all_taken (all_pushed lists g.processor g.offsets) gs ∙ length-all_pushed lists g.processor g.offsets

all_taken-at : (lists : List (List ℕ)) (gifts : List Gift) (q : ℕ) → q < length lists → get_or (all_taken lists gifts) q [] ≡ get_or lists q [] ++ offsets_for q gifts
all_taken-at lists [] q h = sym (append-nil (get_or lists q []))
all_taken-at lists (g ∷ gs) q h =
    let now : List (List ℕ) = all_pushed lists g.processor g.offsets in
    let within : q < length now = omega (arith, length-all_pushed lists g.processor g.offsets) in
    all_taken-at now gs q within ∙ by (g.processor == q) refl
  where
    by : (t : Bool) → (g.processor == q) ≡ t → get_or (all_pushed lists g.processor g.offsets) q [] ++ offsets_for q gs ≡ get_or lists q [] ++ cond t (g.offsets ++ offsets_for q gs) (offsets_for q gs)
    by true e =
        let same : g.processor ≡ q = same_of_eq g.processor q e in
        ap (λ (l : List ℕ). l ++ offsets_for q gs) (ap (λ p. get_or (all_pushed lists p g.offsets) q []) same ∙ all_pushed-same lists q g.offsets h)
        ∙ append_assoc (get_or lists q []) g.offsets (offsets_for q gs)
    by false e = ap (λ (l : List ℕ). l ++ offsets_for q gs) (all_pushed-other lists g.processor q g.offsets (λ s. differ_of_eq g.processor q e (sym s)))

abbrev pub empty : List (List ℕ)
empty = replicate 256 []

pub from_nothing : (gifts : List Gift) (p : ℕ) → p < 256 → get_or (all_taken empty gifts) p [] ≡ offsets_for p gifts
from_nothing gifts p h =
    let within : p < length empty = omega (arith, length-replicate {A = List ℕ} 256 []) in
    all_taken-at empty gifts p within ∙ ap (λ (l : List ℕ). l ++ offsets_for p gifts) (get_or-replicate {A = List ℕ} 256 p [] [] h)

pub from_nothing-count : (gifts : List Gift) → length (all_taken empty gifts) ≡ 256
from_nothing-count gifts = length-all_taken empty gifts ∙ length-replicate {A = List ℕ} 256 []

-- ---- a whole text

pub reading_found : (bytes : List ℕ) (out : List (List ℕ)) → reading bytes ≡ Ok out → IsTextOf bytes out
reading_found bytes out e =
    let k = reading-found empty (rows_of bytes) out e in
    record {
      gifts = k.0;
      rows = k.1.0;
      count = ap length k.1.1 ∙ from_nothing-count k.0;
      each = λ p h. ap (λ (l : List (List ℕ)). get_or l p []) k.1.1 ∙ from_nothing k.0 p h;
    }

pub reading_only : (bytes : List ℕ) (lists : List (List ℕ)) → IsTextOf bytes lists → reading bytes ≡ Ok lists
reading_only bytes lists t =
    let all : length (all_taken empty t.gifts) ≡ 256 = from_nothing-count t.gifts in
    reading-only empty (rows_of bytes) t.gifts t.rows
    ∙ ap Ok (ext_get_or [] (all_taken empty t.gifts) lists (all ∙ sym t.count) (λ p h. let few : p < 256 = omega arith in from_nothing t.gifts p few ∙ sym (t.each p few)))

pub reading_first : (bytes : List ℕ) (line : ℕ) → reading bytes ≡ Err line → IsFirstWrong bytes line
reading_first bytes line e =
    let k = reading-refused empty (rows_of bytes) line e in
    record { before = k.before; row = k.row; behind = k.behind; rows = k.rows_are; lawful = k.lawful; wrong = k.wrong; number = k.number }

-- ---- one answer

same_row : (b c : List TextRow) (r s : TextRow) (x y : List TextRow) → b ++ r ∷ x ≡ c ++ s ∷ y
    → AllByRecursion IsAllowed b → (IsAllowed r → ⊥) → AllByRecursion IsAllowed c → (IsAllowed s → ⊥) → r ≡ s
same_row [] [] r s x y e lb nr lc ns = cc
same_row [] (d ∷ c) r s x y e lb nr lc ns = let same : d ≡ r = cc in absurd (nr (subst IsAllowed same lc.0))
same_row (d ∷ b) [] r s x y e lb nr lc ns = let same : d ≡ s = cc in absurd (ns (subst IsAllowed same lb.0))
same_row (d ∷ b) (f ∷ c) r s x y e lb nr lc ns = let rest : b ++ r ∷ x ≡ c ++ s ∷ y = cc in same_row b c r s x y rest lb.1 nr lc.1 ns

pub one_first : (bytes : List ℕ) (m n : ℕ) → IsFirstWrong bytes m → IsFirstWrong bytes n → m ≡ n
one_first bytes m n h k =
    sym h.number ∙ ap (λ (r : TextRow). r.line) (same_row h.before k.before h.row k.row h.behind k.behind (sym h.rows ∙ k.rows) h.lawful h.wrong k.lawful k.wrong) ∙ k.number

allowed : (before : List TextRow) (row : TextRow) (behind : List TextRow) (gifts : List Gift) → GiveAll (before ++ row ∷ behind) gifts → IsAllowed row
allowed [] row behind [] g = absurd g
allowed [] row behind (x ∷ gifts) g = (x, g.0)
allowed (r ∷ before) row behind [] g = absurd g
allowed (r ∷ before) row behind (x ∷ gifts) g = allowed before row behind gifts g.1

pub not_both : (bytes : List ℕ) (lists : List (List ℕ)) (line : ℕ) → IsTextOf bytes lists → IsFirstWrong bytes line → ⊥
not_both bytes lists line t w = w.wrong (allowed w.before w.row w.behind t.gifts (subst (λ l. GiveAll l t.gifts) w.rows t.rows))

ok_same : {A E : Type 0} {x y : A} → ◌≡◌ {A = Result A E} (Ok x) (Ok y) → x ≡ y
ok_same e = cc

no_ok : {A E : Type 0} {x : A} {y : E} → Err y ≡ Ok x → ⊥
no_ok e = cc

pub one_script : (bytes : List ℕ) (k l : List (List ℕ)) → IsTextOf bytes k → IsTextOf bytes l → k ≡ l
one_script bytes k l t u = ok_same (sym (reading_only bytes k t) ∙ reading_only bytes l u)

pub some_answer : (bytes : List ℕ) → Answer bytes
some_answer bytes = by (reading bytes) refl
  where
    by : (r : Result (List (List ℕ)) ℕ) → reading bytes ≡ r → Answer bytes
    by (Ok lists) e = text lists (reading_found bytes lists e)
    by (Err n) e = wrong n (reading_first bytes n e)

-- ---- what a refusal comes to

pub fault_only : (bytes : List ℕ) (e : ScriptFault) → Reads (reading bytes) (Err e) → (lists : List (List ℕ)) → IsTextOf bytes lists → e ≡ Memory
fault_only bytes (ScriptText line) h lists t = absurd (no_ok (sym h ∙ reading_only bytes lists t))
fault_only bytes Memory h lists t = refl

pub fault_told : (bytes : List ℕ) (e : ScriptFault) → Reads (reading bytes) (Err e) → IsFault bytes e
fault_told bytes (ScriptText line) h = reading_first bytes line h
fault_told bytes Memory h = tt

pub fault_first : (bytes : List ℕ) (e : ScriptFault) → Reads (reading bytes) (Err e) → (line : ℕ) → IsFirstWrong bytes line → (e ≡ ScriptText line) ⊎ (e ≡ Memory)
fault_first bytes (ScriptText n) h line w = inl (ap ScriptText (one_first bytes n line (reading_first bytes n h) w))
fault_first bytes Memory h line w = inr refl
