-- What the reading of a text is.
use Rattle.std.proofs.Common.{◌≡◌, ℕ, ◌+◌, ◌-◌, ◌<◌, ◌≤◌, suc, refl, sym, ap, subst, ◌∙◌, arith, true, false, List, [], ◌∷◌, ◌++◌, length, map, take, Some, None, Option, Ok, Err, Result, true≢false, append_assoc, append-nil}
use Rattle.std.specs.Prelude.{◌==◌}
use Rattle.std.proofs.Common.{inl, inr}
use Rattle.std.specs.List.{AllByRecursion}
use Rattle.std.proofs.lemmas.List.{map-append}
use Rattle.bm_base.specs.Lines.{has_byte, unlines, whole_from, cut_from, whole_lines, cut_line}
use Rattle.bm_base.proofs.LineTexts.{lines-text}
use Rattle.bm_base.proofs.StrictTexts.{chosen, none_some, some_same}
use Rattle.stream_file.specs.Cuts.{◌>>=◌}
use Rattle.stream_file.specs.Rows.{Row, row_of, row_text}
use Rattle.stream_file.specs.Fields.{Fields, rows, lines_of, IsTextOf, CanStand}
use Rattle.stream_file.specs.First.{IsFirstWrong}
use Rattle.stream_file.specs.declared.draft.Stage.{Stage}
use Rattle.stream_file.specs.declared.draft.Stage.TheVariants as at
use Rattle.stream_file.specs.Draft.{Draft, start, fields_of, step, take_line, is_done, finished, reading_from, reading}
use Rattle.stream_file.proofs.Parts.{bind_some}
use Rattle.stream_file.proofs.RowTexts.{row_is, row_again}
use Rattle.stream_file.proofs.SoFar.{Sound, SoundAt, so_far, so_far_at, Closed, step_grows, map_push}
use Rattle.stream_file.proofs.Runs.{Runs, done, fields_run}
use Rattle.stream_file.proofs.Completes.{completes}
use Rattle.stream_file.proofs.PlainLines.{taken_plain}

-- ---- lines that are taken one after another

abbrev pub Takes : Draft → List (List ℕ) → Draft → Type 0
Takes d [] e = d ≡ e
Takes d (l ∷ ls) e = (f : Draft) × ((take_line d l ≡ Some f) × Takes f ls e)

abbrev PlainLine : List ℕ → Type 0
PlainLine l = has_byte 10 l ≡ false

runs_take : (d e : Draft) (xs : List Row) → Runs d xs e → Takes d (map row_text xs) e × AllByRecursion PlainLine (map row_text xs)
runs_take d e [] h = (h, tt)
runs_take d e (x ∷ xs) h =
    let k = runs_take h.1.0 e xs h.1.1.1 in
    ((h.1.0, (ap (λ (o : Option Row). o >>= step d) (row_again x h.0) ∙ h.1.1.0, k.0)), (taken_plain d h.1.0 x h.0 h.1.1.0, k.1))

takes_split : (d e : Draft) (xs ys : List (List ℕ)) → Takes d (xs ++ ys) e → (f : Draft) × (Takes d xs f × Takes f ys e)
takes_split d e [] ys h = (d, (refl, h))
takes_split d e (x ∷ xs) ys h = let k = takes_split h.0 e xs ys h.1.1 in (k.0, ((h.0, (h.1.0, k.1.0)), k.1.1))

takes_same : (d e f : Draft) (xs : List (List ℕ)) → Takes d xs e → Takes d xs f → e ≡ f
takes_same d e f [] h k = sym h ∙ k
takes_same d e f (x ∷ xs) h k =
    let s : h.0 ≡ k.0 = some_same (sym h.1.0 ∙ k.1.0) in
    takes_same h.0 e f xs h.1.1 (subst (λ (y : Draft). Takes y xs f) (sym s) k.1.1)

abbrev after : ℕ → List (List ℕ) → List ℕ → Option Draft → Result Draft ℕ
after k ls cut None = Err (k + 1)
after k ls cut (Some e) = reading_from (k + 1) e ls cut

reading_takes : (k : ℕ) (d e : Draft) (xs more : List (List ℕ)) (cut : List ℕ) → Takes d xs e → reading_from k d (xs ++ more) cut ≡ reading_from (k + length xs) e more cut
reading_takes k d e [] more cut h = (λ i. reading_from (plain i) (h i) more cut)
  where
    plain : k ≡ k + 0
    plain = omega arith
reading_takes k d e (x ∷ xs) more cut h =
    let n : (k + 1) + length xs ≡ k + suc (length xs) = omega arith in
    ap (after k (xs ++ more) cut) h.1.0 ∙ reading_takes (k + 1) h.0 e xs more cut h.1.1 ∙ ap (λ (m : ℕ). reading_from m e more cut) n

-- ---- a text as its lines

whole_front : (front l rest : List ℕ) → PlainLine l → (whole_from front (l ++ 10 ∷ rest) ≡ (front ++ l) ∷ whole_from [] rest) × (cut_from front (l ++ 10 ∷ rest) ≡ cut_from [] rest)
whole_front front [] rest h = (ap (λ (x : List ℕ). x ∷ whole_from [] rest) (sym (append-nil front)), refl)
whole_front front (b ∷ bs) rest h = elim (chosen (b == 10) true (has_byte 10 bs) false h) [
  | inl p ↦ absurd (true≢false p.1)
  | inr p ↦ (let k = whole_front (front ++ b ∷ []) bs rest p.1 in (rw p.0 (k.0 ∙ ap (λ (x : List ℕ). x ∷ whole_from [] rest) (append_assoc front (b ∷ []) bs)), rw p.0 k.1))
]

unlines_again : (ls : List (List ℕ)) → AllByRecursion PlainLine ls → (whole_lines (unlines ls) ≡ ls) × (cut_line (unlines ls) ≡ [])
unlines_again [] h = (refl, refl)
unlines_again (l ∷ ls) h =
    let k = whole_front [] l (unlines ls) h.0 in
    let r = unlines_again ls h.1 in
    (k.0 ∙ ap (λ (x : List (List ℕ)). l ∷ x) r.0, k.1 ∙ r.1)

-- ---- what is read

pub start_sound : Sound start
start_sound = record { no_barrier = refl; no_times = refl; no_names = refl; clean = record { no_blocks = refl; no_tuples = refl; no_masks = refl; no_streams = refl; from_zero = refl } }

abbrev pub far : Draft → List (List ℕ)
far d = map row_text (so_far d)

pub line_grows : (d e : Draft) (l : List ℕ) → Sound d → take_line d l ≡ Some e → Sound e × (far e ≡ far d ++ l ∷ [])
line_grows d e l s h =
    let b = bind_some (row_of l) (step d) e h in
    let r = row_is l b.x b.first in
    let g = step_grows d e b.x r.1 s b.next in
    (g.0, ap (map row_text) g.1 ∙ map_push row_text (so_far d) b.x ∙ ap (λ (x : List ℕ). far d ++ x ∷ []) (sym r.0))

pub no_ok : {A E : Type 0} {e : E} {x : A} → ◌≡◌ {A = Result A E} (Err e) (Ok x) → ⊥
no_ok h = cc

pub ok_same : {A E : Type 0} {x y : A} → ◌≡◌ {A = Result A E} (Ok x) (Ok y) → x ≡ y
ok_same h = cc

pub err_same : {A E : Type 0} {x y : E} → ◌≡◌ {A = Result A E} (Err x) (Err y) → x ≡ y
err_same h = cc

abbrev Whole : Draft → List (List ℕ) → List ℕ → Draft → Type 0
Whole d ls cut e = Sound e × (far e ≡ far d ++ ls) × (is_done e.stage ≡ true) × (cut ≡ [])

finish_ok : (k : ℕ) (d e : Draft) (cut : List ℕ) → Sound d → finished k d cut ≡ Ok e → Whole d [] cut e
finish_ok k d e [] s h = elim (chosen (is_done d.stage) (Ok d) (Err (k + 1)) (Ok e) h) [
  | inl p ↦ subst (Whole d [] []) (ok_same p.1) (s, sym (append-nil (far d)), p.0, refl)
  | inr p ↦ absurd (no_ok p.1)
]
finish_ok k d e (b ∷ bs) s h = absurd (no_ok h)

read_more : (d f e : Draft) (l : List ℕ) (ls : List (List ℕ)) (cut : List ℕ) → far f ≡ far d ++ l ∷ [] → Whole f ls cut e → Whole d (l ∷ ls) cut e
read_more d f e l ls cut g w = (w.0, w.1 ∙ ap (λ (x : List (List ℕ)). x ++ ls) g ∙ append_assoc (far d) (l ∷ []) ls, w.2, w.3)

read_ok : (ls : List (List ℕ)) (k : ℕ) (d e : Draft) (cut : List ℕ) → Sound d → reading_from k d ls cut ≡ Ok e → Whole d ls cut e
read_ok [] k d e cut s h = finish_ok k d e cut s h
read_ok (l ∷ ls) k d e cut s h = by (take_line d l) refl h (λ f p q. read_ok ls (k + 1) f e cut p q)
  where
    by : (o : Option Draft) → take_line d l ≡ o → after k ls cut o ≡ Ok e → ((f : Draft) → Sound f → reading_from (k + 1) f ls cut ≡ Ok e → Whole f ls cut e) → Whole d (l ∷ ls) cut e
    by None o q next = absurd (no_ok q)
    by (Some f) o q next = let g = line_grows d f l s o in read_more d f e l ls cut g.1 (next f g.0 q)

pub at_done : (s : Stage) → is_done s ≡ true → s ≡ at.Done
at_done at.Done h = refl
at_done _ h = absurd (true≢false (sym h))

-- what is read is the text of its fields
pub reading_found : (bytes : List ℕ) (e : Draft) → reading bytes ≡ Ok e → IsTextOf bytes (fields_of e)
reading_found bytes e h =
    let w = read_ok (whole_lines bytes) 0 start e (cut_line bytes) start_sound h in
    let p = at_done e.stage w.2 in
    let c : Closed e = subst (λ (y : Stage). SoundAt y e) p w.0 in
    let all : so_far e ≡ rows (fields_of e) = ap (λ (y : Stage). so_far_at y e) p in
    let lines : whole_lines bytes ≡ lines_of (fields_of e) = sym w.1 ∙ ap (map row_text) all in
    record {
      fits = record { head = c.top.head; count = c.top.count; times = c.top.times; names = c.top.names; some = c.some; few = c.few; each = c.each };
      text = sym (lines-text [] bytes) ∙ ap (λ (x : List ℕ). unlines (whole_lines bytes) ++ x) w.3 ∙ append-nil (unlines (whole_lines bytes)) ∙ ap unlines lines;
    }

-- the text of fields is read as these
pub reading_only : (bytes : List ℕ) (f : Fields) → IsTextOf bytes f → reading bytes ≡ Ok (done f)
reading_only bytes f t =
    let r = runs_take start (done f) (rows f) (fields_run f t.fits) in
    let u = unlines_again (lines_of f) r.1 in
    ap reading t.text ∙ (λ i. reading_from 0 start (u.0 i) (u.1 i)) ∙ ap (λ (x : List (List ℕ)). reading_from 0 start x []) (sym (append-nil (lines_of f))) ∙ reading_takes 0 start (done f) (lines_of f) [] [] r.0

-- ---- what is refused

pub record Fails (k : ℕ) (d : Draft) (ls : List (List ℕ)) (n : ℕ) : Type 0 where
  pub j : ℕ
  pub number : n ≡ k + j + 1
  pub few : j ≤ length ls
  pub e : Draft
  pub sound : Sound e
  pub takes : Takes d (take j ls) e
  pub far_is : far e ≡ far d ++ take j ls
  pub stuck : j < length ls → (l : List ℕ) × ((take (j + 1) ls ≡ take j ls ++ l ∷ []) × (take_line e l ≡ None))

finish_err : (k : ℕ) (d : Draft) (cut : List ℕ) (n : ℕ) → finished k d cut ≡ Err n → n ≡ k + 1
finish_err k d [] n h = elim (chosen (is_done d.stage) (Ok d) (Err (k + 1)) (Err n) h) [
  | inl p ↦ absurd (no_ok (sym p.1))
  | inr p ↦ sym (err_same p.1)
]
finish_err k d (b ∷ bs) n h = sym (err_same h)

fail_more : (k : ℕ) (d f : Draft) (l : List ℕ) (ls : List (List ℕ)) (n : ℕ) → take_line d l ≡ Some f → far f ≡ far d ++ l ∷ [] → Fails (k + 1) f ls n → Fails k d (l ∷ ls) n
fail_more k d f l ls n t g h = record {
  j = suc h.j;
  number = omega (arith, h.number);
  few = omega (arith, h.few);
  e = h.e;
  sound = h.sound;
  takes = (f, (t, h.takes));
  far_is = h.far_is ∙ ap (λ (x : List (List ℕ)). x ++ take h.j ls) g ∙ append_assoc (far d) (l ∷ []) (take h.j ls);
  stuck = λ q. by h.j h.e ls (h.stuck (omega arith));
}
  where
    by : (j : ℕ) (e : Draft) (ls : List (List ℕ)) → ((m : List ℕ) × ((take (j + 1) ls ≡ take j ls ++ m ∷ []) × (take_line e m ≡ None))) → (m : List ℕ) × ((take (suc j + 1) (l ∷ ls) ≡ (l ∷ take j ls) ++ m ∷ []) × (take_line e m ≡ None))
    by j e ls s =
        let n : suc j + 1 ≡ suc (j + 1) = omega arith in
        (s.0, (ap (λ (m : ℕ). take m (l ∷ ls)) n ∙ ap (λ (x : List (List ℕ)). l ∷ x) s.1.0, s.1.1))

read_err : (ls : List (List ℕ)) (k : ℕ) (d : Draft) (cut : List ℕ) (n : ℕ) → Sound d → reading_from k d ls cut ≡ Err n → Fails k d ls n
read_err [] k d cut n s h = record { j = 0; number = finish_err k d cut n h ∙ omega arith; few = omega arith; e = d; sound = s; takes = refl; far_is = sym (append-nil (far d)); stuck = λ q. absurd (omega arith) }
read_err (l ∷ ls) k d cut n s h = by (take_line d l) refl h (λ f p q. read_err ls (k + 1) f cut n p q)
  where
    by : (o : Option Draft) → take_line d l ≡ o → after k ls cut o ≡ Err n → ((f : Draft) → Sound f → reading_from (k + 1) f ls cut ≡ Err n → Fails (k + 1) f ls n) → Fails k d (l ∷ ls) n
    by None o q next = record { j = 0; number = sym (err_same q) ∙ omega arith; few = omega arith; e = d; sound = s; takes = refl; far_is = sym (append-nil (far d)); stuck = λ x. (l, (refl, o)) }
    by (Some f) o q next = let g = line_grows d f l s o in fail_more k d f l ls n o g.1 (next f g.0 q)

-- the lines of a draft can stand
stands : (e : Draft) (ls : List (List ℕ)) → Sound e → far e ≡ ls → CanStand ls
stands e ls s h =
    let c = completes e s in
    record { fields = c.fields; fits = c.fits; more = map row_text c.more; begins = ap (map row_text) c.begins ∙ map-append row_text (so_far e) c.more ∙ ap (λ (x : List (List ℕ)). x ++ map row_text c.more) h }

-- lines that can stand are taken
stand_takes : (ls : List (List ℕ)) → CanStand ls → (e : Draft) × Takes start ls e
stand_takes ls c =
    let r = runs_take start (done c.fields) (rows c.fields) (fields_run c.fields c.fits) in
    let t = takes_split start (done c.fields) ls c.more (subst (λ (x : List (List ℕ)). Takes start x (done c.fields)) c.begins r.0) in
    (t.0, t.1.0)

-- what is refused is the first line that cannot stand
pub reading_first : (bytes : List ℕ) (n : ℕ) → reading bytes ≡ Err n → IsFirstWrong bytes n
reading_first bytes n h =
    let w = read_err (whole_lines bytes) 0 start (cut_line bytes) n start_sound h in
    let one : n ≡ w.j + 1 = omega (arith, w.number) in
    let back : w.j ≡ n - 1 = omega arith in
    record {
      no_text = λ f t. no_ok (sym h ∙ reading_only bytes f t);
      low = omega arith;
      high = omega (arith, w.few);
      before = subst (λ (m : ℕ). CanStand (take m (whole_lines bytes))) back (stands w.e (take w.j (whole_lines bytes)) w.sound w.far_is);
      wrong = λ l c. refuse w.j w.e w.takes (w.stuck (omega arith)) (subst (λ (m : ℕ). CanStand (take m (whole_lines bytes))) one c);
    }
  where
    refuse : (j : ℕ) (e : Draft) → Takes start (take j (whole_lines bytes)) e → ((l : List ℕ) × ((take (j + 1) (whole_lines bytes) ≡ take j (whole_lines bytes) ++ l ∷ []) × (take_line e l ≡ None))) → CanStand (take (j + 1) (whole_lines bytes)) → ⊥
    refuse j e t s c =
        let k = stand_takes (take (j + 1) (whole_lines bytes)) c in
        let p = takes_split start k.0 (take j (whole_lines bytes)) (s.0 ∷ []) (subst (λ (x : List (List ℕ)). Takes start x k.0) s.1.0 k.1) in
        let same : p.0 ≡ e = takes_same start p.0 e (take j (whole_lines bytes)) p.1.0 t in
        let one = subst (λ (x : Draft). Takes x (s.0 ∷ []) k.0) same p.1.1 in
        none_some (sym s.1.1 ∙ one.1.0)
