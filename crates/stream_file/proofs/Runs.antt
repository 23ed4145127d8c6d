-- The lines of fields that have a text are taken one after another.
use Rattle.std.proofs.Common.{◌≡◌, ℕ, ◌+◌, ◌^◌, ◌<◌, ◌≤◌, zero, suc, refl, sym, ap, subst, ◌∙◌, arith, Bool, true, false, List, [], ◌∷◌, ◌++◌, length, map, drop, Some, None, true≢false, cond, append_assoc, append-nil, length-append, add-one}
use Rattle.std.specs.Prelude.{nat_le, nat_lt, ◌==◌, ◌&&◌}
use Rattle.std.proofs.Common.{inl, inr}
use Rattle.std.specs.List.{AllByRecursion}
use Rattle.std.proofs.lemmas.Bool.Decides.{nat_tests}
use Rattle.bm_base.specs.declared.spec.Interval.{Interval}
use Rattle.bm_base.specs.declared.spec.Class.{Class}
use Rattle.bm_base.specs.declared.spec.Class.TheVariants as c
use Rattle.bm_base.specs.Entry.{Entry}
use Rattle.bm_base.specs.Spec as spec
use Rattle.bm_base.specs.Machine.{IsTime}
use Rattle.bm_base.proofs.StrictTexts.{chosen, both_true}
use Rattle.tuple_ir.specs.declared.tuple.Tuple.{Tuple}
use Rattle.line_model.specs.declared.line.StreamItem.{StreamItem}
use Rattle.stream_image.specs.declared.given.Stream.{Stream}
use Rattle.stream_file.specs.declared.draft.Stage.{Stage}
use Rattle.stream_file.specs.declared.draft.Stage.TheVariants as at
use Rattle.stream_file.specs.Words.{classes}
use Rattle.stream_file.specs.Rows.{Row, Version, Processors, Barrier, Times, Named, Does, Masks, Follows, Ends}
use Rattle.stream_file.specs.Fields.{BlockFields, Fields, fits_processors, fits_barrier, fits_mask, HeadFits, TupleFits, KindFits, ItemFits, StreamFits, AreAbove, OpenFits, BlockFits, NamesFit, Fits, items_text, head_rows, time_rows, block_rows, blocks_rows, top_rows, rows}
use Rattle.stream_file.specs.RowFits.{RowFits}
use Rattle.stream_file.specs.Draft.{Draft, start, items_of, may_open, may_mask, is_open, with_name, with_stream, step, behind_processors}
use Rattle.stream_file.proofs.SoFar.{length_push, next_from, stream_row}
use Rattle.stream_file.proofs.NamesAgain.{adding_again, name_of, name_plain, in_range, all_middle}
use Rattle.stream_file.proofs.ItemTexts.{items_again}

-- ---- rows that are taken one after another

abbrev pub Runs : Draft → List Row → Draft → Type 0
Runs d [] e = d ≡ e
Runs d (row ∷ rows) e = RowFits row × ((f : Draft) × ((step d row ≡ Some f) × Runs f rows e))

pub runs_append : (d e f : Draft) (xs ys : List Row) → Runs d xs e → Runs e ys f → Runs d (xs ++ ys) f
runs_append d e f [] ys h k = subst (λ (x : Draft). Runs x ys f) (sym h) k
runs_append d e f (x ∷ xs) ys h k = (h.0, (h.1.0, (h.1.1.0, runs_append h.1.0 e f xs ys h.1.1.1 k)))

one : (d e : Draft) (row : Row) → RowFits row → step d row ≡ Some e → Runs d (row ∷ []) e
one d e row fits h = (fits, (e, (h, refl)))

pub passes : {A : Type 0} (b : Bool) (x : A) → b ≡ true → cond b (Some x) None ≡ Some x
passes b x h = ap (λ (t : Bool). cond t (Some x) None) h

pub and_true : (x y : Bool) → x ≡ true → y ≡ true → (x && y) ≡ true
and_true true y h k = k
and_true false y h k = absurd (true≢false (sym h))

pub le_true : (a b : ℕ) → a ≤ b → nat_le a b ≡ true
le_true a b h = grind (arith, nat_tests)

pub lt_true : (a b : ℕ) → a < b → nat_lt a b ≡ true
lt_true a b h = grind (arith, nat_tests)

pub eq_true : (a b : ℕ) → a ≡ b → (a == b) ≡ true
eq_true a b h = grind (arith, nat_tests)

pub ne_false : (a b : ℕ) → (a ≡ b → ⊥) → (a == b) ≡ false
ne_false a b h = elim (a == b) as (λ t. (a == b) ≡ t → t ≡ false) [ true ↦ λ e. absurd (h (grind (arith, nat_tests))) | false ↦ λ e. refl ] refl

-- ---- the head

module _ (v p b : ℕ) where
  abbrev drafted : Stage → List Interval → List Entry → List BlockFields → Draft
  drafted s ts es bs = record { stage = s; version = v; processors = p; barrier = b; times = ts; names = es; blocks = bs; tuples = []; masks = []; streams = []; from = 0 }

abbrev heads : ℕ → ℕ → ℕ → Draft
heads v p b = drafted v p b at.Times [] [] []

module _ (v p b : ℕ) (h : HeadFits v p b) where
  first : step start (Version v) ≡ Some (drafted v 0 0 at.Processors [] [] [])
  first = passes (true && nat_le 1 v && nat_le v 3) _ (and_true (nat_le 1 v) (nat_le v 3) (le_true 1 v h.low) (le_true v 3 h.high))

  second : step (drafted v 0 0 at.Processors [] [] []) (Processors p) ≡ Some (drafted v p 0 (behind_processors v) [] [] [])
  second = passes (true && fits_processors v p) _ h.processors_fit

  processors_small : p ≤ 255
  processors_small = elim (chosen (v == 3) (nat_le 65 p && nat_le p 128) (nat_le 1 p && nat_le p 64) true h.processors_fit) [
    | inl q ↦ (let k = both_true (nat_le 65 p) (nat_le p 128) q.1 in let l : p ≤ 128 = grind (arith, nat_tests) in omega arith)
    | inr q ↦ (let k = both_true (nat_le 1 p) (nat_le p 64) q.1 in let l : p ≤ 64 = grind (arith, nat_tests) in omega arith)
  ]

  barrier_small : fits_barrier v b ≡ true → b ≤ 255
  barrier_small f = elim (chosen (v == 3) (nat_le b 100) (nat_le 1 b && nat_le b 100) true f) [
    | inl q ↦ (let l : b ≤ 100 = grind (arith, nat_tests) in omega arith)
    | inr q ↦ (let k = both_true (nat_le 1 b) (nat_le b 100) q.1 in let l : b ≤ 100 = grind (arith, nat_tests) in omega arith)
  ]

  last : (t : Bool) → (v == 1) ≡ t → Runs (drafted v p 0 (cond t at.Times at.Barrier) [] [] []) (cond t [] (Barrier b ∷ [])) (heads v p b)
  last true e = let o : v ≡ 1 = grind (arith, nat_tests) in ap (λ (x : ℕ). heads v p x) (sym (h.barrier_fits.0 o))
  last false e =
      let f : fits_barrier v b ≡ true = h.barrier_fits.1 (λ o. absurd (true≢false (sym (eq_true v 1 o) ∙ e))) in
      one (drafted v p 0 at.Barrier [] [] []) (heads v p b) (Barrier b) (barrier_small f) (passes (true && fits_barrier v b) _ f)

  head_runs : Runs start (head_rows v p b) (heads v p b)
  head_runs =
      let low : v ≤ 3 = h.high in
      (omega arith, (drafted v 0 0 at.Processors [] [] [], (first, (processors_small, (drafted v p 0 (behind_processors v) [] [] [], (second, last (v == 1) refl))))))

-- ---- the times

pub class_from : (k : ℕ) → k < 9 → (x : Class) × ((drop k classes ≡ x ∷ drop (suc k) classes) × (spec.place_of x ≡ k))
class_from zero h = (c.Const, (refl, refl))
class_from (suc zero) h = (c.Load, (refl, refl))
class_from (suc (suc zero)) h = (c.Store, (refl, refl))
class_from (suc (suc (suc zero))) h = (c.LoadEl, (refl, refl))
class_from (suc (suc (suc (suc zero)))) h = (c.StoreEl, (refl, refl))
class_from (suc (suc (suc (suc (suc zero))))) h = (c.Alu, (refl, refl))
class_from (suc (suc (suc (suc (suc (suc zero)))))) h = (c.Mul, (refl, refl))
class_from (suc (suc (suc (suc (suc (suc (suc zero))))))) h = (c.Div, (refl, refl))
class_from (suc (suc (suc (suc (suc (suc (suc (suc zero)))))))) h = (c.Print, (refl, refl))
class_from (suc (suc (suc (suc (suc (suc (suc (suc (suc k))))))))) h = absurd (omega arith)

module _ (v p b : ℕ) where
  abbrev timed : List Interval → Draft
  timed ts = drafted v p b (cond (length ts == 9) at.Names at.Times) ts [] []

  abbrev still : List Interval → Draft
  still ts = drafted v p b at.Times ts [] []

  time_step : (front : List Interval) (t : Interval) (x : Class) → length front < 9 → spec.place_of x ≡ length front → step (still front) (Times x t) ≡ Some (timed (front ++ t ∷ []))
  time_step front t x l e =
      passes (true && spec.place_of x == length front) _ (eq_true (spec.place_of x) (length front) e) ∙ ap (λ (w : Bool). Some (drafted v p b (cond w at.Names at.Times) (front ++ t ∷ []) [] [])) (same (length front) (length (front ++ t ∷ [])) (length_push front t))
    where
      same : (m n : ℕ) → n ≡ m + 1 → (m == 8) ≡ (n == 9)
      same m n e = elim (m == 8) as (λ w. (m == 8) ≡ w → w ≡ (n == 9)) [
        | true ↦ λ q. (let o : m ≡ 8 = grind (arith, nat_tests) in sym (eq_true n 9 (omega arith)))
        | false ↦ λ q. sym (ne_false n 9 (λ o. (let i : m ≡ 8 = omega arith in absurd (true≢false (sym (eq_true m 8 i) ∙ q)))))
      ] refl

  -- from the stage of a list of fewer than nine
  unfinished : (front : List Interval) → length front < 9 → timed front ≡ still front
  unfinished front l = ap (λ (w : Bool). drafted v p b (cond w at.Names at.Times) front [] []) (ne_false (length front) 9 (λ e. omega arith))

  times_run : (front rest : List Interval) → length front + length rest ≡ 9 → AllByRecursion IsTime rest → Runs (timed front) (time_rows (drop (length front) classes) rest) (timed (front ++ rest))
  times_run front [] l h = subst (λ (rows : List Row). Runs (timed front) rows (timed (front ++ []))) (sym (no_times (drop (length front) classes))) (ap timed (sym (append-nil front)))
    where
      no_times : (cs : List Class) → time_rows cs [] ≡ []
      no_times [] = refl
      no_times (c ∷ cs) = refl
  times_run front (t ∷ ts) l h =
      let few : length front < 9 = omega arith in
      let k = class_from (length front) few in
      let more : suc (length front) ≡ length (front ++ t ∷ []) = omega (arith, length_push front t) in
      let rest = times_run (front ++ t ∷ []) ts (omega (arith, length_push front t)) h.1 in
      let tail = subst (λ (n : ℕ). Runs (timed (front ++ t ∷ [])) (time_rows (drop n classes) ts) (timed ((front ++ t ∷ []) ++ ts))) (sym more) rest in
      let whole = subst (λ (l : List Interval). Runs (timed (front ++ t ∷ [])) (time_rows (drop (suc (length front)) classes) ts) (timed l)) (append_assoc front (t ∷ []) ts) tail in
      let taken : Runs (still front) (Times k.0 t ∷ time_rows (drop (suc (length front)) classes) ts) (timed (front ++ t ∷ ts)) = (h.0, (timed (front ++ t ∷ []), (time_step front t k.0 few k.1.1, whole))) in
      subst (λ (cs : List Class). Runs (timed front) (time_rows cs (t ∷ ts)) (timed (front ++ t ∷ ts))) (sym k.1.0) (subst (λ (d : Draft). Runs d (Times k.0 t ∷ time_rows (drop (suc (length front)) classes) ts) (timed (front ++ t ∷ ts))) (sym (unfinished front few)) taken)

  pub all_times : (ts : List Interval) → length ts ≡ 9 → timed ts ≡ drafted v p b at.Names ts [] []
  all_times ts e = ap (λ (w : Bool). drafted v p b (cond w at.Names at.Times) ts [] []) (eq_true (length ts) 9 e)

  -- ---- the names

  names_run : (ts : List Interval) (front rest : List Entry) → NamesFit (front ++ rest) → Runs (drafted v p b at.Names ts front []) (map (λ (e : Entry). Named e) rest) (drafted v p b at.Names ts (front ++ rest) [])
  names_run ts front [] n = ap (λ (l : List Entry). drafted v p b at.Names ts l []) (sym (append-nil front))
  names_run ts front (e ∷ rest) n =
      let next = names_run ts (front ++ e ∷ []) rest (subst NamesFit (sym (append_assoc front (e ∷ []) rest)) n) in
      let whole = subst (λ (l : List Entry). Runs (drafted v p b at.Names ts (front ++ e ∷ []) []) (map (λ (x : Entry). Named x) rest) (drafted v p b at.Names ts l [])) (append_assoc front (e ∷ []) rest) next in
      let fits : RowFits (Named e) = (name_plain 32 e.name (omega arith) (name_of front e rest n), in_range e.kind (all_middle (λ (x : Entry). KindFits x.kind) front e rest n.each)) in
      (fits, (drafted v p b at.Names ts (front ++ e ∷ []) [], (ap (with_name e (drafted v p b at.Names ts front [])) (adding_again front e rest n), whole)))

  -- ---- a block

  abbrev opened : Stage → List Interval → List Entry → List BlockFields → List Tuple → List ℕ → List Stream → ℕ → Draft
  opened s ts es bs us ms ss from = record { stage = s; version = v; processors = p; barrier = b; times = ts; names = es; blocks = bs; tuples = us; masks = ms; streams = ss; from = from }

  module _ (ts : List Interval) (es : List Entry) (bs : List BlockFields) where
    tuples_run : (front rest : List Tuple) → length (front ++ rest) ≤ 128 → AllByRecursion TupleFits rest → Runs (opened at.Tuples ts es bs front [] [] 0) (map (λ (t : Tuple). Does t) rest) (opened at.Tuples ts es bs (front ++ rest) [] [] 0)
    tuples_run front [] l h = ap (λ (x : List Tuple). opened at.Tuples ts es bs x [] [] 0) (sym (append-nil front))
    tuples_run front (t ∷ rest) l h =
        let few : length front < 128 = omega (arith, length-append front (t ∷ rest)) in
        let same = append_assoc front (t ∷ []) rest in
        let next = tuples_run (front ++ t ∷ []) rest (subst (λ (x : List Tuple). length x ≤ 128) (sym same) l) h.1 in
        let whole = subst (λ (x : List Tuple). Runs (opened at.Tuples ts es bs (front ++ t ∷ []) [] [] 0) (map (λ (y : Tuple). Does y) rest) (opened at.Tuples ts es bs x [] [] 0)) same next in
        (h.0, (opened at.Tuples ts es bs (front ++ t ∷ []) [] [] 0, (passes (true && nat_lt (length front) 128) _ (lt_true (length front) 128 few), whole)))

    abbrev behind_masks : Stage → List ℕ → Stage
    behind_masks s [] = s
    behind_masks s (m ∷ ms) = at.Masks

    masks_run : (s : Stage) → may_mask s ≡ true → (us : List Tuple) (front rest : List ℕ) → length (front ++ rest) ≤ 128 → AllByRecursion (λ (m : ℕ). fits_mask v m ≡ true) rest
        → Runs (opened s ts es bs us front [] 0) (map (λ (m : ℕ). Masks m) rest) (opened (behind_masks s rest) ts es bs us (front ++ rest) [] 0)
    masks_run s o us front [] l h = ap (λ (x : List ℕ). opened s ts es bs us x [] 0) (sym (append-nil front))
    masks_run s o us front (m ∷ rest) l h =
        let few : length front < 128 = omega (arith, length-append front (m ∷ rest)) in
        let same = append_assoc front (m ∷ []) rest in
        let next = masks_run at.Masks refl us (front ++ m ∷ []) rest (subst (λ (x : List ℕ). length x ≤ 128) (sym same) l) h.1 in
        let whole = subst (λ (x : List ℕ). Runs (opened at.Masks ts es bs us (front ++ m ∷ []) [] 0) (map (λ (y : ℕ). Masks y) rest) (opened (behind_masks at.Masks rest) ts es bs us x [] 0)) same next in
        let stays : behind_masks at.Masks rest ≡ at.Masks = stay rest in
        let last = subst (λ (x : Stage). Runs (opened at.Masks ts es bs us (front ++ m ∷ []) [] 0) (map (λ (y : ℕ). Masks y) rest) (opened x ts es bs us (front ++ m ∷ rest) [] 0)) stays whole in
        (small v m h.0, (opened at.Masks ts es bs us (front ++ m ∷ []) [] 0, (passes (may_mask s && nat_lt (length front) 128 && fits_mask v m) _ (and_true (may_mask s && nat_lt (length front) 128) (fits_mask v m) (and_true (may_mask s) (nat_lt (length front) 128) o (lt_true (length front) 128 few)) h.0), last)))
      where
        stay : (xs : List ℕ) → behind_masks at.Masks xs ≡ at.Masks
        stay [] = refl
        stay (x ∷ xs) = refl

        small : (v m : ℕ) → fits_mask v m ≡ true → m < 2 ^ 128
        small v m f = elim (chosen (v == 3) (nat_lt m (2 ^ 128)) (nat_lt m (2 ^ 64)) true f) [ inl q ↦ below m (2 ^ 128) q.1 | inr q ↦ omega (arith, below m (2 ^ 64) q.1) ]
          where
            below : (a b : ℕ) → nat_lt a b ≡ true → a < b
            below a b t = grind (arith, nat_tests)

    abbrev behind_streams : Stage → List Stream → Stage
    behind_streams s [] = s
    behind_streams s (x ∷ xs) = at.Streams

    streams_run : (s : Stage) → is_open s ≡ true → (us : List Tuple) (ms : List ℕ) (front rest : List Stream) (from : ℕ) → AllByRecursion StreamFits rest → AreAbove from rest
        → Runs (opened s ts es bs us ms front from) (map stream_row rest) (opened (behind_streams s rest) ts es bs us ms (front ++ rest) (next_from from rest))
    streams_run s o us ms front [] from h a = ap (λ (x : List Stream). opened s ts es bs us ms x from) (sym (append-nil front))
    streams_run s o us ms front (x ∷ rest) from h a =
        let same = append_assoc front (x ∷ []) rest in
        let next = streams_run at.Streams refl us ms (front ++ x ∷ []) rest (suc x.processor) h.1 a.1 in
        let whole = subst (λ (l : List Stream). Runs (opened at.Streams ts es bs us ms (front ++ x ∷ []) (suc x.processor)) (map stream_row rest) (opened (behind_streams at.Streams rest) ts es bs us ms l (next_from (suc x.processor) rest))) same next in
        let last = subst (λ (y : Stage). Runs (opened at.Streams ts es bs us ms (front ++ x ∷ []) (suc x.processor)) (map stream_row rest) (opened y ts es bs us ms (front ++ x ∷ rest) (next_from (suc x.processor) rest))) (stay rest) whole in
        let read = items_read x.items h.0.some h.0.each in
        (h.0.processor, (opened at.Streams ts es bs us ms (front ++ x ∷ []) (suc x.processor), (taken s x from front o a.0 read, last)))
      where
        stay : (xs : List Stream) → behind_streams at.Streams xs ≡ at.Streams
        stay [] = refl
        stay (x ∷ xs) = refl

        items_read : (is : List StreamItem) → 1 ≤ length is → AllByRecursion ItemFits is → items_of (items_text is) ≡ Some is
        items_read [] l h = absurd (omega arith)
        items_read (i ∷ is) l h = items_again i is h.0 h.1

        taken : (s : Stage) (x : Stream) (from : ℕ) (front : List Stream) → is_open s ≡ true → from ≤ x.processor → items_of (items_text x.items) ≡ Some x.items
            → step (opened s ts es bs us ms front from) (stream_row x) ≡ Some (opened at.Streams ts es bs us ms (front ++ x ∷ []) (suc x.processor))
        taken s x from front o a r =
            ap (λ (t : Bool). cond t (with_stream x.processor (opened s ts es bs us ms front from) (items_of (items_text x.items))) None) (and_true (is_open s) (nat_le from x.processor) o (le_true from x.processor a))
            ∙ ap (with_stream x.processor (opened s ts es bs us ms front from)) r ∙ ap (λ (n : ℕ). Some (opened at.Streams ts es bs us ms (front ++ x ∷ []) n)) (add-one x.processor)

    open_still : (s : Stage) (xs : List Stream) → is_open s ≡ true → is_open (behind_streams s xs) ≡ true
    open_still s [] h = h
    open_still s (x ∷ xs) h = refl

    open_masks : (ms : List ℕ) → is_open (behind_masks at.Tuples ms) ≡ true
    open_masks [] = refl
    open_masks (m ∷ ms) = refl

    block_run : (s : Stage) → may_open s ≡ true → (x : BlockFields) → BlockFits v x → length bs ≤ 4294967295 → Runs (drafted v p b s ts es bs) (block_rows (length bs) x) (drafted v p b at.Between ts es (bs ++ x ∷ []))
    block_run s o x h few =
        let f : OpenFits v x.tuples x.masks x.streams = h.open_fits in
        let stage : Stage = behind_masks at.Tuples x.masks in
        let end : Stage = behind_streams stage x.streams in
        let last : Draft = opened end ts es bs x.tuples x.masks x.streams (next_from 0 x.streams) in
        let tuples = tuples_run [] x.tuples f.few_tuples f.tuples_fit in
        let masks = masks_run at.Tuples refl x.tuples [] x.masks f.few_masks f.masks_fit in
        let streams = streams_run stage (open_masks x.masks) x.tuples x.masks [] x.streams 0 f.streams_fit f.rising in
        let inner = runs_append (opened at.Tuples ts es bs [] [] [] 0) (opened at.Tuples ts es bs x.tuples [] [] 0) last (map (λ (t : Tuple). Does t) x.tuples) (map (λ (m : ℕ). Masks m) x.masks ++ map stream_row x.streams) tuples
        (runs_append (opened at.Tuples ts es bs x.tuples [] [] 0) (opened stage ts es bs x.tuples x.masks [] 0) last (map (λ (m : ℕ). Masks m) x.masks) (map stream_row x.streams) masks streams) in
        let close = one last (drafted v p b at.Between ts es (bs ++ x ∷ [])) (Follows x.next) h.next (passes (is_open end) _ (open_still stage x.streams (open_masks x.masks))) in (
          few,
          (
            opened at.Tuples ts es bs [] [] [] 0,
            (
              passes (may_open s && length bs == length bs) _ (and_true (may_open s) (length bs == length bs) o (eq_true (length bs) (length bs) refl)),
              runs_append (opened at.Tuples ts es bs [] [] [] 0) last (drafted v p b at.Between ts es (bs ++ x ∷ [])) (map (λ (t : Tuple). Does t) x.tuples ++ (map (λ (m : ℕ). Masks m) x.masks ++ map stream_row x.streams)) (Follows x.next ∷ []) inner close,
            ),
          ),
        )

  abbrev behind_blocks : Stage → List BlockFields → Stage
  behind_blocks s [] = s
  behind_blocks s (x ∷ xs) = at.Between

  module _ (ts : List Interval) (es : List Entry) where
    blocks_run : (s : Stage) → may_open s ≡ true → (front rest : List BlockFields) → length (front ++ rest) ≤ 4294967296 → AllByRecursion (BlockFits v) rest → Runs (drafted v p b s ts es front) (blocks_rows (length front) rest) (drafted v p b (behind_blocks s rest) ts es (front ++ rest))
    blocks_run s o front [] l h = ap (λ (x : List BlockFields). drafted v p b s ts es x) (sym (append-nil front))
    blocks_run s o front (x ∷ rest) l h =
        let few : length front ≤ 4294967295 = omega (arith, length-append front (x ∷ rest)) in
        let same = append_assoc front (x ∷ []) rest in
        let more : length (front ++ x ∷ []) ≡ suc (length front) = omega (arith, length_push front x) in
        let next = blocks_run at.Between refl (front ++ x ∷ []) rest (subst (λ (y : List BlockFields). length y ≤ 4294967296) (sym same) l) h.1 in
        let counted = subst (λ (n : ℕ). Runs (drafted v p b at.Between ts es (front ++ x ∷ [])) (blocks_rows n rest) (drafted v p b (behind_blocks at.Between rest) ts es ((front ++ x ∷ []) ++ rest))) more next in
        let whole = subst (λ (y : List BlockFields). Runs (drafted v p b at.Between ts es (front ++ x ∷ [])) (blocks_rows (suc (length front)) rest) (drafted v p b (behind_blocks at.Between rest) ts es y)) same counted in
        let last = subst (λ (y : Stage). Runs (drafted v p b at.Between ts es (front ++ x ∷ [])) (blocks_rows (suc (length front)) rest) (drafted v p b y ts es (front ++ x ∷ rest))) (stay rest) whole in
        runs_append (drafted v p b s ts es front) (drafted v p b at.Between ts es (front ++ x ∷ [])) (drafted v p b at.Between ts es (front ++ x ∷ rest)) (block_rows (length front) x) (blocks_rows (suc (length front)) rest) (block_run ts es front s o x h.0 few) last
      where
        stay : (xs : List BlockFields) → behind_blocks at.Between xs ≡ at.Between
        stay [] = refl
        stay (x ∷ xs) = refl

    some_blocks : (xs : List BlockFields) → 1 ≤ length xs → behind_blocks at.Names xs ≡ at.Between
    some_blocks [] h = absurd (omega arith)
    some_blocks (x ∷ xs) h = refl

-- ---- whole texts

abbrev pub done : Fields → Draft
done f = record { stage = at.Done; version = f.version; processors = f.processors; barrier = f.barrier; times = f.times; names = f.names; blocks = f.blocks; tuples = []; masks = []; streams = []; from = 0 }

pub fields_run : (f : Fields) → Fits f → Runs start (rows f) (done f)
fields_run f h =
    let v = f.version in
    let p = f.processors in
    let b = f.barrier in
    let named : Draft = drafted v p b at.Names f.times f.names [] in
    let between : Draft = drafted v p b at.Between f.times f.names f.blocks in
    let times = subst (λ (d : Draft). Runs (heads v p b) (time_rows classes f.times) d) (all_times v p b f.times h.count) (times_run v p b [] f.times (omega (arith, h.count)) h.times) in
    let names = names_run v p b f.times [] f.names h.names in
    let top = runs_append start (heads v p b) named (head_rows v p b) (time_rows classes f.times ++ map (λ (e : Entry). Named e) f.names) (head_runs v p b h.head) (runs_append (heads v p b) (drafted v p b at.Names f.times [] []) named (time_rows classes f.times) (map (λ (e : Entry). Named e) f.names) times names) in
    let blocks = subst (λ (s : Stage). Runs named (blocks_rows 0 f.blocks) (drafted v p b s f.times f.names f.blocks)) (some_blocks v p b f.times f.names f.blocks h.some) (blocks_run v p b f.times f.names at.Names refl [] f.blocks h.few h.each) in
    let ends = one between (done f) Ends tt refl in
    runs_append start named (done f) (top_rows f) (blocks_rows 0 f.blocks ++ Ends ∷ []) top (runs_append named between (done f) (blocks_rows 0 f.blocks) (Ends ∷ []) blocks ends)
