-- The bounds of each point of a line since each reference hold of every timing that keeps the local laws.
use Rattle.std.proofs.Common.{◌≡◌, ℕ, zero, suc, ◌+◌, ◌<◌, ◌≤◌, Bool, true, false, List, [], ◌∷◌, ◌++◌, length, Option, Some, slice_get, nat_eq, nat_lt, refl, sym, ap, ◌∙◌, subst, arith, if◌then◌else◌, append_assoc, append-nil}
use Rattle.std.proofs.lemmas.Bool.{eqb-true, eq-eqb, ne_eqb}
use Rattle.bm_base.specs.Mask.{has_bit}
use Rattle.line_model.specs.declared.line.Item.{Item}
use Rattle.line_model.specs.declared.line.Item.TheVariants.{Run, Bar}
use Rattle.line_model.specs.declared.line.StreamItem.TheVariants.{Do}
use Rattle.line_model.specs.Streams.{stream, masks, before, counted}
use Rattle.line_model.specs.Order.{HasMember, StandsAt}
use Rattle.line_model.specs.Reductions.{mask_at}
use Rattle.line_model.proofs.LineFacts.{before_front, item_front, mask_front, long_run, long_bar, masks_run, masks_bar}
use Rattle.time_interval.specs.declared.reference.Reference.{Reference}
use Rattle.time_interval.specs.declared.reference.Reference.TheVariants as since
use Rattle.time_interval.specs.declared.reference.Point.{Point}
use Rattle.time_interval.specs.declared.reference.Point.TheVariants.{StartOf, FinishOf, FireOf}
use Rattle.time_interval.specs.Bounds.{Pace, Known, time, later, fire_lo, fire_up, past_run, past_bar, along, at_start, at_bar, nothing, since_bar, known, front_of_run, processor_of, front_of_bar, lo_start, up_start, lo_of, up_of}
use Rattle.time_interval.specs.Lines.{HasPoint}
use Rattle.time_interval.proofs.Once.{split_at, any_of_contains}
use Rattle.time_law.proofs.Members.{later_parts, known_where}
use Rattle.time_law.proofs.Fold.{Laws, Hold, run_hold, fires_by, fires_from, bar_hold}

-- what the bounds of a point say of the ticks, where tick is that of the reference, and begun that it has come
abbrev pub Says : Pace → List Item → (ℕ → ℕ → ℕ) → (ℕ → ℕ → Type 0) → (ℕ → ℕ) → (ℕ → Type 0) → Type 0 → ℕ → Point → Option ℕ → Option ℕ → Type 0
Says pace line came has fire fired begun tick (StartOf t) lo up = ((u : ℕ) → up ≡ Some u → (p i : ℕ) × StandsAt line t p i × (came p i ≤ tick + u)) × ((l : ℕ) → lo ≡ Some l → (p i : ℕ) × StandsAt line t p i × (has p i → begun × (tick + l ≤ came p i)))
Says pace line came has fire fired begun tick (FinishOf t) lo up = ((u : ℕ) → up ≡ Some u → (p i : ℕ) × StandsAt line t p i × (came p i + (time pace t).most ≤ tick + u)) × ((l : ℕ) → lo ≡ Some l → (p i : ℕ) × StandsAt line t p i × (has p (suc i) → begun × (tick + l ≤ came p (suc i))))
Says pace line came has fire fired begun tick (FireOf j) lo up = ((u : ℕ) → up ≡ Some u → fire j ≤ tick + u) × ((l : ℕ) → lo ≡ Some l → fired j → begun × (tick + l ≤ fire j))

-- the tick of a reference, and that it has come
abbrev pub tick_of : (ℕ → ℕ) → ℕ → Reference → ℕ
tick_of fire entry since.Start = entry
tick_of fire entry (since.Bar k) = fire k

abbrev pub come_of : (ℕ → Type 0) → Reference → Type 0
come_of fired since.Start = Unit {0}
come_of fired (since.Bar k) = fired k

-- Bar j of a line behind its front
record SplitBar (items : List Item) (j : ℕ) : Type 0 where
  back : List Item
  same : items ≡ front_of_bar j items ++ Bar (mask_at items j) ∷ back
  count : length (masks (front_of_bar j items)) ≡ j

split_bar : (items : List Item) (j : ℕ) → j < length (masks items) → SplitBar items j
split_bar [] j lt = absurd (omega arith)
split_bar (Run q t ∷ items) j lt = let s = split_bar items j lt in record { back = s.back; same = ap (λ xs. Run q t ∷ xs) s.same; count = s.count }
split_bar (Bar m ∷ items) zero lt = record { back = items; same = refl; count = refl }
split_bar (Bar m ∷ items) (suc j) lt = let s = split_bar items j (omega arith) in record { back = s.back; same = ap (λ xs. Bar m ∷ xs) s.same; count = ap suc s.count }

module _ (pace : Pace) (line : List Item) (came : ℕ → ℕ → ℕ) (has : ℕ → ℕ → Type 0) (fire : ℕ → ℕ) (fired : ℕ → Type 0) (laws : Laws pace line came has fire fired) (members : (j p : ℕ) → HasMember line j p → p < pace.processors) where
  module _ (begun : Type 0) (tick : ℕ) where
    -- the bounds at the place behind a front of the line
    HoldAt : List Item → Known → Type 0
    HoldAt front w = Hold line came has fire begun tick (λ p. length (stream p front)) (length (masks front)) w

    -- one item on
    run_on : (front back : List Item) (p t : ℕ) (w : Known) → line ≡ front ++ (Run p t ∷ back) → HoldAt front w → HoldAt (front ++ Run p t ∷ []) (past_run pace p t w)
    unfolding HoldAt
    run_on front back p t w e h =
        let here : length (stream p (front ++ Run p t ∷ [])) ≡ suc (length (stream p front)) = long_run front p t p ∙ ap (λ b. counted b (length (stream p front))) (eq-eqb p p refl) in
        let there : (q : ℕ) → (q ≡ p → ⊥) → length (stream q (front ++ Run p t ∷ [])) ≡ length (stream q front) = λ q ne. long_run front p t q ∙ ap (λ b. counted b (length (stream q front))) (ne_eqb p q (λ z. ne (sym z))) in
        let item : slice_get (stream p line) (length (stream p front)) ≡ Some (Do t) = ap (λ l. slice_get (stream p l) (length (stream p front))) e ∙ item_front front p t back in
        subst (λ j. Hold line came has fire begun tick (λ q. length (stream q (front ++ Run p t ∷ []))) j (past_run pace p t w)) (sym (masks_run front p t)) (run_hold pace line came has fire fired laws members begun tick (λ q. length (stream q front)) (λ q. length (stream q (front ++ Run p t ∷ []))) (length (masks front)) p t w h item here there)

    bar_on : (front back : List Item) (m : ℕ) (w : Known) → line ≡ front ++ (Bar m ∷ back) → HoldAt front w → HoldAt (front ++ Bar m ∷ []) (past_bar pace m w)
    unfolding HoldAt
    bar_on front back m w e h =
        let here : (q : ℕ) → has_bit m q ≡ true → length (stream q (front ++ Bar m ∷ [])) ≡ suc (length (stream q front)) = λ q g. long_bar front m q ∙ ap (λ b. counted b (length (stream q front))) g in
        let there : (q : ℕ) → has_bit m q ≡ false → length (stream q (front ++ Bar m ∷ [])) ≡ length (stream q front) = λ q g. long_bar front m q ∙ ap (λ b. counted b (length (stream q front))) g in
        let at : slice_get (masks line) (length (masks front)) ≡ Some m = ap (λ l. slice_get (masks l) (length (masks front))) e ∙ mask_front front m back in
        let place : (q : ℕ) → before q (length (masks front)) line ≡ length (stream q front) = λ q. ap (before q (length (masks front))) e ∙ before_front q front m back in
        subst (λ j. Hold line came has fire begun tick (λ q. length (stream q (front ++ Bar m ∷ []))) j (past_bar pace m w)) (sym (masks_bar front m)) (bar_hold pace line came has fire fired laws members begun tick (λ q. length (stream q front)) (λ q. length (stream q (front ++ Bar m ∷ []))) (length (masks front)) m w h at place here there)

    -- along items
    hold_along : (items front back whole : List Item) (w : Known) → whole ≡ front ++ items → line ≡ whole ++ back → HoldAt front w → HoldAt whole (along pace w items)
    hold_along [] front back whole w e f h = subst (λ xs. HoldAt xs w) (sym (e ∙ append-nil front)) h
    hold_along (Run p t ∷ items) front back whole w e f h = hold_along items (front ++ Run p t ∷ []) back whole (past_run pace p t w) (e ∙ sym (append_assoc front (Run p t ∷ []) items)) f (run_on front (items ++ back) p t w (f ∙ ap (λ xs. xs ++ back) e ∙ append_assoc front (Run p t ∷ items) back) h)
    hold_along (Bar m ∷ items) front back whole w e f h = hold_along items (front ++ Bar m ∷ []) back whole (past_bar pace m w) (e ∙ sym (append_assoc front (Bar m ∷ []) items)) f (bar_on front (items ++ back) m w (f ∙ ap (λ xs. xs ++ back) e ∙ append_assoc front (Bar m ∷ items) back) h)

    nothing_holds : (front : List Item) → HoldAt front nothing
    unfolding HoldAt
    nothing_holds front = record { up_holds = λ p u e. absurd (cc); lo_holds = λ p l e d. absurd (cc); last_holds = λ u i e k. absurd (cc) }

    -- a Bar's firing
    fire_says : (j : ℕ) (w : Known) → j < length (masks line) → HoldAt (front_of_bar j line) w → Says pace line came has fire fired begun tick (FireOf j) (fire_lo pace.processors (mask_at line j) w.lo) (fire_up pace.processors (mask_at line j) w.fired w.up)
    unfolding HoldAt
    fire_says j w lt h = (λ u e. fires_by pace line came has fire fired laws members begun tick (λ q. length (stream q front)) j (mask_at line j) w h' at place u e, λ l e f. fires_from pace line came has fire fired laws members begun tick (λ q. length (stream q front)) j (mask_at line j) w h' at place l e f)
      where
        front : List Item
        front = front_of_bar j line

        s : SplitBar line j
        s = split_bar line j lt

        h' : Hold line came has fire begun tick (λ q. length (stream q front)) j w
        h' = subst (λ n. Hold line came has fire begun tick (λ q. length (stream q front)) n w) s.count h

        at : slice_get (masks line) j ≡ Some (mask_at line j)
        at = subst (λ n. slice_get (masks line) n ≡ Some (mask_at line j)) s.count (ap (λ l. slice_get (masks l) (length (masks front))) s.same ∙ mask_front front (mask_at line j) s.back)

        place : (q : ℕ) → before q j line ≡ length (stream q front)
        place q = subst (λ n. before q n line ≡ length (stream q front)) s.count (ap (before q (length (masks front))) s.same ∙ before_front q front (mask_at line j) s.back)

    -- a tuple's start and its finish
    module _ (r : Reference) (holds : (front back : List Item) → line ≡ front ++ back → HoldAt front (known pace r front)) (t : ℕ) (has_t : HasPoint line (StartOf t)) where
      front : List Item
      front = front_of_run t line

      q : ℕ
      q = processor_of t line

      stands : StandsAt line t q (length (stream q front))
      unfolding front q
      stands = let s = split_at line t (any_of_contains _ t has_t) in record { item = ap (λ l. slice_get (stream (processor_of t line) l) (length (stream (processor_of t line) (front_of_run t line)))) s.same ∙ item_front (front_of_run t line) (processor_of t line) t s.back }

      here : HoldAt front (known pace r front)
      unfolding front q
      here = let s = split_at line t (any_of_contains _ t has_t) in holds (front_of_run t line) (Run (processor_of t line) t ∷ s.back) s.same

      start_says : Says pace line came has fire fired begun tick (StartOf t) (lo_start pace line r t) (up_start pace line r t)
      unfolding front q HoldAt
      start_says = (λ u e. (q, length (stream q front), stands, here.up_holds q u e), λ l e. (q, length (stream q front), stands, here.lo_holds q l e))

      finish_says : Says pace line came has fire fired begun tick (FinishOf t) (later (lo_start pace line r t) (time pace t).least) (later (up_start pace line r t) (time pace t).most)
      unfolding front q HoldAt
      finish_says = (λ u e. (q, length (stream q front), stands, high u e), λ l e. (q, length (stream q front), stands, low l e))
        where
          high : (a : ℕ) → later (up_start pace line r t) (time pace t).most ≡ Some a → came q (length (stream q front)) + (time pace t).most ≤ tick + a
          high a g = let (v, ev, sum) = later_parts (up_start pace line r t) (time pace t).most a g in let x = here.up_holds q v ev in omega arith

          low : (l : ℕ) → later (lo_start pace line r t) (time pace t).least ≡ Some l → has q (suc (length (stream q front))) → begun × (tick + l ≤ came q (suc (length (stream q front))))
          low l g d =
              let (v, ev, sum) = later_parts (lo_start pace line r t) (time pace t).least l g in
              let (d2, le) = laws.run_lo q (length (stream q front)) t stands.item d in
              let (b, x) = here.lo_holds q v ev d2 in (b, omega arith)

  -- since the block's start
  start_holds : (entry : ℕ) → ((p : ℕ) → came p 0 ≡ entry) → (front back : List Item) → line ≡ front ++ back → HoldAt (Unit {0}) entry front (known pace since.Start front)
  unfolding HoldAt
  start_holds entry begins front back e = hold_along (Unit {0}) entry front [] back front (at_start pace) refl e (record {
    up_holds = λ p u g. let y = begins p in omega arith;
    lo_holds = λ p l g d. (tt, let y = begins p in let (v, z) = known_where (nat_lt p pace.processors) 0 l g in omega arith);
    last_holds = λ u i g e. absurd (let y : 0 ≡ suc i = e in cc);
  })

  -- since a Bar: directly behind it
  bar_begins : (front back : List Item) (mask k : ℕ) → line ≡ front ++ (Bar mask ∷ back) → length (masks front) ≡ k → HoldAt (fired k) (fire k) (front ++ Bar mask ∷ []) (at_bar pace mask)
  unfolding HoldAt
  bar_begins front back mask k e ke = record {
    up_holds = λ p u g. let (h, z) = known_where (has_bit mask p) pace.delay u g in let x = ap (came p) (long p h) in let y = laws.on_up k p (on p h) in omega arith;
    lo_holds = λ p l g d. let (h, z) = known_where (has_bit mask p) pace.delay l g in let x = ap (came p) (long p h) in let (f, y) = laws.on_lo k p (on p h) (subst (has p) (long p h) d) in (f, omega arith);
    last_holds = λ u i g q. let x : i ≡ k = let y = masks_bar front mask in omega arith in let z = ap fire x in omega arith;
  }
    where
      on : (p : ℕ) → has_bit mask p ≡ true → HasMember line k p
      on p h = record { mask = mask; at = ap (slice_get (masks line)) (sym ke) ∙ ap (λ l. slice_get (masks l) (length (masks front))) e ∙ mask_front front mask back; has = h }

      long : (p : ℕ) → has_bit mask p ≡ true → length (stream p (front ++ Bar mask ∷ [])) ≡ suc (before p k line)
      long p h = long_bar front mask p ∙ ap (λ v. counted v (length (stream p front))) h ∙ ap suc (sym (ap (λ n. before p n line) (sym ke) ∙ ap (before p (length (masks front))) e ∙ before_front p front mask back))

  since_holds : (j : ℕ) (items front back whole : List Item) (k : ℕ) → whole ≡ front ++ items → line ≡ whole ++ back → length (masks front) + j ≡ k → HoldAt (fired k) (fire k) whole (since_bar pace j items)
  since_holds j [] front back whole k e f c = nothing_holds (fired k) (fire k) whole
  since_holds j (Run q t ∷ items) front back whole k e f c = since_holds j items (front ++ Run q t ∷ []) back whole k (e ∙ sym (append_assoc front (Run q t ∷ []) items)) f (ap (λ n. n + j) (masks_run front q t) ∙ c)
  since_holds zero (Bar m ∷ items) front back whole k e f c = hold_along (fired k) (fire k) items (front ++ Bar m ∷ []) back whole (at_bar pace m) (e ∙ sym (append_assoc front (Bar m ∷ []) items)) f (bar_begins front (items ++ back) m k (f ∙ ap (λ xs. xs ++ back) e ∙ append_assoc front (Bar m ∷ items) back) (omega arith))
  since_holds (suc j) (Bar m ∷ items) front back whole k e f c = since_holds j items (front ++ Bar m ∷ []) back whole k (e ∙ sym (append_assoc front (Bar m ∷ []) items)) f (let x = masks_bar front m in omega arith)

  module _ (entry : ℕ) (begins : (p : ℕ) → came p 0 ≡ entry) where
    known_holds : (r : Reference) (front back : List Item) → line ≡ front ++ back → HoldAt (come_of fired r) (tick_of fire entry r) front (known pace r front)
    known_holds since.Start front back e = start_holds entry begins front back e
    known_holds (since.Bar k) front back e = since_holds k front [] back front k refl e (let x : 0 + k ≡ k = omega arith in x)

    -- the reference's own firing is at 0
    own_says : (k j : ℕ) (lo up : Option ℕ) → Says pace line came has fire fired (fired k) (fire k) (FireOf j) lo up → (v : Bool) → nat_eq k j ≡ v → Says pace line came has fire fired (fired k) (fire k) (FireOf j) (if v then Some 0 else lo) (if v then Some 0 else up)
    own_says k j lo up h false e = h
    own_says k j lo up h true e = (λ u g. let x = ap fire (eqb-true k j e) in omega arith, λ l g d. (subst fired (sym (eqb-true k j e)) d, let x = ap fire (eqb-true k j e) in let z : 0 ≡ l = cc in omega arith))

    pub since_says : (r : Reference) (x : Point) → HasPoint line x → Says pace line came has fire fired (come_of fired r) (tick_of fire entry r) x (lo_of pace line r x) (up_of pace line r x)
    since_says r (StartOf t) h = start_says (come_of fired r) (tick_of fire entry r) r (known_holds r) t h
    since_says r (FinishOf t) h = finish_says (come_of fired r) (tick_of fire entry r) r (known_holds r) t h
    since_says since.Start (FireOf j) h = let s = split_bar line j h in fire_says (Unit {0}) entry j (known pace since.Start (front_of_bar j line)) h (known_holds since.Start (front_of_bar j line) (Bar (mask_at line j) ∷ s.back) s.same)
    since_says (since.Bar k) (FireOf j) h = let s = split_bar line j h in own_says k j _ _ (fire_says (fired k) (fire k) j (known pace (since.Bar k) (front_of_bar j line)) h (known_holds (since.Bar k) (front_of_bar j line) (Bar (mask_at line j) ∷ s.back) s.same)) (nat_eq k j) refl

    -- behind the whole line
    pub whole_up : (r : Reference) (p u : ℕ) → (known pace r line).up p ≡ Some u → came p (length (stream p line)) ≤ tick_of fire entry r + u
    unfolding HoldAt
    whole_up r p u e = (known_holds r line [] (sym (append-nil line))).up_holds p u e

    pub whole_lo : (r : Reference) (p l : ℕ) → (known pace r line).lo p ≡ Some l → has p (length (stream p line)) → tick_of fire entry r + l ≤ came p (length (stream p line))
    unfolding HoldAt
    whole_lo r p l e h = ((known_holds r line [] (sym (append-nil line))).lo_holds p l e h).1
