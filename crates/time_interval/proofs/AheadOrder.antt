-- The order of a line, place by place, and in an edited line.
use Rattle.std.proofs.Common.{◌≡◌, ℕ, zero, suc, ◌+◌, ◌<◌, ◌≤◌, Bool, true, false, nat_eq, List, [], ◌∷◌, ◌++◌, length, length-append, Some, None, take, drop, get_or, slice_index_or, slice_get, refl, sym, ap, ap₂, ◌∙◌, arith, ◌⊎◌, inl, inr, subst, subst₂, Contains, Decides, append_assoc, if◌then◌else◌}
use Rattle.std.proofs.Math.Seq.{take-append_seam, get_or-append_seam}
use Rattle.std.proofs.lemmas.List.{get_or-take}
use Rattle.std.proofs.lemmas.List.Elements.{All-contains}
use Rattle.std.proofs.lemmas.Bool.{cases_lt}
use Rattle.std.specs.List.{IsDistinct, list_any}
use Rattle.line_model.specs.declared.line.Item.{Item}
use Rattle.line_model.specs.declared.line.Item.TheVariants.{Run, Bar}
use Rattle.line_model.specs.declared.line.StreamItem.TheVariants.{Do}
use Rattle.line_model.specs.Streams.{stream, masks}
use Rattle.line_model.specs.Reductions.{without_bar, merged_at}
use Rattle.line_model.proofs.LineFacts.{item_front}
use Rattle.time_interval.specs.declared.edit.Edit.{Edit}
use Rattle.time_interval.specs.declared.edit.Edit.TheVariants.{Remove, Merge}
use Rattle.time_interval.specs.declared.reference.Reference.{Reference}
use Rattle.time_interval.specs.declared.reference.Reference.TheVariants as since
use Rattle.time_interval.specs.declared.reference.Point.TheVariants.{StartOf, FinishOf}
use Rattle.time_interval.specs.declared.front.Front.{Front}
use Rattle.time_interval.specs.Ahead.{IsAhead, IsBefore, StandsOrdered, RestOrdered}
use Rattle.time_interval.specs.Ordered.{AreBehind, IsOrdered, IsReference, AllOrdered}
use Rattle.time_interval.specs.Bounds.{Pace, Known, known, lo_of, up_of, lo_start, front_of_run, processor_of}
use Rattle.time_interval.specs.Edits.{edited, IsEdit}
use Rattle.time_interval.specs.Places.{place_of_bar, bar_of}
use Rattle.time_interval.specs.Lines.{Timed, IsTimed, tuples}
use Rattle.time_interval.proofs.AheadFacts.{kept_finish, any_middle, behind_at, new_at, line_split, same_default}
use Rattle.time_interval.proofs.EditFacts.{removed_tuples, merged_tuples, edited_length, bar_inside, timed_edit}
use Rattle.time_interval.proofs.Extend.{reference_more}
use Rattle.time_interval.proofs.KnowsFacts.{since_none}
use Rattle.time_interval.proofs.NextFacts.{front_kept, front_new, stands_next, tuples-append}
use Rattle.time_interval.proofs.Once.{Split, split_at, stands_behind, stand_once, any_of_contains}
use Rattle.time_interval.specs.Seen.{StandsBehind}
use Rattle.time_interval.proofs.SeenFacts.{by_processor_is, by_barrier_is}

-- ---- a tuple behind its front

module _ (pace : Pace) (line front : List Item) (p t g : ℕ) (s : StandsBehind line front p t) (here : list_any (nat_eq g) (tuples front) ≡ true) (new : list_any (nat_eq t) (tuples front) ≡ false) where
  finish_is : (r : Reference) → up_of pace line r (FinishOf g) ≡ up_of pace front r (FinishOf g)
  finish_is r = ap (λ l. up_of pace l r (FinishOf g)) s.split ∙ kept_finish pace front (Run p t ∷ s.back) g r here

  start_is : (r : Reference) → lo_of pace line r (StartOf t) ≡ (known pace r front).lo p
  start_is r =
      let m : list_any (nat_eq t) (tuples (front ++ Run p t ∷ [])) ≡ true = ap (list_any (nat_eq t)) (tuples-append front (Run p t ∷ [])) ∙ any_middle (tuples front) [] t in
      let k = front_kept (front ++ Run p t ∷ []) s.back t m in
      let n = front_new front p t new in
      ap (λ l. lo_start pace l r t) (s.split ∙ sym (append_assoc front (Run p t ∷ []) s.back)) ∙ ap₂ (λ ys q. (known pace r ys).lo q) (k.0 ∙ n.0) (k.1 ∙ n.1)

  of_front : (r : Reference) (x : ℕ) → (known pace r front).lo p ≡ Some x → IsReference front r
  of_front since.Start x e = tt
  of_front (since.Bar j) x e = go (cases_lt j (length (masks front)))
    where
      go : (j < length (masks front)) ⊎ (length (masks front) ≤ j) → j < length (masks front)
      go (inl l) = l
      go (inr ge) = absurd (let z : None ≡ Some x = sym (ap (λ (k : Known). k.lo p) (since_none pace j front ge)) ∙ e in cc)

  pub ordered_before : IsOrdered pace line g t → IsBefore pace front g p
  ordered_before (inl (inl o)) = inl (inl ((by_processor_is line front p t g s).0 o))
  ordered_before (inl (inr o)) = inl (inr ((by_barrier_is line front p t g s).0 o))
  ordered_before (inr (r, l, w)) = inr (r, of_front r w.earliest (sym (start_is r) ∙ w.start), record { latest = w.latest; earliest = w.earliest; finish = sym (finish_is r) ∙ w.finish; start = sym (start_is r) ∙ w.start; order = w.order })

  pub before_ordered : IsBefore pace front g p → IsOrdered pace line g t
  before_ordered (inl (inl o)) = inl (inl ((by_processor_is line front p t g s).1 o))
  before_ordered (inl (inr o)) = inl (inr ((by_barrier_is line front p t g s).1 o))
  before_ordered (inr (r, l, w)) = inr (r, subst (λ ys. IsReference ys r) (sym s.split) (reference_more front (Run p t ∷ s.back) r l), record { latest = w.latest; earliest = w.earliest; finish = finish_is r ∙ w.finish; start = start_is r ∙ w.start; order = w.order })

-- ---- a tuple that would run next

pub next_ordered : (timed : Timed) → IsTimed timed → (g p i : ℕ) → list_any (nat_eq g) (tuples timed.line) ≡ true → list_any (nat_eq i) (tuples timed.line) ≡ false → (r : Bool) → Decides r (IsBefore timed.pace timed.line g p) → Decides r (IsOrdered timed.pace (timed.line ++ Run p i ∷ []) g i)
next_ordered timed h g p i here new r d =
    let s = stands_next timed.pace timed.line g p i here new h.line.once in (
      λ e. before_ordered timed.pace (timed.line ++ Run p i ∷ []) timed.line p i g s here new (d.0 e),
      λ o. d.1 (ordered_before timed.pace (timed.line ++ Run p i ∷ []) timed.line p i g s here new o),
    )

-- ---- all tuples of a line

stands_at_place : (line : List Item) (k p t : ℕ) → IsDistinct nat_eq (tuples line) → k < length line → get_or line k (Run p t) ≡ Run p t → StandsBehind line (take k line) p t
stands_at_place line k p t d l e =
    let split = line_split line k (Run p t) l e in
    record {
      back = drop (suc k) line;
      split = split;
      once = λ q j w. stand_once line t q j p (length (stream p (take k line))) d w.item (subst (λ ys. slice_get (stream p ys) (length (stream p (take k line))) ≡ Some (Do t)) (sym split) (item_front (take k line) p t (drop (suc k) line)));
    }

pub each_stands : (timed : Timed) → IsTimed timed → (ps : List (List ℕ)) → AreBehind ps [] (tuples timed.line) → AllOrdered timed.pace ps timed.line → (k : ℕ) (x : Item) → k < length timed.line → get_or timed.line k x ≡ x → StandsOrdered timed.pace ps (take k timed.line) x
each_stands timed h ps order a k (Bar m) l e = tt
each_stands timed h ps order a k (Run p t) l e =
    let b = behind_at ps timed.line k (Run p t) order l e in
    let row = slice_index_or ps t [] in
    λ j d lj. ordered_before timed.pace timed.line (take k timed.line) p t (slice_index_or row j d) (stands_at_place timed.line k p t h.line.once l e) (b.1 j d lj) (new_at timed.line k (Run p t) h.line.once l e)
    (a t (slice_index_or row j d) b.0 (j, lj, same_default row j (slice_index_or row j d) d lj))

pub all_stand_ordered : (timed : Timed) → IsTimed timed → (ps : List (List ℕ)) → AreBehind ps [] (tuples timed.line) → ((i : ℕ) → i < length ps → Contains (tuples timed.line) i) → RestOrdered timed.pace ps 0 timed.line → AllOrdered timed.pace ps timed.line
all_stand_ordered timed h ps order stand rest i g l c =
    let here = any_of_contains (tuples timed.line) i (stand i l) in
    let s : Split timed.line i = split_at timed.line i here in
    let front = front_of_run i timed.line in
    let p = processor_of i timed.line in
    let k = length (front_of_run i timed.line) in
    let lk : length (front_of_run i timed.line) < length timed.line = (let n : length timed.line ≡ length (front_of_run i timed.line) + suc (length s.back) = ap length s.same ∙ length-append (front_of_run i timed.line) (Run (processor_of i timed.line) i ∷ s.back) in omega arith) in
    let tk : take k timed.line ≡ front = ap (take k) s.same ∙ take-append_seam front (Run p i ∷ s.back) in
    let gk : get_or timed.line k (Run p i) ≡ Run p i = ap (λ ys. get_or ys k (Run p i)) s.same ∙ get_or-append_seam front (Run p i) s.back (Run p i) in
    let all = rest k (Run p i) (omega arith) lk gk in
    let b = behind_at ps timed.line k (Run p i) order lk gk in
    let row = slice_index_or ps i [] in
    before_ordered timed.pace timed.line front p i g (stands_behind timed.line i h.line.once here)
    (subst (λ ys. list_any (nat_eq g) (tuples ys) ≡ true) tk (All-contains (λ u. list_any (nat_eq u) (tuples (take k timed.line)) ≡ true) row g b.1 c))
    (subst (λ ys. list_any (nat_eq i) (tuples ys) ≡ false) tk (new_at timed.line k (Run p i) h.line.once lk gk))
    (subst (λ ys. IsBefore timed.pace ys g p) tk (All-contains (λ u. IsBefore timed.pace (take k timed.line) u p) row g all c))

-- ---- an edited line

pub edit_bar : (line : List Item) (edit : Edit) → IsEdit line edit → bar_of edit < length (masks line)
edit_bar line (Remove j) e = e
edit_bar line (Merge j) e = omega (arith, e.0)

pub edited_tuples : (edit : Edit) (line : List Item) → tuples (edited edit line) ≡ tuples line
edited_tuples (Remove j) line = removed_tuples j line
edited_tuples (Merge j) line = merged_tuples j line

taken_removed : (j : ℕ) (line : List Item) → take (place_of_bar j line) (without_bar j line) ≡ take (place_of_bar j line) line
taken_removed j [] = refl
taken_removed j (Run q t ∷ line) = ap (λ l. Run q t ∷ l) (taken_removed j line)
taken_removed zero (Bar m ∷ line) = refl
taken_removed (suc j) (Bar m ∷ line) = ap (λ l. Bar m ∷ l) (taken_removed j line)

taken_merged : (j : ℕ) (line : List Item) → take (place_of_bar j line) (merged_at j line) ≡ take (place_of_bar j line) line
taken_merged j [] = refl
taken_merged j (Run q t ∷ line) = ap (λ l. Run q t ∷ l) (taken_merged j line)
taken_merged zero (Bar m ∷ line) = refl
taken_merged (suc j) (Bar m ∷ line) = ap (λ l. Bar m ∷ l) (taken_merged j line)

pub taken_edited : (edit : Edit) (line : List Item) → take (place_of_bar (bar_of edit) line) (edited edit line) ≡ take (place_of_bar (bar_of edit) line) line
taken_edited (Remove j) line = taken_removed j line
taken_edited (Merge j) line = taken_merged j line

pub taken_taken : (n k : ℕ) (xs : List Item) → k ≤ n → take k (take n xs) ≡ take k xs
taken_taken n zero xs h = refl
taken_taken zero (suc k) xs h = absurd (omega arith)
taken_taken (suc n) (suc k) [] h = refl
taken_taken (suc n) (suc k) (x ∷ xs) h = ap (λ l. x ∷ l) (taken_taken n k xs (omega arith))

pub place_within : (line : List Item) (edit : Edit) → IsEdit line edit → place_of_bar (bar_of edit) line ≤ length (edited edit line)
place_within line edit h =
    let a : place_of_bar (bar_of edit) line < length line = bar_inside (bar_of edit) line (edit_bar line edit h) in
    let b : suc (length (edited edit line)) ≡ length line = edited_length line edit h in
    omega arith

-- the edit may be done where the rest is ordered
pub rest_decides : (timed : Timed) → IsTimed timed → (ps : List (List ℕ)) → AreBehind ps [] (tuples timed.line) → ((i : ℕ) → i < length ps → Contains (tuples timed.line) i) → AllOrdered timed.pace ps timed.line → (edit : Edit) → IsEdit timed.line edit → (r : Bool) → Decides r (RestOrdered timed.pace ps (place_of_bar (bar_of edit) timed.line) (edited edit timed.line)) → Decides r (AllOrdered timed.pace ps (edited edit timed.line))
rest_decides timed h ps order stand a edit is r d = (λ e. all_stand_ordered after ha ps order2 stand2 (whole (d.0 e)), λ b. d.1 (λ k x lf l g. each_stands after ha ps order2 b k x l g))
  where
    after : Timed
    after = record { pace = timed.pace; line = edited edit timed.line }

    ha : IsTimed after
    ha = timed_edit timed timed.pace (edited edit timed.line) edit h refl is refl

    order2 : AreBehind ps [] (tuples (edited edit timed.line))
    order2 = subst (AreBehind ps []) (sym (edited_tuples edit timed.line)) order

    stand2 : (i : ℕ) → i < length ps → Contains (tuples (edited edit timed.line)) i
    stand2 i l = subst (λ us. Contains us i) (sym (edited_tuples edit timed.line)) (stand i l)

    n : ℕ
    n = place_of_bar (bar_of edit) timed.line

    early : (k : ℕ) (x : Item) → k < n → get_or (edited edit timed.line) k x ≡ x → StandsOrdered timed.pace ps (take k (edited edit timed.line)) x
    early k x lt g =
        let same : take k timed.line ≡ take k (edited edit timed.line) = sym (taken_taken n k timed.line (omega arith)) ∙ ap (take k) (sym (taken_edited edit timed.line)) ∙ taken_taken n k (edited edit timed.line) (omega arith) in
        let read : get_or timed.line k x ≡ x = sym (get_or-take n timed.line k x lt) ∙ ap (λ ys. get_or ys k x) (sym (taken_edited edit timed.line)) ∙ get_or-take n (edited edit timed.line) k x lt ∙ g in
        let w : n < length timed.line = bar_inside (bar_of edit) timed.line (edit_bar timed.line edit is) in
        subst (λ ys. StandsOrdered timed.pace ps ys x) same (each_stands timed h ps order a k x (omega arith) read)

    whole : RestOrdered timed.pace ps n (edited edit timed.line) → RestOrdered timed.pace ps 0 (edited edit timed.line)
    whole rest k x z l g = go (cases_lt k n)
      where
        go : (k < n) ⊎ (n ≤ k) → StandsOrdered timed.pace ps (take k (edited edit timed.line)) x
        go (inl lt) = early k x lt g
        go (inr ge) = rest k x ge l g

pub rest_line : (stands : Bool) (settled after : List Item) → (if stands then Some settled else None) ≡ None → (if stands then after else settled) ≡ settled
rest_line true settled after e = absurd (cc)
rest_line false settled after e = refl

-- the front outlasts a change that is kept
pub kept_front : (settled after : Timed) (place shared : ℕ) (front : Front) → place ≤ shared → after.pace ≡ settled.pace → take shared after.line ≡ take shared settled.line → IsAhead settled.pace (take place settled.line) front → IsAhead after.pace (take place after.line) front
kept_front settled after place shared front h p e a =
    let same : take place after.line ≡ take place settled.line = sym (taken_taken shared place after.line h) ∙ ap (take place) e ∙ taken_taken shared place settled.line h in
    subst₂ (λ q ys. IsAhead q ys front) (sym p) (sym same) a

pub rests : (stands : Bool) (settled : List Item) → (if stands then Some settled else None) ≡ None → stands ≡ false
rests true settled e = absurd (cc)
rests false settled e = refl
