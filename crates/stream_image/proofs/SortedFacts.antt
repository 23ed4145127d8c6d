-- A line of streams and masks that grows item by item.
use Rattle.std.proofs.Common.{◌≡◌, ℕ, zero, suc, ◌+◌, ◌<◌, ◌≤◌, Bool, true, false, nat_eq, ◌||◌, List, [], ◌∷◌, ◌++◌, Contains, length, Some, slice_get, slice_index_or, get_or, set, drop, Result, Ok, Err, IfOk, refl, sym, ap, ap₂, ◌∙◌, arith, ◌⊎◌, inl, inr, subst, eqb-true, eq-eqb, true≢false, append_assoc, append-nil, length-set, if◌then◌else◌}
use Rattle.std.specs.List.{AllByRecursion, list_any}
use Rattle.std.specs.Prelude.{◌==◌}
use Rattle.std.proofs.lemmas.Bool.{cases_lt}
use Rattle.std.proofs.lemmas.Bool.Decides.{nat_tests}
use Rattle.std.proofs.lemmas.List.{get_or-set_same, get_or-set_other, get_or_default}
use Rattle.std.proofs.lemmas.List.Folds.{list_any-append}
use Rattle.std.proofs.lemmas.Option.{slice_get_within, get_or_from_slice_get}
use Rattle.std.proofs.Math.Seq.{drop-cons}
use Rattle.bm_base.specs.Mask.{has_bit}
use Rattle.bm_base.specs.Machine.{Machine}
use Rattle.bm_base.specs.Spec.{time_of}
use Rattle.tuple_ir.specs.declared.tuple.Tuple.{Tuple}
use Rattle.tuple_ir.specs.Kinds.{class_of}
use Rattle.dependence.specs.Producers.{producers_of, in_conflict}
use Rattle.dependence.proofs.Kept.{kept_has}
use Rattle.line_model.specs.declared.line.Item.{Item}
use Rattle.line_model.specs.declared.line.Item.TheVariants.{Run, Bar}
use Rattle.line_model.specs.declared.line.StreamItem.{StreamItem}
use Rattle.line_model.specs.declared.line.StreamItem.TheVariants.{Do, Wait}
use Rattle.line_model.specs.Streams.{stream, masks, own}
use Rattle.line_model.proofs.LineFacts.{stream-append, masks-append, own-append, item_front}
use Rattle.time_interval.specs.Bounds.{Pace, pace_on, front_of_run, processor_of}
use Rattle.time_interval.specs.Lines.{IsItem, tuples}
use Rattle.time_interval.specs.Ordered.{IsOrdered}
use Rattle.time_interval.specs.Laws.{AreAlike}
use Rattle.time_interval.proofs.Alike.{once_alike}
use Rattle.time_interval.proofs.AlikeOrder.{alike_back, alike_order}
use Rattle.time_interval.proofs.Extend.{ordered_more}
use Rattle.time_interval.proofs.NextFacts.{tuples-append}
use Rattle.time_interval.proofs.Once.{any_of_contains, split_at, stand_once, stands_among}
use Rattle.stream_image.specs.declared.given.Stream.{Stream}
use Rattle.stream_image.specs.declared.order.Wrong.TheVariants.{Loose}
use Rattle.stream_image.specs.declared.sorted.Sorting.{Sorting}
use Rattle.stream_image.specs.declared.sorted.Ready.{Ready}
use Rattle.stream_image.specs.Line.{items_of, AreIncreasing}
use Rattle.stream_image.specs.Order.{NoneOf, NoneWrong}
use Rattle.stream_image.specs.Rest.{rest_of}
use Rattle.stream_image.specs.Sorted.{Takes, AreSettled, IsSetOf, ComeFirst, AreGiven, AreLined, IsSorted, IsReady, HasRun, HasFired, HasGone, line_on}
use Rattle.stream_image.proofs.Accepted.{stream_none}
use Rattle.stream_image.proofs.ImageFacts.{long_map}
use Rattle.stream_image.proofs.GivenStreams.{AreBelow, none_own}
use Rattle.stream_image.proofs.LineStreams.{stream_is, masks_are}
use Rattle.stream_image.proofs.OrderPairs.{later_within, row_of}

-- ---- an item more

-- the list from a place on where something stands
pub drop_at : {A : Type 0} (xs : List A) (k : ℕ) (x : A) → slice_get xs k ≡ Some x → drop k xs ≡ x ∷ drop (k + 1) xs
drop_at xs k x e =
    let s : suc k ≡ k + 1 = omega arith in
    drop-cons xs k x (slice_get_within xs k x e) ∙ ap₂ (λ y j. y ∷ drop j xs) (get_or_from_slice_get xs k x x e) s

pub streams_more : (walked : List Item) (x : Item) (before after all : ℕ → List StreamItem) → ((p : ℕ) → stream p walked ++ before p ≡ all p) → Takes x before after → (p : ℕ) → stream p (walked ++ x ∷ []) ++ after p ≡ all p
streams_more walked x before after all h t p =
    ap (λ xs. xs ++ after p) (stream-append p walked (x ∷ [])) ∙ append_assoc (stream p walked) (stream p (x ∷ [])) (after p) ∙ ap (λ xs. stream p walked ++ xs) (sym (t p)) ∙ h p

pub masks_run : (walked : List Item) (p t : ℕ) → masks (walked ++ Run p t ∷ []) ≡ masks walked
masks_run walked p t = masks-append walked (Run p t ∷ []) ∙ append-nil (masks walked)

pub masks_bar : (walked : List Item) (m queue next : ℕ) (ms : List ℕ) → masks walked ++ drop queue ms ≡ ms → slice_get ms queue ≡ Some m → next ≡ queue + 1 → masks (walked ++ Bar m ∷ []) ++ drop next ms ≡ ms
masks_bar walked m queue next ms h e n =
    ap₂ (λ xs k. xs ++ drop k ms) (masks-append walked (Bar m ∷ [])) n ∙ append_assoc (masks walked) (m ∷ []) (drop (queue + 1) ms) ∙ ap (λ xs. masks walked ++ xs) (sym (drop_at ms queue m e)) ∙ h

apart : (p q : ℕ) → nat_eq p q ≡ false → p ≡ q → ⊥
apart p q h e = absurd (true≢false (sym (eq-eqb p q e) ∙ h))

pub takes_run : (ss : List Stream) (places : List ℕ) (p t next : ℕ) → p < length places → slice_get (items_of ss p) (get_or places p 0) ≡ Some (Do t) → next ≡ get_or places p 0 + 1 → Takes (Run p t) (rest_of ss places) (rest_of ss (set places p next))
takes_run ss places p t next l here n q = go (nat_eq p q) refl
  where
    own_rest : rest_of ss places p ≡ Do t ∷ rest_of ss (set places p next) p
    own_rest = drop_at (items_of ss p) (get_or places p 0) (Do t) here ∙ ap (λ k. Do t ∷ drop k (items_of ss p)) (sym (get_or-set_same places p next 0 l ∙ n))

    go : (b : Bool) → nat_eq p q ≡ b → rest_of ss places q ≡ own (nat_eq p q) (Do t) [] ++ rest_of ss (set places p next) q
    go true e = subst (λ b. rest_of ss places q ≡ own b (Do t) [] ++ rest_of ss (set places p next) q) (sym e) (subst (λ x. rest_of ss places x ≡ Do t ∷ rest_of ss (set places p next) x) (eqb-true p q e) own_rest)
    go false e = subst (λ b. rest_of ss places q ≡ own b (Do t) [] ++ rest_of ss (set places p next) q) (sym e) (ap (λ k. drop k (items_of ss q)) (sym (get_or-set_other places p q next 0 (λ x. apart p q e (sym x)))))

pub takes_bar : (ss : List Stream) (n m : ℕ) (places after : List ℕ) → ((p : ℕ) → has_bit m p ≡ true → p < n) → ((p : ℕ) → p < n → rest_of ss places p ≡ own (has_bit m p) Wait (rest_of ss after p)) → ((p : ℕ) → n ≤ p → get_or after p 0 ≡ get_or places p 0) → Takes (Bar m) (rest_of ss places) (rest_of ss after)
takes_bar ss n m places after below inside outside q = go (cases_lt q n)
  where
    past : (b : Bool) → has_bit m q ≡ b → n ≤ q → has_bit m q ≡ false
    past true e l = let k = below q e in absurd (omega arith)
    past false e l = e

    go : (q < n) ⊎ (n ≤ q) → rest_of ss places q ≡ own (has_bit m q) Wait [] ++ rest_of ss after q
    go (inl l) = inside q l ∙ own-append (has_bit m q) Wait [] (rest_of ss after q)
    go (inr l) = ap (λ k. drop k (items_of ss q)) (sym (outside q l)) ∙ ap (λ b. own b Wait [] ++ rest_of ss after q) (sym (past (has_bit m q) refl l))

pub set_run : (old new p t : ℕ) (walked : List Item) → IsSetOf old walked → ((g : ℕ) → has_bit new g ≡ (has_bit old g || nat_eq g t)) → IsSetOf new (walked ++ Run p t ∷ [])
set_run old new p t walked h e g =
    e g ∙ ap (λ b. b || nat_eq g t) (h g) ∙ sym (ap (list_any (nat_eq g)) (tuples-append walked (Run p t ∷ [])) ∙ list_any-append (nat_eq g) (tuples walked) (t ∷ []) ∙ last (list_any (nat_eq g) (tuples walked)) (nat_eq g t))
  where
    last : (a b : Bool) → (a || (b || false)) ≡ (a || b)
    last true b = refl
    last false true = refl
    last false false = refl

pub same_tuples : (walked : List Item) (m : ℕ) → tuples (walked ++ Bar m ∷ []) ≡ tuples walked
same_tuples walked m = tuples-append walked (Bar m ∷ []) ∙ append-nil (tuples walked)

pub settled_bar : (pace : Pace) (producers : List (List ℕ)) (walked : List Item) (m : ℕ) → AreSettled pace producers walked → AreSettled pace producers (walked ++ Bar m ∷ [])
settled_bar pace producers walked m h back t here =
    subst (λ xs. NoneOf Loose pace xs (slice_index_or producers t []) t) (sym (append_assoc walked (Bar m ∷ []) back))
    (h (Bar m ∷ back) t (ap (list_any (nat_eq t)) (sym (same_tuples walked m)) ∙ here))

pub settled_run : (pace : Pace) (producers : List (List ℕ)) (walked : List Item) (p t : ℕ) → list_any (nat_eq t) (tuples walked) ≡ false → ComeFirst pace walked (slice_index_or producers t []) p → AreSettled pace producers walked → AreSettled pace producers (walked ++ Run p t ∷ [])
settled_run pace producers walked p t new first h back u here =
    go (list_any (nat_eq u) (tuples walked)) refl
  where
    more : List Item
    more = walked ++ Run p t ∷ []

    any_more : (g : ℕ) → list_any (nat_eq g) (tuples more) ≡ (list_any (nat_eq g) (tuples walked) || (nat_eq g t || false))
    any_more g = ap (list_any (nat_eq g)) (tuples-append walked (Run p t ∷ [])) ∙ list_any-append (nat_eq g) (tuples walked) (t ∷ [])

    in_more : (g : ℕ) (b : Bool) → list_any (nat_eq g) (tuples walked) ≡ b → b ≡ true → list_any (nat_eq g) (tuples more) ≡ true
    in_more g b e f = any_more g ∙ ap (λ c. c || (nat_eq g t || false)) (e ∙ f)

    itself : (b : Bool) → list_any (nat_eq t) (tuples walked) ≡ b → list_any (nat_eq t) (tuples more) ≡ true
    itself true e = in_more t true e refl
    itself false e = any_more t ∙ ap (λ c. c || (nat_eq t t || false)) e ∙ ap (λ c. c || false) (eq-eqb t t refl)

    is_last : (b : Bool) → list_any (nat_eq u) (tuples walked) ≡ false → nat_eq u t ≡ b → u ≡ t
    is_last true e f = eqb-true u t f
    is_last false e f = absurd (true≢false (sym here ∙ any_more u ∙ ap₂ (λ c d. c || (d || false)) e f))

    go : (b : Bool) → list_any (nat_eq u) (tuples walked) ≡ b → NoneOf Loose pace (more ++ back) (slice_index_or producers u []) u
    go true e = subst (λ xs. NoneOf Loose pace xs (slice_index_or producers u []) u) (sym (append_assoc walked (Run p t ∷ []) back)) (h (Run p t ∷ back) u e)
    go false e = subst (λ v. NoneOf Loose pace (more ++ back) (slice_index_or producers v []) v) (sym (is_last (nat_eq u t) e refl))
        (λ a c. let f = first a t c new in ordered_more pace more back a t (in_more a true f.0 refl) (itself (list_any (nat_eq t) (tuples walked)) refl) f.1)

-- ---- the first of the numbers

module _ (pace : Pace) (line : List Item) (numbers : List ℕ) (p : ℕ) where
  abbrev IsFirst : ℕ → Type 0
  IsFirst a = (i : ℕ) → list_any (nat_eq i) (tuples line) ≡ false → (list_any (nat_eq a) (tuples line) ≡ true) × IsOrdered pace (line ++ Run p i ∷ []) a i

  -- so many of them come first
  abbrev pub FirstTo : ℕ → Type 0
  FirstTo n = (k d : ℕ) → k < n → k < length numbers → IsFirst (slice_index_or numbers k d)

  pub first_next : (n : ℕ) → FirstTo n → n < length numbers → IsFirst (get_or numbers n 0) → FirstTo (n + 1)
  first_next n h l o k d m q = go (cases_lt k n)
    where
      go : (k < n) ⊎ (n ≤ k) → IsFirst (slice_index_or numbers k d)
      go (inl lt) = h k d lt q
      go (inr le) = let e : n ≡ k = omega arith in subst (λ j. IsFirst (slice_index_or numbers j d)) e (subst IsFirst (get_or_default numbers n 0 d l) o)

  pub all_first : (n : ℕ) → length numbers ≤ n → FirstTo n → ComeFirst pace line numbers p
  all_first n l h a i (k, m, e) new = subst IsFirst e (h k a (omega arith) m) i new

-- ---- a mask of the given ones

pub mask_fits : (n : ℕ) (ms : List ℕ) (k m : ℕ) → AllByRecursion (λ (m : ℕ). IsItem 0 n (Bar m)) ms → slice_get ms k ≡ Some m → IsItem 0 n (Bar m)
mask_fits n ms k m h e = subst (λ x. IsItem 0 n (Bar x)) (get_or_from_slice_get ms k m m e) (go ms k h (slice_get_within ms k m e))
  where
    go : (ms : List ℕ) (k : ℕ) → AllByRecursion (λ (m : ℕ). IsItem 0 n (Bar m)) ms → k < length ms → IsItem 0 n (Bar (get_or ms k m))
    go [] k h l = absurd (omega arith)
    go (x ∷ ms) zero h l = h.0
    go (x ∷ ms) (suc k) h l = go ms k h.1 (omega arith)

-- ---- from the first item to the last

pub as_long : (machine : Machine) (ts : List Tuple) → length (pace_on machine ts).times ≡ length ts
as_long machine ts = long_map (λ (t : Tuple). time_of machine (class_of t)) ts

pub given_on : {n m : ℕ} {ss : List Stream} {ms : List ℕ} → n ≡ m → AreGiven n ss ms → AreGiven m ss ms
given_on {ss = ss} {ms = ms} e h = subst (λ k. AreGiven k ss ms) e h

-- streams alone
pub given_streams : {n : ℕ} {ss : List Stream} {ms : List ℕ} → AreGiven n ss ms → AreGiven n ss []
given_streams h = record { few = h.few; increasing = h.increasing; within = h.within; masks_fit = tt; few_masks = omega arith }

pub first_sorted : (producers : List (List ℕ)) (ss : List Stream) (ms : List ℕ) (s : Sorting) → AreGiven s.walked.pace.processors ss ms → length s.walked.pace.times ≡ length producers → s.walked.line ≡ [] → s.passed ≡ 0 → ((p : ℕ) → get_or s.places p 0 ≡ 0) → length s.places ≡ 128 → s.queue ≡ 0 → s.turn ≡ 0 → IsSorted producers ss ms s
first_sorted producers ss ms s given long line passed places room queue turn = record {
  given = given;
  long = long;
  streams = λ p. ap (λ xs. stream p xs ++ rest_of ss s.places p) line ∙ ap (λ k. drop k (items_of ss p)) (places p);
  masks_are = ap₂ (λ xs k. masks xs ++ drop k ms) line queue;
  passed = λ g. ap (λ a. has_bit a g) passed ∙ none g ∙ sym (ap (λ xs. list_any (nat_eq g) (tuples xs)) line);
  settled = λ back t here. absurd (true≢false (sym here ∙ ap (λ xs. list_any (nat_eq t) (tuples xs)) line));
  turn = omega (arith, turn);
  room = room;
}
  where
    none : (g : ℕ) → has_bit 0 g ≡ false
    none g = grind arith

pub gone_run : (producers : List (List ℕ)) (ss : List Stream) (ms : List ℕ) (s new : Sorting) (r : Ready) → IsSorted producers ss ms s → IsReady (length producers) ss s r → HasRun producers s new r → HasGone producers ss ms s new
gone_run producers ss ms s new r h k g = record {
  pace = g.pace;
  sorted = record {
    given = given_on (ap (λ (p : Pace). p.processors) (sym g.pace)) h.given;
    long = ap (λ (p : Pace). length p.times) g.pace ∙ h.long;
    streams = λ p. ap₂ (λ xs places. stream p xs ++ rest_of ss places p) g.line g.places ∙ streams_more s.walked.line (Run r.processor r.tuple) (rest_of ss s.places) (rest_of ss (set s.places r.processor r.next)) (items_of ss) h.streams (takes_run ss s.places r.processor r.tuple r.next inside k.here k.next) p;
    masks_are = ap₂ (λ xs j. masks xs ++ drop j ms) g.line g.queue ∙ ap (λ xs. xs ++ drop s.queue ms) (masks_run s.walked.line r.processor r.tuple) ∙ h.masks_are;
    passed = subst (IsSetOf new.passed) (sym g.line) (set_run s.passed new.passed r.processor r.tuple s.walked.line h.passed g.passed);
    settled = subst (λ (p : Pace). AreSettled p producers new.walked.line) (sym g.pace) (subst (AreSettled s.walked.pace producers) (sym g.line) (settled_run s.walked.pace producers s.walked.line r.processor r.tuple (sym (h.passed r.tuple) ∙ k.new) g.first h.settled));
    turn = let e = g.turn in let l = k.stream_of in omega arith;
    room = ap length g.places ∙ length-set s.places r.processor r.next ∙ h.room;
  };
}
  where
    inside : r.processor < length s.places
    inside = let a = k.processor in let b = h.given.few in let c = h.room in omega arith

pub gone_bar : (producers : List (List ℕ)) (n : ℕ) (ss : List Stream) (ms : List ℕ) (s new : Sorting) → n ≡ s.walked.pace.processors → IsSorted producers ss ms s → HasFired n ss ms s new → HasGone producers ss ms s new
gone_bar producers n ss ms s new same h g = record {
  pace = g.pace;
  sorted = record {
    given = given_on (ap (λ (p : Pace). p.processors) (sym g.pace)) h.given;
    long = ap (λ (p : Pace). length p.times) g.pace ∙ h.long;
    streams = λ p. ap (λ xs. stream p xs ++ rest_of ss new.places p) g.line ∙ streams_more s.walked.line (Bar g.mask) (rest_of ss s.places) (rest_of ss new.places) (items_of ss) h.streams (takes_bar ss n g.mask s.places new.places (λ p e. let l = fits.1 p e in omega arith) g.members g.others) p;
    masks_are = ap (λ xs. masks xs ++ drop new.queue ms) g.line ∙ masks_bar s.walked.line g.mask s.queue new.queue ms h.masks_are g.at g.queue;
    passed = λ p. ap (λ a. has_bit a p) g.passed ∙ h.passed p ∙ sym (ap (λ xs. list_any (nat_eq p) (tuples xs)) g.line ∙ ap (list_any (nat_eq p)) (same_tuples s.walked.line g.mask));
    settled = subst (λ (p : Pace). AreSettled p producers new.walked.line) (sym g.pace) (subst (AreSettled s.walked.pace producers) (sym g.line) (settled_bar s.walked.pace producers s.walked.line g.mask h.settled));
    turn = let e = g.turn in let l = h.turn in omega arith;
    room = g.room ∙ h.room;
  };
}
  where
    fits : IsItem 0 s.walked.pace.processors (Bar g.mask)
    fits = mask_fits s.walked.pace.processors ms s.queue g.mask h.given.masks_fit g.at

-- ---- the whole line

below_more : (n p : ℕ) (ss : List Stream) → n ≤ p → AreBelow n ss → AreBelow p ss
below_more n p [] l h = tt
below_more n p (s ∷ ss) l h = (let k : s.processor < n = h.0 in omega arith, below_more n p ss l h.1)

front_nil : {A : Type 0} (xs ys : List A) → xs ++ ys ≡ [] → xs ≡ []
front_nil [] ys e = refl
front_nil (x ∷ xs) ys e = absurd (cc)

module _ (pace : Pace) (ts : List Tuple) (n : ℕ) (ss : List Stream) (ms : List ℕ) (h : AreLined (length ts) n ss ms) where
  abbrev line : List Item
  line = line_on n ss ms

  pub alike_of : (walked : List Item) (places : List ℕ) (queue : ℕ) → ((p : ℕ) → stream p walked ++ rest_of ss places p ≡ items_of ss p) → masks walked ++ drop queue ms ≡ ms → ((p : ℕ) → p < n → rest_of ss places p ≡ []) → drop queue ms ≡ [] → AreAlike line walked
  alike_of walked places queue streams queued none last = record {
    streams = λ p. go p (cases_lt p n);
    masks = masks_are n ms (items_of ss) ∙ sym (sym (append-nil (masks walked)) ∙ ap (λ xs. masks walked ++ xs) (sym last) ∙ queued);
  }
    where
      go : (p : ℕ) → (p < n) ⊎ (n ≤ p) → stream p line ≡ stream p walked
      go p (inl l) = stream_is n p ms (items_of ss) l h.even ∙ sym (sym (append-nil (stream p walked)) ∙ ap (λ xs. stream p walked ++ xs) (sym (none p l)) ∙ streams p)
      go p (inr l) = stream_none (length ts) n p line l h.line.items ∙ sym (front_nil (stream p walked) (rest_of ss places p) (streams p ∙ none_own p ss (below_more n p ss l h.given.within)))

  stands_too : (walked : List Item) → AreAlike line walked → (t : ℕ) → t < length ts → list_any (nat_eq t) (tuples walked) ≡ true
  stands_too walked a t l =
      let s = split_at line t (any_of_contains (tuples line) t (h.stand t l)) in
      let q = processor_of t line in
      let k = length (stream q (front_of_run t line)) in
      let at : slice_get (stream q line) k ≡ Some (Do t) = subst (λ xs. slice_get (stream q xs) k ≡ Some (Do t)) (sym s.same) (item_front (front_of_run t line) q t s.back) in
      stands_among walked t q k (ap (λ xs. slice_get xs k) (sym (a.streams q)) ∙ at)

  pub none_loose : (producers : List (List ℕ)) (walked : List Item) → producers ≡ producers_of ts → AreAlike line walked → AreSettled pace producers walked → NoneWrong Loose pace ts line
  none_loose producers walked rows a settled x y conflict =
      let l = later_within ts x y conflict in
      let here = stands_too walked a y l in
      let once = once_alike line walked a (λ t p k q j u v. stand_once line t p k q j h.line.once u.item v.item) in
      let listed : Contains (slice_index_or producers y []) x = subst (λ row. Contains row x) (sym (row_of ts producers y rows l)) (kept_has (in_conflict ts y) y x conflict.before conflict.shared) in
      let ordered : IsOrdered pace walked x y = subst (λ xs. IsOrdered pace xs x y) (append-nil walked) (settled [] y here x listed) in
      (alike_order pace walked line once (alike_back line walked a) x y).0 ordered

-- ---- of one step

pub if_ok : {T E : Type 0} (r : Result T E) (P Q : T → Type 0) → ((t : T) → P t → Q t) → IfOk r P → IfOk r Q
if_ok (Ok t) P Q f h = f t h
if_ok (Err e) P Q f h = h

pub step_run : (producers : List (List ℕ)) (ss : List Stream) (ms : List ℕ) (s new : Sorting) (r : Ready) (went : Bool) → IsSorted producers ss ms s → IsReady (length producers) ss s r → (went ≡ true → HasRun producers s new r) → went ≡ true → HasGone producers ss ms s new
step_run producers ss ms s new r went h k g e = gone_run producers ss ms s new r h k (g e)

pub step_bar : (producers : List (List ℕ)) (n : ℕ) (ss : List Stream) (ms : List ℕ) (s new : Sorting) (went : Bool) → n ≡ s.walked.pace.processors → IsSorted producers ss ms s → (went ≡ true → HasFired n ss ms s new) → went ≡ true → HasGone producers ss ms s new
step_bar producers n ss ms s new went same h g e = gone_bar producers n ss ms s new same h (g e)

-- ---- what can come next

below_at : (n : ℕ) (ss : List Stream) (k : ℕ) (d : Stream) → AllByRecursion (λ (s : Stream). s.processor < n) ss → k < length ss → (get_or ss k d).processor < n
below_at n [] k d h l = absurd (omega arith)
below_at n (s ∷ ss) zero d h l = h.0
below_at n (s ∷ ss) (suc k) d h l = below_at n ss k d h.1 (omega arith)

above_at : (p : ℕ) (ss : List Stream) (k : ℕ) (d : Stream) → AllByRecursion (λ (s : Stream). p < s.processor) ss → k < length ss → p < (get_or ss k d).processor
above_at p [] k d h l = absurd (omega arith)
above_at p (s ∷ ss) zero d h l = h.0
above_at p (s ∷ ss) (suc k) d h l = above_at p ss k d h.1 (omega arith)

-- in increasing order the items of a stream's processor are its own
items_at : (ss : List Stream) (k : ℕ) (d : Stream) → AreIncreasing ss → k < length ss → items_of ss (get_or ss k d).processor ≡ (get_or ss k d).items
items_at [] k d h l = absurd (omega arith)
items_at (s ∷ ss) zero d h l = ap (λ b. if b then s.items else items_of ss s.processor) (eq-eqb s.processor s.processor refl)
items_at (s ∷ ss) (suc k) d h l =
    let m : k < length ss = omega arith in
    let lt = above_at s.processor ss k d h.0 m in
    ap (λ b. if b then s.items else items_of ss (get_or ss k d).processor) (other s.processor (get_or ss k d).processor (λ e. let x : s.processor ≡ (get_or ss k d).processor = e in absurd (omega (arith, lt, x)))) ∙ items_at ss k d h.1 m
  where
    other : (q p : ℕ) → (q ≡ p → ⊥) → (q == p) ≡ false
    other q p h = grind (arith, nat_tests)

pub ready_is : (count k : ℕ) (ss : List Stream) (s : Sorting) (st : Stream) (own_items : List StreamItem) (t : ℕ) → AreGiven s.walked.pace.processors ss [] → k < length ss → st ≡ get_or ss k st → own_items ≡ st.items → slice_get own_items (get_or s.places st.processor 0) ≡ Some (Do t) → t < count → t < 128 → has_bit s.passed t ≡ false → IsReady count ss s (record { stream = k; processor = st.processor; tuple = t; next = get_or s.places st.processor 0 + 1 })
ready_is count k ss s st own_items t given inside here items item below small new = record {
  stream_of = inside;
  processor = subst (λ (x : Stream). x.processor < s.walked.pace.processors) (sym here) (below_at s.walked.pace.processors ss k st given.within inside);
  tuple = below;
  small = small;
  new = new;
  here = ap (λ xs. slice_get xs (get_or s.places st.processor 0)) (mine ∙ sym items) ∙ item;
  next = refl;
}
  where
    mine : items_of ss st.processor ≡ st.items
    mine = subst (λ (x : Stream). items_of ss x.processor ≡ x.items) (sym here) (items_at ss k st given.increasing inside)
