-- A line with one more tuple.
use Rattle.std.proofs.Common.{◌≡◌, ℕ, suc, ◌<◌, Bool, true, false, nat_eq, ◌||◌, List, [], ◌∷◌, ◌++◌, length, refl, sym, ap, ap₂, ◌∙◌, arith, subst, eqb-true, eq-eqb, true≢false, All, if◌then◌else◌, append-nil, Result, Ok, Err, OnOk, OnErr}
use Rattle.std.specs.List.{IsDistinct, list_any}
use Rattle.std.proofs.lemmas.Map.Keys.{IsDistinct-push}
use Rattle.std.proofs.lemmas.Cmp.{nat_eq_equiv}
use Rattle.line_model.specs.declared.line.Item.{Item}
use Rattle.line_model.specs.declared.line.Item.TheVariants.{Run, Bar}
use Rattle.line_model.specs.Streams.{stream, masks}
use Rattle.line_model.proofs.LineFacts.{masks_run, masks_bar, item_front}
use Rattle.time_interval.specs.declared.reference.Reference.{Reference}
use Rattle.time_interval.specs.declared.reference.Reference.TheVariants as since
use Rattle.time_interval.specs.declared.reference.Point.TheVariants.{StartOf, FinishOf}
use Rattle.time_interval.specs.Bounds.{Pace, front_of_run, processor_of, known, up_of, lo_of, later, time}
use Rattle.time_interval.specs.Lines.{Timed, IsTimed, IsItem, tuples}
use Rattle.time_interval.specs.Ordered.{IsReference, IsOrderedByTime}
use Rattle.time_interval.specs.Next.{IsSomeInTimeNext}
use Rattle.time_interval.proofs.Once.{stand_once}
use Rattle.time_interval.specs.Seen.{StandsBehind}
use Rattle.time_interval.proofs.Fronts.{item_of_more}
use Rattle.std.proofs.lemmas.List.Elements.{All-weaker, All-push}

pub tuples-append : (xs ys : List Item) → tuples (xs ++ ys) ≡ tuples xs ++ tuples ys
tuples-append [] ys = refl
tuples-append (Run q t ∷ xs) ys = ap (λ l. t ∷ l) (tuples-append xs ys)
tuples-append (Bar m ∷ xs) ys = tuples-append xs ys

flip_eq : (a b : ℕ) → nat_eq a b ≡ false → nat_eq b a ≡ false
flip_eq a b e = go (nat_eq b a) refl
  where
    go : (r : Bool) → nat_eq b a ≡ r → nat_eq b a ≡ false
    go true f = absurd (true≢false (sym (eq-eqb a b (sym (eqb-true b a f))) ∙ e))
    go false f = f

not_head : (t u : ℕ) (us : List ℕ) → (nat_eq t u || list_any (nat_eq t) us) ≡ false → (nat_eq t u ≡ false) × (list_any (nat_eq t) us ≡ false)
not_head t u us e = go (nat_eq t u) refl e
  where
    go : (b : Bool) → nat_eq t u ≡ b → (b || list_any (nat_eq t) us) ≡ false → (nat_eq t u ≡ false) × (list_any (nat_eq t) us ≡ false)
    go true f g = absurd (true≢false g)
    go false f g = (f, g)

-- a tuple of the line has the same front and processor in a longer line
pub front_kept : (xs ys : List Item) (t : ℕ) → list_any (nat_eq t) (tuples xs) ≡ true → (front_of_run t (xs ++ ys) ≡ front_of_run t xs) × (processor_of t (xs ++ ys) ≡ processor_of t xs)
front_kept [] ys t e = absurd (true≢false (sym e))
front_kept (Run q u ∷ xs) ys t e = go (nat_eq u t) refl (front_kept xs ys t)
  where
    go : (b : Bool) → nat_eq u t ≡ b → (list_any (nat_eq t) (tuples xs) ≡ true → (front_of_run t (xs ++ ys) ≡ front_of_run t xs) × (processor_of t (xs ++ ys) ≡ processor_of t xs)) → ((if b then [] else Run q u ∷ front_of_run t (xs ++ ys)) ≡ (if b then [] else Run q u ∷ front_of_run t xs)) × ((if b then q else processor_of t (xs ++ ys)) ≡ (if b then q else processor_of t xs))
    go true f r = (refl, refl)
    go false f r = let s = r (ap (λ b. b || list_any (nat_eq t) (tuples xs)) (sym (flip_eq u t f)) ∙ e) in (ap (λ l. Run q u ∷ l) s.0, s.1)
front_kept (Bar m ∷ xs) ys t e = let r = front_kept xs ys t e in (ap (λ l. Bar m ∷ l) r.0, r.1)

-- a new tuple has the whole line as its front
pub front_new : (xs : List Item) (p t : ℕ) → list_any (nat_eq t) (tuples xs) ≡ false → (front_of_run t (xs ++ Run p t ∷ []) ≡ xs) × (processor_of t (xs ++ Run p t ∷ []) ≡ p)
front_new [] p t e = (ap (λ b. if b then [] else Run p t ∷ []) (eq-eqb t t refl), ap (λ b. if b then p else 0) (eq-eqb t t refl))
front_new (Run q u ∷ xs) p t e =
    let n = not_head t u (tuples xs) e in
    let f : nat_eq u t ≡ false = flip_eq t u n.0 in
    let r = front_new xs p t n.1 in
    (ap (λ b. if b then [] else Run q u ∷ front_of_run t (xs ++ Run p t ∷ [])) f ∙ ap (λ l. Run q u ∷ l) r.0, ap (λ b. if b then q else processor_of t (xs ++ Run p t ∷ [])) f ∙ r.1)
front_new (Bar m ∷ xs) p t e = let r = front_new xs p t e in (ap (λ l. Bar m ∷ l) r.0, r.1)

module _ (pace : Pace) (line : List Item) (g p i : ℕ) (here : list_any (nat_eq g) (tuples line) ≡ true) (new : list_any (nat_eq i) (tuples line) ≡ false) where
  next_finish : (r : Reference) → up_of pace (line ++ Run p i ∷ []) r (FinishOf g) ≡ up_of pace line r (FinishOf g)
  next_finish r = let k = front_kept line (Run p i ∷ []) g here in ap₂ (λ xs q. later ((known pace r xs).up q) (time pace g).most) k.0 k.1

  next_start : (r : Reference) → lo_of pace (line ++ Run p i ∷ []) r (StartOf i) ≡ (known pace r line).lo p
  next_start r = let k = front_new line p i new in ap₂ (λ xs q. (known pace r xs).lo q) k.0 k.1

  next_reference : (r : Reference) → (IsReference line r → IsReference (line ++ Run p i ∷ []) r) × (IsReference (line ++ Run p i ∷ []) r → IsReference line r)
  next_reference since.Start = (λ x. x, λ x. x)
  next_reference (since.Bar j) = let e : length (masks (line ++ Run p i ∷ [])) ≡ length (masks line) = masks_run line p i in (λ x. omega arith, λ x. omega arith)

  pub some_next : (IsSomeInTimeNext pace line g p → IsOrderedByTime pace (line ++ Run p i ∷ []) g i) × (IsOrderedByTime pace (line ++ Run p i ∷ []) g i → IsSomeInTimeNext pace line g p)
  some_next = (
    λ s. (s.0, (next_reference s.0).0 s.1, record { latest = s.2.latest; earliest = s.2.earliest; finish = next_finish s.0 ∙ s.2.finish; start = next_start s.0 ∙ s.2.start; order = s.2.order }),
    λ s. (s.0, (next_reference s.0).1 s.1, record { latest = s.2.latest; earliest = s.2.earliest; finish = sym (next_finish s.0) ∙ s.2.finish; start = sym (next_start s.0) ∙ s.2.start; order = s.2.order }),
  )

  pub stands_next : IsDistinct nat_eq (tuples line) → StandsBehind (line ++ Run p i ∷ []) line p i
  stands_next d = record {
    back = [];
    split = refl;
    once = λ q k s. stand_once (line ++ Run p i ∷ []) i q k p (length (stream p line)) (subst (IsDistinct nat_eq) (sym (tuples-append line (Run p i ∷ []))) (IsDistinct-push nat_eq_equiv (tuples line) i d new)) s.item (item_front line p i []);
  }

-- all items of a timed line, for sets of 128 tuples
pub line_in_sets : (timed : Timed) → IsTimed timed → All (IsItem 128 timed.pace.processors) timed.line
line_in_sets timed h = All-weaker (IsItem (length timed.pace.times) timed.pace.processors) (IsItem 128 timed.pace.processors) (λ x. item_of_more (length timed.pace.times) 128 timed.pace.processors h.few x) timed.line h.line.items

-- ---- a line with one item more is a line

pub timed_run : (timed : Timed) (p t : ℕ) → IsTimed timed → p < timed.pace.processors → t < length timed.pace.times → list_any (nat_eq t) (tuples timed.line) ≡ false → IsTimed (record timed { line = timed.line ++ Run p t ∷ [] })
timed_run timed p t h lp lt new = record {
  pace = h.pace;
  few = h.few;
  line = record {
    items = All-push (IsItem (length timed.pace.times) timed.pace.processors) timed.line (Run p t) h.line.items (lp, lt);
    once = subst (IsDistinct nat_eq) (sym (tuples-append timed.line (Run p t ∷ []))) (IsDistinct-push nat_eq_equiv (tuples timed.line) t h.line.once new);
    few = (let e : length (masks (timed.line ++ Run p t ∷ [])) ≡ length (masks timed.line) = masks_run timed.line p t in omega (arith, h.line.few));
  };
}

pub timed_bar : (timed : Timed) (m : ℕ) → IsTimed timed → IsItem 0 timed.pace.processors (Bar m) → length (masks timed.line) < 128 → IsTimed (record timed { line = timed.line ++ Bar m ∷ [] })
timed_bar timed m h i room = record {
  pace = h.pace;
  few = h.few;
  line = record {
    items = All-push (IsItem (length timed.pace.times) timed.pace.processors) timed.line (Bar m) h.line.items i;
    once = subst (IsDistinct nat_eq) (sym (tuples-append timed.line (Bar m ∷ []) ∙ append-nil (tuples timed.line))) h.line.once;
    few = (let e : length (masks (timed.line ++ Bar m ∷ [])) ≡ suc (length (masks timed.line)) = masks_bar timed.line m in omega arith);
  };
}

pub pushed : {T E : Type 0} (r : Result T E) (pace : Pace) (line new next : List Item) → OnOk r (new ≡ next) → OnErr r (new ≡ line) → IsTimed (record { pace = pace; line = line }) → IsTimed (record { pace = pace; line = next }) → IsTimed (record { pace = pace; line = new })
pushed (Ok x) pace line new next ok err old more = subst (λ l. IsTimed (record { pace = pace; line = l })) (sym ok) more
pushed (Err e) pace line new next ok err old more = subst (λ l. IsTimed (record { pace = pace; line = l })) (sym err) old
