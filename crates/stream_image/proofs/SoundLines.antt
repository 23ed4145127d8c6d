-- A line that is sound with its block is one that bounds can be made of.
use Rattle.std.proofs.Common.{◌≡◌, ℕ, suc, ◌<◌, Bool, true, false, nat_eq, List, [], ◌∷◌, ◌++◌, Contains, length, length-append, Some, slice_get, refl, sym, ap, ◌∙◌, arith, subst, eqb-true, eq-eqb, append_assoc}
use Rattle.std.specs.List.{AllByRecursion, IsDistinct}
use Rattle.std.proofs.lemmas.List.Elements.{All-from_recursion}
use Rattle.line_model.specs.declared.line.Item.{Item}
use Rattle.line_model.specs.declared.line.Item.TheVariants.{Run, Bar}
use Rattle.line_model.specs.declared.line.StreamItem.TheVariants.{Do}
use Rattle.line_model.specs.Streams.{stream, masks, own}
use Rattle.line_model.specs.Order.{StandsAt}
use Rattle.line_model.proofs.LineFacts.{item_front, mask_front, stream-append}
use Rattle.time_interval.specs.Lines.{IsItem, IsLine, tuples}
use Rattle.time_law.proofs.ByTime.{stands_in}
use Rattle.unit_law.specs.State.{Code, Program}
use Rattle.unit_law.specs.Sound.{IsCodeSound}

stands_front : (line front back : List Item) (p t : ℕ) → line ≡ front ++ Run p t ∷ back → StandsAt line t p (length (stream p front))
stands_front line front back p t e = record { item = subst (λ l. slice_get (stream p l) (length (stream p front)) ≡ Some (Do t)) (sym e) (item_front front p t back) }

one_more : (line front back : List Item) (x : Item) → line ≡ front ++ x ∷ back → line ≡ (front ++ x ∷ []) ++ back
one_more line front back x e = e ∙ sym (append_assoc front (x ∷ []) back)

module _ (m : Program) (code : Code) (sound : IsCodeSound m code) where
  items_from : (front back : List Item) → code.line ≡ front ++ back → AllByRecursion (IsItem (length code.tuples) m.machine.processors) back
  items_from front [] e = tt
  items_from front (Run p t ∷ back) e = (sound.fit.stands t p (length (stream p front)) (stands_front code.line front back p t e), items_from (front ++ Run p t ∷ []) back (one_more code.line front back (Run p t) e))
  items_from front (Bar mask ∷ back) e =
      let at : slice_get (masks code.line) (length (masks front)) ≡ Some mask = subst (λ l. slice_get (masks l) (length (masks front)) ≡ Some mask) (sym e) (mask_front front mask back) in
      ((sound.none_empty (length (masks front)) mask at, λ p h. sound.fit.members (length (masks front)) p (record { mask = mask; at = at; has = h })), items_from (front ++ Bar mask ∷ []) back (one_more code.line front back (Bar mask) e))

  -- a tuple that stands is none of those behind it
  apart_from : (front : List Item) (p t : ℕ) (mid back : List Item) → code.line ≡ (front ++ Run p t ∷ mid) ++ back → StandsAt code.line t p (length (stream p front)) → AllByRecursion (λ y. nat_eq t y ≡ false) (tuples back)
  apart_from front p t mid [] e at = tt
  apart_from front p t mid (Run q u ∷ back) e at = (go (nat_eq t u) refl, apart_from front p t (mid ++ Run q u ∷ []) back (one_more code.line (front ++ Run p t ∷ mid) back (Run q u) e ∙ ap (λ l. l ++ back) (append_assoc front (Run p t ∷ mid) (Run q u ∷ []))) at)
    where
      go : (b : Bool) → nat_eq t u ≡ b → nat_eq t u ≡ false
      go false f = f
      go true f =
          let same : t ≡ u = eqb-true t u f in
          let here = stands_front code.line (front ++ Run p t ∷ mid) back q u e in
          let k = sound.fit.once u p (length (stream p front)) q (length (stream q (front ++ Run p t ∷ mid))) (subst (λ x. StandsAt code.line x p (length (stream p front))) same at) here in
          absurd (longer q k.0 k.1)
        where
          longer : (q : ℕ) → p ≡ q → length (stream p front) ≡ length (stream q (front ++ Run p t ∷ mid)) → ⊥
          longer q x y =
              let z : length (stream p front) ≡ length (stream p (front ++ Run p t ∷ mid)) = y ∙ ap (λ r. length (stream r (front ++ Run p t ∷ mid))) (sym x) in
              let a : length (stream p (front ++ Run p t ∷ mid)) ≡ length (stream p front ++ stream p (Run p t ∷ mid)) = ap length (stream-append p front (Run p t ∷ mid)) in
              let b : length (stream p (Run p t ∷ mid)) ≡ suc (length (stream p mid)) = ap (λ c. length (own c (Do t) (stream p mid))) (let s : nat_eq p p ≡ true = same p in s) in
              absurd (omega (arith, z, a, b, length-append (stream p front) (stream p (Run p t ∷ mid))))
            where
              same : (p : ℕ) → nat_eq p p ≡ true
              same p = eq-eqb p p refl
  apart_from front p t mid (Bar mask ∷ back) e at = apart_from front p t (mid ++ Bar mask ∷ []) back (one_more code.line (front ++ Run p t ∷ mid) back (Bar mask) e ∙ ap (λ l. l ++ back) (append_assoc front (Run p t ∷ mid) (Bar mask ∷ []))) at

  distinct_from : (front back : List Item) → code.line ≡ front ++ back → IsDistinct nat_eq (tuples back)
  unfolding IsDistinct
  distinct_from front [] e = tt
  distinct_from front (Run p t ∷ back) e = (apart_from front p t [] back (one_more code.line front back (Run p t) e) (stands_front code.line front back p t e), distinct_from (front ++ Run p t ∷ []) back (one_more code.line front back (Run p t) e))
  distinct_from front (Bar mask ∷ back) e = distinct_from (front ++ Bar mask ∷ []) back (one_more code.line front back (Bar mask) e)

  pub sound_line : IsLine (length code.tuples) m.machine.processors code.line
  sound_line = record {
    items = All-from_recursion (IsItem (length code.tuples) m.machine.processors) code.line (items_from [] code.line refl);
    once = distinct_from [] code.line refl;
    few = sound.few_masks;
  }

  pub sound_stand : (t : ℕ) → t < length code.tuples → Contains (tuples code.line) t
  sound_stand t l = let s = sound.whole t l in stands_in code.line t s.0 s.1 s.2
