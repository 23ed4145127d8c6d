-- What a row gives is what is read of it.
use Rattle.std.proofs.Common.{◌≡◌, ℕ, ◌≤◌, refl, sym, ap, subst, ◌∙◌, arith, Bool, true, false, List, [], ◌∷◌, ◌++◌, length, map, Option, Some, None, ℤ, cond, append_assoc, append-nil}
use Rattle.std.specs.Option.{option_and_then}
use Rattle.bm_base.specs.Names.{has_name_form}
use Rattle.bm_base.specs.Numeral.{number_of}
use Rattle.bm_base.proofs.StrictTexts.{none_some, some_same}
use Rattle.timing_script.specs.Data.{Gift, Gives}
use Rattle.timing_script.specs.DataReading.{gathered, gift_by, gift_of}

-- what follows a value that is there
then_some : {A B : Type 0} (o : Option A) (f : A → Option B) (z : B) → option_and_then f o ≡ Some z → (x : A) × ((o ≡ Some x) × (f x ≡ Some z))
then_some None f z e = absurd (none_some e)
then_some (Some x) f z e = (x, (refl, e))

gathered-found : (vs : List ℤ) (fs : List (List ℕ)) (out : List ℤ) → gathered vs fs ≡ Some out → (xs : List ℤ) × ((map number_of fs ≡ map Some xs) × (out ≡ vs ++ xs))
gathered-found vs [] out e = ([], (refl, sym (some_same e) ∙ sym (append-nil vs)))
gathered-found vs (f ∷ fs) out e =
    let k = then_some (number_of f) (λ v. gathered (vs ++ v ∷ []) fs) out e in
    let m = gathered-found (vs ++ k.0 ∷ []) fs out k.1.1 in
    (k.0 ∷ m.0, ((λ i. k.1.0 i ∷ m.1.0 i), m.1.1 ∙ append_assoc vs (k.0 ∷ []) m.0))

gathered-only : (vs : List ℤ) (fs : List (List ℕ)) (xs : List ℤ) → map number_of fs ≡ map Some xs → gathered vs fs ≡ Some (vs ++ xs)
gathered-only vs [] [] e = ap Some (sym (append-nil vs))
gathered-only vs [] (x ∷ xs) e = cc
gathered-only vs (f ∷ fs) [] e = cc
gathered-only vs (f ∷ fs) (x ∷ xs) e =
    let here : number_of f ≡ Some x = cc in
    let more : map number_of fs ≡ map Some xs = cc in
    ap (option_and_then (λ v. gathered (vs ++ v ∷ []) fs)) here ∙ gathered-only (vs ++ x ∷ []) fs xs more ∙ ap Some (append_assoc vs (x ∷ []) xs)

gift_by-found : (name : List ℕ) (vs : List ℤ) (g : Gift) → gift_by name vs ≡ Some g → (g ≡ record { name = name; values = vs }) × (1 ≤ length vs)
gift_by-found name [] g e = absurd (none_some e)
gift_by-found name (v ∷ vs) g e = (sym (some_same e), omega arith)

gift_by-only : (name : List ℕ) (vs : List ℤ) → 1 ≤ length vs → gift_by name vs ≡ Some (record { name = name; values = vs })
gift_by-only name [] h = absurd (omega arith)
gift_by-only name (v ∷ vs) h = refl

pub gift_of-found : (fields : List (List ℕ)) (g : Gift) → gift_of fields ≡ Some g → Gives fields g
gift_of-found [] g e = absurd (none_some e)
gift_of-found (f ∷ fs) g e = by (has_name_form f) refl e
  where
    by : (t : Bool) → has_name_form f ≡ t → cond t (option_and_then (gift_by f) (gathered [] fs)) None ≡ Some g → Gives (f ∷ fs) g
    by false t h = absurd (none_some h)
    by true t h =
        let k = then_some (gathered [] fs) (gift_by f) g h in
        let m = gift_by-found f k.0 g k.1.1 in
        let n = gathered-found [] fs k.0 k.1.0 in
        subst (Gives (f ∷ fs)) (sym m.0) (record { further = fs; fields_are = refl; form = t; some = m.1; values = n.1.0 ∙ ap (map Some) (sym n.1.1) })

pub gift_of-only : (fields : List (List ℕ)) (g : Gift) → Gives fields g → gift_of fields ≡ Some g
gift_of-only fields g h =
    ap gift_of h.fields_are
    ∙ ap (λ t. cond t (option_and_then (gift_by g.name) (gathered [] h.further)) None) h.form
    ∙ ap (option_and_then (gift_by g.name)) (gathered-only [] h.further g.values h.values)
    ∙ gift_by-only g.name g.values h.some
