-- Names that have a text can be declared one by one.
use Rattle.std.proofs.Common.{◌≡◌, ℕ, ◌+◌, ◌<◌, ◌≤◌, zero, suc, refl, sym, ◌∙◌, arith, Bool, true, false, List, [], ◌∷◌, ◌++◌, length, Some, None, Ok, true≢false, length-append}
use Rattle.std.specs.Prelude.{nat_le, ◌==◌, slice_get}
use Rattle.std.proofs.Common.{inl, inr}
use Rattle.std.specs.List.{AllByRecursion, list_all, position_from}
use Rattle.std.specs.Str.{bytes_eq}
use Rattle.std.proofs.lemmas.Slice.Eq.{bytes_eq-Decides}
use Rattle.std.proofs.lemmas.List.Folds.{list_all-append}
use Rattle.std.proofs.lemmas.List.Sums.{sum_by-append}
use Rattle.std.proofs.lemmas.Iterator.Adapters.{position_from-zero}
use Rattle.std.proofs.lemmas.Option.{slice_get_within}
use Rattle.std.proofs.lemmas.Bool.Decides.{nat_tests}
use Rattle.bm_base.specs.declared.names.Kind.{Kind}
use Rattle.bm_base.specs.declared.names.Kind.TheVariants.{Var, Array}
use Rattle.bm_base.specs.Entry.{Entry}
use Rattle.bm_base.specs.Lines.{has_byte}
use Rattle.bm_base.specs.Names.{adding, place_of, is_name, is_reserved, begins_name, goes_on_name, has_room, elements_of, element_total}
use Rattle.bm_base.proofs.StrictTexts.{chosen, both_true}
use Rattle.stream_file.specs.Fields.{KindFits, NamesFit}
use Rattle.stream_file.specs.RowFits.{InRange}

pub all_middle : {A : Type 0} (P : A → Type 0) (front : List A) (e : A) (rest : List A) → AllByRecursion P (front ++ e ∷ rest) → P e
all_middle P [] e rest h = h.0
all_middle P (x ∷ xs) e rest h = all_middle P xs e rest h.1

get_front : {A : Type 0} (front more : List A) (i : ℕ) (x : A) → slice_get front i ≡ Some x → slice_get (front ++ more) i ≡ Some x
get_front [] more i x h = absurd (omega (arith, slice_get_within [] i x h))
get_front (y ∷ ys) more zero x h = h
get_front (y ∷ ys) more (suc i) x h = get_front ys more i x h

get_middle : {A : Type 0} (front : List A) (e : A) (rest : List A) → slice_get (front ++ e ∷ rest) (length front) ≡ Some e
get_middle [] e rest = refl
get_middle (y ∷ ys) e rest = get_middle ys e rest

-- where no element passes, there is no place
no_place : {A : Type 0} (p : A → Bool) (i : ℕ) (xs : List A) → ((k : ℕ) (x : A) → slice_get xs k ≡ Some x → p x ≡ false) → position_from p i xs ≡ None
no_place p i [] h = refl
no_place p i (x ∷ xs) h = rw (h 0 x refl) (no_place p (i + 1) xs (λ k y e. h (suc k) y e))

differ : (a b : List ℕ) → (a ≡ b → ⊥) → bytes_eq a b ≡ false
differ a b h = elim (bytes_eq a b) as (λ t. bytes_eq a b ≡ t → t ≡ false) [ true ↦ λ e. absurd (h ((bytes_eq-Decides a b).0 e)) | false ↦ λ e. refl ] refl

fits_room : (kind : Kind) (es : List Entry) → KindFits kind → element_total es + elements_of kind ≤ 1048576 → has_room kind es ≡ true
fits_room (Var initial) es f h = refl
fits_room (Array len) es f h =
    let low : 1 ≤ len = f.0 in
    let a : nat_le 1 len ≡ true = grind (arith, nat_tests) in
    let b : nat_le (element_total es + len) 1048576 ≡ true = grind (arith, nat_tests) in
    rw (a, b) refl

pub name_of : (front : List Entry) (e : Entry) (rest : List Entry) → NamesFit (front ++ e ∷ rest) → is_name e.name ≡ true
name_of front e rest n =
    let all = sym (list_all-append (λ (x : Entry). is_name x.name) front (e ∷ rest)) ∙ n.declared.each in
    let tail = (both_true (list_all (λ (x : Entry). is_name x.name) front) (list_all (λ (x : Entry). is_name x.name) (e ∷ rest)) all).1 in
    (both_true (is_name e.name) (list_all (λ (x : Entry). is_name x.name) rest) tail).0

-- the next of them
pub adding_again : (front : List Entry) (e : Entry) (rest : List Entry) → NamesFit (front ++ e ∷ rest) → adding e.name e.kind front ≡ Ok (length front)
adding_again front e rest n =
    let few : length front + suc (length rest) ≤ 1024 = omega (arith, n.declared.few, length-append front (e ∷ rest)) in
    let small : nat_le 1024 (length front) ≡ false = grind (arith, nat_tests) in
    let none : place_of e.name front ≡ None = position_from-zero (λ (x : Entry). bytes_eq e.name x.name) front ∙ no_place (λ (x : Entry). bytes_eq e.name x.name) 0 front (λ k x g. differ e.name x.name (λ s. clash k x g s)) in
    let total : element_total front + element_total (e ∷ rest) ≤ 1048576 = omega (arith, n.declared.range.room, sum_by-append (λ (x : Entry). elements_of x.kind) front (e ∷ rest)) in
    let one : element_total (e ∷ rest) ≡ 0 + elements_of e.kind + element_total rest = sum_by-append (λ (x : Entry). elements_of x.kind) (e ∷ []) rest in
    let room : has_room e.kind front ≡ true = fits_room e.kind front (all_middle (λ (x : Entry). KindFits x.kind) front e rest n.each) (omega arith) in
    rw (name_of front e rest n, small, none, room) refl
  where
    clash : (k : ℕ) (x : Entry) → slice_get front k ≡ Some x → e.name ≡ x.name → ⊥
    clash k x g s =
        let at = n.declared.range.once (length front) k e x (get_middle front e rest) (get_front front (e ∷ rest) k x g) s in
        omega (arith, slice_get_within front k x g)

-- a name has no byte below 48
goes_plain : (s : ℕ) (bs : List ℕ) → s < 48 → list_all goes_on_name bs ≡ true → has_byte s bs ≡ false
goes_plain s [] l h = refl
goes_plain s (b ∷ bs) l h =
    let k = both_true (goes_on_name b) (list_all goes_on_name bs) h in
    let t : (b == s) ≡ false = apart b s l k.0 in
    rw t (goes_plain s bs l k.1)
  where
    apart : (b s : ℕ) → s < 48 → goes_on_name b ≡ true → (b == s) ≡ false
    apart b s l h = grind (arith, nat_tests)

pub name_plain : (s : ℕ) (name : List ℕ) → s < 48 → is_name name ≡ true → has_byte s name ≡ false
name_plain s [] l h = refl
name_plain s (b ∷ bs) l h = elim (chosen (begins_name b) _ false true h) [
  | inr p ↦ absurd (true≢false (sym p.1))
  | inl p ↦ elim (chosen (is_reserved (b ∷ bs)) false _ true p.1) [
    | inl q ↦ absurd (true≢false (sym q.1))
    | inr q ↦ elim (chosen (nat_le (length (b ∷ bs)) 64) _ false true q.1) [
      | inr r ↦ absurd (true≢false (sym r.1))
      | inl r ↦ (let t : (b == s) ≡ false = apart b s l p.0 in rw t (goes_plain s bs l r.1))
    ]
  ]
]
  where
    apart : (b s : ℕ) → s < 48 → begins_name b ≡ true → (b == s) ≡ false
    apart b s l h = grind (arith, nat_tests)

pub in_range : (kind : Kind) → KindFits kind → InRange kind
in_range (Var initial) h = h
in_range (Array len) h = h.1
