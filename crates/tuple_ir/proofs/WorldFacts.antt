-- What a tuple writes and reads, place by place.
use Rattle.std.proofs.Common.{◌≡◌, ℕ, zero, suc, ◌<◌, ◌≤◌, Bool, true, false, ◌&&◌, List, [], ◌∷◌, ◌++◌, map, length, get_or, set, Option, Some, None, slice_get, slice_set, ℤ, pos, negsuc, nat_eq, refl, sym, ap, ap₂, ◌∙◌, subst, arith, ◌⊎◌, inl, inr, length-set, get_or-set_same, get_or-set_other}
use Rattle.std.specs.Ordering.{int_eq}
use Rattle.std.proofs.lemmas.Bool.{cases_eq, cases_lt, both_ways, eqb-false, ne_eqb, and_cases}
use Rattle.std.proofs.lemmas.Bool.Decides.{Decides-int_eq}
use Rattle.std.proofs.lemmas.List.{set_past, ext_get_or}
use Rattle.tuple_ir.specs.declared.tuple.Tuple.{Tuple}
use Rattle.tuple_ir.specs.declared.tuple.Tuple.TheVariants.{Const, Load, Store, LoadEl, StoreEl, One, Two, Print}
use Rattle.bm_base.specs.Word.{unary_value, binary_value}
use Rattle.bm_base.specs.Memory.{Content, Word, Words, word_of, element_of, with_word, with_element}
use Rattle.tuple_ir.specs.World.{World, with_cell, cell, write}

-- where a value may stand
pub data Place : Type 0 where
  Cell : (c : ℕ) → Place
  Variable : (x : ℕ) → Place
  Element : (x : ℕ) (k : ℤ) → Place
  Output : Place

abbrev pub look : World → Place → List ℤ
look w (Cell c) = cell w c ∷ []
look w (Variable x) = word_of (slice_get w.memory x) ∷ []
look w (Element x k) = element_of (slice_get w.memory x) k ∷ []
look w Output = w.output

-- the length of an array, or none of a variable
abbrev pub shape_of : Content → Option ℕ
shape_of (Word v) = None
shape_of (Words vs) = Some (length vs)

abbrev pub shape : World → ℕ × List (Option ℕ)
shape w = (length w.cells, map shape_of w.memory)

-- tuple number i, by what it reads, writes the place
abbrev pub writes : ℕ → Tuple → List ℤ → Place → Bool
writes i (Const v) rs (Cell c) = nat_eq i c
writes i (Load x) rs (Cell c) = nat_eq i c
writes i (LoadEl x e) rs (Cell c) = nat_eq i c
writes i (One op a) rs (Cell c) = nat_eq i c
writes i (Two op a b) rs (Cell c) = nat_eq i c
writes i (Store x v) rs (Variable y) = nat_eq x y
writes i (StoreEl x e v) (k ∷ rs) (Element y f) = nat_eq x y && int_eq k f
writes i (Print v) rs Output = true
writes i _ _ _ = false

-- ---- lists
get_set_same : {X : Type 0} → (xs : List X) (i : ℕ) (y : X) → i < length xs → slice_get (slice_set xs i y) i ≡ Some y
get_set_same [] i y lt = absurd (omega arith)
get_set_same (x ∷ xs) zero y lt = refl
get_set_same (x ∷ xs) (suc i) y lt = get_set_same xs i y (omega arith)

get_set_other : {X : Type 0} → (xs : List X) (i j : ℕ) (y : X) → (j ≡ i → ⊥) → slice_get (slice_set xs i y) j ≡ slice_get xs j
get_set_other [] i j y ne = refl
get_set_other (x ∷ xs) zero zero y ne = absurd (ne refl)
get_set_other (x ∷ xs) zero (suc j) y ne = refl
get_set_other (x ∷ xs) (suc i) zero y ne = refl
get_set_other (x ∷ xs) (suc i) (suc j) y ne = get_set_other xs i j y (λ e. ne (ap suc e))

-- a write that keeps an element's image keeps the images
map_set_same : {X Y : Type 0} (f : X → Y) → (xs : List X) (i : ℕ) (g : Option X → X) → ((x : X) → f (g (Some x)) ≡ f x) → map f (slice_set xs i (g (slice_get xs i))) ≡ map f xs
map_set_same f [] i g h = refl
map_set_same f (x ∷ xs) zero g h = ap (λ y. y ∷ map f xs) (h x)
map_set_same f (x ∷ xs) (suc i) g h = ap (λ ys. f x ∷ ys) (map_set_same f xs i g h)

word_shape : (v : ℤ) (x : Content) → shape_of (with_word (Some x) v) ≡ shape_of x
word_shape v (Word w) = refl
word_shape v (Words vs) = refl

element_shape : (k v : ℤ) (x : Content) → shape_of (with_element (Some x) k v) ≡ shape_of x
element_shape k v (Word w) = refl
element_shape (pos i) v (Words vs) = ap Some (length-set vs i v)
element_shape (negsuc i) v (Words vs) = refl

cell_shape : (w : World) (i : ℕ) (v : ℤ) → shape (with_cell w i v) ≡ shape w
cell_shape w i v = ap (λ n. (n, map shape_of w.memory)) (length-set w.cells i v)

-- a write keeps the shape
pub write_shape : (i : ℕ) (t : Tuple) (rs : List ℤ) (w : World) → shape (write i t rs w) ≡ shape w
write_shape i (Const v) rs w = cell_shape w i v
write_shape i (Load x) [] w = refl
write_shape i (Load x) (r ∷ rs) w = cell_shape w i r
write_shape i (Store x v) [] w = refl
write_shape i (Store x v) (r ∷ rs) w = ap (λ n. (length w.cells, n)) (map_set_same shape_of w.memory x (λ o. with_word o r) (word_shape r))
write_shape i (LoadEl x e) [] w = refl
write_shape i (LoadEl x e) (r ∷ rs) w = cell_shape w i r
write_shape i (StoreEl x e v) [] w = refl
write_shape i (StoreEl x e v) (k ∷ []) w = refl
write_shape i (StoreEl x e v) (k ∷ r ∷ rs) w = ap (λ n. (length w.cells, n)) (map_set_same shape_of w.memory x (λ o. with_element o k r) (element_shape k r))
write_shape i (One op a) [] w = refl
write_shape i (One op a) (r ∷ rs) w = cell_shape w i (unary_value op r)
write_shape i (Two op a b) [] w = refl
write_shape i (Two op a b) (r ∷ []) w = refl
write_shape i (Two op a b) (r ∷ q ∷ rs) w = cell_shape w i (binary_value op r q)
write_shape i (Print v) [] w = refl
write_shape i (Print v) (r ∷ rs) w = refl

-- ---- what a write leaves
abbrev pub changed : (Option Content → Content) → Option Content → Option Content
changed g None = None
changed g (Some h) = Some (g (Some h))

get_changed : (hs : List Content) (x : ℕ) (g : Option Content → Content) → slice_get (slice_set hs x (g (slice_get hs x))) x ≡ changed g (slice_get hs x)
get_changed [] x g = refl
get_changed (h ∷ hs) zero g = refl
get_changed (h ∷ hs) (suc x) g = get_changed hs x g

abbrev set_word : World → ℕ → ℤ → World
set_word w x r = record w { memory = slice_set w.memory x (with_word (slice_get w.memory x) r) }

abbrev set_element : World → ℕ → ℤ → ℤ → World
set_element w x k r = record w { memory = slice_set w.memory x (with_element (slice_get w.memory x) k r) }

cell_other : (w : World) (i : ℕ) (v : ℤ) (l : Place) → ((c : ℕ) → l ≡ Cell c → nat_eq i c ≡ false) → look (with_cell w i v) l ≡ look w l
cell_other w i v (Cell c) h = ap (λ x. x ∷ []) (get_or-set_other w.cells i c v (pos 0) (λ e. eqb-false i c (h c refl) (sym e)))
cell_other w i v (Variable x) h = refl
cell_other w i v (Element x k) h = refl
cell_other w i v Output h = refl

word_element : (o : Option Content) (r k : ℤ) → element_of (changed (λ p. with_word p r) o) k ≡ element_of o k
word_element None r k = refl
word_element (Some (Word v)) r k = refl
word_element (Some (Words vs)) r k = refl

word_other : (w : World) (x : ℕ) (r : ℤ) (l : Place) → ((y : ℕ) → l ≡ Variable y → nat_eq x y ≡ false) → look (set_word w x r) l ≡ look w l
word_other w x r (Cell c) h = refl
word_other w x r (Variable y) h = ap (λ o. word_of o ∷ []) (get_set_other w.memory x y _ (λ e. eqb-false x y (h y refl) (sym e)))
word_other w x r (Element y k) h = go (cases_eq y x)
  where
    go : (y ≡ x) ⊎ (y ≡ x → ⊥) → look (set_word w x r) (Element y k) ≡ look w (Element y k)
    go (inl e) = ap (λ z. element_of (slice_get (slice_set w.memory x (with_word (slice_get w.memory x) r)) z) k ∷ []) e ∙ ap (λ o. element_of o k ∷ []) (get_changed w.memory x (λ p. with_word p r)) ∙ ap (λ z. z ∷ []) (word_element (slice_get w.memory x) r k) ∙ ap (λ z. element_of (slice_get w.memory z) k ∷ []) (sym e)
    go (inr ne) = ap (λ o. element_of o k ∷ []) (get_set_other w.memory x y _ ne)
word_other w x r Output h = refl

element_word : (o : Option Content) (k r : ℤ) → word_of (changed (λ p. with_element p k r) o) ≡ word_of o
element_word None k r = refl
element_word (Some (Word v)) k r = refl
element_word (Some (Words vs)) (pos i) r = refl
element_word (Some (Words vs)) (negsuc i) r = refl

-- an element of an array after a write at another index
element_apart : (o : Option Content) (k r f : ℤ) → int_eq k f ≡ false → element_of (changed (λ p. with_element p k r) o) f ≡ element_of o f
element_apart None k r f h = refl
element_apart (Some (Word v)) k r f h = refl
element_apart (Some (Words vs)) (pos i) r (pos g) h = get_or-set_other vs i g r (pos 0) (λ e. both_ways (int_eq (pos i) (pos g)) h ((Decides-int_eq (pos i) (pos g)).1 (ap pos (sym e))))
element_apart (Some (Words vs)) (pos i) r (negsuc g) h = refl
element_apart (Some (Words vs)) (negsuc i) r f h = refl

element_other : (w : World) (x : ℕ) (k r : ℤ) (l : Place) → ((y : ℕ) (f : ℤ) → l ≡ Element y f → (nat_eq x y && int_eq k f) ≡ false) → look (set_element w x k r) l ≡ look w l
element_other w x k r (Cell c) h = refl
element_other w x k r (Variable y) h = go (cases_eq y x)
  where
    go : (y ≡ x) ⊎ (y ≡ x → ⊥) → look (set_element w x k r) (Variable y) ≡ look w (Variable y)
    go (inl e) = ap (λ z. word_of (slice_get (slice_set w.memory x (with_element (slice_get w.memory x) k r)) z) ∷ []) e ∙ ap (λ o. word_of o ∷ []) (get_changed w.memory x (λ p. with_element p k r)) ∙ ap (λ z. z ∷ []) (element_word (slice_get w.memory x) k r) ∙ ap (λ z. word_of (slice_get w.memory z) ∷ []) (sym e)
    go (inr ne) = ap (λ o. word_of o ∷ []) (get_set_other w.memory x y _ ne)
element_other w x k r (Element y f) h = go (cases_eq y x)
  where
    go : (y ≡ x) ⊎ (y ≡ x → ⊥) → look (set_element w x k r) (Element y f) ≡ look w (Element y f)
    go (inl e) = ap (λ z. element_of (slice_get (slice_set w.memory x (with_element (slice_get w.memory x) k r)) z) f ∷ []) e ∙ ap (λ o. element_of o f ∷ []) (get_changed w.memory x (λ p. with_element p k r)) ∙ ap (λ z. z ∷ []) (element_apart (slice_get w.memory x) k r f (apart (and_cases _ _ (h y f refl)))) ∙ ap (λ z. element_of (slice_get w.memory z) f ∷ []) (sym e)
      where
        apart : (nat_eq x y ≡ false) ⊎ (int_eq k f ≡ false) → int_eq k f ≡ false
        apart (inl n) = absurd (eqb-false x y n (sym e))
        apart (inr n) = n
    go (inr ne) = ap (λ o. element_of o f ∷ []) (get_set_other w.memory x y _ ne)
element_other w x k r Output h = refl

at_cell : (i : ℕ) (t : Tuple) (rs : List ℤ) (l : Place) (c : ℕ) → writes i t rs l ≡ false → l ≡ Cell c → writes i t rs (Cell c) ≡ false
at_cell i t rs l c h e = ap (writes i t rs) (sym e) ∙ h

-- a tuple that does not write a place leaves it
pub write_other : (i : ℕ) (t : Tuple) (rs : List ℤ) (w : World) (l : Place) → writes i t rs l ≡ false → look (write i t rs w) l ≡ look w l
write_other i (Const v) rs w l h = cell_other w i v l (λ c e. at_cell i (Const v) rs l c h e)
write_other i (Load x) [] w l h = refl
write_other i (Load x) (r ∷ rs) w l h = cell_other w i r l (λ c e. at_cell i (Load x) (r ∷ rs) l c h e)
write_other i (Store x v) [] w l h = refl
write_other i (Store x v) (r ∷ rs) w l h = word_other w x r l (λ y e. ap (writes i (Store x v) (r ∷ rs)) (sym e) ∙ h)
write_other i (LoadEl x e) [] w l h = refl
write_other i (LoadEl x d) (r ∷ rs) w l h = cell_other w i r l (λ c e. at_cell i (LoadEl x d) (r ∷ rs) l c h e)
write_other i (StoreEl x e v) [] w l h = refl
write_other i (StoreEl x e v) (k ∷ []) w l h = refl
write_other i (StoreEl x d v) (k ∷ r ∷ rs) w l h = element_other w x k r l (λ y f e. ap (writes i (StoreEl x d v) (k ∷ r ∷ rs)) (sym e) ∙ h)
write_other i (One op a) [] w l h = refl
write_other i (One op a) (r ∷ rs) w l h = cell_other w i _ l (λ c e. at_cell i (One op a) (r ∷ rs) l c h e)
write_other i (Two op a b) [] w l h = refl
write_other i (Two op a b) (r ∷ []) w l h = refl
write_other i (Two op a b) (r ∷ q ∷ rs) w l h = cell_other w i _ l (λ c e. at_cell i (Two op a b) (r ∷ q ∷ rs) l c h e)
write_other i (Print v) [] w l h = refl
write_other i (Print v) (r ∷ rs) w (Cell c) h = refl
write_other i (Print v) (r ∷ rs) w (Variable x) h = refl
write_other i (Print v) (r ∷ rs) w (Element x k) h = refl
write_other i (Print v) (r ∷ rs) w Output h = absurd (both_ways true h refl)

-- ---- worlds of one shape
shape_at : (x : ℕ) (a b : List Content) → map shape_of a ≡ map shape_of b → ◌≡◌ {A = Option (Option ℕ)} (slice_get (map shape_of a) x) (slice_get (map shape_of b) x)
shape_at x a b e = ap (λ l. slice_get l x) e

abbrev option_shape : Option Content → Option (Option ℕ)
option_shape None = None
option_shape (Some h) = Some (shape_of h)

get_shape : (hs : List Content) (x : ℕ) → slice_get (map shape_of hs) x ≡ option_shape (slice_get hs x)
get_shape [] x = refl
get_shape (h ∷ hs) zero = refl
get_shape (h ∷ hs) (suc x) = get_shape hs x

same_option : (w v : World) → shape w ≡ shape v → (x : ℕ) → option_shape (slice_get w.memory x) ≡ option_shape (slice_get v.memory x)
same_option w v e x = sym (get_shape w.memory x) ∙ ap (λ s. slice_get s.1 x) e ∙ get_shape v.memory x

cells_same : (a b : List ℤ) (i : ℕ) (v : ℤ) (c : ℕ) → length a ≡ length b → get_or a c (pos 0) ≡ get_or b c (pos 0) → get_or (set a i v) c (pos 0) ≡ get_or (set b i v) c (pos 0)
cells_same a b i v c len e = go (cases_eq c i) (cases_lt i (length a))
  where
    go : (c ≡ i) ⊎ (c ≡ i → ⊥) → (i < length a) ⊎ (length a ≤ i) → get_or (set a i v) c (pos 0) ≡ get_or (set b i v) c (pos 0)
    go (inl q) (inl lt) = ap (λ k. get_or (set a i v) k (pos 0)) q ∙ get_or-set_same a i v (pos 0) lt ∙ sym (ap (λ k. get_or (set b i v) k (pos 0)) q ∙ get_or-set_same b i v (pos 0) (omega arith))
    go (inl q) (inr le) = ap (λ l. get_or l c (pos 0)) (set_past a i v le) ∙ e ∙ ap (λ l. get_or l c (pos 0)) (sym (set_past b i v (omega arith)))
    go (inr ne) l = get_or-set_other a i c v (pos 0) ne ∙ e ∙ sym (get_or-set_other b i c v (pos 0) ne)

cell_same : (w v : World) (i : ℕ) (r : ℤ) (l : Place) → shape w ≡ shape v → look w l ≡ look v l → look (with_cell w i r) l ≡ look (with_cell v i r) l
cell_same w v i r (Cell c) s e = ap (λ x. x ∷ []) (cells_same w.cells v.cells i r c (ap (λ p. p.0) s) (let x : cell w c ∷ [] ≡ cell v c ∷ [] = e in cc))
cell_same w v i r (Variable x) s e = e
cell_same w v i r (Element x k) s e = e
cell_same w v i r Output s e = e

word_changed : (o p : Option Content) (r : ℤ) → option_shape o ≡ option_shape p → word_of (changed (λ q. with_word q r) o) ≡ word_of (changed (λ q. with_word q r) p)
word_changed None None r e = refl
word_changed None (Some h) r e = absurd (cc)
word_changed (Some h) None r e = absurd (cc)
word_changed (Some (Word a)) (Some (Word c)) r e = refl
word_changed (Some (Word a)) (Some (Words cs)) r e = absurd (let x : Some None ≡ Some (Some (length cs)) = e in cc)
word_changed (Some (Words bs)) (Some (Word c)) r e = absurd (let x : Some (Some (length bs)) ≡ Some None = e in cc)
word_changed (Some (Words bs)) (Some (Words cs)) r e = refl

word_same : (w v : World) (x : ℕ) (r : ℤ) (l : Place) → shape w ≡ shape v → look w l ≡ look v l → look (set_word w x r) l ≡ look (set_word v x r) l
word_same w v x r l s e = pick l e
  where
    pick : (l : Place) → look w l ≡ look v l → look (set_word w x r) l ≡ look (set_word v x r) l
    pick (Variable y) e = go (cases_eq y x)
      where
        here : (u : World) → look (set_word u x r) (Variable x) ≡ word_of (changed (λ q. with_word q r) (slice_get u.memory x)) ∷ []
        here u = ap (λ o. word_of o ∷ []) (get_changed u.memory x (λ q. with_word q r))

        go : (y ≡ x) ⊎ (y ≡ x → ⊥) → look (set_word w x r) (Variable y) ≡ look (set_word v x r) (Variable y)
        go (inl q) = ap (λ z. look (set_word w x r) (Variable z)) q ∙ here w ∙ ap (λ z. z ∷ []) (word_changed _ _ r (same_option w v s x)) ∙ sym (here v) ∙ ap (λ z. look (set_word v x r) (Variable z)) (sym q)
        go (inr ne) = word_other w x r (Variable y) (λ z q. ne_eqb x z (λ a. ne (let b : y ≡ z = cc in b ∙ sym a))) ∙ e ∙ sym (word_other v x r (Variable y) (λ z q. ne_eqb x z (λ a. ne (let b : y ≡ z = cc in b ∙ sym a))))
    pick (Cell c) e = e
    pick (Element y k) e = word_other w x r (Element y k) (λ z q. absurd (cc)) ∙ e ∙ sym (word_other v x r (Element y k) (λ z q. absurd (cc)))
    pick Output e = e

element_changed : (o p : Option Content) (k r f : ℤ) → option_shape o ≡ option_shape p → element_of o f ≡ element_of p f → element_of (changed (λ q. with_element q k r) o) f ≡ element_of (changed (λ q. with_element q k r) p) f
element_changed None None k r f s e = refl
element_changed None (Some h) k r f s e = absurd (cc)
element_changed (Some h) None k r f s e = absurd (cc)
element_changed (Some (Word a)) (Some (Word c)) k r f s e = refl
element_changed (Some (Word a)) (Some (Words cs)) k r f s e = absurd (let x : Some None ≡ Some (Some (length cs)) = s in cc)
element_changed (Some (Words bs)) (Some (Word c)) k r f s e = absurd (let x : Some (Some (length bs)) ≡ Some None = s in cc)
element_changed (Some (Words bs)) (Some (Words cs)) (pos i) r (pos g) s e = cells_same bs cs i r g (let x : Some (Some (length bs)) ≡ Some (Some (length cs)) = s in cc) e
element_changed (Some (Words bs)) (Some (Words cs)) (pos i) r (negsuc g) s e = refl
element_changed (Some (Words bs)) (Some (Words cs)) (negsuc i) r f s e = e

element_same : (w v : World) (x : ℕ) (k r : ℤ) (l : Place) → shape w ≡ shape v → look w l ≡ look v l → look (set_element w x k r) l ≡ look (set_element v x k r) l
element_same w v x k r (Cell c) s e = e
element_same w v x k r (Variable y) s e = element_other w x k r (Variable y) (λ z f q. absurd (cc)) ∙ e ∙ sym (element_other v x k r (Variable y) (λ z f q. absurd (cc)))
element_same w v x k r Output s e = e
element_same w v x k r (Element y f) s e = go (cases_eq y x)
  where
    here : (u : World) → look (set_element u x k r) (Element x f) ≡ element_of (changed (λ q. with_element q k r) (slice_get u.memory x)) f ∷ []
    here u = ap (λ o. element_of o f ∷ []) (get_changed u.memory x (λ q. with_element q k r))

    go : (y ≡ x) ⊎ (y ≡ x → ⊥) → look (set_element w x k r) (Element y f) ≡ look (set_element v x k r) (Element y f)
    go (inl q) =
        let a : element_of (slice_get w.memory y) f ∷ [] ≡ element_of (slice_get v.memory y) f ∷ [] = e in
        let c : element_of (slice_get w.memory y) f ≡ element_of (slice_get v.memory y) f = cc in
        let d : element_of (slice_get w.memory x) f ≡ element_of (slice_get v.memory x) f = subst (λ z. element_of (slice_get w.memory z) f ≡ element_of (slice_get v.memory z) f) q c in
        ap (λ z. look (set_element w x k r) (Element z f)) q ∙ here w ∙ ap (λ z. z ∷ []) (element_changed _ _ k r f (same_option w v s x) d) ∙ sym (here v) ∙ ap (λ z. look (set_element v x k r) (Element z f)) (sym q)
    go (inr ne) = ap (λ o. element_of o f ∷ []) (get_set_other w.memory x y _ ne) ∙ e ∙ sym (ap (λ o. element_of o f ∷ []) (get_set_other v.memory x y _ ne))

-- one write, in two worlds of one shape that agree at a place
pub write_same : (i : ℕ) (t : Tuple) (rs : List ℤ) (w v : World) (l : Place) → shape w ≡ shape v → look w l ≡ look v l → look (write i t rs w) l ≡ look (write i t rs v) l
write_same i (Const c) rs w v l s e = cell_same w v i c l s e
write_same i (Load x) [] w v l s e = e
write_same i (Load x) (r ∷ rs) w v l s e = cell_same w v i r l s e
write_same i (Store x c) [] w v l s e = e
write_same i (Store x c) (r ∷ rs) w v l s e = word_same w v x r l s e
write_same i (LoadEl x d) [] w v l s e = e
write_same i (LoadEl x d) (r ∷ rs) w v l s e = cell_same w v i r l s e
write_same i (StoreEl x d c) [] w v l s e = e
write_same i (StoreEl x d c) (k ∷ []) w v l s e = e
write_same i (StoreEl x d c) (k ∷ r ∷ rs) w v l s e = element_same w v x k r l s e
write_same i (One op a) [] w v l s e = e
write_same i (One op a) (r ∷ rs) w v l s e = cell_same w v i _ l s e
write_same i (Two op a b) [] w v l s e = e
write_same i (Two op a b) (r ∷ []) w v l s e = e
write_same i (Two op a b) (r ∷ q ∷ rs) w v l s e = cell_same w v i _ l s e
write_same i (Print c) [] w v l s e = e
write_same i (Print c) (r ∷ rs) w v (Cell d) s e = e
write_same i (Print c) (r ∷ rs) w v (Variable x) s e = e
write_same i (Print c) (r ∷ rs) w v (Element x k) s e = e
write_same i (Print c) (r ∷ rs) w v Output s e = ap (λ out. out ++ r ∷ []) e

-- ---- two worlds that agree at every place
content_ext : (h g : Content) → shape_of h ≡ shape_of g → word_of (Some h) ≡ word_of (Some g) → ((k : ℤ) → element_of (Some h) k ≡ element_of (Some g) k) → h ≡ g
content_ext (Word a) (Word b) s w e = ap Word w
content_ext (Word a) (Words bs) s w e = absurd (cc)
content_ext (Words cs) (Word b) s w e = absurd (cc)
content_ext (Words cs) (Words bs) s w e = ap Words (ext_get_or (pos 0) cs bs (let x : Some (length cs) ≡ Some (length bs) = s in cc) (λ i lt. e (pos i)))

memory_ext : (a b : List Content) → map shape_of a ≡ map shape_of b → ((x : ℕ) → word_of (slice_get a x) ≡ word_of (slice_get b x)) → ((x : ℕ) (k : ℤ) → element_of (slice_get a x) k ≡ element_of (slice_get b x) k) → a ≡ b
memory_ext [] [] s w e = refl
memory_ext [] (g ∷ b) s w e = absurd (cc)
memory_ext (h ∷ a) [] s w e = absurd (cc)
memory_ext (h ∷ a) (g ∷ b) s w e =
    let x : shape_of h ∷ map shape_of a ≡ shape_of g ∷ map shape_of b = s in
    let y : shape_of h ≡ shape_of g = cc in let z : map shape_of a ≡ map shape_of b = cc in
    ap₂ (λ p q. p ∷ q) (content_ext h g y (w 0) (e 0)) (memory_ext a b z (λ k. w (suc k)) (λ k. e (suc k)))

single : (a b : ℤ) → a ∷ [] ≡ b ∷ [] → a ≡ b
single a b e = cc

pub world_ext : (w v : World) → shape w ≡ shape v → ((l : Place) → look w l ≡ look v l) → w ≡ v
world_ext w v s e =
    let c : w.cells ≡ v.cells = ext_get_or (pos 0) w.cells v.cells (ap (λ p. p.0) s) (λ i lt. single _ _ (e (Cell i))) in
    let m : w.memory ≡ v.memory = memory_ext w.memory v.memory (ap (λ p. p.1) s) (λ x. single _ _ (e (Variable x))) (λ x k. single _ _ (e (Element x k))) in
    let o : w.output ≡ v.output = e Output in
    let make : List ℤ → List Content → List ℤ → World = λ a b d. record { cells = a; memory = b; output = d } in
    ap (λ a. make a w.memory w.output) c ∙ ap (λ b. make v.cells b w.output) m ∙ ap (make v.cells v.memory) o
