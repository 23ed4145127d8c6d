-- The serial meaning of a block, place by place, and which writes and reads conflict.
use Rattle.std.proofs.Common.{◌≡◌, ℕ, zero, suc, ◌+◌, ◌-◌, ◌<◌, ◌≤◌, Bool, true, false, not, ◌&&◌, ◌||◌, List, [], ◌∷◌, length, Option, Some, None, slice_get, ℤ, pos, nat_eq, refl, sym, ap, ◌∙◌, arith, ◌⊎◌, inl, inr, get_or-set_same}
use Rattle.std.specs.Ordering.{int_eq}
use Rattle.std.proofs.lemmas.Bool.{both_ways, eqb-true, eq-eqb, and_parts, and_from, or_left, or_right, false_from_ne_true}
use Rattle.std.proofs.lemmas.Bool.Decides.{Decides-int_eq}
use Rattle.std.proofs.lemmas.Option.{slice_get_within}
use Rattle.tuple_ir.specs.declared.tuple.Tuple.{Tuple}
use Rattle.tuple_ir.specs.declared.tuple.Tuple.TheVariants.{Const, Load, Store, LoadEl, StoreEl, One, Two, Print}
use Rattle.tuple_ir.specs.Conflict.{uses, are_apart, clash, Conflict}
use Rattle.tuple_ir.specs.Operands.{HasEarlyOperands}
use Rattle.tuple_ir.specs.World.{World, cell, reads, do_tuple, serial}
use Rattle.tuple_ir.proofs.WorldFacts.{Place, Cell, Variable, Element, Output, look, shape, writes, write_shape, write_other}

-- the places that a tuple reads, by the cells of a world
abbrev pub IsRead : Tuple → World → Place → Type 0
IsRead (Const v) w l = ⊥
IsRead (Load x) w l = l ≡ Variable x
IsRead (Store x v) w l = l ≡ Cell v
IsRead (LoadEl x e) w l = (l ≡ Cell e) ⊎ (l ≡ Element x (cell w e))
IsRead (StoreEl x e v) w l = (l ≡ Cell e) ⊎ (l ≡ Cell v)
IsRead (One op a) w l = l ≡ Cell a
IsRead (Two op a b) w l = (l ≡ Cell a) ⊎ (l ≡ Cell b)
IsRead (Print v) w l = l ≡ Cell v

head_same : (a b : ℤ) → a ∷ [] ≡ b ∷ [] → a ≡ b
head_same a b e = cc

-- two worlds that agree where a tuple reads give it the same
pub reads_same : (t : Tuple) (w v : World) → ((l : Place) → IsRead t v l → look w l ≡ look v l) → reads t w ≡ reads t v
reads_same (Const c) w v h = refl
reads_same (Load x) w v h = h (Variable x) refl
reads_same (Store x c) w v h = h (Cell c) refl
reads_same (LoadEl x e) w v h =
    let a : cell w e ≡ cell v e = head_same _ _ (h (Cell e) (inl refl)) in
    let b : look w (Element x (cell v e)) ≡ look v (Element x (cell v e)) = h (Element x (cell v e)) (inr refl) in
    ap (λ k. look w (Element x k)) a ∙ b
reads_same (StoreEl x e c) w v h =
    let a : cell w e ≡ cell v e = head_same _ _ (h (Cell e) (inl refl)) in
    let b : cell w c ≡ cell v c = head_same _ _ (h (Cell c) (inr refl)) in cc
reads_same (One op a) w v h = h (Cell a) refl
reads_same (Two op a b) w v h =
    let c : cell w a ≡ cell v a = head_same _ _ (h (Cell a) (inl refl)) in
    let d : cell w b ≡ cell v b = head_same _ _ (h (Cell b) (inr refl)) in cc
reads_same (Print c) w v h = h (Cell c) refl

-- tuple number i of a block writes a place, in the serial meaning from w
abbrev pub writes_some : ℕ → Option Tuple → World → Place → Bool
writes_some i None w l = false
writes_some i (Some t) w l = writes i t (reads t w) l

abbrev pub Writes : List Tuple → World → ℕ → Place → Type 0
Writes ts w i l = writes_some i (slice_get ts i) (serial ts w i) l ≡ true

do_shape : (i : ℕ) (o : Option Tuple) (w : World) → shape (do_tuple i o w) ≡ shape w
do_shape i None w = refl
do_shape i (Some t) w = write_shape i t (reads t w) w

pub serial_shape : (ts : List Tuple) (w : World) (n : ℕ) → shape (serial ts w n) ≡ shape w
serial_shape ts w zero = refl
serial_shape ts w (suc n) = do_shape n (slice_get ts n) (serial ts w n) ∙ serial_shape ts w n

do_other : (i : ℕ) (o : Option Tuple) (w : World) (l : Place) → writes_some i o w l ≡ false → look (do_tuple i o w) l ≡ look w l
do_other i None w l e = refl
do_other i (Some t) w l e = write_other i t (reads t w) w l e

-- a place that no tuple from a up to b writes stays
pub serial_same : (ts : List Tuple) (w : World) (l : Place) (a d : ℕ) → ((i : ℕ) → a ≤ i → i < a + d → Writes ts w i l → ⊥) → look (serial ts w (a + d)) l ≡ look (serial ts w a) l
serial_same ts w l a zero h = let e : a + 0 ≡ a = omega arith in ap (λ n. look (serial ts w n) l) e
serial_same ts w l a (suc d) h =
    let e : a + suc d ≡ suc (a + d) = omega arith in
    ap (λ n. look (serial ts w n) l) e
    ∙ do_other (a + d) (slice_get ts (a + d)) (serial ts w (a + d)) l (false_from_ne_true _ (h (a + d) (omega arith) (omega arith)))
    ∙ serial_same ts w l a d (λ i lo hi. h i lo (omega arith))

-- ---- who writes a place
cell_writer : (i : ℕ) (o : Option Tuple) (w : World) (c : ℕ) → writes_some i o w (Cell c) ≡ true → i ≡ c
cell_writer i None w c e = absurd (both_ways true (sym e) refl)
cell_writer i (Some (Const v)) w c e = eqb-true i c e
cell_writer i (Some (Load x)) w c e = eqb-true i c e
cell_writer i (Some (Store x v)) w c e = absurd (both_ways true (sym e) refl)
cell_writer i (Some (LoadEl x d)) w c e = eqb-true i c e
cell_writer i (Some (StoreEl x d v)) w c e = absurd (both_ways true (sym e) refl)
cell_writer i (Some (One op a)) w c e = eqb-true i c e
cell_writer i (Some (Two op a b)) w c e = eqb-true i c e
cell_writer i (Some (Print v)) w c e = absurd (both_ways true (sym e) refl)

variable_writer : (i : ℕ) (o : Option Tuple) (w : World) (x : ℕ) → writes_some i o w (Variable x) ≡ true → (v : ℕ) × (o ≡ Some (Store x v))
variable_writer i None w x e = absurd (both_ways true (sym e) refl)
variable_writer i (Some (Const v)) w x e = absurd (both_ways true (sym e) refl)
variable_writer i (Some (Load y)) w x e = absurd (both_ways true (sym e) refl)
variable_writer i (Some (Store y v)) w x e = (v, ap (λ z. Some (Store z v)) (eqb-true y x e))
variable_writer i (Some (LoadEl y d)) w x e = absurd (both_ways true (sym e) refl)
variable_writer i (Some (StoreEl y d v)) w x e = absurd (both_ways true (sym e) refl)
variable_writer i (Some (One op a)) w x e = absurd (both_ways true (sym e) refl)
variable_writer i (Some (Two op a b)) w x e = absurd (both_ways true (sym e) refl)
variable_writer i (Some (Print v)) w x e = absurd (both_ways true (sym e) refl)

element_writer : (i : ℕ) (o : Option Tuple) (w : World) (x : ℕ) (k : ℤ) → writes_some i o w (Element x k) ≡ true → (d v : ℕ) × (o ≡ Some (StoreEl x d v)) × (cell w d ≡ k)
element_writer i None w x k e = absurd (both_ways true (sym e) refl)
element_writer i (Some (Const v)) w x k e = absurd (both_ways true (sym e) refl)
element_writer i (Some (Load y)) w x k e = absurd (both_ways true (sym e) refl)
element_writer i (Some (Store y v)) w x k e = absurd (both_ways true (sym e) refl)
element_writer i (Some (LoadEl y d)) w x k e = absurd (both_ways true (sym e) refl)
element_writer i (Some (StoreEl y d v)) w x k e = let (a, b) = and_parts (nat_eq y x) (int_eq (cell w d) k) e in (d, v, ap (λ z. Some (StoreEl z d v)) (eqb-true y x a), (Decides-int_eq (cell w d) k).0 b)
element_writer i (Some (One op a)) w x k e = absurd (both_ways true (sym e) refl)
element_writer i (Some (Two op a b)) w x k e = absurd (both_ways true (sym e) refl)
element_writer i (Some (Print v)) w x k e = absurd (both_ways true (sym e) refl)

output_writer : (i : ℕ) (o : Option Tuple) (w : World) → writes_some i o w Output ≡ true → (v : ℕ) × (o ≡ Some (Print v))
output_writer i None w e = absurd (both_ways true (sym e) refl)
output_writer i (Some (Const v)) w e = absurd (both_ways true (sym e) refl)
output_writer i (Some (Load y)) w e = absurd (both_ways true (sym e) refl)
output_writer i (Some (Store y v)) w e = absurd (both_ways true (sym e) refl)
output_writer i (Some (LoadEl y d)) w e = absurd (both_ways true (sym e) refl)
output_writer i (Some (StoreEl y d v)) w e = absurd (both_ways true (sym e) refl)
output_writer i (Some (One op a)) w e = absurd (both_ways true (sym e) refl)
output_writer i (Some (Two op a b)) w e = absurd (both_ways true (sym e) refl)
output_writer i (Some (Print v)) w e = (v, refl)

-- ---- who reads a place
cell_reader : (t : Tuple) (w : World) (c : ℕ) → IsRead t w (Cell c) → uses t c ≡ true
cell_reader (Const v) w c r = absurd r
cell_reader (Load x) w c r = absurd (let n : Cell c ≡ Variable x = r in cc)
cell_reader (Store x v) w c r = eq-eqb v c (let n : Cell c ≡ Cell v = r in cc)
cell_reader (LoadEl x e) w c (inl r) = eq-eqb e c (let n : Cell c ≡ Cell e = r in cc)
cell_reader (LoadEl x e) w c (inr r) = absurd (let n : Cell c ≡ Element x (cell w e) = r in cc)
cell_reader (StoreEl x e v) w c (inl r) = or_left (nat_eq e c) (nat_eq v c) (eq-eqb e c (let n : Cell c ≡ Cell e = r in cc))
cell_reader (StoreEl x e v) w c (inr r) = or_right (nat_eq e c) (nat_eq v c) (eq-eqb v c (let n : Cell c ≡ Cell v = r in cc))
cell_reader (One op a) w c r = eq-eqb a c (let n : Cell c ≡ Cell a = r in cc)
cell_reader (Two op a b) w c (inl r) = or_left (nat_eq a c) (nat_eq b c) (eq-eqb a c (let n : Cell c ≡ Cell a = r in cc))
cell_reader (Two op a b) w c (inr r) = or_right (nat_eq a c) (nat_eq b c) (eq-eqb b c (let n : Cell c ≡ Cell b = r in cc))
cell_reader (Print v) w c r = eq-eqb v c (let n : Cell c ≡ Cell v = r in cc)

variable_reader : (t : Tuple) (w : World) (x : ℕ) → IsRead t w (Variable x) → t ≡ Load x
variable_reader (Const v) w x r = absurd r
variable_reader (Load y) w x r = let n : Variable x ≡ Variable y = r in let z : y ≡ x = cc in ap Load z
variable_reader (Store y v) w x r = absurd (let n : Variable x ≡ Cell v = r in cc)
variable_reader (LoadEl y e) w x (inl r) = absurd (let n : Variable x ≡ Cell e = r in cc)
variable_reader (LoadEl y e) w x (inr r) = absurd (let n : Variable x ≡ Element y (cell w e) = r in cc)
variable_reader (StoreEl y e v) w x (inl r) = absurd (let n : Variable x ≡ Cell e = r in cc)
variable_reader (StoreEl y e v) w x (inr r) = absurd (let n : Variable x ≡ Cell v = r in cc)
variable_reader (One op a) w x r = absurd (let n : Variable x ≡ Cell a = r in cc)
variable_reader (Two op a b) w x (inl r) = absurd (let n : Variable x ≡ Cell a = r in cc)
variable_reader (Two op a b) w x (inr r) = absurd (let n : Variable x ≡ Cell b = r in cc)
variable_reader (Print v) w x r = absurd (let n : Variable x ≡ Cell v = r in cc)

element_reader : (t : Tuple) (w : World) (x : ℕ) (k : ℤ) → IsRead t w (Element x k) → (e : ℕ) × (t ≡ LoadEl x e) × (cell w e ≡ k)
element_reader (Const v) w x k r = absurd r
element_reader (Load y) w x k r = absurd (let n : Element x k ≡ Variable y = r in cc)
element_reader (Store y v) w x k r = absurd (let n : Element x k ≡ Cell v = r in cc)
element_reader (LoadEl y e) w x k (inl r) = absurd (let n : Element x k ≡ Cell e = r in cc)
element_reader (LoadEl y e) w x k (inr r) = let n : Element x k ≡ Element y (cell w e) = r in let z : y ≡ x = cc in (e, ap (λ u. LoadEl u e) z, let u : cell w e ≡ k = cc in u)
element_reader (StoreEl y e v) w x k (inl r) = absurd (let n : Element x k ≡ Cell e = r in cc)
element_reader (StoreEl y e v) w x k (inr r) = absurd (let n : Element x k ≡ Cell v = r in cc)
element_reader (One op a) w x k r = absurd (let n : Element x k ≡ Cell a = r in cc)
element_reader (Two op a b) w x k (inl r) = absurd (let n : Element x k ≡ Cell a = r in cc)
element_reader (Two op a b) w x k (inr r) = absurd (let n : Element x k ≡ Cell b = r in cc)
element_reader (Print v) w x k r = absurd (let n : Element x k ≡ Cell v = r in cc)

no_output : (t : Tuple) (w : World) → IsRead t w Output → ⊥
no_output (Const v) w r = r
no_output (Load y) w r = let n : Output ≡ Variable y = r in cc
no_output (Store y v) w r = let n : Output ≡ Cell v = r in cc
no_output (LoadEl y e) w (inl r) = let n : Output ≡ Cell e = r in cc
no_output (LoadEl y e) w (inr r) = let n : Output ≡ Element y (cell w e) = r in cc
no_output (StoreEl y e v) w (inl r) = let n : Output ≡ Cell e = r in cc
no_output (StoreEl y e v) w (inr r) = let n : Output ≡ Cell v = r in cc
no_output (One op a) w r = let n : Output ≡ Cell a = r in cc
no_output (Two op a b) w (inl r) = let n : Output ≡ Cell a = r in cc
no_output (Two op a b) w (inr r) = let n : Output ≡ Cell b = r in cc
no_output (Print v) w r = let n : Output ≡ Cell v = r in cc

module _ (ts : List Tuple) (good : HasEarlyOperands ts) (w : World) (room : length w.cells ≡ 128) where
  cells_long : (n : ℕ) → length (serial ts w n).cells ≡ 128
  cells_long n = ap (λ p. p.0) (serial_shape ts w n) ∙ room

  -- the cell of a constant holds its value behind it
  const_cell : (e : ℕ) (v : ℤ) → slice_get ts e ≡ Some (Const v) → (n : ℕ) → e < n → cell (serial ts w n) e ≡ v
  const_cell e v is n lt =
      let d : suc e + (n - suc e) ≡ n = omega arith in
      let stays = serial_same ts w (Cell e) (suc e) (n - suc e) (λ i lo hi h. let x = cell_writer i (slice_get ts i) (serial ts w i) e h in omega arith) in
      let first : cell (serial ts w (suc e)) e ≡ v = ap (λ o. cell (do_tuple e o (serial ts w e)) e) is ∙ get_or-set_same (serial ts w e).cells e v (pos 0) (let x = slice_get_within ts e (Const v) is in let y = good.few in omega (arith, cells_long e)) in
      ap (λ k. cell (serial ts w k) e) (sym d) ∙ head_same _ _ stays ∙ first

  not_apart : (e f : ℕ) (k : ℤ) (a b : ℕ) → e < a → f < b → cell (serial ts w a) e ≡ k → cell (serial ts w b) f ≡ k → are_apart (slice_get ts e) (slice_get ts f) ≡ false
  not_apart e f k a b la lb ea eb = go (slice_get ts e) (slice_get ts f) refl refl
    where
      go : (o p : Option Tuple) → slice_get ts e ≡ o → slice_get ts f ≡ p → are_apart o p ≡ false
      go (Some (Const v)) (Some (Const u)) eo ep = ap not ((Decides-int_eq v u).1 (sym (const_cell e v eo a la) ∙ ea ∙ sym eb ∙ const_cell f u ep b lb))
      go (Some (Const v)) None eo ep = refl
      go (Some (Const v)) (Some (Load x)) eo ep = refl
      go (Some (Const v)) (Some (Store x c)) eo ep = refl
      go (Some (Const v)) (Some (LoadEl x c)) eo ep = refl
      go (Some (Const v)) (Some (StoreEl x c d)) eo ep = refl
      go (Some (Const v)) (Some (One op c)) eo ep = refl
      go (Some (Const v)) (Some (Two op c d)) eo ep = refl
      go (Some (Const v)) (Some (Print c)) eo ep = refl
      go None p eo ep = refl
      go (Some (Load x)) p eo ep = refl
      go (Some (Store x c)) p eo ep = refl
      go (Some (LoadEl x c)) p eo ep = refl
      go (Some (StoreEl x c d)) p eo ep = refl
      go (Some (One op c)) p eo ep = refl
      go (Some (Two op c d)) p eo ep = refl
      go (Some (Print c)) p eo ep = refl

  by_clash : (a b : ℕ) (s t : Tuple) → a < b → slice_get ts a ≡ Some s → slice_get ts b ≡ Some t → clash ts a (Some s) (Some t) ≡ true → Conflict ts a b
  by_clash a b s t lt ea eb c = record { before = lt; shared = ap (λ o. clash ts a o (slice_get ts b)) ea ∙ ap (λ o. clash ts a (Some s) o) eb ∙ c }

  -- two writes of one place conflict
  pub writes_conflict : (i j : ℕ) (l : Place) → i < j → Writes ts w i l → Writes ts w j l → Conflict ts i j
  writes_conflict i j (Cell c) lt a b = absurd (let x = cell_writer i _ _ c a in let y = cell_writer j _ _ c b in omega arith)
  writes_conflict i j (Variable x) lt a b =
      let (v, ev) = variable_writer i _ _ x a in let (u, eu) = variable_writer j _ _ x b in
      by_clash i j (Store x v) (Store x u) lt ev eu (or_left _ _ (or_left _ _ (or_right (nat_eq u i) (nat_eq x x) (eq-eqb x x refl))))
  writes_conflict i j (Element x k) lt a b =
      let (e, v, ev, ek) = element_writer i _ _ x k a in let (f, u, eu, fk) = element_writer j _ _ x k b in
      let le = good.early i e (StoreEl x e v) ev (or_left _ _ (eq-eqb e e refl)) in
      let lf = good.early j f (StoreEl x f u) eu (or_left _ _ (eq-eqb f f refl)) in
      by_clash i j (StoreEl x e v) (StoreEl x f u) lt ev eu (or_left _ _ (or_right (uses (StoreEl x f u) i || false) (nat_eq x x && not (are_apart (slice_get ts e) (slice_get ts f))) (and_from _ _ (eq-eqb x x refl) (ap not (not_apart e f k i j le lf ek fk)))))
  writes_conflict i j Output lt a b =
      let (v, ev) = output_writer i _ _ a in let (u, eu) = output_writer j _ _ b in
      by_clash i j (Print v) (Print u) lt ev eu (or_right (nat_eq u i || false || false) true refl)

  -- a write and a later read
  pub read_conflict : (i j : ℕ) (t : Tuple) (l : Place) → i < j → Writes ts w i l → slice_get ts j ≡ Some t → IsRead t (serial ts w j) l → Conflict ts i j
  read_conflict i j t (Cell c) lt a et r = go (slice_get ts i) refl
    where
      go : (o : Option Tuple) → slice_get ts i ≡ o → Conflict ts i j
      go None eo = absurd (both_ways true (sym (ap (λ o. writes_some i o (serial ts w i) (Cell c)) (sym eo) ∙ a)) refl)
      go (Some s) eo = by_clash i j s t lt eo et (or_left _ _ (or_left _ _ (or_left _ _ (ap (uses t) (cell_writer i _ _ c a) ∙ cell_reader t (serial ts w j) c r))))
  read_conflict i j t (Variable x) lt a et r =
      let (v, ev) = variable_writer i _ _ x a in let q = variable_reader t (serial ts w j) x r in
      by_clash i j (Store x v) (Load x) lt ev (et ∙ ap Some q) (or_left _ _ (or_left _ _ (or_right false (nat_eq x x) (eq-eqb x x refl))))
  read_conflict i j t (Element x k) lt a et r =
      let (e, v, ev, ek) = element_writer i _ _ x k a in let (f, q, fk) = element_reader t (serial ts w j) x k r in
      let le = good.early i e (StoreEl x e v) ev (or_left _ _ (eq-eqb e e refl)) in
      let lf = good.early j f (LoadEl x f) (et ∙ ap Some q) (eq-eqb f f refl) in
      by_clash i j (StoreEl x e v) (LoadEl x f) lt ev (et ∙ ap Some q) (or_left _ _ (or_right (uses (LoadEl x f) i || false) (nat_eq x x && not (are_apart (slice_get ts e) (slice_get ts f))) (and_from _ _ (eq-eqb x x refl) (ap not (not_apart e f k i j le lf ek fk)))))
  read_conflict i j t Output lt a et r = absurd (no_output t (serial ts w j) r)

  -- a read and a later write
  pub write_conflict : (i j : ℕ) (t : Tuple) (l : Place) → i < j → slice_get ts i ≡ Some t → IsRead t (serial ts w i) l → Writes ts w j l → Conflict ts i j
  write_conflict i j t (Cell c) lt et r a = absurd (let x = cell_writer j _ _ c a in let y = good.early i c t et (cell_reader t (serial ts w i) c r) in omega arith)
  write_conflict i j t (Variable x) lt et r a =
      let (v, ev) = variable_writer j _ _ x a in let q = variable_reader t (serial ts w i) x r in
      by_clash i j (Load x) (Store x v) lt (et ∙ ap Some q) ev (or_left _ _ (or_left _ _ (or_right (nat_eq v i) (nat_eq x x) (eq-eqb x x refl))))
  write_conflict i j t (Element x k) lt et r a =
      let (e, v, ev, ek) = element_writer j _ _ x k a in let (f, q, fk) = element_reader t (serial ts w i) x k r in
      let le = good.early j e (StoreEl x e v) ev (or_left _ _ (eq-eqb e e refl)) in
      let lf = good.early i f (LoadEl x f) (et ∙ ap Some q) (eq-eqb f f refl) in
      by_clash i j (LoadEl x f) (StoreEl x e v) lt (et ∙ ap Some q) ev (or_left _ _ (or_right (uses (StoreEl x e v) i || false) (nat_eq x x && not (are_apart (slice_get ts f) (slice_get ts e))) (and_from _ _ (eq-eqb x x refl) (ap not (not_apart f e k i j lf le fk ek)))))
  write_conflict i j t Output lt et r a = absurd (no_output t (serial ts w i) r)
