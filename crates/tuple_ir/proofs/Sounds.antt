-- What a sound tuple takes.
use Rattle.std.proofs.Common.{◌≡◌, ℕ, true, ◌||◌, List, nat_eq, subst, sym, refl, inl, inr}
use Rattle.std.proofs.lemmas.Bool.{both_ways, eqb-true, or_cases}
use Rattle.bm_base.specs.Entry.{Entry}
use Rattle.tuple_ir.specs.declared.block.Block.{Block}
use Rattle.tuple_ir.specs.declared.tuple.Tuple.{Tuple}
use Rattle.tuple_ir.specs.declared.tuple.Tuple.TheVariants.{Const, Load, Store, LoadEl, StoreEl, One, Two, Print}
use Rattle.tuple_ir.specs.Conflict.{uses}
use Rattle.tuple_ir.specs.Operands.{HasEarlyOperands}
use Rattle.tuple_ir.specs.Sound.{IsValueBefore, IsTupleSound, IsBlockSound}

one_cell : (ts : List Tuple) (i a c : ℕ) → IsValueBefore ts i a → nat_eq a c ≡ true → IsValueBefore ts i c
one_cell ts i a c h u = subst (IsValueBefore ts i) (eqb-true a c u) h

two_cells : (ts : List Tuple) (i a b c : ℕ) → IsValueBefore ts i a → IsValueBefore ts i b → (nat_eq a c || nat_eq b c) ≡ true → IsValueBefore ts i c
two_cells ts i a b c h k u = elim (or_cases (nat_eq a c) (nat_eq b c) u) [ inl e ↦ one_cell ts i a c h e | inr e ↦ one_cell ts i b c k e ]

-- each cell that a sound tuple uses is that of an earlier value
pub uses_sound : (names : List Entry) (ts : List Tuple) (i : ℕ) (t : Tuple) → IsTupleSound names ts i t → (c : ℕ) → uses t c ≡ true → IsValueBefore ts i c
uses_sound names ts i (Const v) h c u = absurd (both_ways true (sym u) refl)
uses_sound names ts i (Load x) h c u = absurd (both_ways true (sym u) refl)
uses_sound names ts i (Store x v) h c u = one_cell ts i v c h.each.1.0 u
uses_sound names ts i (LoadEl x e) h c u = one_cell ts i e c h.each.1.0 u
uses_sound names ts i (StoreEl x e v) h c u = two_cells ts i e v c h.each.1.0 h.each.1.1.0 u
uses_sound names ts i (One op a) h c u = one_cell ts i a c h.each.0 u
uses_sound names ts i (Two op a b) h c u = two_cells ts i a b c h.each.0 h.each.1.0 u
uses_sound names ts i (Print v) h c u = one_cell ts i v c h.each.0 u

-- the operands of a sound block are early
pub early_operands : (names : List Entry) (blocks : ℕ) (block : Block) → IsBlockSound names blocks block → HasEarlyOperands block.tuples
early_operands names blocks block h = record { few = h.few; early = λ i c t at u. (uses_sound names block.tuples i t (h.each i t at) c u).0 }
