-- The serial meaning of blocks: its output only grows, and what has ended stays.
use Rattle.std.proofs.Common.{◌≡◌, ℕ, zero, suc, ◌+◌, ◌≤◌, true, List, [], ◌∷◌, ◌++◌, length, Option, Some, None, slice_get, ℤ, pos, refl, sym, ap, ◌∙◌, subst, arith, append_assoc, append-nil}
use Rattle.std.proofs.lemmas.Bool.{both_ways}
use Rattle.std.proofs.lemmas.List.{length-replicate}
use Rattle.std.proofs.lemmas.Option.{slice_get_past}
use Rattle.bm_base.specs.Memory.{Content}
use Rattle.bm_base.specs.Prefix.{IsPrefixOf}
use Rattle.tuple_ir.specs.declared.tuple.Tuple.{Tuple}
use Rattle.tuple_ir.specs.declared.tuple.Tuple.TheVariants.{Const, Load, Store, LoadEl, StoreEl, One, Two, Print}
use Rattle.tuple_ir.specs.declared.block.Block.{Block}
use Rattle.tuple_ir.specs.World.{World, serial, do_tuple, write, reads}
use Rattle.tuple_ir.specs.Serial.{block_at, one_block, outcome}
use Rattle.tuple_ir.proofs.WorldFacts.{Place}
use Rattle.tuple_ir.proofs.Serial.{Writes, writes_some, serial_shape}

-- no tuple stands past the last
pub no_writer : (ts : List Tuple) (w : World) (l : Place) (i : ℕ) → length ts ≤ i → Writes ts w i l → ⊥
no_writer ts w l i le h = both_ways true (sym (ap (λ o. writes_some i o (serial ts w i) l) (sym (slice_get_past ts i le)) ∙ h)) refl

-- ---- the output only grows
pub prefix_trans : (a b c : List ℤ) → IsPrefixOf a b → IsPrefixOf b c → IsPrefixOf a c
prefix_trans a b c (x, e) (y, f) = (x ++ y, sym (append_assoc a x y) ∙ ap (λ l. l ++ y) e ∙ f)

pub prefix_refl : (a : List ℤ) → IsPrefixOf a a
prefix_refl a = ([], append-nil a)

pub write_grows : (i : ℕ) (t : Tuple) (operands : List ℤ) (w : World) → IsPrefixOf w.output (write i t operands w).output
write_grows i (Const v) operands w = prefix_refl w.output
write_grows i (Load x) [] w = prefix_refl w.output
write_grows i (Load x) (r ∷ operands) w = prefix_refl w.output
write_grows i (Store x v) [] w = prefix_refl w.output
write_grows i (Store x v) (r ∷ operands) w = prefix_refl w.output
write_grows i (LoadEl x e) [] w = prefix_refl w.output
write_grows i (LoadEl x e) (r ∷ operands) w = prefix_refl w.output
write_grows i (StoreEl x e v) [] w = prefix_refl w.output
write_grows i (StoreEl x e v) (k ∷ []) w = prefix_refl w.output
write_grows i (StoreEl x e v) (k ∷ r ∷ operands) w = prefix_refl w.output
write_grows i (One op a) [] w = prefix_refl w.output
write_grows i (One op a) (r ∷ operands) w = prefix_refl w.output
write_grows i (Two op a b) [] w = prefix_refl w.output
write_grows i (Two op a b) (r ∷ []) w = prefix_refl w.output
write_grows i (Two op a b) (r ∷ q ∷ operands) w = prefix_refl w.output
write_grows i (Print v) [] w = prefix_refl w.output
write_grows i (Print v) (r ∷ operands) w = (r ∷ [], refl)

do_grows : (i : ℕ) (o : Option Tuple) (w : World) → IsPrefixOf w.output (do_tuple i o w).output
do_grows i None w = prefix_refl w.output
do_grows i (Some t) w = write_grows i t (reads t w) w

pub serial_grows : (ts : List Tuple) (w : World) (n d : ℕ) → IsPrefixOf (serial ts w n).output (serial ts w (n + d)).output
serial_grows ts w n zero = let e : n ≡ n + 0 = omega arith in subst (λ k. IsPrefixOf (serial ts w n).output (serial ts w k).output) e (prefix_refl (serial ts w n).output)
serial_grows ts w n (suc d) = let e : suc (n + d) ≡ n + suc d = omega arith in subst (λ k. IsPrefixOf (serial ts w n).output (serial ts w k).output) e (prefix_trans _ _ _ (serial_grows ts w n d) (do_grows (n + d) (slice_get ts (n + d)) (serial ts w (n + d))))

block_grows : (blocks : List Block) (o : Option ℕ) (w : World) (trail : List ℕ) → IsPrefixOf w.output (one_block blocks o w trail).world.output
block_grows blocks None w trail = prefix_refl w.output
block_grows blocks (Some b) w trail = let e : 0 + length (block_at blocks b).tuples ≡ length (block_at blocks b).tuples = omega arith in subst (λ k. IsPrefixOf w.output (serial (block_at blocks b).tuples w k).output) e (serial_grows (block_at blocks b).tuples w 0 (length (block_at blocks b).tuples))

pub outcome_grows : (blocks : List Block) (memory : List Content) (n d : ℕ) → IsPrefixOf (outcome blocks memory n).world.output (outcome blocks memory (n + d)).world.output
outcome_grows blocks memory n zero = let e : n ≡ n + 0 = omega arith in subst (λ k. IsPrefixOf (outcome blocks memory n).world.output (outcome blocks memory k).world.output) e (prefix_refl (outcome blocks memory n).world.output)
outcome_grows blocks memory n (suc d) = let e : suc (n + d) ≡ n + suc d = omega arith in subst (λ k. IsPrefixOf (outcome blocks memory n).world.output (outcome blocks memory k).world.output) e (prefix_trans _ _ _ (outcome_grows blocks memory n d) (block_grows blocks (outcome blocks memory (n + d)).next (outcome blocks memory (n + d)).world (outcome blocks memory (n + d)).trail))

-- what has ended stays
pub ended_stays : (blocks : List Block) (memory : List Content) (n d : ℕ) → (outcome blocks memory n).next ≡ None → ((outcome blocks memory (n + d)).next ≡ None) × ((outcome blocks memory (n + d)).world ≡ (outcome blocks memory n).world)
ended_stays blocks memory n zero e = let q : n ≡ n + 0 = omega arith in (ap (λ k. (outcome blocks memory k).next) (sym q) ∙ e, ap (λ k. (outcome blocks memory k).world) (sym q))
ended_stays blocks memory n (suc d) e =
    let q : n + suc d ≡ suc (n + d) = omega arith in
    let (x, y) = ended_stays blocks memory n d e in
    (ap (λ k. (outcome blocks memory k).next) q ∙ ap (λ o. (one_block blocks o (outcome blocks memory (n + d)).world (outcome blocks memory (n + d)).trail).next) x, ap (λ k. (outcome blocks memory k).world) q ∙ ap (λ o. (one_block blocks o (outcome blocks memory (n + d)).world (outcome blocks memory (n + d)).trail).world) x ∙ y)

pub outcome_room : (blocks : List Block) (memory : List Content) (n : ℕ) → length (outcome blocks memory n).world.cells ≡ 128
outcome_room blocks memory zero = length-replicate 128 (pos 0)
outcome_room blocks memory (suc n) = go (outcome blocks memory n).next (outcome blocks memory n).world (outcome_room blocks memory n)
  where
    go : (o : Option ℕ) (w : World) → length w.cells ≡ 128 → length (one_block blocks o w (outcome blocks memory n).trail).world.cells ≡ 128
    go None w e = e
    go (Some b) w e = ap (λ p. p.0) (serial_shape (block_at blocks b).tuples w (length (block_at blocks b).tuples)) ∙ e
