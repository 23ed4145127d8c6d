-- Lines that bounds can be made of are sound.
use Rattle.std.proofs.Common.{◌≡◌, ℕ, zero, suc, true, nat_eq, List, [], ◌∷◌, ◌<◌, length, All, Contains, Some, slice_get, sym, subst, eqb-true, ◌⊎◌, inl, inr}
use Rattle.std.proofs.lemmas.List.Elements.{All-head, All-tail}
use Rattle.bm_base.specs.Mask.{has_bit}
use Rattle.line_model.specs.declared.line.Item.{Item}
use Rattle.line_model.specs.declared.line.Item.TheVariants.{Run, Bar}
use Rattle.line_model.specs.declared.line.StreamItem.TheVariants.{Do, Wait}
use Rattle.line_model.specs.Streams.{stream, masks, counted}
use Rattle.line_model.specs.Order.{StandsAt}
use Rattle.line_model.proofs.LineFacts.{item_front}
use Rattle.tuple_ir.specs.Sound.{IsBlockSound}
use Rattle.unit_law.specs.State.{Code, Program}
use Rattle.unit_law.specs.Fit.{IsFit}
use Rattle.unit_law.specs.Sound.{IsCodeSound, block_of}
use Rattle.time_interval.specs.Bounds.{front_of_run, processor_of}
use Rattle.time_interval.specs.Lines.{IsItem, IsLine, tuples}
use Rattle.time_interval.proofs.Once.{own_some, stand_once, split_at, any_of_contains}

-- a mask of the queue is an item of the line
mask_item : (n m : ℕ) (items : List Item) (j mask : ℕ) → All (IsItem n m) items → slice_get (masks items) j ≡ Some mask → IsItem n m (Bar mask)
mask_item n m [] j mask h e = absurd (cc)
mask_item n m (Run q t ∷ items) j mask h e = mask_item n m items j mask (All-tail (IsItem n m) (Run q t) items h) e
mask_item n m (Bar o ∷ items) zero mask h e = let x : o ≡ mask = cc in subst (λ v. IsItem n m (Bar v)) x (All-head (IsItem n m) (Bar o) items h)
mask_item n m (Bar o ∷ items) (suc j) mask h e = mask_item n m items j mask (All-tail (IsItem n m) (Bar o) items h) e

-- a tuple of a stream is one of the line's, on this processor
run_item : (n m : ℕ) (items : List Item) (p k t : ℕ) → All (IsItem n m) items → slice_get (stream p items) k ≡ Some (Do t) → IsItem n m (Run p t)
run_item n m [] p k t h e = absurd (cc)
run_item n m (Run q u ∷ items) p k t h e = go (own_some (nat_eq q p) (Do u) (stream p items) k (Do t) e) (λ i. run_item n m items p i t (All-tail (IsItem n m) (Run q u) items h))
  where
    go : ((nat_eq q p ≡ true) × (k ≡ 0) × (Do u ≡ Do t)) ⊎ ((i : ℕ) × (slice_get (stream p items) i ≡ Some (Do t)) × (k ≡ counted (nat_eq q p) i)) → ((i : ℕ) → slice_get (stream p items) i ≡ Some (Do t) → IsItem n m (Run p t)) → IsItem n m (Run p t)
    go (inl (b, z, d)) r = let s : u ≡ t = cc in subst (λ v. IsItem n m (Run p v)) s (subst (λ v. IsItem n m (Run v u)) (eqb-true q p b) (All-head (IsItem n m) (Run q u) items h))
    go (inr (i, s, c)) r = r i s
run_item n m (Bar o ∷ items) p k t h e = go (own_some (has_bit o p) Wait (stream p items) k (Do t) e) (λ i. run_item n m items p i t (All-tail (IsItem n m) (Bar o) items h))
  where
    go : ((has_bit o p ≡ true) × (k ≡ 0) × (Wait ≡ Do t)) ⊎ ((i : ℕ) × (slice_get (stream p items) i ≡ Some (Do t)) × (k ≡ counted (has_bit o p) i)) → ((i : ℕ) → slice_get (stream p items) i ≡ Some (Do t) → IsItem n m (Run p t)) → IsItem n m (Run p t)
    go (inl (b, z, d)) r = absurd (cc)
    go (inr (i, s, c)) r = r i s

line_fits : (m : Program) (code : Code) → IsLine (length code.tuples) m.machine.processors code.line → IsFit m code
line_fits m code h = record {
  members = λ j p g. (mask_item (length code.tuples) m.machine.processors code.line j g.mask h.items g.at).1 p g.has;
  stands = λ t p k g. run_item (length code.tuples) m.machine.processors code.line p k t h.items g.item;
  once = λ t p k q l g i. stand_once code.line t p k q l h.once g.item i.item;
}

-- a tuple of the line stands in a stream
stands_of : (line : List Item) (t : ℕ) → Contains (tuples line) t → (p k : ℕ) × StandsAt line t p k
stands_of line t c = let s = split_at line t (any_of_contains _ t c) in (processor_of t line, length (stream (processor_of t line) (front_of_run t line)), record { item = subst (λ l. slice_get (stream (processor_of t line) l) (length (stream (processor_of t line) (front_of_run t line))) ≡ Some (Do t)) (sym s.same) (item_front (front_of_run t line) (processor_of t line) t s.back) })

pub line_sound : (m : Program) (code : Code) → IsBlockSound m.names (length m.blocks) (block_of code) → IsLine (length code.tuples) m.machine.processors code.line → ((t : ℕ) → t < length code.tuples → Contains (tuples code.line) t) → IsCodeSound m code
line_sound m code block h stand = record {
  block = block;
  fit = line_fits m code h;
  whole = λ t lt. stands_of code.line t (stand t lt);
  few_masks = h.few;
  none_empty = λ j mask e. (mask_item (length code.tuples) m.machine.processors code.line j mask h.items e).0;
}
