use Rattle.std.proofs.Common.{◌≡◌, ◌<◌, ◌≤◌, ◌∙◌, ap, sym, subst, length, arith, max, ℕ, drop, map, ◌+◌}
use Rattle.std.proofs.lemmas.List.{length-map}
use Rattle.unit_law.specs.State.{Program}
use Rattle.stream_image.specs.Flat.{held_at}
use Rattle.stream_image.specs.Held.{most_masks_of, line_held}
use Rattle.stream_image.proofs.ImageFacts.{at_place, more_masks, seen_most}
use Rattle.stream_image.proofs.image.Image.most_masks.Goals.{then-count-most, else-count-most}
use Rattle.stream_image.proofs.image.Image.most_masks.Goals as goal

pub loop-b-preserved : goal.loop-b-preserved
loop-b-preserved c =
    let held = c.self.inside.held in
    let l : c.loop-b.b < length held = (let m = c.len-b-end.ensures in let r = c.loop-b-test.true in omega arith) in
    let k = ap length c.masks-count.ensures in
    let a : c.if-count-most.most ≡ max c.loop-b.most (length (held_at held c.loop-b.b).masks) =
    (elim c.if-count-most.branch [
      | then-count-most w ↦ (w.most-is ∙ (let t = w.if-count-most.true in up c.loop-b.most (length c.masks-count.result.now) (length (held_at held c.loop-b.b).masks) t k))
      | else-count-most w ↦ (w.most-is ∙ (let t = w.if-count-most.false in stay c.loop-b.most (length c.masks-count.result.now) (length (held_at held c.loop-b.b).masks) t k))
    ]) in
    let before : max c.loop-b.most (most_masks_of (drop c.loop-b.b (map (line_held c.self.inside.spec.processors) held))) ≡ most_masks_of (map (line_held c.self.inside.spec.processors) held) = subst (λ (m : Program). max c.loop-b.most (most_masks_of (drop c.loop-b.b m.lines)) ≡ most_masks_of m.lines) (sym c.self.view_is) c.loop-b.invariant in
    subst (λ (m : Program). max c.if-count-most.most (most_masks_of (drop (c.loop-b.b + 1) m.lines)) ≡ most_masks_of m.lines) c.self.view_is
    (subst (λ k. max k (most_masks_of (drop (c.loop-b.b + 1) (map (line_held c.self.inside.spec.processors) held))) ≡ most_masks_of (map (line_held c.self.inside.spec.processors) held)) (sym a) (more_masks c.self.inside.spec.processors held c.loop-b.b c.loop-b.most _ (held_at held c.loop-b.b) l (at_place held c.loop-b.b l) before))
  where
    up : (a b d : ℕ) → a < b → b ≡ d → b ≡ max a d
    up a b d t k = grind arith

    stay : (a b d : ℕ) → b ≤ a → b ≡ d → a ≡ max a d
    stay a b d t k = grind arith

pub returns-clause-most : goal.returns-clause-most
returns-clause-most c = seen_most c.args.self.now.lines c.loop-b.b c.loop-b.most (let t = c.loop-b-test.false in let k = c.len-b-end.ensures in let l = length-map c.self.inside.held (line_held c.self.inside.spec.processors) in let v = ap (λ (m : Program). length m.lines) c.self.view_is in omega arith) c.loop-b.invariant
