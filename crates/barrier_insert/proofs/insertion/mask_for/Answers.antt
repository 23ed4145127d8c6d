use Rattle.std.proofs.Common.{◌≡◌, ◌+◌, ◌≤◌, length, arith, ◌∷◌, [], ◌++◌, ℕ, All, Contains, Decides, sym, subst, subst₂, ap, ◌∙◌, slice_index, true≢false, ◌||◌, ◌==◌}
use Rattle.bm_base.specs.Mask.{has_bit}
use Rattle.time_interval.specs.Lines.{tuples}
use Rattle.time_interval.specs.Ordered.{IsOrdered}
use Rattle.line_model.specs.declared.line.Item.TheVariants.{Run}
use Rattle.barrier_insert.specs.Inserted.{assignment, IsOrderedNext}
use Rattle.barrier_insert.proofs.Searched.{IsSearched, search_more, search_same, none_found, some_found}
use Rattle.barrier_insert.proofs.insertion.mask_for.Goals as goal
use Rattle.barrier_insert.proofs.insertion.mask_for.Goals.{then-not-ordered_next, else-not-ordered_next, After-ordered_next}

pub ordered_next-requires-clause-first : goal.ordered_next-requires-clause-first
ordered_next-requires-clause-first c = subst (λ row. All (λ g. Contains (tuples c.args.part.now.line) g) row) (sym c.producers-g-items.ensures.value) c.requires.there c.loop-g.g-index 0 c.loop-g-test.true

told : (c : After-ordered_next) → Decides c.ordered_next.result (IsOrderedNext (assignment c.args.part.now.pace c.args.deps.now.producers c.args.schedule.now.plan) c.args.part.now.line (slice_index c.producers-g-items.result.now c.loop-g.g-index) c.args.i)
told c = subst (λ p. Decides c.ordered_next.result (IsOrdered c.args.part.now.pace (c.args.part.now.line ++ Run p c.args.i ∷ []) (slice_index c.producers-g-items.result.now c.loop-g.g-index) c.args.i)) c.processor-p.ensures (c.ordered_next.ensures c.args.i c.requires.new)

pub loop-g-preserved : goal.loop-g-preserved
loop-g-preserved c =
    let d = told ((goal.at.loop-g-preserved c).After-ordered_next) in
    let a = assignment c.args.part.now.pace c.args.deps.now.producers c.args.schedule.now.plan in
    elim c.if-not-ordered_next.branch [
      | then-not-ordered_next w ↦ subst₂ (λ b m. IsSearched a c.args.part.now.line c.args.i c.producers-g-items.result.now (c.loop-g.g-index + 1) b m) (sym w.found-is) (sym w.mask-is)
          (search_more a c.args.part.now.line c.args.i c.producers-g-items.result.now c.loop-g.g-index c.loop-g.mask w.insert-then-not-ordered_next.new.self c.loop-g.found c.loop-g.invariant (λ o. true≢false (sym (d.1 o) ∙ w.if-not-ordered_next.true)) (λ q. w.insert-then-not-ordered_next.ensures.bits q ∙ ap (λ x. has_bit c.loop-g.mask q || (q == x)) w.processor.ensures))
      | else-not-ordered_next w ↦ subst₂ (λ b m. IsSearched a c.args.part.now.line c.args.i c.producers-g-items.result.now (c.loop-g.g-index + 1) b m) (sym w.found-is) (sym w.mask-is)
          (search_same a c.args.part.now.line c.args.i c.producers-g-items.result.now c.loop-g.g-index c.loop-g.mask c.loop-g.found c.loop-g.invariant (d.0 w.if-not-ordered_next.false))
    ]

whole : (n m : ℕ) → n ≤ m → m ≤ n → m ≡ n
whole n m h k = omega arith

pub returns-then-found : goal.returns-then-found
returns-then-found c =
    let a = assignment c.args.part.now.pace c.args.deps.now.producers c.args.schedule.now.plan in
    some_found a c.args.part.now.line c.args.i c.producers-g-items.result.now c.loop-g.mask c.producers-g-items.ensures.value
    (subst₂ (λ n b. IsSearched a c.args.part.now.line c.args.i c.producers-g-items.result.now n b c.loop-g.mask) (whole (length c.producers-g-items.result.now) c.loop-g.g-index c.loop-g-test.false c.loop-g.auto.g-index-end) c.if-found.true c.loop-g.invariant)

pub returns-else-found : goal.returns-else-found
returns-else-found c =
    let a = assignment c.args.part.now.pace c.args.deps.now.producers c.args.schedule.now.plan in
    none_found a c.args.part.now.line c.args.i c.producers-g-items.result.now c.loop-g.mask c.producers-g-items.ensures.value
    (subst₂ (λ n b. IsSearched a c.args.part.now.line c.args.i c.producers-g-items.result.now n b c.loop-g.mask) (whole (length c.producers-g-items.result.now) c.loop-g.g-index c.loop-g-test.false c.loop-g.auto.g-index-end) c.if-found.false c.loop-g.invariant)
