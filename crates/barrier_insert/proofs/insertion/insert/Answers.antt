use Rattle.std.proofs.Common.{◌≡◌, ◌<◌, ◌≤◌, ◌+◌, ◌∷◌, ◌++◌, [], ℕ, List, All, Contains, false, nat_eq, min, take, length, slice_index, slice_index_or, sym, subst, subst₂, ap, ◌∙◌, refl, arith}
use Rattle.std.specs.List.{list_any}
use Rattle.std.proofs.lemmas.List.{length-map, length-take, take_more, take_all}
use Rattle.bm_base.specs.Spec.{time_of}
use Rattle.tuple_ir.specs.Kinds.{class_of}
use Rattle.dependence.specs.Producers.{producers_of}
use Rattle.dependence.proofs.Rows.{as_many}
use Rattle.list_schedule.specs.Greedy.{start}
use Rattle.time_interval.specs.Bounds.{Pace, pace_on, time}
use Rattle.time_interval.specs.Lines.{tuples}
use Rattle.time_interval.specs.Ordered.{AllOrdered}
use Rattle.barrier_insert.specs.Order.{in_order}
use Rattle.barrier_insert.specs.Inserted.{IsMade, IsPut, IsInserted, assignment}
use Rattle.barrier_insert.specs.Inserted.IsMade.{nothing, next}
use Rattle.barrier_insert.specs.Laws.{IsScheduled}
use Rattle.barrier_insert.proofs.InOrder.{in_order_length}
use Rattle.barrier_insert.proofs.AtTurn.{IsTurnOf, turn_of, scheduled, as_many_times}
use Rattle.barrier_insert.proofs.Made.{made_tuples, made_masks}
use Rattle.barrier_insert.proofs.LawFacts.{ordered_in, whole}
use Rattle.barrier_insert.proofs.insertion.insert.Goals as goal
use Rattle.barrier_insert.proofs.insertion.insert.Goals.{In-loop-i, After-drop-order-2}

pub tuples_in_order-requires : goal.tuples_in_order-requires
tuples_in_order-requires c =
    let a : c.len-2.result ≡ length c.args.block.now.tuples = c.len-2.ensures.value ∙ ap length c.requires.deps.producers ∙ as_many c.args.block.now.tuples in
    let b : length c.args.schedule.now.plan.starts ≡ length c.args.block.now.tuples = c.requires.schedule.starts ∙ as_many_times c.args.spec.now c.args.block.now.tuples in
    omega arith

-- what is known within the loop: the block is scheduled, the order is that of the schedule, and so far its tuples were put
many : (c : In-loop-i) → c.len-2.result ≡ length c.args.block.now.tuples
many c = c.len-2.ensures.value ∙ ap length c.requires.deps.producers ∙ as_many c.args.block.now.tuples

order_is : (c : In-loop-i) → c.deref-i-items.result.now ≡ in_order (start c.args.schedule.now.plan) (length c.args.block.now.tuples)
order_is c = c.deref-i-items.ensures.value ∙ c.in_ok-order.ensures ∙ ap (in_order (start c.args.schedule.now.plan)) (many c)

pace_is : (c : In-loop-i) → c.loop-i.part.pace ≡ pace_on c.args.spec.now c.args.block.now.tuples
pace_is c = c.loop-i.invariant.pace ∙ c.in_ok-part.ensures.pace

is_scheduled : (c : In-loop-i) → IsScheduled c.args.spec.now c.args.block.now.tuples c.args.schedule.now.plan
is_scheduled c =
    scheduled c.args.spec.now c.args.block.now.tuples c.args.schedule.now.plan c.requires.few
    (let e : c.processors.result ≡ c.args.spec.now.processors = c.processors.ensures.value in let s : 1 ≤ c.processors.result = c.processors.ensures.some in omega arith)
    (subst (λ (p : Pace). (t : ℕ) → 1 ≤ (time p t).most) c.in_ok-part.ensures.pace c.in_ok-part.ensures.times)
    c.requires.schedule

turn : (c : In-loop-i) → IsTurnOf c.args.block.now.tuples c.args.schedule.now.plan c.loop-i.i-index
turn c = turn_of c.args.spec.now c.args.block.now.tuples c.args.schedule.now.plan c.loop-i.i-index (is_scheduled c) (subst (λ xs. c.loop-i.i-index < length xs) (order_is c) c.loop-i-test.true)

item_is : (c : In-loop-i) → slice_index c.deref-i-items.result.now c.loop-i.i-index ≡ slice_index (in_order (start c.args.schedule.now.plan) (length c.args.block.now.tuples)) c.loop-i.i-index
item_is c = ap (λ xs. slice_index xs c.loop-i.i-index) (order_is c)

so_far : (c : In-loop-i) → tuples c.loop-i.part.line ≡ take c.loop-i.i-index (in_order (start c.args.schedule.now.plan) (length c.args.block.now.tuples))
so_far c = made_tuples _ _ _ c.loop-i.invariant.made ∙ ap (take c.loop-i.i-index) (order_is c)

pub loop-i-init : goal.loop-i-init
loop-i-init c = record { pace = refl; made = subst (IsMade (assignment c.in_ok-part.part.pace c.args.deps.now.producers c.args.schedule.now.plan) []) (sym c.in_ok-part.ensures.line) nothing }

pub put_next-requires-clause-tuple : goal.put_next-requires-clause-tuple
put_next-requires-clause-tuple c = let d = (goal.at.put_next-requires-clause-tuple c).In-loop-i in subst (λ i. i < length c.args.schedule.now.plan.places) (sym (item_is d)) (turn d).tuple

pub put_next-requires-clause-row : goal.put_next-requires-clause-row
put_next-requires-clause-row c = let d = (goal.at.put_next-requires-clause-row c).In-loop-i in subst₂ (λ i ps. i < length ps) (sym (item_is d)) (sym c.requires.deps.producers) (turn d).row

pub put_next-requires-clause-time : goal.put_next-requires-clause-time
put_next-requires-clause-time c =
    let d = (goal.at.put_next-requires-clause-time c).In-loop-i in
    let e : length c.loop-i.part.pace.times ≡ length c.args.block.now.tuples = ap (λ (p : Pace). length p.times) (pace_is d) ∙ length-map c.args.block.now.tuples (λ t. time_of c.args.spec.now (class_of t)) in
    subst₂ (λ i n. i < n) (sym (item_is d)) (sym e) (turn d).below

pub put_next-requires-clause-new : goal.put_next-requires-clause-new
put_next-requires-clause-new c =
    let d = (goal.at.put_next-requires-clause-new c).In-loop-i in
    subst₂ (λ i us. list_any (nat_eq i) us ≡ false) (sym (item_is d)) (sym (so_far d)) (turn d).new

pub put_next-requires-clause-room : goal.put_next-requires-clause-room
put_next-requires-clause-room c =
    let d = (goal.at.put_next-requires-clause-room c).In-loop-i in
    room c.loop-i.i-index (length c.deref-i-items.result.now) (length c.args.block.now.tuples) _ _ (ap length (order_is d) ∙ in_order_length _ _) c.requires.few c.loop-i-test.true (taken c.loop-i.i-index c.deref-i-items.result.now) (made_masks _ _ _ c.loop-i.invariant.made)
  where
    room : (k n m t x : ℕ) → n ≡ m → m ≤ 128 → k < n → t ≤ k → x ≤ t → x < 128
    room k n m t x e f g h j = omega arith

    taken : (k : ℕ) (us : List ℕ) → length (take k us) ≤ k
    taken k us = let e : length (take k us) ≡ min k (length us) = length-take k us in omega arith

pub put_next-requires-clause-there : goal.put_next-requires-clause-there
put_next-requires-clause-there c =
    let d = (goal.at.put_next-requires-clause-there c).In-loop-i in
    subst (λ i. All (λ g. Contains (tuples c.loop-i.part.line) g) (slice_index_or c.args.deps.now.producers i [])) (sym (item_is d))
    (subst₂ (λ us ps. All (λ g. Contains us g) (slice_index_or ps (slice_index (in_order (start c.args.schedule.now.plan) (length c.args.block.now.tuples)) c.loop-i.i-index) [])) (sym (so_far d)) (sym c.requires.deps.producers) (turn d).there)

pub put_next-requires-clause-known : goal.put_next-requires-clause-known
put_next-requires-clause-known c =
    let d = (goal.at.put_next-requires-clause-known c).In-loop-i in
    subst₂ (λ i ps. All (λ g. g < length c.args.schedule.now.plan.places) (slice_index_or ps i [])) (sym (item_is d)) (sym c.requires.deps.producers) (turn d).known

pub loop-i-preserved : goal.loop-i-preserved
loop-i-preserved c =
    let more : take (c.loop-i.i-index + 1) c.deref-i-items.result.now ≡ take c.loop-i.i-index c.deref-i-items.result.now ++ slice_index c.deref-i-items.result.now c.loop-i.i-index ∷ [] = take_more c.deref-i-items.result.now c.loop-i.i-index 0 c.loop-i-test.true in
    let put = subst (λ p. IsPut (assignment p c.args.deps.now.producers c.args.schedule.now.plan) c.loop-i.part.line (slice_index c.deref-i-items.result.now c.loop-i.i-index) c.put_next.new.part.line) c.loop-i.invariant.pace c.in_ok-put_next.ensures.put in
    record {
      pace = c.put_next.ensures.pace ∙ c.loop-i.invariant.pace;
      made = subst (λ xs. IsMade (assignment c.in_ok-part.part.pace c.args.deps.now.producers c.args.schedule.now.plan) xs c.put_next.new.part.line) (sym more) (next (slice_index c.deref-i-items.result.now c.loop-i.i-index) c.loop-i.invariant.made put);
    }

-- behind the loop: the line is the inserted one, and the laws give the rest
inserted : (c : After-drop-order-2) → IsInserted c.args.spec.now c.args.block.now.tuples c.args.schedule.now.plan c.into_line.result.items
inserted c =
    let a = assignment (pace_on c.args.spec.now c.args.block.now.tuples) (producers_of c.args.block.now.tuples) c.args.schedule.now.plan in
    let many = c.len-2.ensures.value ∙ ap length c.requires.deps.producers ∙ as_many c.args.block.now.tuples in
    let order = c.deref-i-items.ensures.value ∙ c.in_ok-order.ensures ∙ ap (in_order (start c.args.schedule.now.plan)) many in
    let made = subst₂ (λ p ps. IsMade (assignment p ps c.args.schedule.now.plan) (take c.loop-i.i-index c.deref-i-items.result.now) c.loop-i.part.line) c.in_ok-part.ensures.pace c.requires.deps.producers c.loop-i.invariant.made in
    subst₂ (IsMade a) (take_all c.loop-i.i-index c.deref-i-items.result.now c.loop-i-test.false ∙ order) (sym c.into_line.ensures) made

was_scheduled : (c : After-drop-order-2) → IsScheduled c.args.spec.now c.args.block.now.tuples c.args.schedule.now.plan
was_scheduled c =
    scheduled c.args.spec.now c.args.block.now.tuples c.args.schedule.now.plan c.requires.few
    (let e : c.processors.result ≡ c.args.spec.now.processors = c.processors.ensures.value in let s : 1 ≤ c.processors.result = c.processors.ensures.some in omega arith)
    (subst (λ (p : Pace). (t : ℕ) → 1 ≤ (time p t).most) c.in_ok-part.ensures.pace c.in_ok-part.ensures.times)
    c.requires.schedule

pub returns-clause-inserted : goal.returns-clause-inserted
returns-clause-inserted c = inserted c

pub returns-clause-ordered : goal.returns-clause-ordered
returns-clause-ordered c = subst (λ ps. AllOrdered (pace_on c.args.spec.now c.args.block.now.tuples) ps c.into_line.result.items) (sym c.requires.deps.producers) (ordered_in c.args.spec.now c.args.block.now.tuples c.args.schedule.now.plan c.into_line.result.items (was_scheduled c) (inserted c))

pub returns-clause-whole : goal.returns-clause-whole
returns-clause-whole c = whole c.args.spec.now c.args.block.now.tuples c.args.schedule.now.plan c.into_line.result.items (was_scheduled c) (inserted c)
