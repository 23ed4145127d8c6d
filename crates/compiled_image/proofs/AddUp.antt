-- The numbers of a summary add up.
use Rattle.std.proofs.Common.{◌≡◌, ℕ, zero, suc, ◌+◌, ◌-◌, ◌*◌, ◌≤◌, List, [], ◌∷◌, length, refl, sym, subst, arith, cond}
use Rattle.std.specs.List.{count_by}
use Rattle.std.proofs.lemmas.List.Sums.{sum_by-cons}
use Rattle.bm_base.specs.Machine.{Machine}
use Rattle.tuple_ir.specs.declared.block.Block.{Block}
use Rattle.line_model.specs.declared.line.Item.{Item}
use Rattle.line_model.specs.Streams.{masks}
use Rattle.time_interval.specs.declared.reference.Reason.{Reason}
use Rattle.time_interval.specs.declared.reference.Reason.TheVariants.{SameProcessor, ByBarrier, ByTime}
use Rattle.time_interval.specs.Bounds.{Pace, pace_on}
use Rattle.dependence.specs.Producers.{producers_of}
use Rattle.mask_merge.specs.Reduced.{IsReduced}
use Rattle.mask_merge.specs.Reduced.IsReduced.{done, turn}
use Rattle.mask_merge.proofs.LawFacts.{fewer}
use Rattle.compiled_image.specs.Reasons.{is_processor, is_barrier, is_time}
use Rattle.compiled_image.specs.Summarised.{Told, AreTold, summary_of}
use Rattle.compiled_image.specs.Laws.{AddsUp, SummariesAddUp}

-- each pair has one reason
reasons_add_up : (reasons : List Reason) → length reasons ≡ count_by is_processor reasons + count_by is_barrier reasons + count_by is_time reasons
reasons_add_up [] = refl
reasons_add_up (r ∷ rs) =
    let p = sum_by-cons (λ x. cond (is_processor x) 1 0) r rs in
    let b = sum_by-cons (λ x. cond (is_barrier x) 1 0) r rs in
    let t = sum_by-cons (λ x. cond (is_time x) 1 0) r rs in
    let h = reasons_add_up rs in
    let o = one_of r in
    omega arith
  where
    one_of : (r : Reason) → cond (is_processor r) 1 0 + cond (is_barrier r) 1 0 + cond (is_time r) 1 0 ≡ 1
    one_of SameProcessor = refl
    one_of ByBarrier = refl
    one_of (ByTime q) = refl

-- turns leave no more barriers than there were
no_more : (pace : Pace) (producers : List (List ℕ)) (line result : List Item) → IsReduced pace producers line result → length (masks result) ≤ length (masks line)
no_more pace producers line result (done h) = omega arith
no_more pace producers line result (turn edit h k) =
    let r = no_more pace producers _ result k in
    let f = fewer pace producers line edit h in
    omega arith

mul_add : (p a b : ℕ) → p * (a + b) ≡ p * a + p * b
mul_add zero a b = omega arith
mul_add (suc p) a b =
    let r = mul_add p a b in
    omega arith

-- Graham's bound of two sums
both_bounds : (p m n w x l k : ℕ) → p * m ≤ w + (p - 1) * l → p * n ≤ x + (p - 1) * k → p * (m + n) ≤ (w + x) + (p - 1) * (l + k)
both_bounds p m n w x l k h j =
    let a = mul_add p m n in
    let b = mul_add (p - 1) l k in
    omega arith

module _ (machine : Machine) where
  sums : (blocks : List Block) (told : List Told) → AreTold machine blocks told → AddsUp machine.processors (summary_of blocks told)
  sums [] [] h = record { pairs = refl; kept = omega arith; bound = omega arith }
  sums [] (t ∷ ts) h = absurd h
  sums (b ∷ bs) [] h = absurd h
  sums (b ∷ bs) (t ∷ ts) h =
      let r = sums bs ts h.1 in
      let s = h.0.planned.scheduled in
      record {
        pairs =
            let n = sum_by-cons (λ (t : Told). length t.reasons) t ts in
            let p = sum_by-cons (λ (t : Told). count_by is_processor t.reasons) t ts in
            let q = sum_by-cons (λ (t : Told). count_by is_barrier t.reasons) t ts in
            let u = sum_by-cons (λ (t : Told). count_by is_time t.reasons) t ts in
            let e = reasons_add_up t.reasons in
            let f = r.pairs in
            omega arith;
        kept =
            let i = sum_by-cons (λ (t : Told). length (masks t.plan.inserted.items)) t ts in
            let k = sum_by-cons (λ (t : Told). length (masks t.plan.line.items)) t ts in
            let m = no_more (pace_on machine b.tuples) (producers_of b.tuples) t.plan.inserted.items t.plan.line.items h.0.planned.reduction in
            let f = r.kept in
            omega arith;
        bound =
            rw (sum_by-cons (λ (t : Told). t.plan.schedule.makespan) t ts, sum_by-cons (λ (t : Told). t.plan.schedule.work) t ts, sum_by-cons (λ (t : Told). t.plan.schedule.longest) t ts)
            (both_bounds machine.processors t.plan.schedule.makespan _ t.plan.schedule.work _ t.plan.schedule.longest _ s.bound r.bound);
      }

pub add_up : SummariesAddUp
add_up machine p summary h = subst (AddsUp machine.processors) (sym h.whole) (sums machine _ h.told h.are)
