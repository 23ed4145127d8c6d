-- Lines with the same streams and masks have the same order.
use Rattle.std.proofs.Common.{◌≡◌, ℕ, zero, suc, ◌<◌, ◌≤◌, List, length, slice_get, sym, ap, ◌∙◌, arith, ◌⊎◌, inl, inr, subst}
use Rattle.std.proofs.lemmas.Bool.{cases_lt}
use Rattle.line_model.specs.declared.line.Item.{Item}
use Rattle.line_model.specs.Streams.{before}
use Rattle.line_model.specs.Order.{StandsAt, HasMember, Chain, IsOrderedByProcessor, IsOrderedByBarrier}
use Rattle.line_model.specs.Order.Chain.{one, more}
use Rattle.line_model.proofs.LineFacts.{wait_before, bar_of_wait, before_grows, WaitFor}
use Rattle.time_interval.specs.declared.reference.Reference.{Reference}
use Rattle.time_interval.specs.declared.reference.Reference.TheVariants as since
use Rattle.time_interval.specs.declared.reference.Reason.{Reason}
use Rattle.time_interval.specs.Bounds.{Pace, later, time}
use Rattle.time_interval.specs.Ordered.{IsOrdered, IsReason, IsInTime, IsReference}
use Rattle.time_interval.specs.Ordered.IsReason.{processor, barrier, time as by_time}
use Rattle.time_interval.specs.Laws.{StandOnce, AreAlike, AlikeLinesHaveTheSameOrder}
use Rattle.time_interval.proofs.Alike.{alike_start, alike_finish, once_alike}
use Rattle.time_interval.proofs.Parts.{member_within}

pub alike_back : (line other : List Item) → AreAlike line other → AreAlike other line
alike_back line other a = record { streams = λ p. sym (a.streams p); masks = sym a.masks }

stands_too : (line other : List Item) → AreAlike line other → (t p k : ℕ) → StandsAt line t p k → StandsAt other t p k
stands_too line other a t p k s = record { item = ap (λ l. slice_get l k) (sym (a.streams p)) ∙ s.item }

member_too : (line other : List Item) → AreAlike line other → (j p : ℕ) → HasMember line j p → HasMember other j p
member_too line other a j p h = record { mask = h.mask; at = ap (λ l. slice_get l j) (sym a.masks) ∙ h.at; has = h.has }

chain_too : {line other : List Item} {a b : ℕ} → AreAlike line other → Chain line a b → Chain other a b
chain_too k one = one
chain_too {line = line} {other = other} k (more r lt ha hb rest) = more r lt (member_too line other k _ r ha) (member_too line other k _ r hb) (chain_too k rest)

-- later Bars of a processor stand later, at their places in its stream
grows : (line : List Item) (p i j : ℕ) → HasMember line i p → HasMember line j p → i < j → before p i line < before p j line
grows line p i j hi hj lt = before_grows p line i j hi.mask hi.at hi.has lt (member_within line j p hj)

-- the waits of a processor are those of its Bars, in order, so each Bar has one place in the stream
before_below : (line other : List Item) → AreAlike line other → (p n j : ℕ) → j < n → HasMember line j p → before p j line ≡ before p j other
before_below line other a p zero j lt h = absurd (omega arith)
before_below line other a p (suc n) j lt h =
    let h2 = member_too line other a j p h in
    let w = bar_of_wait p other (before p j line) (ap (λ l. slice_get l (before p j line)) (sym (a.streams p)) ∙ wait_before p line j h.mask h.at h.has) in
    let v = bar_of_wait p line (before p j other) (ap (λ l. slice_get l (before p j other)) (a.streams p) ∙ wait_before p other j h2.mask h2.at h2.has) in
    go w v (cases_lt w.bar j) (cases_lt j w.bar) (cases_lt v.bar j) (cases_lt j v.bar) (before_below line other a p n)
  where
    back : AreAlike other line
    back = record { streams = λ q. sym (a.streams q); masks = sym a.masks }

    go : (w : WaitFor other p (before p j line)) (v : WaitFor line p (before p j other)) → (w.bar < j) ⊎ (j ≤ w.bar) → (j < w.bar) ⊎ (w.bar ≤ j) → (v.bar < j) ⊎ (j ≤ v.bar) → (j < v.bar) ⊎ (v.bar ≤ j) → ((i : ℕ) → i < n → HasMember line i p → before p i line ≡ before p i other) → before p j line ≡ before p j other
    go w v (inl l) _ _ _ ih =
        let m : HasMember line w.bar p = member_too other line back w.bar p w.member in
        let g : before p w.bar line < before p j line = grows line p w.bar j m h l in
        let e : before p w.bar line ≡ before p w.bar other = ih w.bar (omega arith) m in
        let f : before p w.bar other ≡ before p j line = w.at in
        absurd (omega arith)
    go w v (inr _) (inl l) (inl k) _ ih =
        let e : before p v.bar line ≡ before p v.bar other = ih v.bar (omega arith) v.member in
        let g : before p v.bar other < before p j other = grows other p v.bar j (member_too line other a v.bar p v.member) (member_too line other a j p h) k in
        let f : before p v.bar line ≡ before p j other = v.at in
        absurd (omega arith)
    go w v (inr _) (inl l) (inr k) (inl m) ih =
        let g : before p j line < before p v.bar line = grows line p j v.bar h v.member m in
        let f : before p v.bar line ≡ before p j other = v.at in
        let d : before p j other < before p w.bar other = grows other p j w.bar (member_too line other a j p h) w.member l in
        let e : before p w.bar other ≡ before p j line = w.at in
        absurd (omega arith)
    go w v (inr _) (inl l) (inr k) (inr m) ih =
        let s : v.bar ≡ j = omega arith in
        let f : before p v.bar line ≡ before p j other = v.at in
        subst (λ i. before p i line ≡ before p j other) s f
    go w v (inr k) (inr l) _ _ ih =
        let s : w.bar ≡ j = omega arith in
        let e : before p w.bar other ≡ before p j line = w.at in
        sym (subst (λ i. before p i other ≡ before p j line) s e)

pub before_alike : (line other : List Item) → AreAlike line other → (p j : ℕ) → HasMember line j p → before p j line ≡ before p j other
before_alike line other a p j h = before_below line other a p (suc j) j (omega arith) h

-- ---- the three ways

processor_too : (line other : List Item) → AreAlike line other → (g i : ℕ) → IsOrderedByProcessor line g i → IsOrderedByProcessor other g i
processor_too line other a g i o = record { p = o.p; kg = o.kg; ki = o.ki; g_at = stands_too line other a g o.p o.kg o.g_at; i_at = stands_too line other a i o.p o.ki o.i_at; first = o.first }

barrier_too : (line other : List Item) → AreAlike line other → (g i : ℕ) → IsOrderedByBarrier line g i → IsOrderedByBarrier other g i
barrier_too line other a g i o =
    let ea : before o.p o.a line ≡ before o.p o.a other = before_alike line other a o.p o.a o.first in
    let eb : before o.q o.b line ≡ before o.q o.b other = before_alike line other a o.q o.b o.last in
    let la : o.kg < before o.p o.a line = o.after_g in
    let lb : before o.q o.b line < o.ki = o.before_i in
    record {
      p = o.p;
      kg = o.kg;
      q = o.q;
      ki = o.ki;
      a = o.a;
      b = o.b;
      g_at = stands_too line other a g o.p o.kg o.g_at;
      i_at = stands_too line other a i o.q o.ki o.i_at;
      first = member_too line other a o.a o.p o.first;
      after_g = omega arith;
      chain = chain_too a o.chain;
      last = member_too line other a o.b o.q o.last;
      before_i = omega arith;
    }

reference_too : (line other : List Item) → AreAlike line other → (r : Reference) → IsReference line r → IsReference other r
reference_too line other a since.Start h = h
reference_too line other a (since.Bar j) h = subst (λ ms. j < length ms) a.masks h

in_time_too : (pace : Pace) (line other : List Item) → StandOnce line → AreAlike line other → (g i : ℕ) (r : Reference) → IsInTime pace line g i r → IsInTime pace other g i r
in_time_too pace line other h a g i r t = record {
  latest = t.latest;
  earliest = t.earliest;
  finish = ap (λ x. later x (time pace g).most) (sym (alike_finish pace line other h a r g)) ∙ t.finish;
  start = sym (alike_start pace line other h a r i) ∙ t.start;
  order = t.order;
}

pub alike_order : AlikeLinesHaveTheSameOrder
alike_order pace line other h a g i = (ordered, reasons)
  where
    back : AreAlike other line
    back = alike_back line other a

    once : StandOnce other
    once = once_alike line other a h

    ordered : IsOrdered pace line g i → IsOrdered pace other g i
    ordered (inl (inl o)) = inl (inl (processor_too line other a g i o))
    ordered (inl (inr o)) = inl (inr (barrier_too line other a g i o))
    ordered (inr (r, l, t)) = inr (r, reference_too line other a r l, in_time_too pace line other h a g i r t)

    reasons : (reason : Reason) → IsReason pace line g i reason → IsReason pace other g i reason
    reasons _ (processor o) = processor (processor_too line other a g i o)
    reasons _ (barrier n o) = barrier (λ x. n (processor_too other line back g i x)) (barrier_too line other a g i o)
    reasons _ (by_time {r = r} n m f) = by_time (λ x. n (processor_too other line back g i x)) (λ x. m (barrier_too other line back g i x)) (record {
      of_line = reference_too line other a r f.of_line;
      in_time = in_time_too pace line other h a g i r f.in_time;
      first = λ q c t. f.first q c (in_time_too pace other line once back g i q t);
    })
