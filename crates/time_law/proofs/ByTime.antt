-- A pair that is ordered by time keeps its order.
use Rattle.std.proofs.Common.{◌≡◌, ℕ, zero, suc, pred, ◌+◌, ◌<◌, ◌≤◌, true, false, List, [], ◌∷◌, length, get_or, Some, slice_get, slice_index_or, Contains, None, Option, nat_eq, refl, sym, ap, ◌∙◌, subst, arith, ◌⊎◌, inl, inr}
use Rattle.std.proofs.lemmas.Bool.{cases_Bool, cases_eq, cases_lt, both_ways, eqb-true, eqb-false}
use Rattle.std.proofs.lemmas.Map.Views.{Contains-from_any}
use Rattle.std.proofs.lemmas.Option.{slice_get_within}
use Rattle.line_model.specs.declared.line.Item.{Item}
use Rattle.std.proofs.lemmas.List.{get_or_default}
use Rattle.tuple_ir.specs.declared.tuple.Tuple.{Tuple}
use Rattle.line_model.specs.declared.line.StreamItem.TheVariants.{Do}
use Rattle.line_model.specs.Streams.{stream}
use Rattle.line_model.specs.Order.{StandsAt}
use Rattle.unit_law.specs.State.{Program, Work, Idle, Busy, Held, State, code_at, processor, is_free, is_due}
use Rattle.unit_law.specs.Steps.{Start, NoneDue, IsNext, may_to, state_after}
use Rattle.unit_law.specs.Fit.{AllFit, AllStand, HasTimes, NoneEmpty}
use Rattle.unit_law.specs.Determinate.{RespectsConflicts, IsDeterminate}
use Rattle.unit_law.specs.Sound.{IsSound}
use Rattle.unit_law.proofs.SoundFits.{sound_fit, sound_stand, sound_early, sound_lead, sound_none_empty}
use Rattle.unit_law.proofs.Ordering.{determinate_by_order}
use Rattle.unit_law.specs.Inside.{completed, completed_at}
use Rattle.unit_law.proofs.Inside.{free_completed}
use Rattle.unit_law.proofs.Ordered.{ordered_done}
use Rattle.bm_base.specs.Spec.{interval}
use Rattle.tuple_ir.specs.Conflict.{Conflict, clash}
use Rattle.time_interval.specs.declared.reference.Reference.{Reference}
use Rattle.time_interval.specs.declared.reference.Point.{Point}
use Rattle.time_interval.specs.declared.reference.Point.TheVariants.{StartOf, FinishOf}
use Rattle.time_interval.specs.Bounds.{times_of, known, lo_of, up_of}
use Rattle.time_interval.specs.Lines.{tuples, HasPoint}
use Rattle.time_interval.specs.Ordered.{IsInTime, IsOrdered}
use Rattle.time_interval.proofs.Once.{stands_among}
use Rattle.time_law.proofs.Lookups.{Says, tick_of, come_of, since_says, whole_up, whole_lo}
use Rattle.time_law.specs.Conflicts.{pace_of, ConflictsOrdered}
use Rattle.time_law.proofs.Timed.{most_of, Clocked}
use Rattle.time_law.proofs.TimedLaws.{came_at, has_come, fire_at, is_fired, laws, late_tick, held_on}
use Rattle.unit_law.specs.Execution.{execution, entry_tick, HasFinished}
use Rattle.time_law.specs.Happened.{arrivals}
use Rattle.time_law.proofs.Runs.{fire_of, run_clocked}

-- a tuple that stands in a stream is a point of the line
pub stands_in : (line : List Item) (t p k : ℕ) → StandsAt line t p k → Contains (tuples line) t
stands_in line t p k h = Contains-from_any (λ x y e. eqb-true x y e) t (tuples line) (stands_among line t p k h.item)

-- a tuple of a conflict is one of the block's
conflict_within : (ts : List Tuple) (a c : ℕ) → Conflict ts a c → a < length ts
conflict_within ts a c k = go (slice_get ts a) refl
  where
    go : (o : Option Tuple) → slice_get ts a ≡ o → a < length ts
    go None e = absurd (both_ways false refl (ap (λ o. clash ts a o (slice_get ts c)) (sym e) ∙ k.shared))
    go (Some x) e = slice_get_within ts a x e

module _ {m : Program} {b : ℕ} {done : ℕ → Type 0} {s : State} {entry : ℕ} {came : ℕ → List ℕ} {fire : ℕ → ℕ} (clocked : Clocked m b done s entry came fire) where
  begins : (p : ℕ) → came_at clocked p 0 ≡ entry
  unfolding came_at
  begins p = get_or_default (came p) 0 s.clock 0 (let l = (clocked.timed.each p).long in omega arith) ∙ (clocked.timed.each p).first

  pub says : (r : Reference) (x : Point) → HasPoint (code_at m b).line x → Says (pace_of m (code_at m b)) (code_at m b).line (came_at clocked) (has_come clocked) (fire_at clocked) (is_fired clocked) (come_of (is_fired clocked) r) (tick_of (fire_at clocked) entry r) x (lo_of (pace_of m (code_at m b)) (code_at m b).line r x) (up_of (pace_of m (code_at m b)) (code_at m b).line r x)
  says r x h = since_says (pace_of m (code_at m b)) (code_at m b).line (came_at clocked) (has_come clocked) (fire_at clocked) (is_fired clocked) (laws clocked) clocked.fit.members entry begins r x h

  -- behind the whole line
  pub line_up : (r : Reference) (p u : ℕ) → (known (pace_of m (code_at m b)) r (code_at m b).line).up p ≡ Some u → came_at clocked p (length (stream p (code_at m b).line)) ≤ tick_of (fire_at clocked) entry r + u
  line_up r p u e = whole_up (pace_of m (code_at m b)) (code_at m b).line (came_at clocked) (has_come clocked) (fire_at clocked) (is_fired clocked) (laws clocked) clocked.fit.members entry begins r p u e

  pub line_lo : (r : Reference) (p l : ℕ) → (known (pace_of m (code_at m b)) r (code_at m b).line).lo p ≡ Some l → has_come clocked p (length (stream p (code_at m b).line)) → tick_of (fire_at clocked) entry r + l ≤ came_at clocked p (length (stream p (code_at m b).line))
  line_lo r p l e h = whole_lo (pace_of m (code_at m b)) (code_at m b).line (came_at clocked) (has_come clocked) (fire_at clocked) (is_fired clocked) (laws clocked) clocked.fit.members entry begins r p l e h

  module _ (times : HasTimes m) (none : NoneDue s) where
    most_pos : (t : ℕ) → t < length (code_at m b).tuples → 0 < most_of m (code_at m b) t
    most_pos t lt = go (code_at m b).tuples t lt
      where
        go : (ts : List Tuple) (t : ℕ) → t < length ts → 0 < (slice_index_or (times_of m.machine ts) t (interval 1 1)).most
        go [] t lt = absurd (omega arith)
        go (x ∷ ts) zero lt = let (a, c) = times x in omega arith
        go (x ∷ ts) (suc t) lt = go ts t (omega arith)

    -- where no Finish is due, the end of a tuple that has not ended is later than now
    not_ended : (p k t : ℕ) → StandsAt (code_at m b).line t p k → completed (processor s p) ≤ k → s.clock < came_at clocked p k + most_of m (code_at m b) t
    unfolding came_at
    not_ended p k t at le = go (cases_eq (completed (processor s p)) k) (processor s p).work refl (cases_Bool (is_free s.clock (processor s p).work))
      where
        pos_ : 0 < most_of m (code_at m b) t
        pos_ = most_pos t (clocked.fit.stands t p k at).1

        long : length (came p) ≡ suc (completed (processor s p))
        long = (clocked.timed.each p).long

        free_at : completed (processor s p) ≡ k → is_free s.clock (processor s p).work ≡ true → s.clock < get_or (came p) k s.clock + most_of m (code_at m b) t
        free_at c free =
            let place : (processor s p).place ≡ k = sym (free_completed s.clock (processor s p).work (processor s p).place free) ∙ c in
            let now = (clocked.timed.each p).now t free (ap (slice_get (stream p (code_at m b).line)) place ∙ at.item) in
            let x = ap (λ n. get_or (came p) n 0) place in
            let y = get_or_default (came p) k s.clock 0 (omega (arith, long)) in omega (arith, pos_)

        go : (completed (processor s p) ≡ k) ⊎ (completed (processor s p) ≡ k → ⊥) → (w : Work) → (processor s p).work ≡ w → (is_free s.clock (processor s p).work ≡ true) ⊎ (is_free s.clock (processor s p).work ≡ false) → s.clock < get_or (came p) k s.clock + most_of m (code_at m b) t
        go (inr ne) w e f = let x = late_tick clocked p k (omega (arith, long)) in omega (arith, pos_)
        go (inl c) w e (inl free) = free_at c free
        go (inl c) Idle e (inr f) = free_at c (ap (is_free s.clock) e)
        go (inl c) (Held until) e (inr f) =
            let (d, later) = held_on clocked p until e f in
            let x = ap (λ n. get_or (came p) n 0) (sym d ∙ c) in
            let y = get_or_default (came p) k s.clock 0 (omega (arith, long)) in omega arith
        go (inl c) (Busy until u operands) e (inr f) =
            let (k', ep, item) = clocked.inside.work p until u operands e in
            let b0 = clocked.inside.ticks p until u operands e in
            let (b1, b2) = (clocked.timed.each p).busy until u operands e in
            let ck : completed (processor s p) ≡ k' = ap (λ w. completed_at w (processor s p).place) e ∙ ap pred ep in
            let same : Some (Do u) ≡ Some (Do t) = sym item ∙ ap (slice_get (stream p (code_at m b).line)) (sym ck ∙ c) ∙ at.item in
            let ut : u ≡ t = cc in
            let x = ap (λ n. get_or (came p) n 0) c in let y = ap (most_of m (code_at m b)) ut in
            let later : nat_eq until s.clock ≡ false = sym (ap (is_due s.clock) e) ∙ none p in
            let ne = eqb-false _ _ later in
            let z = get_or_default (came p) k s.clock 0 (omega (arith, long)) in omega arith

    -- a tuple that is ordered by time before a free processor's next tuple is done
    pub by_time_done : (q a c : ℕ) → IsNext m (code_at m b) s q c → (p k : ℕ) × StandsAt (code_at m b).line a p k → (r : Reference) → IsInTime (pace_of m (code_at m b)) (code_at m b).line a c r → done a
    unfolding came_at has_come
    by_time_done q a c n (p0, k0, a_at) ref o = go ((says ref (FinishOf a) (stands_in (code_at m b).line a p0 k0 a_at)).0 o.latest o.finish) ((says ref (StartOf c) (stands_in (code_at m b).line c q (processor s q).place (record { item = n.item }))).1 o.earliest o.start)
      where
        ref_tick : ℕ
        ref_tick = tick_of (fire_at clocked) entry ref

        ref_come : Type 0
        ref_come = come_of (is_fired clocked) ref

        done_is : completed (processor s q) ≡ (processor s q).place
        done_is = free_completed s.clock (processor s q).work (processor s q).place n.idle

        come : (processor s q).place < length (came q)
        come = let x = (clocked.timed.each q).long in omega (arith, done_is)

        come' : has_come clocked q (processor s q).place
        come' = come

        now : came_at clocked q (processor s q).place ≤ s.clock
        now =
            let x = get_or_default (came q) (processor s q).place s.clock 0 come in
            let y = (clocked.timed.each q).past n.idle in
            let z = ap (λ k. get_or (came q) k 0) done_is in omega arith

        go : (p k : ℕ) × StandsAt (code_at m b).line a p k × (came_at clocked p k + most_of m (code_at m b) a ≤ ref_tick + o.latest) → (r l : ℕ) × StandsAt (code_at m b).line c r l × (has_come clocked r l → ref_come × (ref_tick + o.earliest ≤ came_at clocked r l)) → done a
        go (p, k, at, high) (r, l, there, low) = pick (cases_lt k (completed (processor s p)))
          where
            same : (r ≡ q) × (l ≡ (processor s q).place)
            same = clocked.fit.once c r l q (processor s q).place there (record { item = n.item })

            earliest : ref_tick + o.earliest ≤ came_at clocked q (processor s q).place
            earliest =
                let d : has_come clocked r l = subst (λ x. has_come clocked x l) (sym same.0) (subst (has_come clocked q) (sym same.1) come') in
                let x = (low d).1 in
                let y : came_at clocked r l ≡ came_at clocked q (processor s q).place = ap (λ x. came_at clocked x l) same.0 ∙ ap (came_at clocked q) same.1 in omega arith

            pick : (k < completed (processor s p)) ⊎ (completed (processor s p) ≤ k) → done a
            pick (inl lt) = clocked.inside.finished p k a at.item lt
            pick (inr le) = let late = not_ended p k a at le in let x = o.order in absurd (omega (arith, late, high, earliest, now, x))

-- where each conflicting pair is in order, times taken into account, each producer has finished before its consumer starts
respects_all : (m : Program) → AllFit m → HasTimes m → NoneEmpty m → AllStand m → ConflictsOrdered m → RespectsConflicts m
respects_all m fit times full stand ordered memory past p d block a c kinds run mode may next conflict = go (ordered block a c conflict)
  where
    clocked : Clocked m block (HasFinished m memory past) (state_after m memory past) (entry_tick m memory past) (arrivals m (code_at m block) (entry_tick m memory past) (execution m memory past)) (fire_of (code_at m block) (execution m memory past))
    clocked = run_clocked m fit full memory past block run mode

    none : NoneDue (state_after m memory past)
    none = (subst (λ o. may_to m o (state_after m memory past) (Start p d)) mode may).0

    go : IsOrdered (pace_of m (code_at m block)) (code_at m block).line a c → HasFinished m memory past a
    go (inl o) = ordered_done m (code_at m block) (fit block) (HasFinished m memory past) (state_after m memory past) clocked.inside p a c next o
    go (inr (r, of_line, o)) = by_time_done clocked times none p a c next (stand block a (conflict_within _ a c conflict)) r o

-- so it is of a sound program, which is determinate
pub sound_respects : (m : Program) → IsSound m → HasTimes m → ConflictsOrdered m → RespectsConflicts m
sound_respects m sound times ordered = respects_all m (sound_fit m sound) times (sound_none_empty m sound) (sound_stand m sound) ordered

pub sound_determinate : (m : Program) → IsSound m → HasTimes m → ConflictsOrdered m → IsDeterminate m
sound_determinate m sound times ordered = determinate_by_order m (sound_fit m sound) times (sound_early m sound) (sound_stand m sound) (sound_lead m sound) (sound_respects m sound times ordered)
