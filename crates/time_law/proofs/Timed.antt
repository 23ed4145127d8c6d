-- The ticks at which things happened in this execution of a block: what every action keeps of them.
use Rattle.std.proofs.Common.{◌≡◌, ℕ, zero, suc, pred, ◌+◌, ◌<◌, ◌≤◌, Bool, true, false, List, [], ◌∷◌, ◌++◌, length, get_or, Option, Some, None, slice_get, slice_index_or, ℤ, refl, sym, ap, ◌∙◌, le_trans, arith, ◌⊎◌, inl, inr}
use Rattle.std.proofs.lemmas.Bool.{cases_lt, both_ways, leb-true, le-leb}
use Rattle.std.proofs.lemmas.List.{get_or_append_left, get_or_push, length_push, get_or_past}
use Rattle.tuple_ir.specs.declared.tuple.Tuple.{Tuple}
use Rattle.line_model.specs.declared.line.Item.{Item}
use Rattle.line_model.specs.declared.line.StreamItem.TheVariants.{Do, Wait}
use Rattle.line_model.specs.Streams.{stream, masks, before}
use Rattle.line_model.specs.Order.{HasMember}
use Rattle.unit_law.specs.State.{Code, Program, Work, Idle, Busy, Held, Processor, State, code_at, processor, is_free, waits}
use Rattle.unit_law.specs.Fit.{IsFit}
use Rattle.unit_law.specs.Units.{IsReady}
use Rattle.unit_law.specs.Steps.{IsDuration, tuple_at, begun, resumed, tick}
use Rattle.unit_law.specs.Inside.{Inside, IsWorkAt, completed}
use Rattle.unit_law.proofs.Inside.{free_completed}
use Rattle.unit_law.proofs.Least.{held_ticks}
use Rattle.bm_base.specs.Machine.{Machine}
use Rattle.bm_base.specs.Spec.{time_of, interval}
use Rattle.tuple_ir.specs.Kinds.{class_of}
use Rattle.time_interval.specs.Bounds.{times_of, time}
use Rattle.time_law.specs.Conflicts.{pace_of}

-- the least and the greatest time of a tuple of the code
abbrev pub least_of : Program → Code → ℕ → ℕ
least_of m code t = (time (pace_of m code) t).least

abbrev pub most_of : Program → Code → ℕ → ℕ
most_of m code t = (time (pace_of m code) t).most

-- a tuple's time is that of its class
pub time_at : (machine : Machine) (ts : List Tuple) (t : ℕ) (x : Tuple) → slice_get ts t ≡ Some x → slice_index_or (times_of machine ts) t (interval 1 1) ≡ time_of machine (class_of x)
time_at machine [] t x e = absurd (cc)
time_at machine (y ∷ ts) zero x e = let z : y ≡ x = cc in ap (λ w. time_of machine (class_of w)) z
time_at machine (y ∷ ts) (suc t) x e = time_at machine ts t x e

-- one processor, at a clock: cs holds the ticks at which it could go on to the items 0, 1, .. of its stream; the last one may be past
-- the clock, where the processor is held
pub record TimedAt (m : Program) (code : Code) (entry clock p : ℕ) (q : Processor) (cs : List ℕ) : Type 0 where
  pub first : get_or cs 0 0 ≡ entry
  pub long : length cs ≡ suc (completed q)
  pub past : is_free clock q.work ≡ true → get_or cs (completed q) 0 ≤ clock
  pub held : (until : ℕ) → q.work ≡ Held until → get_or cs (completed q) 0 ≡ until
  pub busy : (until t : ℕ) (operands : List ℤ) → q.work ≡ Busy until t operands → (get_or cs (completed q) 0 + least_of m code t ≤ until) × (until ≤ get_or cs (completed q) 0 + most_of m code t)
  pub now : (t : ℕ) → is_free clock q.work ≡ true → slice_get (stream p code.line) q.place ≡ Some (Do t) → clock ≤ get_or cs q.place 0
  pub ran : (k t : ℕ) → slice_get (stream p code.line) k ≡ Some (Do t) → suc k < length cs → (get_or cs k 0 + least_of m code t ≤ get_or cs (suc k) 0) × (get_or cs (suc k) 0 ≤ get_or cs k 0 + most_of m code t)

-- what may have held mask j up until tick x: the arrival of a member, or the mask before it
abbrev pub Cause : List Item → (ℕ → List ℕ) → (ℕ → Bool) → (ℕ → ℕ) → ℕ → ℕ → Type 0
Cause line came fired fire j x = ((p : ℕ) × HasMember line j p × (x ≤ get_or (came p) (before p j line) 0)) ⊎ ((i : ℕ) × (j ≡ suc i) × (fired i ≡ true → x ≤ fire i))

-- member p came to Bar j no later than tick x, and went on the delay behind it
pub record AtFire (line : List Item) (delay : ℕ) (cs : List ℕ) (x j p : ℕ) : Type 0 where
  pub within : suc (before p j line) < length cs
  pub left : get_or cs (suc (before p j line)) 0 ≡ x + delay
  pub arrived : get_or cs (before p j line) 0 ≤ x

pub record Timed (m : Program) (code : Code) (entry : ℕ) (s : State) (came : ℕ → List ℕ) (fire : ℕ → ℕ) : Type 0 where
  pub each : (p : ℕ) → TimedAt m code entry s.clock p (processor s p) (came p)
  pub at_fire : (j p : ℕ) → HasMember code.line j p → get_or s.fired j false ≡ true → AtFire code.line m.machine.delay (came p) (fire j) j p
  pub fire_past : (j : ℕ) → get_or s.fired j false ≡ true → fire j ≤ s.clock
  pub fire_cause : (j : ℕ) → get_or s.fired j false ≡ true → Cause code.line came (λ i. get_or s.fired i false) fire j (fire j)
  pub ready_cause : (j : ℕ) → IsReady (masks code.line) s.fired (waits code s) j → Cause code.line came (λ i. get_or s.fired i false) fire j s.clock

-- a state within a block, with the ticks of the execution that has led to it
pub record Clocked (m : Program) (b : ℕ) (done : ℕ → Type 0) (s : State) (entry : ℕ) (came : ℕ → List ℕ) (fire : ℕ → ℕ) : Type 0 where
  pub fit : IsFit m (code_at m b)
  pub inside : Inside m (code_at m b) done s
  pub timed : Timed m (code_at m b) entry s came fire

-- ---- lists of ticks
pub push_at : (cs : List ℕ) (c k : ℕ) → k < length cs → get_or (cs ++ c ∷ []) k 0 ≡ get_or cs k 0
push_at cs c k lt = get_or_append_left cs (c ∷ []) 0 k lt

pub push_last : (cs : List ℕ) (c k : ℕ) → length cs ≡ k → get_or (cs ++ c ∷ []) k 0 ≡ c
push_last cs c k e = get_or_push cs c 0 k e

pub push_le : (cs : List ℕ) (c k : ℕ) → get_or cs k 0 ≤ get_or (cs ++ c ∷ []) k 0
push_le cs c k = go (cases_lt k (length cs))
  where
    go : (k < length cs) ⊎ (length cs ≤ k) → get_or cs k 0 ≤ get_or (cs ++ c ∷ []) k 0
    go (inl h) = let e = push_at cs c k h in omega arith
    go (inr h) = let e = get_or_past cs k 0 h in omega arith

-- ---- one processor
-- a start: the clock is the tick at which it came
pub begun_at : (m : Program) (code : Code) (entry clock p d t : ℕ) (operands : List ℤ) (q : Processor) (cs : List ℕ) → is_free clock q.work ≡ true → slice_get (stream p code.line) q.place ≡ Some (Do t) → IsDuration m (tuple_at code t) d → TimedAt m code entry clock p q cs → TimedAt m code entry clock p (begun q (clock + d) t operands) cs
begun_at m code entry clock p d t operands q cs free item time a = record {
  first = a.first;
  long = a.long ∙ ap suc done;
  past = λ f. absurd (both_ways true (sym f) refl);
  held = λ u e. absurd (cc);
  busy = λ until u operands' e. same until u (let x : clock + d ≡ until = cc in x) (let x : t ≡ u = cc in x) (tuple_at code t) refl time;
  now = λ u f g. absurd (both_ways true (sym f) refl);
  ran = a.ran;
}
  where
    done : completed q ≡ q.place
    done = free_completed clock q.work q.place free

    tick_is : get_or cs q.place 0 ≡ clock
    tick_is = let x = a.now t free item in let y = a.past free in let z = ap (λ k. get_or cs k 0) done in omega arith

    same : (until u : ℕ) → clock + d ≡ until → t ≡ u → (o : Option Tuple) → tuple_at code t ≡ o → IsDuration m o d → (get_or cs q.place 0 + least_of m code u ≤ until) × (until ≤ get_or cs q.place 0 + most_of m code u)
    same until u e f None g h = absurd h
    same until u e f (Some x) g h =
        let k : tuple_at code u ≡ Some x = ap (tuple_at code) (sym f) ∙ g in
        let z = time_at m.machine code.tuples u x k in
        let k1 : least_of m code u ≡ (time_of m.machine (class_of x)).least = ap (λ i. i.least) z in
        let k2 : most_of m code u ≡ (time_of m.machine (class_of x)).most = ap (λ i. i.most) z in
        (omega (arith, h.low, tick_is, k1), omega (arith, h.high, tick_is, k2))

-- a finish, at its tick
pub freed_at : (m : Program) (code : Code) (entry clock p place until t : ℕ) (operands : List ℤ) (cs : List ℕ) → until ≡ clock → IsWorkAt code p (record { place = place; work = Busy until t operands }) → TimedAt m code entry clock p (record { place = place; work = Busy until t operands }) cs → TimedAt m code entry clock p (record { place = place; work = Idle }) (cs ++ clock ∷ [])
freed_at m code entry clock p place until t operands cs due wk a = go (wk until t operands refl)
  where
    go : (k : ℕ) × (place ≡ suc k) × (slice_get (stream p code.line) k ≡ Some (Do t)) → TimedAt m code entry clock p (record { place = place; work = Idle }) (cs ++ clock ∷ [])
    go (k, e, item) = record {
      first = push_at cs clock 0 (omega (arith, long, e)) ∙ a.first;
      long = length_push cs clock ∙ (let x : length cs + 1 ≡ suc place = omega (arith, long) in x);
      past = λ f. let x = push_last cs clock place long in omega arith;
      held = λ u w. absurd (cc);
      busy = λ u v operands' w. absurd (cc);
      now = λ u f g. let x = push_last cs clock place long in omega arith;
      ran = ran;
    }
      where
        done : pred place ≡ k
        done = ap pred e

        long : length cs ≡ place
        long = a.long ∙ ap suc done ∙ sym e

        ran : (i u : ℕ) → slice_get (stream p code.line) i ≡ Some (Do u) → suc i < length (cs ++ clock ∷ []) → (get_or (cs ++ clock ∷ []) i 0 + least_of m code u ≤ get_or (cs ++ clock ∷ []) (suc i) 0) × (get_or (cs ++ clock ∷ []) (suc i) 0 ≤ get_or (cs ++ clock ∷ []) i 0 + most_of m code u)
        ran i u at lt = old (cases_lt (suc i) (length cs))
          where
            old : (suc i < length cs) ⊎ (length cs ≤ suc i) → (get_or (cs ++ clock ∷ []) i 0 + least_of m code u ≤ get_or (cs ++ clock ∷ []) (suc i) 0) × (get_or (cs ++ clock ∷ []) (suc i) 0 ≤ get_or (cs ++ clock ∷ []) i 0 + most_of m code u)
            old (inl h) = let (x, y) = a.ran i u at h in let e1 = push_at cs clock (suc i) h in let e2 = push_at cs clock i (omega arith) in (omega arith, omega arith)
            old (inr h) =
                let here : i ≡ k = omega (arith, length_push cs clock, long, e) in
                let same : Some (Do t) ≡ Some (Do u) = sym item ∙ ap (slice_get (stream p code.line)) (sym here) ∙ at in
                let tu : t ≡ u = cc in
                let l1 = ap (least_of m code) tu in
                let l2 = ap (most_of m code) tu in
                let (b1, b2) = a.busy until t operands refl in
                let g = ap (λ x. get_or cs x 0) (done ∙ sym here) in
                let e1 = push_last cs clock (suc i) (omega (arith, long, e, here)) in
                let e2 = push_at cs clock i (omega (arith, long, e, here)) in
                (omega arith, omega arith)

-- a wait is passed
pub resumed_at : (m : Program) (code : Code) (entry clock p d : ℕ) (q : Processor) (cs : List ℕ) → is_free clock q.work ≡ true → slice_get (stream p code.line) q.place ≡ Some Wait → TimedAt m code entry clock p q cs → TimedAt m code entry clock p (resumed (clock + d) q) (cs ++ (clock + d) ∷ [])
resumed_at m code entry clock p d q cs free wait a = record {
  first = push_at cs (clock + d) 0 (let x = a.long in omega arith) ∙ a.first;
  long = length_push cs (clock + d) ∙ (let y : length cs + 1 ≡ suc (suc q.place) = omega (arith, long) in y);
  past = λ f. let x = push_last cs (clock + d) (suc q.place) long in let y = leb-true (clock + d) clock f in omega arith;
  held = λ u w. let x : clock + d ≡ u = cc in push_last cs (clock + d) (suc q.place) long ∙ x;
  busy = λ u v operands' w. absurd (cc);
  now = λ u f g. let x = push_last cs (clock + d) (suc q.place) long in omega arith;
  ran = ran;
}
  where
    long : length cs ≡ suc q.place
    long = a.long ∙ ap suc (free_completed clock q.work q.place free)

    ran : (i u : ℕ) → slice_get (stream p code.line) i ≡ Some (Do u) → suc i < length (cs ++ (clock + d) ∷ []) → (get_or (cs ++ (clock + d) ∷ []) i 0 + least_of m code u ≤ get_or (cs ++ (clock + d) ∷ []) (suc i) 0) × (get_or (cs ++ (clock + d) ∷ []) (suc i) 0 ≤ get_or (cs ++ (clock + d) ∷ []) i 0 + most_of m code u)
    ran i u at lt = old (cases_lt (suc i) (length cs))
      where
        old : (suc i < length cs) ⊎ (length cs ≤ suc i) → (get_or (cs ++ (clock + d) ∷ []) i 0 + least_of m code u ≤ get_or (cs ++ (clock + d) ∷ []) (suc i) 0) × (get_or (cs ++ (clock + d) ∷ []) (suc i) 0 ≤ get_or (cs ++ (clock + d) ∷ []) i 0 + most_of m code u)
        old (inl h) = let (x, y) = a.ran i u at h in let e1 = push_at cs (clock + d) (suc i) h in let e2 = push_at cs (clock + d) i (omega arith) in (omega arith, omega arith)
        old (inr h) =
            let here : i ≡ q.place = omega (arith, length_push cs (clock + d), long) in
            let same : Some Wait ≡ Some (Do u) = sym wait ∙ ap (slice_get (stream p code.line)) (sym here) ∙ at in absurd (cc)

-- a free processor is idle, or its hold is over
free_cases : (clock : ℕ) (w : Work) → is_free clock w ≡ true → (w ≡ Idle) ⊎ ((until : ℕ) × (w ≡ Held until) × (until ≤ clock))
free_cases clock Idle e = inl refl
free_cases clock (Busy until t operands) e = absurd (both_ways true (sym e) refl)
free_cases clock (Held until) e = inr (until, refl, leb-true until clock e)

-- the clock advances: no processor is free at a tuple, and the new clock is at most the tick at which a busy or held one goes on
pub advanced_at : (m : Program) (code : Code) (entry clock clock' p : ℕ) (q : Processor) (cs : List ℕ) → clock ≤ clock' → ((u : ℕ) → tick clock q.work ≡ Some u → clock' ≤ u) → ((t : ℕ) → is_free clock q.work ≡ true → slice_get (stream p code.line) q.place ≡ Some (Do t) → ⊥) → TimedAt m code entry clock p q cs → TimedAt m code entry clock' p q cs
advanced_at m code entry clock clock' p q cs le least none a = record {
  first = a.first;
  long = a.long;
  past = λ f. past f (free_cases clock' q.work f);
  held = a.held;
  busy = a.busy;
  now = λ t f item. now t f item (free_cases clock' q.work f);
  ran = a.ran;
}
  where
    past : is_free clock' q.work ≡ true → (q.work ≡ Idle) ⊎ ((until : ℕ) × (q.work ≡ Held until) × (until ≤ clock')) → get_or cs (completed q) 0 ≤ clock'
    past f (inl e) = le_trans (a.past (ap (is_free clock) e)) le
    past f (inr (until, e, l)) = let x = a.held until e in omega arith

    now : (t : ℕ) → is_free clock' q.work ≡ true → slice_get (stream p code.line) q.place ≡ Some (Do t) → (q.work ≡ Idle) ⊎ ((until : ℕ) × (q.work ≡ Held until) × (until ≤ clock')) → clock' ≤ get_or cs q.place 0
    now t f item (inl e) = absurd (none t (ap (is_free clock) e) item)
    now t f item (inr (until, e, l)) = go (cases_lt clock until)
      where
        go : (clock < until) ⊎ (until ≤ clock) → clock' ≤ get_or cs q.place 0
        go (inl lt) =
            let x = least until (held_ticks clock until q.work e lt) in
            let y = a.held until e in
            let z = ap (λ k. get_or cs k 0) (free_completed clock' q.work q.place f) in omega arith
        go (inr ge) = absurd (none t (ap (is_free clock) e ∙ le-leb until clock ge) item)
