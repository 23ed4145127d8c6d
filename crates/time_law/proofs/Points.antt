-- The lists of ticks tell when each point happened.
use Rattle.std.proofs.Common.{◌≡◌, ℕ, suc, pred, ◌+◌, ◌<◌, ◌≤◌, true, false, nat_lt, List, [], ◌∷◌, ◌++◌, length, get_or, set, Option, Some, None, slice_get, ℤ, sym, ap, ◌∙◌, subst, arith, ◌⊎◌, inl, inr, if◌then◌else◌, get_or-set_same, get_or-set_other}
use Rattle.std.proofs.lemmas.Bool.{cases_eq, cases_lt, both_ways, cond-true, cond-false, lt-ltb, le-ltb}
use Rattle.std.proofs.lemmas.Option.{slice_get_within}
use Rattle.bm_base.specs.Mask.{has_bit}
use Rattle.line_model.specs.declared.line.StreamItem.TheVariants.{Do, Wait}
use Rattle.line_model.specs.Streams.{stream, masks, before}
use Rattle.line_model.specs.Order.{HasMember, StandsAt}
use Rattle.tuple_ir.specs.World.{World}
use Rattle.unit_law.specs.State.{Code, Program, Idle, Busy, Held, Processor, State, code_at, entered, processor, waits}
use Rattle.unit_law.specs.Units.{IsReady}
use Rattle.unit_law.specs.Steps.{IsNext, IsDuration, tuple_at, freed, begun, passed, with_processor}
use Rattle.unit_law.proofs.Agree.{at_wait}
use Rattle.unit_law.specs.Inside.{completed, completed_at}
use Rattle.unit_law.proofs.Inside.{free_completed, set_all, waits_parts, fired_all, is_ready, bound, wait_at}
use Rattle.unit_law.proofs.Fronts.{none_fired}
use Rattle.unit_law.proofs.Ordered.{entered_at}
use Rattle.time_interval.specs.declared.reference.Point.{Point}
use Rattle.time_interval.specs.declared.reference.Point.TheVariants.{StartOf, FinishOf, FireOf}
use Rattle.time_law.proofs.Timed.{Clocked, push_at, push_last}

-- h: when each point happened; took: the duration that each tuple took up at its start
pub record Tells (m : Program) (code : Code) (s : State) (came : ℕ → List ℕ) (fire : ℕ → ℕ) (h : Point → Option ℕ) (took : ℕ → ℕ) : Type 0 where
  pub starts : (q t k : ℕ) → StandsAt code.line t q k → h (StartOf t) ≡ (if nat_lt k (processor s q).place then Some (get_or (came q) k 0) else None)
  pub ends : (q t k : ℕ) → StandsAt code.line t q k → h (FinishOf t) ≡ (if nat_lt k (completed (processor s q)) then Some (get_or (came q) (suc k) 0) else None)
  pub fires : (j : ℕ) → h (FireOf j) ≡ (if get_or s.fired j false then Some (fire j) else None)
  pub lasts : (q until t : ℕ) (operands : List ℤ) → (processor s q).work ≡ Busy until t operands → until ≡ get_or (came q) (completed (processor s q)) 0 + took t
  pub ran : (q t k : ℕ) → StandsAt code.line t q k → k < completed (processor s q) → get_or (came q) (suc k) 0 ≡ get_or (came q) k 0 + took t
  pub times : (q t k : ℕ) → StandsAt code.line t q k → k < (processor s q).place → IsDuration m (tuple_at code t) (took t)
  pub holds : (q until : ℕ) → (processor s q).work ≡ Held until → (j : ℕ) × HasMember code.line j q × ((processor s q).place ≡ suc (before q j code.line)) × (get_or s.fired j false ≡ true) × (until ≡ fire j + m.machine.delay)

if_same : (k n : ℕ) (a b : ℕ) → (k < n → a ≡ b) → (if nat_lt k n then Some a else None) ≡ (if nat_lt k n then Some b else None)
if_same k n a b h = go (cases_lt k n)
  where
    go : (k < n) ⊎ (n ≤ k) → (if nat_lt k n then Some a else None) ≡ (if nat_lt k n then Some b else None)
    go (inl lt) = ap (λ x. if nat_lt k n then Some x else None) (h lt)
    go (inr le) = cond-false _ _ _ (le-ltb k n le) ∙ sym (cond-false _ _ _ (le-ltb k n le))

lt_other : (k n : ℕ) → (k ≡ n → ⊥) → nat_lt k n ≡ nat_lt k (suc n)
lt_other k n ne = go (cases_lt k n)
  where
    go : (k < n) ⊎ (n ≤ k) → nat_lt k n ≡ nat_lt k (suc n)
    go (inl lt) = lt-ltb k n lt ∙ sym (lt-ltb k (suc n) (omega arith))
    go (inr le) = le-ltb k n le ∙ sym (le-ltb k (suc n) (omega arith))

module _ {m : Program} {b : ℕ} {done : ℕ → Type 0} {s : State} {entry : ℕ} {came : ℕ → List ℕ} {fire : ℕ → ℕ} (clocked : Clocked m b done s entry came fire) (h : Point → Option ℕ) (took : ℕ → ℕ) (tells : Tells m (code_at m b) s came fire h took) where
  -- ---- Start of tuple u
  module _ (p d u : ℕ) (n : IsNext m (code_at m b) s p u) (time : IsDuration m (tuple_at (code_at m b) u) d) (operands : List ℤ) (h' : Point → Option ℕ) (now : h' (StartOf u) ≡ Some s.clock) (same : (t : ℕ) → (u ≡ t → ⊥) → h' (StartOf t) ≡ h (StartOf t)) (finishes : (t : ℕ) → h' (FinishOf t) ≡ h (FinishOf t)) (fires : (j : ℕ) → h' (FireOf j) ≡ h (FireOf j)) (took' : ℕ → ℕ) (took_now : took' u ≡ d) (took_same : (t : ℕ) → (u ≡ t → ⊥) → took' t ≡ took t) where
    pub start_tells : Tells m (code_at m b) (with_processor s p (begun (processor s p) (s.clock + d) u operands)) came fire h' took'
    start_tells = record {
      starts = set_all (λ q x. (t k : ℕ) → StandsAt (code_at m b).line t q k → h' (StartOf t) ≡ (if nat_lt k x.place then Some (get_or (came q) k 0) else None)) s.processors p new lt (λ t k at. begins t k at (cases_eq k (processor s p).place)) (λ q ne t k at. same t (elsewhere q ne t k at) ∙ tells.starts q t k at);
      ends = set_all (λ q x. (t k : ℕ) → StandsAt (code_at m b).line t q k → h' (FinishOf t) ≡ (if nat_lt k (completed x) then Some (get_or (came q) (suc k) 0) else None)) s.processors p new lt (λ t k at. finishes t ∙ tells.ends p t k at ∙ ap (λ c. if nat_lt k c then Some (get_or (came p) (suc k) 0) else None) done_is) (λ q ne t k at. finishes t ∙ tells.ends q t k at);
      fires = λ j. fires j ∙ tells.fires j;
      lasts = set_all (λ q x. (until t : ℕ) (operands : List ℤ) → x.work ≡ Busy until t operands → until ≡ get_or (came q) (completed x) 0 + took' t) s.processors p new lt (λ until t operands' e. lasts until t (let x : s.clock + d ≡ until = cc in x) (let x : u ≡ t = cc in x)) (λ q ne until t operands' e. let (k, ep, item) = clocked.inside.work q until t operands' e in let x = tells.lasts q until t operands' e in let y = took_same t (elsewhere q ne t k (record { item = item })) in omega arith);
      ran = set_all (λ q x. (t k : ℕ) → StandsAt (code_at m b).line t q k → k < completed x → get_or (came q) (suc k) 0 ≡ get_or (came q) k 0 + took' t) s.processors p new lt (λ t k at l. let x = tells.ran p t k at (let z : k < (processor s p).place = l in omega (arith, done_is)) in let y = took_same t (other p t k at (inr (λ e. let z : k < (processor s p).place = l in omega arith))) in omega arith) (λ q ne t k at l. let x = tells.ran q t k at l in let y = took_same t (elsewhere q ne t k at) in omega arith);
      times = set_all (λ q x. (t k : ℕ) → StandsAt (code_at m b).line t q k → k < x.place → IsDuration m (tuple_at (code_at m b) t) (took' t)) s.processors p new lt (λ t k at l. times t k at l (cases_eq k (processor s p).place)) (λ q ne t k at l. subst (IsDuration m (tuple_at (code_at m b) t)) (sym (took_same t (elsewhere q ne t k at))) (tells.times q t k at l));
      holds = set_all (λ q x. (until : ℕ) → x.work ≡ Held until → (j : ℕ) × HasMember (code_at m b).line j q × (x.place ≡ suc (before q j (code_at m b).line)) × (get_or s.fired j false ≡ true) × (until ≡ fire j + m.machine.delay)) s.processors p new lt (λ until e. absurd (cc)) (λ q ne. tells.holds q);
    }
      where
        new : Processor
        new = begun (processor s p) (s.clock + d) u operands

        lt : p < length s.processors
        lt = let x = n.is_one in omega (arith, clocked.inside.processors)

        stands : StandsAt (code_at m b).line u p (processor s p).place
        stands = record { item = n.item }

        done_is : completed (processor s p) ≡ (processor s p).place
        done_is = free_completed s.clock (processor s p).work (processor s p).place n.idle

        other : (q t k : ℕ) → StandsAt (code_at m b).line t q k → (q ≡ p → ⊥) ⊎ (k ≡ (processor s p).place → ⊥) → u ≡ t → ⊥
        other q t k at (inl ne) e = ne (sym (clocked.fit.once u p (processor s p).place q k stands (subst (λ v. StandsAt (code_at m b).line v q k) (sym e) at)).0)
        other q t k at (inr ne) e = ne (sym (clocked.fit.once u p (processor s p).place q k stands (subst (λ v. StandsAt (code_at m b).line v q k) (sym e) at)).1)

        elsewhere : (q : ℕ) → (q ≡ p → ⊥) → (t k : ℕ) → StandsAt (code_at m b).line t q k → u ≡ t → ⊥
        elsewhere q ne t k at = other q t k at (inl ne)

        here_is : (t k : ℕ) → StandsAt (code_at m b).line t p k → k ≡ (processor s p).place → u ≡ t
        here_is t k at e = let x : Some (Do u) ≡ Some (Do t) = sym n.item ∙ ap (slice_get (stream p (code_at m b).line)) (sym e) ∙ at.item in cc

        came_now : get_or (came p) (processor s p).place 0 ≡ s.clock
        came_now = let x = (clocked.timed.each p).now u n.idle n.item in let y = (clocked.timed.each p).past n.idle in let z = ap (λ k. get_or (came p) k 0) done_is in omega arith

        lasts : (until t : ℕ) → s.clock + d ≡ until → u ≡ t → until ≡ get_or (came p) (processor s p).place 0 + took' t
        lasts until t e f = let x = ap took' f in let y = came_now in omega (arith, took_now)

        times : (t k : ℕ) → StandsAt (code_at m b).line t p k → k < suc (processor s p).place → (k ≡ (processor s p).place) ⊎ (k ≡ (processor s p).place → ⊥) → IsDuration m (tuple_at (code_at m b) t) (took' t)
        times t k at l (inl e) = subst (λ v. IsDuration m (tuple_at (code_at m b) v) (took' v)) (here_is t k at e) (subst (IsDuration m (tuple_at (code_at m b) u)) (sym took_now) time)
        times t k at l (inr ne) = subst (IsDuration m (tuple_at (code_at m b) t)) (sym (took_same t (other p t k at (inr ne)))) (tells.times p t k at (omega arith))

        begins : (t k : ℕ) → StandsAt (code_at m b).line t p k → (k ≡ (processor s p).place) ⊎ (k ≡ (processor s p).place → ⊥) → h' (StartOf t) ≡ (if nat_lt k (suc (processor s p).place) then Some (get_or (came p) k 0) else None)
        begins t k at (inl e) =
            ap (λ v. h' (StartOf v)) (sym (here_is t k at e)) ∙ now ∙ sym (cond-true _ _ _ (lt-ltb k (suc (processor s p).place) (omega arith)) ∙ ap Some (ap (λ n. get_or (came p) n 0) e ∙ came_now))
        begins t k at (inr ne) = same t (other p t k at (inr ne)) ∙ tells.starts p t k at ∙ ap (λ v. if v then Some (get_or (came p) k 0) else None) (lt_other k (processor s p).place ne)

  -- ---- Finish of tuple u
  module _ (p until u : ℕ) (operands : List ℤ) (is : (processor s p).work ≡ Busy until u operands) (due : until ≡ s.clock) (within : p < length s.processors) (world : World) (came' : ℕ → List ℕ) (here : came' p ≡ came p ++ s.clock ∷ []) (there : (q : ℕ) → (q ≡ p → ⊥) → came' q ≡ came q) (h' : Point → Option ℕ) (starts : (t : ℕ) → h' (StartOf t) ≡ h (StartOf t)) (now : h' (FinishOf u) ≡ Some s.clock) (same : (t : ℕ) → (u ≡ t → ⊥) → h' (FinishOf t) ≡ h (FinishOf t)) (fires : (j : ℕ) → h' (FireOf j) ≡ h (FireOf j)) where
    pub finish_tells : Tells m (code_at m b) (record (with_processor s p (freed (processor s p))) { world = world }) came' fire h' took
    finish_tells = go (clocked.inside.work p until u operands is)
      where
        go : (k : ℕ) × ((processor s p).place ≡ suc k) × (slice_get (stream p (code_at m b).line) k ≡ Some (Do u)) → Tells m (code_at m b) (record (with_processor s p (freed (processor s p))) { world = world }) came' fire h' took
        go (k0, e, item) = record {
          starts = set_all (λ q x. (t k : ℕ) → StandsAt (code_at m b).line t q k → h' (StartOf t) ≡ (if nat_lt k x.place then Some (get_or (came' q) k 0) else None)) s.processors p (freed (processor s p)) within (λ t k at. starts t ∙ tells.starts p t k at ∙ if_same k (processor s p).place _ _ (λ lt. sym (old k (omega (arith, long))))) (λ q ne t k at. starts t ∙ tells.starts q t k at ∙ ap (λ cs. if nat_lt k (processor s q).place then Some (get_or cs k 0) else None) (sym (there q ne)));
          ends = set_all (λ q x. (t k : ℕ) → StandsAt (code_at m b).line t q k → h' (FinishOf t) ≡ (if nat_lt k (completed x) then Some (get_or (came' q) (suc k) 0) else None)) s.processors p (freed (processor s p)) within (λ t k at. ended t k at (cases_eq k k0)) (λ q ne t k at. same t (λ w. ne (sym (clocked.fit.once u p k0 q k stands (subst (λ v. StandsAt (code_at m b).line v q k) (sym w) at)).0)) ∙ tells.ends q t k at ∙ ap (λ cs. if nat_lt k (completed (processor s q)) then Some (get_or cs (suc k) 0) else None) (sym (there q ne)));
          fires = λ j. fires j ∙ tells.fires j;
          lasts = set_all (λ q x. (until t : ℕ) (operands : List ℤ) → x.work ≡ Busy until t operands → until ≡ get_or (came' q) (completed x) 0 + took t) s.processors p (freed (processor s p)) within (λ until t operands' e. absurd (cc)) (λ q ne until t operands' e. let x = tells.lasts q until t operands' e in let y = ap (λ cs. get_or cs (completed (processor s q)) 0) (there q ne) in omega arith);
          ran = set_all (λ q x. (t k : ℕ) → StandsAt (code_at m b).line t q k → k < completed x → get_or (came' q) (suc k) 0 ≡ get_or (came' q) k 0 + took t) s.processors p (freed (processor s p)) within (λ t k at l. ran t k at l (cases_eq k k0)) (λ q ne t k at l. let x = tells.ran q t k at l in let y = ap (λ cs. get_or cs (suc k) 0) (there q ne) in let z = ap (λ cs. get_or cs k 0) (there q ne) in omega arith);
          times = set_all (λ q x. (t k : ℕ) → StandsAt (code_at m b).line t q k → k < x.place → IsDuration m (tuple_at (code_at m b) t) (took t)) s.processors p (freed (processor s p)) within (λ t k at l. tells.times p t k at l) (λ q ne t k at l. tells.times q t k at l);
          holds = set_all (λ q x. (until : ℕ) → x.work ≡ Held until → (j : ℕ) × HasMember (code_at m b).line j q × (x.place ≡ suc (before q j (code_at m b).line)) × (get_or s.fired j false ≡ true) × (until ≡ fire j + m.machine.delay)) s.processors p (freed (processor s p)) within (λ until e. absurd (cc)) (λ q ne. tells.holds q);
        }
          where
            stands : StandsAt (code_at m b).line u p k0
            stands = record { item = item }

            done_is : completed (processor s p) ≡ k0
            done_is = ap (λ w. completed_at w (processor s p).place) is ∙ ap pred e

            long : length (came p) ≡ (processor s p).place
            long = (clocked.timed.each p).long ∙ ap suc done_is ∙ sym e

            old : (k : ℕ) → k < length (came p) → get_or (came' p) k 0 ≡ get_or (came p) k 0
            old k lt = ap (λ cs. get_or cs k 0) here ∙ push_at (came p) s.clock k lt

            last : get_or (came' p) (processor s p).place 0 ≡ s.clock
            last = ap (λ cs. get_or cs (processor s p).place 0) here ∙ push_last (came p) s.clock (processor s p).place long

            ended_is : (t k : ℕ) → StandsAt (code_at m b).line t p k → k ≡ k0 → u ≡ t
            ended_is t k at w = let x : Some (Do u) ≡ Some (Do t) = sym item ∙ ap (slice_get (stream p (code_at m b).line)) (sym w) ∙ at.item in cc

            ran : (t k : ℕ) → StandsAt (code_at m b).line t p k → k < (processor s p).place → (k ≡ k0) ⊎ (k ≡ k0 → ⊥) → get_or (came' p) (suc k) 0 ≡ get_or (came' p) k 0 + took t
            ran t k at l (inl w) =
                let x = tells.lasts p until u operands is in
                let y = ap took (ended_is t k at w) in
                let z = ap (λ n. get_or (came p) n 0) (done_is ∙ sym w) in
                let a = ap (λ n. get_or (came' p) n 0) (ap suc w ∙ sym e) ∙ last in
                let b = old k (omega (arith, long)) in omega (arith, due)
            ran t k at l (inr ne) = let x = tells.ran p t k at (omega (arith, done_is, e)) in let y = old (suc k) (omega (arith, long, e)) in let z = old k (omega (arith, long, e)) in omega arith

            ended : (t k : ℕ) → StandsAt (code_at m b).line t p k → (k ≡ k0) ⊎ (k ≡ k0 → ⊥) → h' (FinishOf t) ≡ (if nat_lt k (processor s p).place then Some (get_or (came' p) (suc k) 0) else None)
            ended t k at (inl w) =
                ap (λ v. h' (FinishOf v)) (sym (ended_is t k at w)) ∙ now ∙ sym (cond-true _ _ _ (lt-ltb k (processor s p).place (omega arith)) ∙ ap Some (ap (λ n. get_or (came' p) n 0) (ap suc w ∙ sym e) ∙ last))
            ended t k at (inr ne) =
                same t (λ w. ne (sym (clocked.fit.once u p k0 p k stands (subst (λ v. StandsAt (code_at m b).line v p k) (sym w) at)).1))
                ∙ tells.ends p t k at
                ∙ ap (λ c. if nat_lt k c then Some (get_or (came p) (suc k) 0) else None) done_is
                ∙ if_same k k0 _ _ (λ lt. sym (old (suc k) (omega (arith, long, e))))
                ∙ ap (λ v. if v then Some (get_or (came' p) (suc k) 0) else None) (lt_other k k0 ne)
                ∙ ap (λ c. if nat_lt k c then Some (get_or (came' p) (suc k) 0) else None) (sym e)

  -- ---- Fire
  module _ (j : ℕ) (r : IsReady (masks (code_at m b).line) s.fired (waits (code_at m b) s) j) (came' : ℕ → List ℕ) (fire' : ℕ → ℕ) (member : (q : ℕ) → has_bit r.mask q ≡ true → came' q ≡ came q ++ (s.clock + m.machine.delay) ∷ []) (other : (q : ℕ) → has_bit r.mask q ≡ false → came' q ≡ came q) (now : fire' j ≡ s.clock) (same : (k : ℕ) → (k ≡ j → ⊥) → fire' k ≡ fire k) (h' : Point → Option ℕ) (starts : (t : ℕ) → h' (StartOf t) ≡ h (StartOf t)) (finishes : (t : ℕ) → h' (FinishOf t) ≡ h (FinishOf t)) (h_now : h' (FireOf j) ≡ Some s.clock) (h_same : (k : ℕ) → (j ≡ k → ⊥) → h' (FireOf k) ≡ h (FireOf k)) where
    pub fire_tells : Tells m (code_at m b) (record s { processors = passed (s.clock + m.machine.delay) r.mask 0 s.processors; fired = set s.fired j true }) came' fire' h' took
    fire_tells = record {
      starts = fired_all (λ q x. (t k : ℕ) → StandsAt (code_at m b).line t q k → h' (StartOf t) ≡ (if nat_lt k x.place then Some (get_or (came' q) k 0) else None)) (s.clock + m.machine.delay) r.mask s.processors inside
          (λ q g t k at. starts t ∙ tells.starts q t k at ∙ if_same k (processor s q).place _ _ (λ lt. sym (old q g k (omega (arith, long q g)))) ∙ ap (λ v. if v then Some (get_or (came' q) k 0) else None) (lt_other k (processor s q).place (not_wait q g t k at)))
          (λ q g t k at. starts t ∙ tells.starts q t k at ∙ ap (λ cs. if nat_lt k (processor s q).place then Some (get_or cs k 0) else None) (sym (other q g)));
      ends = fired_all (λ q x. (t k : ℕ) → StandsAt (code_at m b).line t q k → h' (FinishOf t) ≡ (if nat_lt k (completed x) then Some (get_or (came' q) (suc k) 0) else None)) (s.clock + m.machine.delay) r.mask s.processors inside
          (λ q g t k at. finishes t ∙ tells.ends q t k at ∙ ap (λ c. if nat_lt k c then Some (get_or (came q) (suc k) 0) else None) (done_is q g) ∙ if_same k (processor s q).place _ _ (λ lt. sym (old q g (suc k) (omega (arith, long q g)))) ∙ ap (λ v. if v then Some (get_or (came' q) (suc k) 0) else None) (lt_other k (processor s q).place (not_wait q g t k at)))
          (λ q g t k at. finishes t ∙ tells.ends q t k at ∙ ap (λ cs. if nat_lt k (completed (processor s q)) then Some (get_or cs (suc k) 0) else None) (sym (other q g)));
      fires = λ k. fired_at k (cases_eq k j);
      lasts = fired_all (λ q x. (until t : ℕ) (operands : List ℤ) → x.work ≡ Busy until t operands → until ≡ get_or (came' q) (completed x) 0 + took t) (s.clock + m.machine.delay) r.mask s.processors inside
          (λ q g until t operands e. absurd (cc))
          (λ q g until t operands e. let x = tells.lasts q until t operands e in let y = ap (λ cs. get_or cs (completed (processor s q)) 0) (other q g) in omega arith);
      ran = fired_all (λ q x. (t k : ℕ) → StandsAt (code_at m b).line t q k → k < completed x → get_or (came' q) (suc k) 0 ≡ get_or (came' q) k 0 + took t) (s.clock + m.machine.delay) r.mask s.processors inside
          (λ q g t k at l. ran q g t k at (below q g t k at l))
          (λ q g t k at l. let x = tells.ran q t k at l in let y = ap (λ cs. get_or cs (suc k) 0) (other q g) in let z = ap (λ cs. get_or cs k 0) (other q g) in omega arith);
      times = fired_all (λ q x. (t k : ℕ) → StandsAt (code_at m b).line t q k → k < x.place → IsDuration m (tuple_at (code_at m b) t) (took t)) (s.clock + m.machine.delay) r.mask s.processors inside
          (λ q g t k at l. tells.times q t k at (below q g t k at l))
          (λ q g t k at l. tells.times q t k at l);
      holds = fired_all (λ q x. (until : ℕ) → x.work ≡ Held until → (k : ℕ) × HasMember (code_at m b).line k q × (x.place ≡ suc (before q k (code_at m b).line)) × (get_or (set s.fired j true) k false ≡ true) × (until ≡ fire' k + m.machine.delay)) (s.clock + m.machine.delay) r.mask s.processors inside
          (λ q g until e. (j, record { mask = r.mask; at = r.at; has = g }, ap suc (sym (place_is q g)), get_or-set_same s.fired j true false in_queue, (let x : s.clock + m.machine.delay ≡ until = cc in sym x ∙ ap (λ c. c + m.machine.delay) (sym now))))
          (λ q g until e. stays q until (tells.holds q until e));
    }
      where
        inside : (q : ℕ) → has_bit r.mask q ≡ true → q < length s.processors
        inside = bound m b clocked.fit done s clocked.inside j r

        in_queue : j < length s.fired
        in_queue = let x = slice_get_within (masks (code_at m b).line) j r.mask r.at in omega (arith, clocked.inside.masks_are)

        place_is : (q : ℕ) → has_bit r.mask q ≡ true → before q j (code_at m b).line ≡ (processor s q).place
        place_is q g = at_wait (code_at m b).line _ _ clocked.inside.agrees j r.mask (is_ready m b clocked.fit done s clocked.inside j r) q g

        done_is : (q : ℕ) → has_bit r.mask q ≡ true → completed (processor s q) ≡ (processor s q).place
        done_is q g = free_completed s.clock (processor s q).work (processor s q).place (waits_parts (code_at m b) s q (r.all_wait q g)).0

        long : (q : ℕ) → has_bit r.mask q ≡ true → length (came q) ≡ suc (processor s q).place
        long q g = (clocked.timed.each q).long ∙ ap suc (done_is q g)

        old : (q : ℕ) → has_bit r.mask q ≡ true → (k : ℕ) → k < length (came q) → get_or (came' q) k 0 ≡ get_or (came q) k 0
        old q g k lt = ap (λ cs. get_or cs k 0) (member q g) ∙ push_at (came q) (s.clock + m.machine.delay) k lt

        not_wait : (q : ℕ) → has_bit r.mask q ≡ true → (t k : ℕ) → StandsAt (code_at m b).line t q k → k ≡ (processor s q).place → ⊥
        not_wait q g t k at e = let x : Some (Do t) ≡ Some Wait = sym at.item ∙ ap (slice_get (stream q (code_at m b).line)) e ∙ wait_at m b clocked.fit done s clocked.inside j r q g in cc

        below : (q : ℕ) → has_bit r.mask q ≡ true → (t k : ℕ) → StandsAt (code_at m b).line t q k → k < suc (processor s q).place → k < (processor s q).place
        below q g t k at l = go (cases_eq k (processor s q).place)
          where
            go : (k ≡ (processor s q).place) ⊎ (k ≡ (processor s q).place → ⊥) → k < (processor s q).place
            go (inl e) = absurd (not_wait q g t k at e)
            go (inr ne) = omega arith

        ran : (q : ℕ) → has_bit r.mask q ≡ true → (t k : ℕ) → StandsAt (code_at m b).line t q k → k < (processor s q).place → get_or (came' q) (suc k) 0 ≡ get_or (came' q) k 0 + took t
        ran q g t k at l = let x = tells.ran q t k at (omega (arith, done_is q g)) in let y = old q g (suc k) (omega (arith, long q g)) in let z = old q g k (omega (arith, long q g)) in omega arith

        fired_at : (k : ℕ) → (k ≡ j) ⊎ (k ≡ j → ⊥) → h' (FireOf k) ≡ (if get_or (set s.fired j true) k false then Some (fire' k) else None)
        fired_at k (inl e) = ap (λ n. h' (FireOf n)) e ∙ h_now ∙ sym (cond-true _ _ _ (ap (λ n. get_or (set s.fired j true) n false) e ∙ get_or-set_same s.fired j true false in_queue) ∙ ap Some (ap fire' e ∙ now))
        fired_at k (inr ne) = h_same k (λ e. ne (sym e)) ∙ tells.fires k ∙ ap (λ v. if v then Some (fire k) else None) (sym (get_or-set_other s.fired j k true false ne)) ∙ ap (λ x. if get_or (set s.fired j true) k false then Some x else None) (sym (same k ne))

        stays : (q until : ℕ) → (k : ℕ) × HasMember (code_at m b).line k q × ((processor s q).place ≡ suc (before q k (code_at m b).line)) × (get_or s.fired k false ≡ true) × (until ≡ fire k + m.machine.delay) → (k : ℕ) × HasMember (code_at m b).line k q × ((processor s q).place ≡ suc (before q k (code_at m b).line)) × (get_or (set s.fired j true) k false ≡ true) × (until ≡ fire' k + m.machine.delay)
        stays q until (k, mem, at, f, e) = (k, mem, at, get_or-set_other s.fired j k true false ne ∙ f, e ∙ ap (λ x. x + m.machine.delay) (sym (same k ne)))
          where
            ne : k ≡ j → ⊥
            ne w = both_ways _ r.unfired (ap (λ n. get_or s.fired n false) (sym w) ∙ f)

  -- ---- Advance
  pub advance_tells : (t : ℕ) → Tells m (code_at m b) (record s { clock = t }) came fire h took
  advance_tells t = record { starts = tells.starts; ends = tells.ends; fires = tells.fires; lasts = tells.lasts; ran = tells.ran; times = tells.times; holds = tells.holds }

-- ---- a block's entry
pub entered_tells : (m : Program) (b clock : ℕ) (w : World) (came : ℕ → List ℕ) (fire : ℕ → ℕ) (h : Point → Option ℕ) (took : ℕ → ℕ) → ((p : ℕ) → came p ≡ clock ∷ []) → ((x : Point) → h x ≡ None) → Tells m (code_at m b) (entered m b clock w) came fire h took
entered_tells m b clock w came fire h took begins none = record {
  starts = λ q t k at. none (StartOf t) ∙ sym (ap (λ x. if nat_lt k x.place then Some (get_or (came q) k 0) else None) (entered_at m.machine.processors q) ∙ cond-false _ _ _ (le-ltb k 0 (omega arith)));
  ends = λ q t k at. none (FinishOf t) ∙ sym (ap (λ x. if nat_lt k (completed x) then Some (get_or (came q) (suc k) 0) else None) (entered_at m.machine.processors q) ∙ cond-false _ _ _ (le-ltb k 0 (omega arith)));
  fires = λ j. none (FireOf j) ∙ sym (cond-false _ _ _ (none_fired (masks (code_at m b).line) j));
  lasts = λ q until t operands e. absurd (let x : Idle ≡ Busy until t operands = sym (ap (λ y. y.work) (entered_at m.machine.processors q)) ∙ e in cc);
  ran = λ q t k at l. absurd (let x = ap completed (entered_at m.machine.processors q) in omega arith);
  times = λ q t k at l. absurd (let x = ap (λ y. y.place) (entered_at m.machine.processors q) in omega arith);
  holds = λ q until e. absurd (let x : Idle ≡ Held until = sym (ap (λ y. y.work) (entered_at m.machine.processors q)) ∙ e in cc);
}
