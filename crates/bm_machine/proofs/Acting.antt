-- What the canonical run does next at a clock.
use Rattle.std.proofs.Common.{◌≡◌, ℕ, List, Some, None, ap, subst}
use Rattle.tuple_ir.specs.declared.event.Event.{Event}
use Rattle.unit_law.specs.State.{Program, In, State, code_at, processor, is_due}
use Rattle.unit_law.specs.Units.{Choice, first_from}
use Rattle.unit_law.specs.Steps.{Finish, Fire, Start}
use Rattle.unit_law.specs.Canonical.{Durations, numbered, can_start}
use Rattle.bm_machine.specs.Moves.{Does, Starts, fires, acts}
use Rattle.bm_machine.proofs.Nexts.{finish_next, fire_next, start_next}

module _ (choice : Choice) (durations : Durations) (m : Program) (b : ℕ) (counts : List ℕ) (s : State) (inside : s.mode ≡ In b) where
  -- a Finish is due
  pub act_finish : (p : ℕ) (event : Event) (counts' : List ℕ) (s' : State) → first_from (λ p. is_due s.clock (processor s p).work) 0 m.machine.processors ≡ Some p → Does m s counts (Finish p) event counts' s' → acts choice durations m b counts s (Some event) counts' s'
  act_finish p event counts' s' first does = (Finish p, record { may = does.may; canonical = λ past h. finish_next choice durations m s b inside past p (ap (numbered Finish) first) }, does)

  module _ (due : first_from (λ p. is_due s.clock (processor s p).work) 0 m.machine.processors ≡ None) where
    -- the unit picks a mask
    pub act_fire : (event : Event) (counts' : List ℕ) (s' : State) → fires choice m b counts s (Some event) counts' s' → acts choice durations m b counts s (Some event) counts' s'
    act_fire event counts' s' (j, answer, does) = (Fire j, record { may = does.may; canonical = λ past h. fire_next choice durations m s b inside past (ap (numbered Finish) due) j answer }, does)

    module _ (s1 : State) (counts1 : List ℕ) (f : fires choice m b counts s None counts1 s1) (m1 : Program) (same : m1 ≡ m) where
      -- a processor starts
      pub act_start : (durations1 : Durations) (p : ℕ) (event : Event) (counts' : List ℕ) (s' : State) → durations1 ≡ durations → first_from (can_start (code_at m1 b) s1) 0 m1.machine.processors ≡ Some p → Starts durations1 m1 b p counts1 s1 event counts' s' → acts choice durations m b counts s (Some event) counts' s'
      act_start durations1 p event counts' s' timing first starts =
          let first' = subst (λ x. first_from (can_start (code_at x b) s) 0 x.machine.processors ≡ Some p) same (subst (λ t. first_from (can_start (code_at m1 b) t) 0 m1.machine.processors ≡ Some p) f.3 first) in
          let st = subst (λ d. Starts d m b p counts s event counts' s') timing (subst (λ x. Starts durations1 x b p counts s event counts' s') same (subst (λ t. Starts durations1 m1 b p counts t event counts' s') f.3 (subst (λ c. Starts durations1 m1 b p c s1 event counts' s') f.2 starts))) in
          (Start p st.time, record { may = st.does.may; canonical = λ past h. start_next choice durations m s b inside past (ap (numbered Finish) due) f.0 p st.time first' (st.timed past h) }, st.does)

      -- nothing can be done
      pub act_none : first_from (can_start (code_at m1 b) s1) 0 m1.machine.processors ≡ None → acts choice durations m b counts s None counts1 s1
      act_none none = (record { due = ap (numbered Finish) due; fires = f.0; lawful = f.1; starts = subst (λ x. first_from (can_start (code_at x b) s) 0 x.machine.processors ≡ None) same (subst (λ t. first_from (can_start (code_at m1 b) t) 0 m1.machine.processors ≡ None) f.3 none) }, f.2, f.3)
