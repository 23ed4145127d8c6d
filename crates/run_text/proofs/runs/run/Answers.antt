-- Each exit stands on where the machine is after the event, and on what was given on before it.
use Rattle.std.proofs.Common.{◌≡◌, ℕ, ◌<◌, ◌≤◌, ◌++◌, List, [], ◌∷◌, true, arith, rules, refl, sym, ap, ◌∙◌, subst, le_refl, le_trans, if◌then◌else◌}
use Rattle.std.specs.List.{filter}
use Rattle.std.proofs.lemmas.List.{append-nil}
use Rattle.bm_base.specs.Memory.{Content}
use Rattle.bm_io.specs.Causes.{Rose}
use Rattle.tuple_ir.specs.declared.event.Event.{Event}
use Rattle.tuple_ir.specs.declared.event.Event.TheVariants.{Started, Finished, Printed, Fired, Entered, Ended as Over, Reached}
use Rattle.bm_machine.specs.Next.{Stays, IsPast, printed_by, goes_on}
use Rattle.bm_machine.proofs.Staying.{stays_first, stays_on}
use Rattle.run_text.specs.declared.runs.RunEnd.TheVariants.{Ended, Going}
use Rattle.run_text.specs.Told.{told_by, prints_of}
use Rattle.run_text.specs.Runs.{HasCome}
use Rattle.run_text.proofs.Coming.{stands_ended}
use Rattle.run_text.proofs.Going.{IsOf, IsGiven, come_next, stands_next, given_first, given_more, tells_ok, tells_err}
use Rattle.run_text.proofs.runs.run.Given.{Over as Types}
use Rattle.run_text.proofs.runs.run.Goals.{After-next-event, After-event}
use Rattle.run_text.proofs.runs.run.Goals as goal

-- ---- after the event
is_of : (g : Types) (c : After-next-event g) → IsOf (g.U.BarrierUnit.choice c.loop-out.machine.unit) (g.T.Timing.duration c.loop-out.machine.timing) c.loop-out.machine.program (g.U.BarrierUnit.choice c.args.machine.now.unit) (g.T.Timing.duration c.args.machine.now.timing) c.args.machine.now.program
is_of g c = record { choice_is = c.loop-out.invariant.stays.choice; durations_are = ap g.T.Timing.duration c.loop-out.invariant.stays.timing; program_is = c.loop-out.invariant.stays.program }

step : (g : Types) (c : After-next-event g) (memory : List Content) (h : HasCome (g.U.BarrierUnit.choice c.args.machine.now.unit) (g.T.Timing.duration c.args.machine.now.timing) c.args.machine.now.program memory c.loop-out.machine.state c.loop-out.machine.counts)
    → (k : HasCome (g.U.BarrierUnit.choice c.args.machine.now.unit) (g.T.Timing.duration c.args.machine.now.timing) c.args.machine.now.program memory c.next-event.new.self.state c.next-event.new.self.counts)
    × (told_by c.args.machine.now.program memory k.past ≡ told_by c.args.machine.now.program memory h.past ++ filter goes_on (c.next-event.result ∷ []))
step g c memory h = come_next _ _ _ _ _ _ (is_of g c) memory c.loop-out.machine.state c.loop-out.machine.counts c.next-event.result c.next-event.new.self.state c.next-event.new.self.counts c.next-event.ensures.steps h

in_time : (g : Types) (c : After-next-event g) → c.args.machine.now.state.clock ≤ c.args.until → c.next-event.new.self.state.clock ≤ c.args.until
in_time g c early = c.next-event.ensures.in_time (c.loop-out.invariant.in_time early)

stays : (g : Types) (c : After-next-event g) → Stays g.U.BarrierUnit.choice c.args.machine.now c.next-event.new.self
stays g c = stays_on g.U.BarrierUnit.choice c.args.machine.now c.loop-out.machine c.next-event.new.self c.loop-out.invariant.stays c.next-event.ensures.stays

-- an event that ends the call is not given on
given_none : (g : Types) (c : After-next-event g) (es : List Event) → es ≡ [] → filter goes_on (c.next-event.result ∷ []) ≡ es → printed_by c.next-event.result ≡ [] → IsGiven (g.U.BarrierUnit.choice c.args.machine.now.unit) (g.T.Timing.duration c.args.machine.now.timing) c.args.machine.now.program c.args.machine.now.state c.args.machine.now.counts g.E.Events.with_event (g.E.Events.held c.args.out.now) c.next-event.new.self.state c.next-event.new.self.counts (g.E.Events.held c.loop-out.out)
given_none g c es none told printed =
    given_more _ _ _ _ _ g.E.Events.with_event g.E.Events.leaves (g.E.Events.held c.args.out.now) c.loop-out.machine.state c.loop-out.machine.counts (g.E.Events.held c.loop-out.out) [] c.next-event.new.self.state c.next-event.new.self.counts (g.E.Events.held c.loop-out.out)
    (c.next-event.ensures.output ∙ ap (λ l. c.loop-out.machine.state.world.output ++ l) printed) refl
    (λ memory h. let (k, e) = step g c memory h in (k, e ∙ ap (λ l. told_by c.args.machine.now.program memory h.past ++ l) (told ∙ none)))
    c.loop-out.invariant.given

-- any other goes on
goes : (e : Event) → ((k : ℕ) → e ≡ Over k → ⊥) → (e ≡ Reached → ⊥) → goes_on e ≡ true
goes (Started k p t d) a b = refl
goes (Finished k p t v) a b = refl
goes (Printed k p t v) a b = refl
goes (Fired k j mask) a b = refl
goes (Entered k n) a b = refl
goes (Over k) a b = absurd (a k refl)
goes Reached a b = absurd (b refl)

one : (e : Event) → goes_on e ≡ true → filter goes_on (e ∷ []) ≡ e ∷ []
one e g = ap (λ v. if v then e ∷ [] else []) g

-- where the clock is past the tick, it is reached at once
is_late : (g : Types) (c : After-next-event g) → c.args.until < c.args.machine.now.state.clock → c.next-event.result ≡ Reached
is_late g c l = (c.next-event.ensures.late (subst (λ s. c.args.until < s.clock) (sym (c.loop-out.invariant.late l).0) l)).0

over_no : {k : ℕ} (e : Event) → e ≡ Reached → e ≡ Over k → ⊥
over_no e r q = let x : Reached ≡ Over _ = sym r ∙ q in cc

next : (g : Types) (c : After-next-event g) → goes_on c.next-event.result ≡ true → (memory : List Content) (h : HasCome (g.U.BarrierUnit.choice c.args.machine.now.unit) (g.T.Timing.duration c.args.machine.now.timing) c.args.machine.now.program memory c.loop-out.machine.state c.loop-out.machine.counts)
    → (k : HasCome (g.U.BarrierUnit.choice c.args.machine.now.unit) (g.T.Timing.duration c.args.machine.now.timing) c.args.machine.now.program memory c.next-event.new.self.state c.next-event.new.self.counts)
    × (told_by c.args.machine.now.program memory k.past ≡ told_by c.args.machine.now.program memory h.past ++ c.next-event.result ∷ [])
next g c on memory h = let (k, e) = step g c memory h in (k, e ∙ ap (λ l. told_by c.args.machine.now.program memory h.past ++ l) (one c.next-event.result on))

rose_later : (a b n : ℕ) → a ≤ b → Rose b n → Rose a n
rose_later a b n l r = omega arith

-- ---- the loop
pub loop-out-init : goal.loop-out-init
loop-out-init g c = record { stays = stays_first g.U.BarrierUnit.choice c.args.machine.now; in_time = λ early. early; late = λ l. (refl, refl); given = given_first _ _ _ _ _ g.E.Events.with_event g.E.Events.leaves (g.E.Events.held c.args.out.now); later = le_refl _; lender = refl }

-- the run has ended
ended : (g : Types) (c : After-next-event g) (k : ℕ) → c.next-event.result ≡ Over k → IsGiven (g.U.BarrierUnit.choice c.args.machine.now.unit) (g.T.Timing.duration c.args.machine.now.timing) c.args.machine.now.program c.args.machine.now.state c.args.machine.now.counts g.E.Events.with_event (g.E.Events.held c.args.out.now) c.next-event.new.self.state c.next-event.new.self.counts (g.E.Events.held c.loop-out.out)
ended g c k e = given_none g c [] refl (ap (λ x. filter goes_on (x ∷ [])) e) (ap printed_by e)

pub returns-in-Ended-clause-stays : goal.returns-in-Ended-clause-stays
returns-in-Ended-clause-stays g c = stays g (goal.at.returns-in-Ended-clause-stays g c).After-next-event

pub returns-in-Ended-clause-come : goal.returns-in-Ended-clause-come
returns-in-Ended-clause-come g c memory h = ((ended g (goal.at.returns-in-Ended-clause-come g c).After-next-event c.in-Ended.at c.in-Ended.is).come memory h).0

pub returns-in-Ended-clause-late : goal.returns-in-Ended-clause-late
returns-in-Ended-clause-late g c l = absurd (over_no c.next-event.result (is_late g (goal.at.returns-in-Ended-clause-late g c).After-next-event l) c.in-Ended.is)

pub returns-in-Ended-clause-tells : goal.returns-in-Ended-clause-tells
returns-in-Ended-clause-tells g c memory h early =
    let n = (goal.at.returns-in-Ended-clause-tells g c).After-next-event in
    let given = ended g n c.in-Ended.at c.in-Ended.is in
    tells_ok _ _ _ _ _ g.E.Events.with_event g.E.Events.leaves (g.E.Events.held c.args.out.now) memory c.args.until h c.next-event.new.self.state c.next-event.new.self.counts Ended (g.E.Events.held c.loop-out.out) given
    (stands_ended _ _ _ memory c.next-event.new.self.state c.next-event.new.self.counts c.args.until (given.come memory h).0 (in_time g n early) c.in-Ended.ensures.at.1)

pub returns-in-Ended-clause-cause : goal.returns-in-Ended-clause-cause
returns-in-Ended-clause-cause g c = record { later = c.loop-out.invariant.later; rose = λ e. absurd (cc) }

pub returns-in-Ended-clause-lender : goal.returns-in-Ended-clause-lender
returns-in-Ended-clause-lender g c = c.loop-out.invariant.lender

-- its time is over
reached : (g : Types) (c : After-next-event g) → c.next-event.result ≡ Reached → IsGiven (g.U.BarrierUnit.choice c.args.machine.now.unit) (g.T.Timing.duration c.args.machine.now.timing) c.args.machine.now.program c.args.machine.now.state c.args.machine.now.counts g.E.Events.with_event (g.E.Events.held c.args.out.now) c.next-event.new.self.state c.next-event.new.self.counts (g.E.Events.held c.loop-out.out)
reached g c e = given_none g c [] refl (ap (λ x. filter goes_on (x ∷ [])) e) (ap printed_by e)

pub returns-in-Reached-clause-stays : goal.returns-in-Reached-clause-stays
returns-in-Reached-clause-stays g c = stays g (goal.at.returns-in-Reached-clause-stays g c).After-next-event

pub returns-in-Reached-clause-come : goal.returns-in-Reached-clause-come
returns-in-Reached-clause-come g c memory h = ((reached g (goal.at.returns-in-Reached-clause-come g c).After-next-event c.in-Reached.is).come memory h).0

pub returns-in-Reached-clause-in_time : goal.returns-in-Reached-clause-in_time
returns-in-Reached-clause-in_time g c = in_time g (goal.at.returns-in-Reached-clause-in_time g c).After-next-event

pub returns-in-Reached-clause-late : goal.returns-in-Reached-clause-late
returns-in-Reached-clause-late g c l =
    let h = c.loop-out.invariant.late l in
    let n = c.next-event.ensures.late (subst (λ s. c.args.until < s.clock) (sym h.0) l) in
    (refl, n.1 ∙ h.0, h.1)

past : (g : Types) (c : After-next-event g) → c.next-event.result ≡ Reached → IsPast (g.U.BarrierUnit.choice c.loop-out.machine.unit) (g.T.Timing.duration c.loop-out.machine.timing) c.loop-out.machine.program c.next-event.new.self.counts c.next-event.new.self.state c.args.until
past g c e = c.next-event.ensures.reached e

pub returns-in-Reached-clause-tells : goal.returns-in-Reached-clause-tells
returns-in-Reached-clause-tells g c memory h early =
    let n = (goal.at.returns-in-Reached-clause-tells g c).After-next-event in
    let given = reached g n c.in-Reached.is in
    tells_ok _ _ _ _ _ g.E.Events.with_event g.E.Events.leaves (g.E.Events.held c.args.out.now) memory c.args.until h c.next-event.new.self.state c.next-event.new.self.counts Going (g.E.Events.held c.loop-out.out) given
    (stands_next _ _ _ _ _ _ (is_of g n) memory c.next-event.new.self.state c.next-event.new.self.counts c.args.until (past g n c.in-Reached.is) (given.come memory h).0 (in_time g n early))

pub returns-in-Reached-clause-cause : goal.returns-in-Reached-clause-cause
returns-in-Reached-clause-cause g c = record { later = c.loop-out.invariant.later; rose = λ e. absurd (cc) }

pub returns-in-Reached-clause-lender : goal.returns-in-Reached-clause-lender
returns-in-Reached-clause-lender g c = c.loop-out.invariant.lender

-- an event by which the run goes on is given on
going : (g : Types) (c : After-event g) → goes_on c.next-event.result ≡ true
going g c = goes c.next-event.result (λ k e. c.in_default.not-Ended k e) (λ e. c.in_default.not-Reached e)

told : (g : Types) (c : After-event g) → c.next-event.new.self.state.world.output ≡ c.loop-out.machine.state.world.output ++ prints_of (c.next-event.result ∷ [])
told g c = c.next-event.ensures.output ∙ ap (λ l. c.loop-out.machine.state.world.output ++ l) (sym (append-nil (printed_by c.next-event.result)))

pub returns-in-Err : goal.returns-in-Err
returns-in-Err g c =
    let n = (goal.at.returns-in-Err g c).After-next-event in
    let d = (goal.at.returns-in-Err g c).After-event in
    let steps = next g n (going g d) in
    let cause = c.event.ensures.cause in
    record {
      stays = stays g n;
      come = λ memory h. (steps memory (c.loop-out.invariant.given.come memory h).0).0;
      in_time = in_time g n;
      late = λ l. absurd (c.in_default.not-Reached (is_late g n l));
      tells = λ memory h early. tells_err _ _ _ _ _ g.E.Events.with_event g.E.Events.leaves (g.E.Events.held c.args.out.now) memory c.args.until h c.next-event.new.self.state c.next-event.new.self.counts c.loop-out.machine.state c.loop-out.machine.counts c.next-event.result (g.E.Events.held c.loop-out.out) (g.E.Events.held c.event.new.self) c.in-Err.fault c.loop-out.invariant.given (in_time g n early) (told g d) steps c.in-Err.ensures.refused;
      cause = record { later = le_trans c.loop-out.invariant.later cause.later; rose = λ e. rose_later _ _ _ c.loop-out.invariant.later (cause.rose (search rules)) };
      sure = λ t. absurd (search rules);
      lender = c.event.ensures.lender ∙ c.loop-out.invariant.lender;
    }

pub loop-out-preserved : goal.loop-out-preserved
loop-out-preserved g c =
    let n = (goal.at.loop-out-preserved g c).After-next-event in
    let d = (goal.at.loop-out-preserved g c).After-event in
    let cause = c.event.ensures.cause in
    record {
      stays = stays g n;
      in_time = in_time g n;
      late = λ l. absurd (c.in_default.not-Reached (is_late g n l));
      given = given_more _ _ _ _ _ g.E.Events.with_event g.E.Events.leaves (g.E.Events.held c.args.out.now) c.loop-out.machine.state c.loop-out.machine.counts (g.E.Events.held c.loop-out.out) (c.next-event.result ∷ []) c.next-event.new.self.state c.next-event.new.self.counts (g.E.Events.held c.event.new.self) (told g d) c.in_default-event.ensures.taken (next g n (going g d)) c.loop-out.invariant.given;
      later = le_trans c.loop-out.invariant.later cause.later;
      lender = c.event.ensures.lender ∙ c.loop-out.invariant.lender;
    }
