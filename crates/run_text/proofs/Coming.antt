-- A machine that takes the actions of the canonical run stands in one of its states, and where the next event is past the clock, that
-- state shows what the run shows.
use Rattle.std.proofs.Common.{◌≡◌, ℕ, zero, suc, ◌+◌, ◌<◌, ◌≤◌, List, [], ◌∷◌, ◌++◌, append_assoc, length, get_or, replicate, Option, Some, None, refl, sym, ap, ◌∙◌, subst, arith, ◌⊎◌, inl, inr}
use Rattle.std.specs.List.{filter}
use Rattle.std.proofs.lemmas.List.{length-set, length-replicate, append-nil}
use Rattle.std.proofs.lemmas.List.Elements.{filter-append}
use Rattle.tuple_ir.specs.World.{World}
use Rattle.tuple_ir.specs.declared.block.Next.{Next}
use Rattle.tuple_ir.specs.declared.block.Next.TheVariants.{Halt, Goto, If}
use Rattle.tuple_ir.specs.declared.event.Event.{Event}
use Rattle.tuple_ir.specs.declared.event.Event.TheVariants.{Started, Finished, Printed, Fired, Entered, Ended as Over, Reached}
use Rattle.std.proofs.lemmas.Bool.{cases_lt}
use Rattle.bm_base.specs.Memory.{Content}
use Rattle.line_model.specs.declared.line.StreamItem.{StreamItem}
use Rattle.line_model.specs.declared.line.StreamItem.TheVariants.{Do, Wait}
use Rattle.unit_law.specs.State.{Code, Program, Mode, In, Entering, Ended, State, code_at, next_item, start}
use Rattle.unit_law.specs.Units.{Choice}
use Rattle.unit_law.specs.Steps.{Action, Finish, Fire, Start, Branch, Advance, Enter, May, may_to, started, target, after, after_to, state_after}
use Rattle.unit_law.specs.Canonical.{Durations, next_to, next_action, IsCanonical}
use Rattle.unit_law.specs.Events.{branch_event, event_to, event_of, and_event, events_of}
use Rattle.unit_law.proofs.Ordered.{started_mode}
use Rattle.bm_machine.specs.Shown.{HasCounts}
use Rattle.bm_machine.proofs.Goes.{start_counts}
use Rattle.bm_machine.specs.Next.{IsNextAction, counts_after, Takes, EndsWith, StandsFor, goes_on, clock_then, event_clock}
use Rattle.bm_machine.proofs.Answering.{no_event}
use Rattle.run_text.specs.RunUpTo.{end_of, IsRunUpTo}
use Rattle.run_text.specs.Told.{told_by, IsToldUpTo}
use Rattle.run_text.specs.Runs.{HasCome}
use Rattle.run_text.proofs.OneRun.{last_of, last_ended, ended_is, shows_end}

-- ---- the counts
start_one : (m : Program) (mode : Mode) (s : State) (p d : ℕ) → may_to m mode s (Start p d) → p < m.machine.processors
start_one m (In b) s p d may = may.1.1.is_one
start_one m (Entering b) s p d may = absurd may
start_one m Ended s p d may = absurd may

counts_on : (m : Program) (s : State) (counts : List ℕ) (past : List Action) (a : Action) → May m s a → length counts ≡ m.machine.processors → HasCounts counts past → HasCounts (counts_after counts a) (a ∷ past)
counts_on m s counts past (Finish p) may long h = h
counts_on m s counts past (Fire j) may long h = h
counts_on m s counts past (Start p d) may long h = start_counts counts past p d (let x = start_one m s.mode s p d may in omega arith) h
counts_on m s counts past Branch may long h = h
counts_on m s counts past Advance may long h = h
counts_on m s counts past Enter may long h = h

each_on : (counts : List ℕ) (a : Action) → length (counts_after counts a) ≡ length counts
each_on counts (Finish p) = refl
each_on counts (Fire j) = refl
each_on counts (Start p d) = length-set counts p (get_or counts p 0 + 1)
each_on counts Branch = refl
each_on counts Advance = refl
each_on counts Enter = refl

pub zero_at : (n p : ℕ) → let none : ℕ = 0 in get_or (replicate n none) p none ≡ none
zero_at zero p = refl
zero_at (suc n) zero = refl
zero_at (suc n) (suc p) = zero_at n p

module _ (choice : Choice) (durations : Durations) (m : Program) (memory : List Content) where
  -- ---- a machine comes on
  pub comes_first : HasCome choice durations m memory (start m memory) (replicate m.machine.processors 0)
  comes_first = record { past = []; canonical = tt; state_is = refl; counted = λ p. zero_at m.machine.processors p; each = length-replicate m.machine.processors 0 }

  comes_one : (s : State) (counts : List ℕ) (a : Action) → IsNextAction choice durations m counts s a → HasCome choice durations m memory s counts → HasCome choice durations m memory (after m s a) (counts_after counts a)
  comes_one s counts a n h = record {
    past = a ∷ h.past;
    canonical = (h.canonical, subst (λ t. next_to choice durations m t.mode h.past t ≡ Some a) (sym h.state_is) (n.canonical h.past h.counted));
    state_is = ap (λ t. after m t a) h.state_is;
    counted = counts_on m s counts h.past a n.may h.each h.counted;
    each = each_on counts a ∙ h.each;
  }

  pub comes : (s : State) (counts : List ℕ) (actions : List Action) (s' : State) (counts' : List ℕ) → Takes choice durations m counts s actions counts' s' → HasCome choice durations m memory s counts → HasCome choice durations m memory s' counts'
  comes s counts [] s' counts' t h = subst (λ x. HasCome choice durations m memory x counts') (sym t.1) (subst (λ x. HasCome choice durations m memory s x) (sym t.0) h)
  comes s counts (a ∷ actions) s' counts' t h = comes (after m s a) (counts_after counts a) actions s' counts' t.1 (comes_one s counts a t.0 h)

  -- ---- what it tells
  -- what is shown once these actions are taken from this state
  abbrev pub shown : State → List Action → List Event
  shown s [] = []
  shown s (a ∷ actions) = and_event [] (event_of m s a) ++ shown (after m s a) actions

  and_one : (events : List Event) (o : Option Event) → and_event events o ≡ events ++ and_event [] o
  and_one events None = sym (append-nil events)
  and_one events (Some e) = refl

  -- a machine that comes on tells what the actions show
  pub comes_told : (s : State) (counts : List ℕ) (actions : List Action) (s' : State) (counts' : List ℕ) → Takes choice durations m counts s actions counts' s' → (h : HasCome choice durations m memory s counts)
      → (k : HasCome choice durations m memory s' counts') × (events_of m memory k.past ≡ events_of m memory h.past ++ shown s actions)
  unfolding comes_one
  comes_told s counts [] s' counts' t h =
      (record { past = h.past; canonical = h.canonical; state_is = h.state_is ∙ sym t.1; counted = subst (λ c. HasCounts c h.past) (sym t.0) h.counted; each = ap length t.0 ∙ h.each }, sym (append-nil (events_of m memory h.past)))
  comes_told s counts (a ∷ actions) s' counts' t h =
      let one = comes_one s counts a t.0 h in
      let (k, e) = comes_told (after m s a) (counts_after counts a) actions s' counts' t.1 one in
      let first : events_of m memory one.past ≡ events_of m memory h.past ++ and_event [] (event_of m s a) = and_one (events_of m memory h.past) (event_of m (state_after m memory h.past) a) ∙ ap (λ x. events_of m memory h.past ++ and_event [] (event_of m x a)) h.state_is in
      (k, e ∙ ap (λ l. l ++ shown (after m s a) actions) first ∙ append_assoc (events_of m memory h.past) (and_event [] (event_of m s a)) (shown (after m s a) actions))

  ends_shown : (s : State) (actions : List Action) (event : Event) → EndsWith m s actions event → shown s actions ≡ event ∷ []
  ends_shown s [] event h = absurd h
  ends_shown s (a ∷ []) event h = ap (λ o. and_event [] o ++ []) h
  ends_shown s (a ∷ b ∷ actions) event h = ap (λ o. and_event [] o ++ shown (after m s a) (b ∷ actions)) h.0 ∙ ends_shown (after m s a) (b ∷ actions) event h.1

  advances_shown : (n : ℕ) (s : State) → shown s (replicate n Advance) ≡ []
  advances_shown zero s = refl
  advances_shown (suc n) s = ap (λ o. and_event [] o ++ shown (after m s Advance) (replicate n Advance)) (no_event m s.mode s) ∙ advances_shown n (after m s Advance)

  -- of the actions of a call those that show something show its event
  pub stands_shown : (s : State) (event : Event) (actions : List Action) → StandsFor m s event actions → filter goes_on (shown s actions) ≡ filter goes_on (event ∷ [])
  stands_shown s (Started at p t d) actions h = ap (filter goes_on) (ends_shown s actions (Started at p t d) h)
  stands_shown s (Finished at p t v) actions h = ap (filter goes_on) (ends_shown s actions (Finished at p t v) h)
  stands_shown s (Printed at p t v) actions h = ap (filter goes_on) (ends_shown s actions (Printed at p t v) h)
  stands_shown s (Fired at j mask) actions h = ap (filter goes_on) (ends_shown s actions (Fired at j mask) h)
  stands_shown s (Entered at b) actions h = ap (filter goes_on) (ends_shown s actions (Entered at b) h)
  stands_shown s (Over at) actions (inl h) = ap (filter goes_on) (ends_shown s actions (Over at) h)
  stands_shown s (Over at) actions (inr h) = ap (λ l. filter goes_on (shown s l)) h.2
  stands_shown s Reached actions h = ap (λ l. filter goes_on (shown s l)) h.1 ∙ ap (filter goes_on) (advances_shown h.0 s)

  -- so it tells the event, where the run goes on by it
  pub comes_telling : (s : State) (counts : List ℕ) (event : Event) (actions : List Action) (s' : State) (counts' : List ℕ) → StandsFor m s event actions → Takes choice durations m counts s actions counts' s' → (h : HasCome choice durations m memory s counts)
      → (k : HasCome choice durations m memory s' counts') × (told_by m memory k.past ≡ told_by m memory h.past ++ filter goes_on (event ∷ []))
  comes_telling s counts event actions s' counts' for t h =
      let (k, e) = comes_told s counts actions s' counts' t h in
      (k, ap (filter goes_on) e ∙ filter-append goes_on (events_of m memory h.past) (shown s actions) ∙ ap (λ l. told_by m memory h.past ++ l) (stands_shown s event actions for))

  -- ---- it stands
  -- where an action leads to a block's entry, it prints nothing
  start_mode : (code : Code) (s : State) (p d : ℕ) (o : Option StreamItem) → (started code s p d o).world ≡ s.world
  start_mode code s p d None = refl
  start_mode code s p d (Some Wait) = refl
  start_mode code s p d (Some (Do t)) = refl

  leaves_output : (mode : Mode) (s : State) (a : Action) (b : ℕ) → s.mode ≡ mode → (after_to m mode s a).mode ≡ Entering b → (after_to m mode s a).world.output ≡ s.world.output
  leaves_output (In c) s (Finish p) b e h = let x : s.mode ≡ Entering b = h in absurd (cc)
  leaves_output (In c) s (Fire j) b e h = refl
  leaves_output (In c) s (Start p d) b e h = ap (λ w. w.output) (start_mode (code_at m c) s p d (next_item (code_at m c) s p))
  leaves_output (In c) s Branch b e h = refl
  leaves_output (In c) s Advance b e h = refl
  leaves_output (In c) s Enter b e h = refl
  leaves_output (Entering c) s a b e h = refl
  leaves_output Ended s a b e h = refl

  not_ended : (past : List Action) (mode : Mode) (s t : State) (a : Action) → next_to choice durations m mode past s ≡ Some a → None ≡ end_of t mode
  not_ended past (In b) s t a e = refl
  not_ended past (Entering b) s t a e = refl
  not_ended past Ended s t a e = absurd (cc)

  -- from a block's entry the clock goes on
  pub enters_later : (mode : Mode) (b : ℕ) → mode ≡ Entering b → (past : List Action) (s : State) (a : Action) → next_to choice durations m mode past s ≡ Some a → (after_to m mode s a).clock ≡ s.clock + 1
  enters_later (In c) b e past s a h = absurd (cc)
  enters_later (Entering c) b e past s a h = refl
  enters_later Ended b e past s a h = absurd (cc)

  -- and shows nothing
  leads_silent : (next : Next) (w : World) (clock b : ℕ) → target next w ≡ Entering b → branch_event clock next ≡ None
  leads_silent Halt w clock b e = absurd (cc)
  leads_silent (Goto d) w clock b e = refl
  leads_silent (If c one other) w clock b e = refl

  leaves_silent : (mode : Mode) (s : State) (a : Action) (b : ℕ) → s.mode ≡ mode → (after_to m mode s a).mode ≡ Entering b → event_to m mode s a ≡ None
  leaves_silent (In c) s (Finish p) b e h = let x : In c ≡ Entering b = sym e ∙ h in absurd (cc)
  leaves_silent (In c) s (Fire j) b e h = let x : In c ≡ Entering b = sym e ∙ h in absurd (cc)
  leaves_silent (In c) s (Start p d) b e h = let x : In c ≡ Entering b = sym (started_mode (code_at m c) s p d (next_item (code_at m c) s p) ∙ e) ∙ h in absurd (cc)
  leaves_silent (In c) s Branch b e h = leads_silent (code_at m c).next s.world s.clock b h
  leaves_silent (In c) s Advance b e h = refl
  leaves_silent (In c) s Enter b e h = refl
  leaves_silent (Entering c) s a b e h = absurd (cc)
  leaves_silent Ended s a b e h = refl

  -- what the run shows at clocks of at most `until`, and what it tells
  pub record Standing (until : ℕ) (past : List Action) : Type 0 where
    pub shows : IsRunUpTo choice durations m memory until (state_after m memory past).world.output None
    pub tells : IsToldUpTo choice durations m memory until (told_by m memory past) None

  module _ (until : ℕ) (past : List Action) (c : IsCanonical choice durations m memory past) (in_time : (state_after m memory past).clock ≤ until) where
    -- what comes next is past the clock
    stands_before : (a : Action) → next_action choice durations m memory past ≡ Some a → until < (state_after m memory (a ∷ past)).clock → Standing until past
    stands_before a e late =
        let last = last_of choice durations m memory until past c in_time (λ b f. let x : Some a ≡ Some b = sym e ∙ f in let y : a ≡ b = cc in subst (λ d. until < (state_after m memory (d ∷ past)).clock) y late) in
        let end = not_ended past (state_after m memory past).mode (state_after m memory past) (state_after m memory past) a e in
        record { shows = record { past = past; is_last = last; output_is = refl; end_is = end }; tells = record { past = past; is_last = last; events_are = refl; end_is = end } }

    -- what comes next leads to a block's entry, and only the entry is past the clock
    stands_behind : (a : Action) → next_action choice durations m memory past ≡ Some a → (b : ℕ) → (state_after m memory (a ∷ past)).mode ≡ Entering b → until < (state_after m memory (a ∷ past)).clock + 1 → (state_after m memory (a ∷ past)).clock ≤ until → Standing until past
    stands_behind a e b enters late early =
        let last = last_of choice durations m memory until (a ∷ past) (c, e) early (λ d f. let x = enters_later (state_after m memory (a ∷ past)).mode b enters (a ∷ past) (state_after m memory (a ∷ past)) d f in omega arith) in
        let end = sym (ap (end_of (state_after m memory (a ∷ past))) enters) in
        let silent = leaves_silent (state_after m memory past).mode (state_after m memory past) a b refl enters in
        record {
          shows = record { past = a ∷ past; is_last = last; output_is = sym (leaves_output (state_after m memory past).mode (state_after m memory past) a b refl enters); end_is = end };
          tells = record { past = a ∷ past; is_last = last; events_are = ap (λ o. filter goes_on (and_event (events_of m memory past) o)) (sym silent); end_is = end };
        }

    stands_to : (a : Action) → next_action choice durations m memory past ≡ Some a → (mode : Mode) → (state_after m memory (a ∷ past)).mode ≡ mode → until < clock_then mode (state_after m memory (a ∷ past)).clock → Standing until past
    stands_to a e (In b) f late = stands_before a e late
    stands_to a e Ended f late = stands_before a e late
    stands_to a e (Entering b) f late = go (cases_lt until (state_after m memory (a ∷ past)).clock)
      where
        go : (until < (state_after m memory (a ∷ past)).clock) ⊎ ((state_after m memory (a ∷ past)).clock ≤ until) → Standing until past
        go (inl x) = stands_before a e x
        go (inr x) = stands_behind a e b f late x

    stands_at : (o : Option Action) → next_action choice durations m memory past ≡ o → until < event_clock m (state_after m memory past) o → Standing until past
    stands_at None e late = absurd (omega arith)
    stands_at (Some a) e late = stands_to a e (state_after m memory (a ∷ past)).mode refl late

  -- where the next event is past the clock, the run shows what it has printed, and has not ended
  pub stands : (s : State) (counts : List ℕ) (until : ℕ) → (h : HasCome choice durations m memory s counts) → s.clock ≤ until → until < event_clock m s (next_to choice durations m s.mode h.past s) → IsRunUpTo choice durations m memory until s.world.output None × IsToldUpTo choice durations m memory until (told_by m memory h.past) None
  stands s counts until h = subst (λ t. t.clock ≤ until → until < event_clock m t (next_to choice durations m t.mode h.past t) → IsRunUpTo choice durations m memory until t.world.output None × IsToldUpTo choice durations m memory until (told_by m memory h.past) None) h.state_is (λ early late. let x = stands_at until h.past h.canonical early (next_action choice durations m memory h.past) refl late in (x.shows, x.tells))

  -- where it has ended, the run shows its output and its end, and has told its events
  pub stands_ended : (s : State) (counts : List ℕ) (until : ℕ) → (h : HasCome choice durations m memory s counts) → s.clock ≤ until → s.mode ≡ Ended → IsRunUpTo choice durations m memory until s.world.output (Some (record { clock = s.clock; memory = s.world.memory })) × IsToldUpTo choice durations m memory until (told_by m memory h.past) (Some (record { clock = s.clock; memory = s.world.memory }))
  stands_ended s counts until h = subst (λ t. t.clock ≤ until → t.mode ≡ Ended → IsRunUpTo choice durations m memory until t.world.output (Some (record { clock = t.clock; memory = t.world.memory })) × IsToldUpTo choice durations m memory until (told_by m memory h.past) (Some (record { clock = t.clock; memory = t.world.memory }))) h.state_is (λ early over. let x = shows_end choice durations m memory until h.past h.canonical early over in (x, record { past = h.past; is_last = last_ended choice durations m memory until h.past h.canonical early over; events_are = refl; end_is = sym (ended_is choice durations m memory (state_after m memory h.past) (state_after m memory h.past).mode over) }))
