-- One turn of the loop: where the machine stands after an event, what was given on, and what an answer then says.
use Rattle.std.proofs.Common.{◌≡◌, ℕ, ◌<◌, ◌≤◌, List, [], ◌∷◌, ◌++◌, Option, None, Result, Ok, Err, refl, sym, ap, ◌∙◌, subst, ℤ, append_assoc, append-nil}
use Rattle.std.specs.List.{fold, filter}
use Rattle.std.proofs.lemmas.List.{append_cancel_left}
use Rattle.bm_base.specs.Memory.{Content}
use Rattle.bm_io.specs.declared.sinks.SinkFault.{SinkFault}
use Rattle.bm_io.specs.Values.{StopsAt, Took}
use Rattle.tuple_ir.specs.declared.event.Event.{Event}
use Rattle.tuple_ir.specs.declared.event.Event.TheVariants.{Started, Finished, Printed, Fired, Entered, Ended as Over, Reached}
use Rattle.unit_law.specs.State.{Program, State}
use Rattle.unit_law.specs.Units.{Choice}
use Rattle.unit_law.specs.Steps.{Action}
use Rattle.unit_law.specs.Canonical.{Durations, next_to}
use Rattle.bm_machine.specs.Next.{Takes, StandsFor, IsPast, event_clock, goes_on, printed_by}
use Rattle.run_text.specs.declared.runs.RunEnd.{RunEnd}
use Rattle.run_text.specs.RunUpTo.{End, IsRunUpTo}
use Rattle.run_text.specs.Told.{told_by, prints_of, StopsAtEvent, Tells, with_print, leaves_print, IsToldUpTo}
use Rattle.run_text.specs.Runs.{HasCome, end_told, RunsOn, TellsOn}
use Rattle.run_text.proofs.OneRun.{shows_one, shows_front}
use Rattle.run_text.proofs.Coming.{comes_telling, stands}

-- ---- the machine
-- it is of this program, unit and timing all along
pub record IsOf (choice : Choice) (durations : Durations) (m : Program) (choice0 : Choice) (durations0 : Durations) (m0 : Program) : Type 0 where
  pub choice_is : choice ≡ choice0
  pub durations_are : durations ≡ durations0
  pub program_is : m ≡ m0

module _ (choice : Choice) (durations : Durations) (m : Program) (choice0 : Choice) (durations0 : Durations) (m0 : Program) (is : IsOf choice durations m choice0 durations0 m0) (memory : List Content) where
  pub come_next : (s : State) (counts : List ℕ) (event : Event) (s' : State) (counts' : List ℕ) → ((actions : List Action) × StandsFor m s event actions × Takes choice durations m counts s actions counts' s') → (h : HasCome choice0 durations0 m0 memory s counts)
      → (k : HasCome choice0 durations0 m0 memory s' counts') × (told_by m0 memory k.past ≡ told_by m0 memory h.past ++ filter goes_on (event ∷ []))
  come_next s counts event s' counts' (actions, for, t) h =
      let x = subst (λ c. Takes c durations m counts s actions counts' s') is.choice_is t in
      let y = subst (λ d. Takes choice0 d m counts s actions counts' s') is.durations_are x in
      let z = subst (λ p. Takes choice0 durations0 p counts s actions counts' s') is.program_is y in
      let f = subst (λ p. StandsFor p s event actions) is.program_is for in
      comes_telling choice0 durations0 m0 memory s counts event actions s' counts' f z h

  pub stands_next : (s : State) (counts : List ℕ) (until : ℕ) → IsPast choice durations m counts s until → (h : HasCome choice0 durations0 m0 memory s counts) → s.clock ≤ until → IsRunUpTo choice0 durations0 m0 memory until s.world.output None × IsToldUpTo choice0 durations0 m0 memory until (told_by m0 memory h.past) None
  stands_next s counts until late h early =
      let x = late h.past h.counted in
      let y = subst (λ c. until < event_clock m s (next_to c durations m s.mode h.past s)) is.choice_is x in
      let z = subst (λ d. until < event_clock m s (next_to choice0 d m s.mode h.past s)) is.durations_are y in
      let w = subst (λ p. until < event_clock p s (next_to choice0 durations0 p s.mode h.past s)) is.program_is z in
      stands choice0 durations0 m0 memory s counts until h early w

-- ---- what was given on
pub prints_append : (xs ys : List Event) → prints_of (xs ++ ys) ≡ prints_of xs ++ prints_of ys
prints_append [] ys = refl
prints_append (x ∷ xs) ys = ap (λ l. printed_by x ++ l) (prints_append xs ys) ∙ sym (append_assoc (printed_by x) (prints_of xs) (prints_of ys))

fold_append : {Held : Type 0} (next : Held → Event → Held) (z : Held) (xs ys : List Event) → fold next z (xs ++ ys) ≡ fold next (fold next z xs) ys
fold_append next z [] ys = refl
fold_append next z (x ∷ xs) ys = fold_append next (next z x) xs ys

-- since state s0 these events were told, and given on to what held `old`
pub record IsGiven {Held : Type 0} (choice : Choice) (durations : Durations) (m : Program) (s0 : State) (counts0 : List ℕ) (next : Held → Event → Held) (old : Held) (s : State) (counts : List ℕ) (now : Held) : Type 0 where
  pub events : List Event
  pub output_is : s.world.output ≡ s0.world.output ++ prints_of events
  pub held_is : now ≡ fold next old events
  pub come : (memory : List Content) (h : HasCome choice durations m memory s0 counts0) → (k : HasCome choice durations m memory s counts) × (told_by m memory k.past ≡ told_by m memory h.past ++ events)

module _ {Held : Type 0} (choice : Choice) (durations : Durations) (m : Program) (s0 : State) (counts0 : List ℕ) (next : Held → Event → Held) (leaves : SinkFault → Held → Event → Held → Type 0) (old : Held) where
  pub given_first : IsGiven choice durations m s0 counts0 next old s0 counts0 old
  given_first = record { events = []; output_is = sym (append-nil s0.world.output); held_is = refl; come = λ memory h. (h, sym (append-nil (told_by m memory h.past))) }

  -- some events more
  pub given_more : (s : State) (counts : List ℕ) (now : Held) (es : List Event) (s' : State) (counts' : List ℕ) (now' : Held) → s'.world.output ≡ s.world.output ++ prints_of es → now' ≡ fold next now es
      → ((memory : List Content) (h : HasCome choice durations m memory s counts) → (k : HasCome choice durations m memory s' counts') × (told_by m memory k.past ≡ told_by m memory h.past ++ es))
      → IsGiven choice durations m s0 counts0 next old s counts now → IsGiven choice durations m s0 counts0 next old s' counts' now'
  given_more s counts now es s' counts' now' e f step g = record {
    events = g.events ++ es;
    output_is = e ∙ ap (λ l. l ++ prints_of es) g.output_is ∙ append_assoc s0.world.output (prints_of g.events) (prints_of es) ∙ ap (λ l. s0.world.output ++ l) (sym (prints_append g.events es));
    held_is = f ∙ ap (λ z. fold next z es) g.held_is ∙ sym (fold_append next old g.events es);
    come = λ memory h.
        let (k, a) = g.come memory h in
        let (l, b) = step memory k in
        (l, b ∙ ap (λ x. x ++ es) a ∙ append_assoc (told_by m memory h.past) g.events es);
  }

  -- ---- the answers
  module _ (memory : List Content) (until : ℕ) (h : HasCome choice durations m memory s0 counts0) (s : State) (counts : List ℕ) where
    -- all is told
    pub tells_ok : (told : RunEnd) (now : Held) (g : IsGiven choice durations m s0 counts0 next old s counts now) → IsRunUpTo choice durations m memory until s.world.output (end_told told s) × IsToldUpTo choice durations m memory until (told_by m memory (g.come memory h).0.past) (end_told told s)
        → TellsOn choice durations m memory until (told_by m memory h.past) s0.world.output s next leaves old now (Ok told)
    tells_ok told now g up = record {
      events = g.events;
      told = record { ok = g.held_is; err = tt };
      shows = subst (λ o. IsRunUpTo choice durations m memory until o (end_told told s)) g.output_is up.0;
      tells = subst (λ l. IsToldUpTo choice durations m memory until l (end_told told s)) (g.come memory h).1 up.1;
    }

    -- one event more is refused: what held `before` then holds `now`
    pub tells_err : (t : State) (counts' : List ℕ) (event : Event) (before now : Held) (fault : SinkFault) (g : IsGiven choice durations m s0 counts0 next old t counts' before) → s.clock ≤ until → s.world.output ≡ t.world.output ++ prints_of (event ∷ [])
        → ((memory : List Content) (h : HasCome choice durations m memory t counts') → (k : HasCome choice durations m memory s counts) × (told_by m memory k.past ≡ told_by m memory h.past ++ event ∷ []))
        → leaves fault before event now → TellsOn choice durations m memory until (told_by m memory h.past) s0.world.output s next leaves old now (Err fault)
    tells_err t counts' event before now fault g early e step left =
        let (k, a) = g.come memory h in
        let (l, b) = step memory k in
        record {
          events = g.events ++ event ∷ [];
          told = record { ok = tt; err = record { front = g.events; refused = event; rest = []; events_are = refl; left = subst (λ x. leaves fault x event now) g.held_is left } };
          shows = record {
            past = l.past;
            canonical = l.canonical;
            in_time = subst (λ x. x.clock ≤ until) (sym l.state_is) early;
            output_is = ap (λ x. s0.world.output ++ x) (prints_append g.events (event ∷ [])) ∙ sym (append_assoc s0.world.output (prints_of g.events) (prints_of (event ∷ []))) ∙ ap (λ x. x ++ prints_of (event ∷ [])) (sym g.output_is) ∙ sym e ∙ sym (ap (λ x. x.world.output) l.state_is);
          };
          tells = record {
            past = l.past;
            canonical = l.canonical;
            in_time = subst (λ x. x.clock ≤ until) (sym l.state_is) early;
            events_are = sym (append_assoc (told_by m memory h.past) g.events (event ∷ [])) ∙ ap (λ x. x ++ event ∷ []) (sym a) ∙ sym b;
          };
        }

-- ---- prints alone
fold_prints : {Held : Type 0} (next : Held → ℤ → Held) (z : Held) (events : List Event) → fold (with_print next) z events ≡ fold next z (prints_of events)
fold_prints next z [] = refl
fold_prints next z (Printed at p t v ∷ events) = fold_prints next (next z v) events
fold_prints next z (Started at p t d ∷ events) = fold_prints next z events
fold_prints next z (Finished at p t v ∷ events) = fold_prints next z events
fold_prints next z (Fired at j mask ∷ events) = fold_prints next z events
fold_prints next z (Entered at b ∷ events) = fold_prints next z events
fold_prints next z (Over at ∷ events) = fold_prints next z events
fold_prints next z (Reached ∷ events) = fold_prints next z events

module _ {Held : Type 0} (next : Held → ℤ → Held) (leaves : SinkFault → Held → ℤ → Held → Type 0) (old now : Held) where
  -- a refused event is a print
  stops : (events : List Event) (fault : SinkFault) → StopsAtEvent (with_print next) (leaves_print leaves) old now events fault → StopsAt next leaves old now (prints_of events) fault
  stops events fault h = go h.refused h.events_are h.left
    where
      go : (e : Event) → events ≡ h.front ++ e ∷ h.rest → leaves_print leaves fault (fold (with_print next) old h.front) e now → StopsAt next leaves old now (prints_of events) fault
      go (Printed at p t v) are left = record {
        front = prints_of h.front;
        refused = v;
        rest = prints_of h.rest;
        values_are = ap prints_of are ∙ prints_append h.front (Printed at p t v ∷ h.rest);
        left = subst (λ x. leaves fault x v now) (fold_prints next old h.front) left;
      }
      go (Started at p t d) are left = absurd left
      go (Finished at p t v) are left = absurd left
      go (Fired at j mask) are left = absurd left
      go (Entered at b) are left = absurd left
      go (Over at) are left = absurd left
      go Reached are left = absurd left

  took_prints : (events : List Event) (result : Result RunEnd SinkFault) → Tells (with_print next) (leaves_print leaves) old now events result → Took next leaves old now (prints_of events) result
  took_prints events (Ok told) h = record { ok = h.ok ∙ fold_prints next old events; err = tt }
  took_prints events (Err fault) h = record { ok = tt; err = stops events fault h.err }

  module _ (choice : Choice) (durations : Durations) (m : Program) (memory : List Content) (until : ℕ) (front : List Event) (before : List ℤ) where
    pub runs_prints : (s : State) (result : Result RunEnd SinkFault) → TellsOn choice durations m memory until front before s (with_print next) (leaves_print leaves) old now result → RunsOn choice durations m memory until before s next leaves old now result
    runs_prints s result h = record { values = prints_of h.events; took = took_prints h.events result h.told; shows = h.shows }

    -- what is shown was given on, up to the first value that was refused
    pub took_all : (s : State) (result : Result RunEnd SinkFault) → RunsOn choice durations m memory until before s next leaves old now result → (values : List ℤ) (end : Option End) → IsRunUpTo choice durations m memory until (before ++ values) end → Took next leaves old now values result
    took_all s (Ok told) h values end up =
        let e = append_cancel_left before h.values values (shows_one choice durations m memory until (before ++ h.values) (end_told told s) (before ++ values) end h.shows up).0 in
        subst (λ vs. Took {T = RunEnd} next leaves old now vs (Ok told)) e h.took
    took_all s (Err fault) h values end up = record { ok = tt; err = longer (shows_front choice durations m memory until (before ++ h.values) (before ++ values) end h.shows up) h.took.err }
      where
        longer : (rest : List ℤ) × ((before ++ h.values) ++ rest ≡ before ++ values) → StopsAt next leaves old now h.values fault → StopsAt next leaves old now values fault
        longer (rest, e) k =
            let x : h.values ++ rest ≡ values = append_cancel_left before (h.values ++ rest) values (sym (append_assoc before h.values rest) ∙ e) in
            record { front = k.front; refused = k.refused; rest = k.rest ++ rest; values_are = sym x ∙ ap (λ l. l ++ rest) k.values_are ∙ append_assoc k.front (k.refused ∷ k.rest) rest; left = k.left }
