-- What a Finish leaves of what a machine keeps.
use Rattle.std.proofs.Common.{◌≡◌, ℕ, ◌<◌, ◌≤◌, true, false, Bool, ◌&&◌, ◌||◌, slice_get, List, [], ◌∷◌, ◌++◌, length, take, get_or, set, Option, Some, None, ℤ, nat_eq, refl, sym, ap, ◌∙◌, subst, arith, ◌⊎◌, inl, inr, map}
use Rattle.std.proofs.lemmas.Bool.{cases_eq, both_ways}
use Rattle.std.proofs.lemmas.Bool.Decides.{eqb_tells}
use Rattle.std.proofs.lemmas.List.{length-map, map-set}
use Rattle.std.proofs.lemmas.Option.{slice_get_within}
use Rattle.bm_base.specs.Mask.{has_bit}
use Rattle.bm_base.proofs.MaskBits.{same_bits}
use Rattle.tuple_ir.specs.declared.tuple.Tuple.{Tuple}
use Rattle.tuple_ir.specs.declared.event.Event.{Event}
use Rattle.tuple_ir.specs.World.{World, write}
use Rattle.tuple_ir.proofs.WorldFacts.{write_shape}
use Rattle.line_model.specs.Streams.{stream, masks}
use Rattle.unit_law.specs.State.{Code, Program, In, State, Work, Idle, Busy, Held, at_start, code_at, processor, is_free, is_due, is_wait, waits, waiting_mask}
use Rattle.unit_law.specs.Units.{has_unfired}
use Rattle.unit_law.specs.Steps.{Finish, May, may_to, after, after_to, after_in, freed, finished, written, tuple_at}
use Rattle.unit_law.proofs.Inside.{set_all, due_within, waits_parts}
use Rattle.unit_law.proofs.Waiting.{waiting_has}
use Rattle.unit_law.proofs.SoundFits.{sound_fit}
use Rattle.bm_machine.specs.declared.actor.Actor.{Actor}
use Rattle.bm_machine.specs.declared.actor.Task.TheVariants.{Rest, Runs}
use Rattle.unit_law.specs.Sound.{IsSound}
use Rattle.bm_machine.specs.Work.{names_hold, arity, value_by, printed, finish_event}
use Rattle.line_model.specs.declared.line.StreamItem.{StreamItem}
use Rattle.unit_law.specs.Units.{first_from}
use Rattle.unit_law.specs.Canonical.{is_do}
use Rattle.bm_machine.specs.declared.agenda.Due.{Due}
use Rattle.bm_machine.specs.Agenda.{finish_at, IsFirst}
use Rattle.bm_machine.specs.Shown.{IsKept, IsReached, works_rightly, all_work_rightly, unit_agrees, processor_of, work_of, dues_of, able_agrees}
use Rattle.bm_machine.proofs.Moved.{advance_later}
use Rattle.bm_machine.proofs.Dues.{AllLate, dues_set, due_first}
use Rattle.bm_machine.proofs.Running.{passes, finish_right, here_passes, able_in}
use Rattle.tuple_ir.specs.World.{value_of}
use Rattle.unit_law.specs.Events.{event_to, finish_event as work_event, tuple_event, value_event}
use Rattle.bm_machine.specs.Next.{is_at, printed_by, goes_on, left_in}
use Rattle.bm_machine.specs.Moves.{Does}
use Rattle.bm_machine.proofs.Goes.{reached_other}
use Rattle.bm_machine.proofs.Worked.{names_held, reached_memory, take_arity, prints_event, given_two, value_event_is, at_finish, goes_finish}
use Rattle.bm_machine.proofs.WithinBlock.{actor_at, reached_unfired, kept_work, kept_agrees, kept_told, waits_other}

-- a state by its parts
pub state_is : (s t : State) → s.clock ≡ t.clock → s.mode ≡ t.mode → s.processors ≡ t.processors → s.fired ≡ t.fired → s.world ≡ t.world → s ≡ t
state_is s t a b c d e =
    ap (λ x. let r : State = record { clock = x; mode = s.mode; processors = s.processors; fired = s.fired; world = s.world } in r) a ∙
    ap (λ x. let r : State = record { clock = t.clock; mode = x; processors = s.processors; fired = s.fired; world = s.world } in r) b ∙
    ap (λ x. let r : State = record { clock = t.clock; mode = t.mode; processors = x; fired = s.fired; world = s.world } in r) c ∙
    ap (λ x. let r : State = record { clock = t.clock; mode = t.mode; processors = t.processors; fired = x; world = s.world } in r) d ∙
    ap (λ x. let r : State = record { clock = t.clock; mode = t.mode; processors = t.processors; fired = t.fired; world = x } in r) e

write_cells : (i : ℕ) (tuple : Tuple) (rs : List ℤ) (w : World) → length (write i tuple rs w).cells ≡ length w.cells
write_cells i tuple rs w = ap (λ x. x.0) (write_shape i tuple rs w)

written_cells : (o : Option Tuple) (t : ℕ) (rs : List ℤ) (w : World) → length (written o t rs w).cells ≡ length w.cells
written_cells None t rs w = refl
written_cells (Some tuple) t rs w = write_cells t tuple rs w

finished_cells : (code : Code) (work : Work) (w : World) → length (finished code work w).cells ≡ length w.cells
finished_cells code Idle w = refl
finished_cells code (Busy until t rs) w = written_cells (tuple_at code t) t rs w
finished_cells code (Held until) w = refl

-- a processor whose Finish is due has started no more tuples than the clock says
due_count : (code : Code) (clock count : ℕ) (w : Work) → is_due clock w ≡ true → works_rightly code clock count w → count ≤ clock
due_count code clock count Idle due h = absurd (both_ways true (sym due) refl)
due_count code clock count (Held until) due h = absurd (both_ways true (sym due) refl)
due_count code clock count (Busy until t rs) due h = go (eqb_tells until clock)
  where
    go : ((nat_eq until clock ≡ true) × (until ≡ clock)) ⊎ ((nat_eq until clock ≡ false) × (until ≡ clock → ⊥)) → count ≤ clock
    go (inl e) = let x = e.1 in let y = h.2 in omega arith
    go (inr e) = absurd (both_ways (nat_eq until clock) e.0 due)

due_busy : (clock : ℕ) (w : Work) → is_due clock w ≡ true → is_free clock w ≡ true → ⊥
due_busy clock Idle due free = both_ways true (sym due) refl
due_busy clock (Held until) due free = both_ways true (sym due) refl
due_busy clock (Busy until t rs) due free = both_ways true (sym free) refl

-- processor p's Finish is due, within block b, and this is kept
pub record Finishing (m : Program) (s : State) (counts : List ℕ) (told capacity : ℕ) (queue : List ℕ) (waiting b p : ℕ) : Type 0 where
  pub sound : IsSound m
  pub kept : IsKept m s counts told capacity queue waiting
  pub inside : s.mode ≡ In b
  pub due : is_due s.clock (processor s p).work ≡ true

module _ {m : Program} {s : State} {counts : List ℕ} {told capacity : ℕ} {queue : List ℕ} {waiting b p : ℕ} (f : Finishing m s counts told capacity queue waiting b p) where
  pub finish_does : after m s (Finish p) ≡ after_in m b s (Finish p)
  finish_does = ap (λ mode. after_to m mode s (Finish p)) f.inside

  pub finish_may : May m s (Finish p)
  finish_may = subst (λ mode. may_to m mode s (Finish p)) (sym f.inside) f.due

  within : p < length s.processors
  within = due_within s p f.due

  reached_t : IsReached m (after_in m b s (Finish p)) counts
  reached_t = subst (λ x. IsReached m x counts) finish_does (reached_other m s counts (Finish p) tt f.kept.reached finish_may)

  -- whoever waited still waits
  pub finish_waits : (q : ℕ) → has_bit told q ≡ true → waits (code_at m b) (after_in m b s (Finish p)) q ≡ true
  finish_waits q h = go (cases_eq q p)
    where
      waited : waits (code_at m b) s q ≡ true
      waited = sym (kept_told m s counts told capacity queue waiting f.kept b f.inside q) ∙ h

      go : (q ≡ p) ⊎ (q ≡ p → ⊥) → waits (code_at m b) (after_in m b s (Finish p)) q ≡ true
      go (inl e) = absurd (due_busy s.clock (processor s p).work f.due (subst (λ r. is_free s.clock (processor s r).work ≡ true) e (waits_parts (code_at m b) s q waited).0))
      go (inr ne) = waits_other (code_at m b) s (after_in m b s (Finish p)) p (freed (processor s p)) refl refl q ne ∙ waited

  -- and has a mask that has not fired
  pub finish_unfired : (q : ℕ) → waits (code_at m b) (after_in m b s (Finish p)) q ≡ true → has_unfired queue s.fired q ≡ true
  finish_unfired q w = subst (λ ms. has_unfired ms s.fired q ≡ true) (sym (kept_agrees m s counts told capacity queue waiting f.kept b f.inside).0) (reached_unfired m (after_in m b s (Finish p)) counts b (sound_fit m f.sound) reached_t f.inside q w)

  kept_t : (told' capacity' : ℕ) (queue' : List ℕ) (waiting' : ℕ) → capacity' ≡ capacity → queue' ≡ queue → waiting' ≡ told' → ((q : ℕ) → has_bit told' q ≡ waits (code_at m b) (after_in m b s (Finish p)) q) → IsKept m (after_in m b s (Finish p)) counts told' capacity' queue' waiting'
  kept_t told' capacity' queue' waiting' c q w bits = record {
    reached = reached_t;
    early = f.kept.early;
    few = f.kept.few;
    long = f.kept.long;
    cells = finished_cells (code_at m b) (processor s p).work s.world ∙ f.kept.cells;
    work = subst (all_work_rightly m (after_in m b s (Finish p)) counts) (sym f.inside) (works.0, set_all (λ r x. works_rightly (code_at m b) s.clock (get_or counts r 0) x.work) s.processors p (freed (processor s p)) within (due_count (code_at m b) s.clock (get_or counts p 0) (processor s p).work f.due (works.1 p)) (λ r ne. works.1 r));
    room = λ b. subst (λ n. length (masks (code_at m b).line) ≤ n) (sym c) (f.kept.room b);
    told_is = w;
    agrees = subst (λ mode. unit_agrees m (after_in m b s (Finish p)) mode queue' waiting') (sym f.inside) (q ∙ (kept_agrees m s counts told capacity queue waiting f.kept b f.inside).0, w ∙ same_bits told' (waiting_mask (code_at m b) (after_in m b s (Finish p))) (λ q. bits q ∙ sym (waiting_has (code_at m b) (after_in m b s (Finish p)) q)));
  }
    where
      works : all_work_rightly m s counts (In b)
      works = kept_work m s counts told capacity queue waiting f.kept b f.inside

  pub few_tuples : length (code_at m b).tuples ≤ 128
  few_tuples = (f.sound.each b (kept_work m s counts told capacity queue waiting f.kept b f.inside).0).block.few

  -- the actor that works
  pub actor_within : (actors : List Actor) → s.processors ≡ map processor_of actors → p < length actors
  actor_within actors e = let x = within in let y = ap length e in let z : length (map processor_of actors) ≡ length actors = length-map _ _ in omega arith

  pub actor_works : (actors : List Actor) (a : Actor) (until t count : ℕ) (first second : ℤ) → s.processors ≡ map processor_of actors → a ≡ get_or actors p a → a.task ≡ Runs until t count first second → (processor s p).work ≡ Busy until t (take count (first ∷ second ∷ []))
  actor_works actors a until t count first second e at runs = ap (λ qs. (get_or qs p at_start).work) e ∙ ap (λ q. q.work) (actor_at actors p a (actor_within actors e) at) ∙ ap work_of runs

  -- the processors after it
  pub actor_freed : (actors : List Actor) (a : Actor) → s.processors ≡ map processor_of actors → a ≡ get_or actors p a → map processor_of (set actors p (record { place = a.place; task = Rest })) ≡ set s.processors p (freed (processor s p))
  actor_freed actors a e at = map-set processor_of actors p (record { place = a.place; task = Rest }) ∙ ap (λ q. set (map processor_of actors) p (freed q)) (sym (actor_at actors p a (actor_within actors e) at)) ∙ ap (λ qs. set qs p (freed (get_or qs p at_start))) (sym e)

  -- the processor works on tuple t, which is this one
  module _ (until t count : ℕ) (first second : ℤ) (is : (processor s p).work ≡ Busy until t (take count (first ∷ second ∷ []))) where
    here : works_rightly (code_at m b) s.clock (get_or counts p 0) (Busy until t (take count (first ∷ second ∷ [])))
    here = subst (works_rightly (code_at m b) s.clock (get_or counts p 0)) is ((kept_work m s counts told capacity queue waiting f.kept b f.inside).1 p)

    pub tuple_within : t < length (code_at m b).tuples
    tuple_within = slice_get_within (code_at m b).tuples t here.4.0 here.4.1

    module _ (tuple : Tuple) (at : tuple_at (code_at m b) t ≡ Some tuple) where
      same : here.4.0 ≡ tuple
      same = let x : Some here.4.0 ≡ Some tuple = sym here.4.1 ∙ at in cc

      pub names_there : names_hold s.world.memory tuple
      names_there = names_held m.names s.world.memory (code_at m b).tuples t tuple (reached_memory m s counts f.kept.reached) ((f.sound.each b (kept_work m s counts told capacity queue waiting f.kept b f.inside).0).block.each t tuple at)

      operands : take count (first ∷ second ∷ []) ≡ take (arity tuple) (first ∷ second ∷ [])
      operands = take_arity count (arity tuple) first second (here.4.2 ∙ ap arity same)

      writes : finished (code_at m b) (processor s p).work s.world ≡ write t tuple (take (arity tuple) (first ∷ second ∷ [])) s.world
      writes = ap (λ w. finished (code_at m b) w s.world) is ∙ ap (λ o. written o t (take count (first ∷ second ∷ [])) s.world) at ∙ ap (λ rs. write t tuple rs s.world) operands

      -- the state after it
      pub finish_state : (s' : State) → s'.clock ≡ s.clock → s'.mode ≡ s.mode → s'.processors ≡ set s.processors p (freed (processor s p)) → s'.fired ≡ s.fired → s'.world ≡ write t tuple (take (arity tuple) (first ∷ second ∷ [])) s.world → s' ≡ after_in m b s (Finish p)
      finish_state s' c o q e w = state_is s' (after_in m b s (Finish p)) c o q e (w ∙ sym writes)

      pub finish_gives : (s' : State) (value : ℤ) (event : Event) (counts' : List ℕ) → s' ≡ after_in m b s (Finish p) → value ≡ value_by tuple first second → event ≡ finish_event tuple s.clock p t value → s'.world.output ≡ printed tuple value s.world.output → counts' ≡ counts → left_in m s' s'.mode < left_in m s s.mode → Does m s counts (Finish p) event counts' s'
      finish_gives s' value event counts' e v ev out c left = record {
        may = finish_may;
        event_is =
            ap (λ mode. event_to m mode s (Finish p)) f.inside ∙ ap (work_event (code_at m b) s.clock p) is ∙ ap (λ o. tuple_event s.clock p t o (take count (first ∷ second ∷ []))) at
            ∙ ap (λ rs. value_event s.clock p t tuple (value_of tuple rs)) operands ∙ ap (value_event s.clock p t tuple) (given_two tuple first second) ∙ value_event_is tuple s.clock p t (value_by tuple first second) ∙ ap (λ x. Some (finish_event tuple s.clock p t x)) (sym v) ∙ ap Some (sym ev);
        effect = e ∙ sym finish_does;
        counted = c;
        output = out ∙ prints_event tuple value s.world.output s.clock p t ∙ ap (λ x. s.world.output ++ printed_by x) (sym ev);
        left = left;
        at = subst (λ x. is_at x s') (sym ev) (at_finish tuple s.clock p t value s' (sym (ap (λ x. x.clock) e)));
        clock = ap (λ x. x.clock) e;
        goes = ap goes_on ev ∙ goes_finish tuple s.clock p t value;
      }

  -- what is kept after it
  pub finish_kept : (s' : State) (told' capacity' : ℕ) (queue' : List ℕ) (waiting' : ℕ) → s' ≡ after_in m b s (Finish p) → capacity' ≡ capacity → queue' ≡ queue → waiting' ≡ told' → ((q : ℕ) → has_bit told' q ≡ waits (code_at m b) (after_in m b s (Finish p)) q) → IsKept m s' counts told' capacity' queue' waiting'
  finish_kept s' told' capacity' queue' waiting' e c q w bits = subst (λ x. IsKept m x counts told' capacity' queue' waiting') (sym e) (kept_t told' capacity' queue' waiting' c q w bits)

  -- its entry is the first, where it is the lowest processor whose Finish is due
  all_late : AllLate s.clock s.processors
  all_late t least = advance_later m b s counts told capacity queue waiting t f.kept f.inside least

  pub finish_first : (agenda : List (Option Due)) → agenda ≡ dues_of s.clock s.processors → length s.processors ≡ m.machine.processors → m.machine.processors ≤ 128 → first_from (λ q. is_due s.clock (processor s q).work) 0 m.machine.processors ≡ Some p → IsFirst agenda (Some (record { due = finish_at s.clock; processor = p }))
  finish_first agenda is long few lowest = subst (λ l. IsFirst l (Some (record { due = finish_at s.clock; processor = p }))) (sym is) (due_first s.clock s.processors m.machine.processors p (omega arith) (let x = within in omega arith) (sym long) all_late lowest)

  -- what ends next after it
  pub finish_dues : (agenda agenda' : List (Option Due)) → agenda ≡ dues_of s.clock s.processors → agenda' ≡ set agenda p None → (s' : State) → s' ≡ after_in m b s (Finish p) → agenda' ≡ dues_of s'.clock s'.processors
  finish_dues agenda agenda' is set_is s' e = set_is ∙ ap (λ l. set l p None) is ∙ sym (dues_set s.clock s.processors p (freed (processor s p))) ∙ ap (λ x. dues_of x.clock x.processors) (sym e)

  -- who is free before an item that passes a test after it, and whether p is
  pub finish_passes : (test : Option StreamItem → Bool) (place : ℕ) (items : List StreamItem) (old new : ℕ → Bool) → place ≡ (processor s p).place → items ≡ stream p (code_at m b).line → ((q : ℕ) → new q ≡ (old q || (test (slice_get items place) && nat_eq q p))) → ((q : ℕ) → old q ≡ passes test (code_at m b) s.clock s.processors q) → (q : ℕ) → new q ≡ passes test (code_at m b) s.clock (set s.processors p (freed (processor s p))) q
  finish_passes test place items old new at is bits right = finish_right test (code_at m b) s.clock s.processors p place items old new within f.due at is bits right

  pub finish_waiting : (place : ℕ) (items : List StreamItem) → place ≡ (processor s p).place → items ≡ stream p (code_at m b).line → is_wait (slice_get items place) ≡ true → waits (code_at m b) (after_in m b s (Finish p)) p ≡ true
  finish_waiting place items at is w = here_passes is_wait (code_at m b) s.clock s.processors p (freed (processor s p)) within ∙ ap (λ k. is_wait (slice_get (stream p (code_at m b).line) k)) (sym at) ∙ ap (λ l. is_wait (slice_get l place)) (sym is) ∙ w

  pub finish_told : (place : ℕ) (items : List StreamItem) (told' : ℕ) → place ≡ (processor s p).place → items ≡ stream p (code_at m b).line → ((q : ℕ) → has_bit told' q ≡ (has_bit told q || (is_wait (slice_get items place) && nat_eq q p))) → (q : ℕ) → has_bit told' q ≡ waits (code_at m b) (after_in m b s (Finish p)) q
  finish_told place items told' at is bits = finish_passes is_wait place items (has_bit told) (has_bit told') at is bits (kept_told m s counts told capacity queue waiting f.kept b f.inside)

  pub finish_able : (place : ℕ) (items : List StreamItem) (able able' : ℕ) → place ≡ (processor s p).place → items ≡ stream p (code_at m b).line → ((q : ℕ) → has_bit able' q ≡ (has_bit able q || (is_do (slice_get items place) && nat_eq q p))) → able_agrees m s s.mode able → (s' : State) → s' ≡ after_in m b s (Finish p) → able_agrees m s' s'.mode able'
  finish_able place items able able' at is bits right s' e = subst (λ x. able_agrees m x x.mode able') (sym e) (subst (λ mode. able_agrees m (after_in m b s (Finish p)) mode able') (sym f.inside) (finish_passes is_do place items (has_bit able) (has_bit able') at is bits (able_in m s able b f.inside right)))
