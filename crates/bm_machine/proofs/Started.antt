-- What a Start leaves of what a machine keeps.
use Rattle.std.proofs.Common.{◌≡◌, ℕ, zero, suc, ◌+◌, ◌<◌, ◌≤◌, Bool, true, false, ◌&&◌, List, [], ◌∷◌, ◌++◌, length, take, get_or, set, slice_get, Option, Some, None, not, nat_eq, ℤ, nat_lt, refl, sym, ap, ap₂, ◌∙◌, subst, arith, ◌⊎◌, inl, inr, get_or-set_same, get_or-set_other, length-set, map}
use Rattle.std.proofs.lemmas.Bool.{cases_eq, both_ways, and_parts}
use Rattle.std.proofs.lemmas.List.{append-nil, length-map, map-set}
use Rattle.std.proofs.lemmas.Option.{slice_get-get_or}
use Rattle.bm_base.specs.Machine as base
use Rattle.bm_base.proofs.MaskBits.{same_bits}
use Rattle.tuple_ir.specs.declared.tuple.Tuple.{Tuple}
use Rattle.tuple_ir.specs.declared.event.Event.{Event}
use Rattle.tuple_ir.specs.declared.event.Event.TheVariants.{Started}
use Rattle.tuple_ir.specs.World.{reads}
use Rattle.line_model.specs.declared.line.StreamItem.{StreamItem}
use Rattle.line_model.specs.declared.line.StreamItem.TheVariants.{Do, Wait}
use Rattle.line_model.specs.Streams.{stream}
use Rattle.timing_law.specs.Duration.{IsWithin}
use Rattle.unit_law.specs.State.{Program, In, State, Processor, Busy, at_start, code_at, interval_of, processor, is_free, is_wait, next_item, waits, waiting_mask}
use Rattle.unit_law.specs.Steps.{Start, May, NoneDue, IsNext, IsDuration, may_to, after, after_to, begun, started, with_processor, read_of, tuple_at}
use Rattle.unit_law.specs.Canonical.{Durations, is_do, can_start, time_for, time_from}
use Rattle.unit_law.proofs.Waiting.{waiting_has}
use Rattle.unit_law.proofs.SoundFits.{sound_fit}
use Rattle.bm_machine.specs.declared.actor.Actor.{Actor}
use Rattle.bm_machine.specs.declared.actor.Task.TheVariants.{Runs}
use Rattle.unit_law.specs.Sound.{IsSound}
use Rattle.bm_machine.specs.Work.{names_hold}
use Rattle.bm_base.specs.Mask.{has_bit}
use Rattle.bm_machine.specs.declared.agenda.Due.{Due}
use Rattle.bm_machine.specs.Agenda.{due_at, finish_at}
use Rattle.bm_machine.specs.Shown.{IsKept, IsReached, works_rightly, all_work_rightly, unit_agrees, processor_of, dues_of, able_agrees}
use Rattle.bm_machine.proofs.Dues.{dues_set, dues_long, due_there, free_due}
use Rattle.bm_machine.proofs.Running.{start_right, able_in}
use Rattle.bm_machine.specs.Next.{is_at, printed_by, goes_on, counts_after, left_in}
use Rattle.unit_law.specs.Events.{event_to, start_event}
use Rattle.bm_machine.specs.Moves.{Starts}
use Rattle.bm_machine.proofs.Goes.{reached_start}
use Rattle.bm_machine.proofs.LineCounts.{few_items}
use Rattle.bm_machine.proofs.Worked.{names_held, reached_memory, reads_arity}
use Rattle.bm_machine.proofs.Finished.{state_is}
use Rattle.bm_machine.proofs.WithinBlock.{actor_at, free_count, reached_long, kept_work, kept_agrees, waits_other}

do_within : (k : ℕ) (xs : List StreamItem) → is_do (slice_get xs k) ≡ true → k < length xs
do_within k [] e = absurd (both_ways true (sym e) refl)
do_within zero (x ∷ xs) e = omega arith
do_within (suc k) (x ∷ xs) e = let i = do_within k xs e in omega arith

-- an item that is no tuple is not next where a tuple is
pub never_wait : (x : StreamItem) → is_do (Some x) ≡ true → ((t : ℕ) → x ≡ Do t → ⊥) → ⊥
never_wait (Do t) e not_do = not_do t refl
never_wait Wait e not_do = both_ways true (sym e) refl

-- whatever stands for what is past the end
pub get_or_within : {X : Type 0} (xs : List X) (i : ℕ) (d e : X) → i < length xs → get_or xs i d ≡ get_or xs i e
get_or_within xs i d e lt = let a : Some (get_or xs i d) ≡ Some (get_or xs i e) = sym (slice_get-get_or xs i d lt) ∙ slice_get-get_or xs i e lt in cc

and_false : (x y : Bool) → (x && (y && false)) ≡ false
and_false true true = refl
and_false true false = refl
and_false false y = refl

and_not : (x : Bool) → (x && false) ≡ false
and_not true = refl
and_not false = refl

-- processor p can start a tuple, within block b, and this is kept
pub record Starting (m : Program) (s : State) (counts : List ℕ) (told capacity : ℕ) (queue : List ℕ) (waiting b p : ℕ) : Type 0 where
  pub sound : IsSound m
  pub kept : IsKept m s counts told capacity queue waiting
  pub inside : s.mode ≡ In b
  pub none_due : NoneDue s
  pub one : p < m.machine.processors
  pub can : can_start (code_at m b) s p ≡ true

module _ {m : Program} {s : State} {counts : List ℕ} {told capacity : ℕ} {queue : List ℕ} {waiting b p : ℕ} (f : Starting m s counts told capacity queue waiting b p) where
  works : all_work_rightly m s counts (In b)
  works = kept_work m s counts told capacity queue waiting f.kept b f.inside

  pub long : length s.processors ≡ m.machine.processors
  long = reached_long m s counts b (sound_fit m f.sound) f.kept.reached f.inside

  parts : (is_free s.clock (processor s p).work ≡ true) × (is_do (next_item (code_at m b) s p) ≡ true)
  parts = and_parts (is_free s.clock (processor s p).work) (is_do (next_item (code_at m b) s p)) f.can

  pub next_does : is_do (next_item (code_at m b) s p) ≡ true
  next_does = parts.1

  -- it has started no more tuples than the clock says
  pub started_before : get_or counts p 0 ≤ s.clock
  started_before = free_count (code_at m b) s.clock (get_or counts p 0) (processor s p).work parts.0 (works.1 p)

  pub few_places : length (stream p (code_at m b).line) ≤ 256
  few_places =
      let sound = f.sound.each b works.0 in
      let fit = sound_fit m f.sound b in
      let x = few_items m.machine.processors (length (code_at m b).tuples) p (code_at m b).line f.one (λ t p k st. (fit.stands t p k st).1) fit.once in
      let y = sound.block.few in let z = sound.few_masks in omega arith

  -- the actor that starts
  pub actor_within : (actors : List Actor) → s.processors ≡ map processor_of actors → p < length actors
  actor_within actors e = let x = f.one in let l = long in let y = ap length e in let z : length (map processor_of actors) ≡ length actors = length-map _ _ in omega arith

  module _ (actors : List Actor) (a : Actor) (e : s.processors ≡ map processor_of actors) (at : a ≡ get_or actors p a) where
    actor_is : processor s p ≡ processor_of a
    actor_is = ap (λ qs. get_or qs p at_start) e ∙ actor_at actors p a (actor_within actors e) at

    does_next : is_do (slice_get (stream p (code_at m b).line) a.place) ≡ true
    does_next = subst (λ q. is_do (slice_get (stream p (code_at m b).line) q.place) ≡ true) actor_is parts.1

    pub place_within : a.place < length (stream p (code_at m b).line)
    place_within = do_within a.place (stream p (code_at m b).line) does_next

    pub item_is : (d x : StreamItem) → get_or (stream p (code_at m b).line) a.place d ≡ x → next_item (code_at m b) s p ≡ Some x
    item_is d x e = ap (λ q. slice_get (stream p (code_at m b).line) q.place) actor_is ∙ slice_get-get_or (stream p (code_at m b).line) a.place d place_within ∙ ap Some e

    pub item_read : (items : List StreamItem) (d : StreamItem) (t : ℕ) → items ≡ stream p (code_at m b).line → get_or items a.place d ≡ Do t → next_item (code_at m b) s p ≡ Some (Do t)
    item_read items d t is at = item_is d (Do t) (ap (λ l. get_or l a.place d) (sym is) ∙ at)

    -- the processors after it
    pub actor_begun : (until t count : ℕ) (first second : ℤ) (rs : List ℤ) → take count (first ∷ second ∷ []) ≡ rs → map processor_of (set actors p (record { place = a.place + 1; task = Runs until t count first second })) ≡ set s.processors p (begun (processor s p) until t rs)
    actor_begun until t count first second rs words =
        let place : (processor s p).place ≡ a.place = ap (λ q. q.place) actor_is in
        let up : a.place + 1 ≡ suc (processor s p).place = omega arith in
        map-set processor_of actors p (record { place = a.place + 1; task = Runs until t count first second }) ∙ ap₂ (λ k os. let q : Processor = record { place = k; work = Busy until t os } in set (map processor_of actors) p q) up words ∙ ap (λ qs. set qs p (begun (processor s p) until t rs)) (sym e)

  -- nothing ends on it
  pub start_none : (agenda : List (Option Due)) → agenda ≡ dues_of s.clock s.processors → (p < length agenda) × (due_at agenda p ≡ None)
  start_none agenda is = (let x = f.one in let l = long in let e = ap length is in let y = dues_long s.clock s.processors in omega arith, ap (λ l. due_at l p) is ∙ due_there s.clock s.processors p ∙ free_due s.clock (processor s p).work parts.0)

  -- its next item is tuple t, which is this one
  module _ (t : ℕ) (item : next_item (code_at m b) s p ≡ Some (Do t)) where
    pub is_next : IsNext m (code_at m b) s p t
    is_next = record { is_one = f.one; idle = parts.0; item = item }

    pub tuple_within : t < length (code_at m b).tuples
    tuple_within = ((sound_fit m f.sound b).stands t p (processor s p).place (record { item = item })).1

    pub few_tuples : length (code_at m b).tuples ≤ 128
    few_tuples = (f.sound.each b works.0).block.few

    pub tuple_read : (tuples : List Tuple) (d : Tuple) → tuples ≡ (code_at m b).tuples → tuple_at (code_at m b) t ≡ Some (get_or tuples t d)
    tuple_read tuples d is = slice_get-get_or (code_at m b).tuples t d tuple_within ∙ ap (λ l. Some (get_or l t d)) (sym is)

    module _ (tuple : Tuple) (at : tuple_at (code_at m b) t ≡ Some tuple) where
      pub names_there : names_hold s.world.memory tuple
      names_there = names_held m.names s.world.memory (code_at m b).tuples t tuple (reached_memory m s counts f.kept.reached) ((f.sound.each b works.0).block.each t tuple at)

      -- it takes d ticks
      module _ (d : ℕ) (short : base.IsTime (interval_of m tuple)) (time : IsWithin (interval_of m tuple) d) where
        abbrev new : Processor
        new = begun (processor s p) (s.clock + d) t (reads tuple s.world)

        abbrev then : State
        then = with_processor s p new

        pub start_may : May m s (Start p d)
        start_may = subst (λ mode. may_to m mode s (Start p d)) (sym f.inside) (f.none_due, (t, is_next, subst (λ o. IsDuration m o d) (sym at) time))

        pub start_does : after m s (Start p d) ≡ then
        start_does = ap (λ mode. after_to m mode s (Start p d)) f.inside ∙ ap (started (code_at m b) s p d) item ∙ ap (λ o. with_processor s p (begun (processor s p) (s.clock + d) t (read_of o s.world))) at

        counts_then : List ℕ
        counts_then = counts_after counts (Start p d)

        pub start_state : (s' : State) → s'.clock ≡ s.clock → s'.mode ≡ s.mode → s'.processors ≡ set s.processors p (begun (processor s p) (s.clock + d) t (reads tuple s.world)) → s'.fired ≡ s.fired → s'.world ≡ s.world → s' ≡ after m s (Start p d)
        start_state s' c o q e w = state_is s' then c o q e w ∙ sym start_does

        within : p < length s.processors
        within = let x = f.one in let l = long in omega arith

        counted_within : p < length counts
        counted_within = let x = f.one in let l = f.kept.long in omega arith

        count_now : get_or (counts_after counts (Start p d)) p 0 ≡ get_or counts p 0 + 1
        count_now = get_or-set_same counts p (get_or counts p 0 + 1) 0 counted_within

        count_other : (q : ℕ) → (q ≡ p → ⊥) → get_or (counts_after counts (Start p d)) q 0 ≡ get_or counts q 0
        count_other q ne = get_or-set_other counts p q (get_or counts p 0 + 1) 0 ne

        few_then : (q : ℕ) → get_or (counts_after counts (Start p d)) q 0 ≤ s.clock + 1
        few_then q = go (cases_eq q p)
          where
            go : (q ≡ p) ⊎ (q ≡ p → ⊥) → get_or (counts_after counts (Start p d)) q 0 ≤ s.clock + 1
            go (inl e) = let x = ap (λ i. get_or (counts_after counts (Start p d)) i 0) e in let y = count_now in let z = started_before in omega arith
            go (inr ne) = let x = count_other q ne in let y = f.kept.few q in omega arith

        works_now : works_rightly (code_at m b) s.clock (get_or counts p 0 + 1) (Busy (s.clock + d) t (reads tuple s.world))
        works_now = let l = time.low in let h = time.high in let a = short.low in let c = short.high in let z = started_before in (omega arith, omega arith, omega arith, omega arith, (tuple, at, reads_arity tuple s.world))

        works_then : (q : ℕ) → works_rightly (code_at m b) s.clock (get_or (counts_after counts (Start p d)) q 0) (get_or (set s.processors p new) q at_start).work
        works_then q = go (cases_eq q p)
          where
            go : (q ≡ p) ⊎ (q ≡ p → ⊥) → works_rightly (code_at m b) s.clock (get_or (counts_after counts (Start p d)) q 0) (get_or (set s.processors p new) q at_start).work
            go (inl e) = subst (λ i. works_rightly (code_at m b) s.clock (get_or (counts_after counts (Start p d)) i 0) (get_or (set s.processors p new) i at_start).work) (sym e) (subst (λ k. works_rightly (code_at m b) s.clock k (get_or (set s.processors p new) p at_start).work) (sym count_now) (subst (λ x. works_rightly (code_at m b) s.clock (get_or counts p 0 + 1) x.work) (sym (get_or-set_same s.processors p new at_start within)) works_now))
            go (inr ne) = subst (λ k. works_rightly (code_at m b) s.clock k (get_or (set s.processors p new) q at_start).work) (sym (count_other q ne)) (subst (λ x. works_rightly (code_at m b) s.clock (get_or counts q 0) x.work) (sym (get_or-set_other s.processors p q new at_start ne)) (works.1 q))

        -- who waits is the same: p waits neither before nor after
        waits_then : (q : ℕ) → waits (code_at m b) then q ≡ waits (code_at m b) s q
        waits_then q = go (cases_eq q p)
          where
            now : waits (code_at m b) then p ≡ false
            now = ap (λ x. nat_lt p (length then.processors) && (is_free s.clock x.work && is_wait (slice_get (stream p (code_at m b).line) x.place))) (get_or-set_same s.processors p new at_start within) ∙ and_not (nat_lt p (length then.processors))

            before : waits (code_at m b) s p ≡ false
            before = ap (λ o. nat_lt p (length s.processors) && (is_free s.clock (processor s p).work && is_wait o)) item ∙ and_false (nat_lt p (length s.processors)) (is_free s.clock (processor s p).work)

            go : (q ≡ p) ⊎ (q ≡ p → ⊥) → waits (code_at m b) then q ≡ waits (code_at m b) s q
            go (inl e) = ap (waits (code_at m b) then) e ∙ now ∙ sym before ∙ ap (waits (code_at m b) s) (sym e)
            go (inr ne) = waits_other (code_at m b) s then p new refl refl q ne

        kept_then : IsKept m then (counts_after counts (Start p d)) told capacity queue waiting
        kept_then = record {
          reached = subst (λ x. IsReached m x (counts_after counts (Start p d))) start_does (reached_start m s counts p d counted_within f.kept.reached start_may);
          early = f.kept.early;
          few = few_then;
          long = length-set counts p (get_or counts p 0 + 1) ∙ f.kept.long;
          cells = f.kept.cells;
          work = subst (all_work_rightly m then (counts_after counts (Start p d))) (sym f.inside) (works.0, works_then);
          room = f.kept.room;
          told_is = f.kept.told_is;
          agrees = subst (λ mode. unit_agrees m then mode queue waiting) (sym f.inside) ((kept_agrees m s counts told capacity queue waiting f.kept b f.inside).0, (kept_agrees m s counts told capacity queue waiting f.kept b f.inside).1 ∙ same_bits (waiting_mask (code_at m b) s) (waiting_mask (code_at m b) then) (λ q. waiting_has (code_at m b) s q ∙ sym (waits_then q) ∙ sym (waiting_has (code_at m b) then q)));
        }

        -- what is kept after it
        pub start_kept : (s' : State) (counts' : List ℕ) (told' capacity' : ℕ) (queue' : List ℕ) (waiting' : ℕ) → s' ≡ after m s (Start p d) → counts' ≡ set counts p (get_or counts p 0 + 1) → told' ≡ told → capacity' ≡ capacity → queue' ≡ queue → waiting' ≡ waiting → IsKept m s' counts' told' capacity' queue' waiting'
        start_kept s' counts' told' capacity' queue' waiting' e n t c q w = rw (e ∙ start_does, n, t, c, q, w) kept_then

        -- what ends next after it
        pub start_dues : (agenda agenda' : List (Option Due)) (due : Due) → agenda ≡ dues_of s.clock s.processors → agenda' ≡ set agenda p (Some due) → due ≡ finish_at (s.clock + d) → (s' : State) → s' ≡ after m s (Start p d) → agenda' ≡ dues_of s'.clock s'.processors
        start_dues agenda agenda' due is set_is due_is s' e = set_is ∙ ap₂ (λ l o. set l p (Some o)) is due_is ∙ sym (dues_set s.clock s.processors p new) ∙ ap (λ x. dues_of x.clock x.processors) (sym (e ∙ start_does))

        -- who can start after it
        pub start_able : (able able' : ℕ) → ((q : ℕ) → has_bit able' q ≡ (has_bit able q && not (nat_eq q p))) → able_agrees m s s.mode able → (s' : State) → s' ≡ after m s (Start p d) → able_agrees m s' s'.mode able'
        start_able able able' bits right s' e = subst (λ x. able_agrees m x x.mode able') (sym (e ∙ start_does)) (subst (λ mode. able_agrees m then mode able') (sym f.inside) (start_right is_do (code_at m b) s.clock s.processors p (s.clock + d) t (reads tuple s.world) (has_bit able) (has_bit able') within bits (able_in m s able b f.inside right)))

        pub start_gives : (durations : Durations) (s' : State) (counts' : List ℕ) (event : Event) → s' ≡ after m s (Start p d) → counts' ≡ set counts p (get_or counts p 0 + 1) → d ≡ durations p (get_or counts p 0) (interval_of m tuple) → event ≡ Started s.clock p t d → left_in m s' s'.mode < left_in m s s.mode → Starts durations m b p counts s event counts' s'
        start_gives durations s' counts' event e n timed ev left = record {
          time = d;
          timed = λ past h. ap (time_for durations m (code_at m b) past p) item ∙ ap (time_from durations m past p) at ∙ ap (λ k. durations p k (interval_of m tuple)) (sym (h p)) ∙ sym timed;
          does = record {
            may = start_may;
            event_is = ap (λ mode. event_to m mode s (Start p d)) f.inside ∙ ap (start_event s.clock p d) item ∙ ap Some (sym ev);
            effect = e;
            counted = n;
            output = ap (λ x. x.world.output) (e ∙ start_does) ∙ sym (append-nil s.world.output) ∙ ap (λ x. s.world.output ++ printed_by x) (sym ev);
            left = left;
            at = subst (λ x. is_at x s') (sym ev) (sym (ap (λ x. x.clock) (e ∙ start_does)));
            clock = ap (λ x. x.clock) (e ∙ start_does);
            goes = ap goes_on ev;
          };
        }
