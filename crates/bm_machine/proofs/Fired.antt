-- What a Fire leaves of what a machine keeps.
use Rattle.std.proofs.Common.{◌≡◌, ℕ, ◌+◌, ◌<◌, ◌≤◌, Bool, true, false, not, ◌&&◌, List, ◌++◌, length, get_or, set, slice_get, Option, Some, None, nat_lt, refl, sym, ap, ◌∙◌, subst, arith}
use Rattle.std.proofs.lemmas.Bool.{and_parts, not-true, both_ways}
use Rattle.std.proofs.lemmas.List.{append-nil, ext_get_or}
use Rattle.tuple_ir.specs.declared.event.Event.{Event}
use Rattle.tuple_ir.specs.declared.event.Event.TheVariants.{Fired}
use Rattle.std.proofs.lemmas.Option.{slice_get_within, get_or_from_slice_get, slice_get-get_or}
use Rattle.bm_base.specs.Mask.{has_bit}
use Rattle.bm_base.proofs.MaskBits.{same_bits}
use Rattle.line_model.specs.declared.line.StreamItem.{StreamItem}
use Rattle.line_model.specs.declared.line.StreamItem.TheVariants.{Wait}
use Rattle.line_model.specs.Streams.{stream, masks}
use Rattle.unit_law.specs.State.{Code, Program, In, State, Processor, Held, at_start, code_at, processor, is_free, is_wait, waits, waiting_mask}
use Rattle.unit_law.specs.Units.{Choice, IsReady, has_unfired}
use Rattle.unit_law.specs.OnUnit.{answer_at}
use Rattle.unit_law.specs.Steps.{Fire, NoneDue, May, may_to, after, after_to, after_in, passed}
use Rattle.unit_law.proofs.Inside.{waits_parts, wait_item, passed_has, passed_not, fired_all}
use Rattle.unit_law.proofs.Kept.{length-passed}
use Rattle.unit_law.proofs.Waiting.{waiting_has}
use Rattle.unit_law.proofs.SoundFits.{sound_fit}
use Rattle.unit_law.specs.Sound.{IsSound}
use Rattle.unit_law.specs.Canonical.{is_do, can_start}
use Rattle.bm_machine.specs.declared.agenda.Due.{Due}
use Rattle.bm_machine.specs.Agenda.{due_at}
use Rattle.bm_machine.specs.Shown.{IsKept, IsReached, works_rightly, all_work_rightly, unit_agrees, due_of, dues_of, starts_next, able_agrees}
use Rattle.bm_machine.proofs.Dues.{due_there, dues_long, free_due}
use Rattle.bm_machine.proofs.Ables.{next_passes}
use Rattle.bm_machine.proofs.Running.{able_in, passes}
use Rattle.unit_law.specs.Events.{event_to, fire_event}
use Rattle.bm_machine.specs.Next.{is_at, printed_by, goes_on, left_in}
use Rattle.bm_machine.specs.Moves.{Does}
use Rattle.bm_machine.proofs.Goes.{reached_other}
use Rattle.bm_machine.proofs.LineCounts.{few_items}
use Rattle.bm_machine.proofs.Falls.{fire_less}
use Rattle.bm_machine.proofs.WithinBlock.{free_count, reached_inside, reached_unfired, kept_work, kept_agrees, kept_told}

-- who waits at a state with these processors, by what it is to one of them
abbrev waits_by : Code → ℕ → ℕ → ℕ → Processor → Bool
waits_by code clock n p q = nat_lt p n && (is_free clock q.work && is_wait (slice_get (stream p code.line) q.place))

-- mask j is ready, and no Finish is due, within block b, and this is kept
pub record Firing (m : Program) (s : State) (counts : List ℕ) (told capacity : ℕ) (queue : List ℕ) (waiting b j : ℕ) : Type 0 where
  pub sound : IsSound m
  pub kept : IsKept m s counts told capacity queue waiting
  pub inside : s.mode ≡ In b
  pub due : NoneDue s
  pub ready : IsReady (masks (code_at m b).line) s.fired (waits (code_at m b) s) j
  pub quick : m.machine.delay ≤ 100

module _ {m : Program} {s : State} {counts : List ℕ} {told capacity : ℕ} {queue : List ℕ} {waiting b j : ℕ} (f : Firing m s counts told capacity queue waiting b j) where
  works : all_work_rightly m s counts (In b)
  works = kept_work m s counts told capacity queue waiting f.kept b f.inside

  does : after m s (Fire j) ≡ after_in m b s (Fire j)
  does = ap (λ mode. after_to m mode s (Fire j)) f.inside

  pub fire_may : May m s (Fire j)
  fire_may = subst (λ mode. may_to m mode s (Fire j)) (sym f.inside) (f.due, f.ready)

  reached_t : IsReached m (after_in m b s (Fire j)) counts
  reached_t = subst (λ x. IsReached m x counts) does (reached_other m s counts (Fire j) tt f.kept.reached fire_may)

  pub index_small : j < 128
  index_small = let x = slice_get_within (masks (code_at m b).line) j f.ready.mask f.ready.at in let y = (f.sound.each b works.0).few_masks in omega arith

  pub index_within : j < length (masks (code_at m b).line)
  index_within = slice_get_within (masks (code_at m b).line) j f.ready.mask f.ready.at

  -- the mask that fires
  abbrev mask : ℕ
  mask = get_or (masks (code_at m b).line) j 0

  mask_is : mask ≡ f.ready.mask
  mask_is = get_or_from_slice_get (masks (code_at m b).line) j f.ready.mask 0 f.ready.at

  member_waits : (p : ℕ) → has_bit mask p ≡ true → waits (code_at m b) s p ≡ true
  member_waits p h = f.ready.all_wait p (subst (λ k. has_bit k p ≡ true) mask_is h)

  member_one : (p : ℕ) → has_bit mask p ≡ true → p < m.machine.processors
  member_one p h = (sound_fit m f.sound b).members j p (record { mask = f.ready.mask; at = f.ready.at; has = subst (λ k. has_bit k p ≡ true) mask_is h })

  pub fire_long : length s.processors ≡ m.machine.processors
  fire_long = (reached_inside m s counts b (sound_fit m f.sound) f.kept.reached f.inside).processors

  -- a member's stream goes on
  pub fire_short : (p : ℕ) → has_bit (get_or (masks (code_at m b).line) j 0) p ≡ true → (processor s p).place < 256
  fire_short p h =
      let item = wait_item _ (waits_parts (code_at m b) s p (member_waits p h)).1 in
      let lt = slice_get_within (stream p (code_at m b).line) (processor s p).place Wait item in
      let fit = sound_fit m f.sound b in
      let few = few_items m.machine.processors (length (code_at m b).tuples) p (code_at m b).line (member_one p h) (λ t p k st. (fit.stands t p k st).1) fit.once in
      let x = (f.sound.each b works.0).block.few in
      let y = (f.sound.each b works.0).few_masks in omega arith

  -- whoever waited and is no member still waits
  pub fire_waits : (p : ℕ) → (has_bit told p && not (has_bit (get_or (masks (code_at m b).line) j 0) p)) ≡ true → waits (code_at m b) (after_in m b s (Fire j)) p ≡ true
  fire_waits p h =
      let (t, n) = and_parts (has_bit told p) (not (has_bit (get_or (masks (code_at m b).line) j 0) p)) h in
      ap (λ k. waits_by (code_at m b) s.clock k p (get_or (passed (s.clock + m.machine.delay) (get_or (masks (code_at m b).line) j 0) 0 s.processors) p at_start)) (length-passed (s.clock + m.machine.delay) (get_or (masks (code_at m b).line) j 0) 0 s.processors) ∙ ap (waits_by (code_at m b) s.clock (length s.processors) p) (passed_not (s.clock + m.machine.delay) (get_or (masks (code_at m b).line) j 0) s.processors p (not-true _ n)) ∙ sym (kept_told m s counts told capacity queue waiting f.kept b f.inside p) ∙ t

  -- whoever waits then has a mask that has not fired
  pub fire_unfired : (p : ℕ) → waits (code_at m b) (after_in m b s (Fire j)) p ≡ true → has_unfired queue (set s.fired j true) p ≡ true
  fire_unfired p w = subst (λ ms. has_unfired ms (set s.fired j true) p ≡ true) (sym (kept_agrees m s counts told capacity queue waiting f.kept b f.inside).0) (reached_unfired m (after_in m b s (Fire j)) counts b (sound_fit m f.sound) reached_t f.inside p w)

  -- nothing ends on a member
  pub fire_none : (agenda : List (Option Due)) → agenda ≡ dues_of s.clock s.processors → (p : ℕ) → has_bit (get_or (masks (code_at m b).line) j 0) p ≡ true → due_at agenda p ≡ None
  fire_none agenda is p h = ap (λ l. due_at l p) is ∙ due_there s.clock s.processors p ∙ free_due s.clock (processor s p).work (waits_parts (code_at m b) s p (member_waits p h)).0

  -- what ends next after it
  pub fire_dues : (agenda agenda' : List (Option Due)) → agenda ≡ dues_of s.clock s.processors → length agenda' ≡ length agenda → ((p : ℕ) → p < length agenda → has_bit (get_or (masks (code_at m b).line) j 0) p ≡ true → due_at agenda' p ≡ due_of s.clock (Held (s.clock + m.machine.delay))) → ((p : ℕ) → has_bit (get_or (masks (code_at m b).line) j 0) p ≡ false → due_at agenda' p ≡ due_at agenda p) → (s' : State) → s' ≡ after_in m b s (Fire j) → agenda' ≡ dues_of s'.clock s'.processors
  fire_dues agenda agenda' is long held other s' e = ext_get_or None agenda' (dues_of s.clock passed_now) (long ∙ lengths) (λ p lt. at p (omega (arith, long)) (has_bit (get_or (masks (code_at m b).line) j 0) p) refl ∙ sym (due_there s.clock passed_now p)) ∙ ap (λ x. dues_of x.clock x.processors) (sym e)
    where
      passed_now : List Processor
      passed_now = passed (s.clock + m.machine.delay) (get_or (masks (code_at m b).line) j 0) 0 s.processors

      lengths : length agenda ≡ length (dues_of s.clock passed_now)
      lengths = ap length is ∙ dues_long s.clock s.processors ∙ sym (length-passed (s.clock + m.machine.delay) (get_or (masks (code_at m b).line) j 0) 0 s.processors) ∙ sym (dues_long s.clock passed_now)

      at : (p : ℕ) → p < length agenda → (v : Bool) → has_bit (get_or (masks (code_at m b).line) j 0) p ≡ v → due_at agenda' p ≡ due_of s.clock (get_or passed_now p at_start).work
      at p lt true h = held p lt h ∙ ap (λ q. due_of s.clock q.work) (sym (passed_has (s.clock + m.machine.delay) (get_or (masks (code_at m b).line) j 0) s.processors p (let x = ap length is in let y = dues_long s.clock s.processors in omega arith) h))
      at p lt false h = other p h ∙ ap (λ l. due_at l p) is ∙ due_there s.clock s.processors p ∙ ap (λ q. due_of s.clock q.work) (sym (passed_not (s.clock + m.machine.delay) (get_or (masks (code_at m b).line) j 0) s.processors p h))

  -- whoever could start a tuple still can
  pub fire_starts : (able : ℕ) → able_agrees m s s.mode able → (p : ℕ) → has_bit able p ≡ true → starts_next (code_at m b) (after_in m b s (Fire j)) p ≡ true
  fire_starts able right p h = go (has_bit (get_or (masks (code_at m b).line) j 0) p) refl
    where
      can : starts_next (code_at m b) s p ≡ true
      can = sym (able_in m s able b f.inside right p) ∙ h

      is_do_now : is_do (slice_get (stream p (code_at m b).line) (processor s p).place) ≡ true
      is_do_now = (and_parts (is_free s.clock (processor s p).work) (is_do (slice_get (stream p (code_at m b).line) (processor s p).place)) (and_parts (nat_lt p (length s.processors)) (can_start (code_at m b) s p) can).1).1

      go : (v : Bool) → has_bit (get_or (masks (code_at m b).line) j 0) p ≡ v → starts_next (code_at m b) (after_in m b s (Fire j)) p ≡ true
      go true w = absurd (both_ways (is_do (slice_get (stream p (code_at m b).line) (processor s p).place)) (ap is_do (wait_item _ (waits_parts (code_at m b) s p (member_waits p w)).1)) is_do_now)
      go false n = ap (λ k. next_passes is_do (code_at m b) k p (is_free s.clock (get_or (passed (s.clock + m.machine.delay) (get_or (masks (code_at m b).line) j 0) 0 s.processors) p at_start).work) (get_or (passed (s.clock + m.machine.delay) (get_or (masks (code_at m b).line) j 0) 0 s.processors) p at_start)) (length-passed (s.clock + m.machine.delay) (get_or (masks (code_at m b).line) j 0) 0 s.processors) ∙ ap (λ q. next_passes is_do (code_at m b) (length s.processors) p (is_free s.clock q.work) q) (passed_not (s.clock + m.machine.delay) (get_or (masks (code_at m b).line) j 0) s.processors p n) ∙ can

  pub fire_members : (p : ℕ) → has_bit (get_or (masks (code_at m b).line) j 0) p ≡ true → p < m.machine.processors
  fire_members p h = member_one p h

  -- whoever is no member is as before
  fire_same : (test : Option StreamItem → Bool) (p : ℕ) → has_bit (get_or (masks (code_at m b).line) j 0) p ≡ false → passes test (code_at m b) s.clock (passed (s.clock + m.machine.delay) (get_or (masks (code_at m b).line) j 0) 0 s.processors) p ≡ passes test (code_at m b) s.clock s.processors p
  fire_same test p n = ap (λ k. next_passes test (code_at m b) k p (is_free s.clock (get_or (passed (s.clock + m.machine.delay) (get_or (masks (code_at m b).line) j 0) 0 s.processors) p at_start).work) (get_or (passed (s.clock + m.machine.delay) (get_or (masks (code_at m b).line) j 0) 0 s.processors) p at_start)) (length-passed (s.clock + m.machine.delay) (get_or (masks (code_at m b).line) j 0) 0 s.processors) ∙ ap (λ q. next_passes test (code_at m b) (length s.processors) p (is_free s.clock q.work) q) (passed_not (s.clock + m.machine.delay) (get_or (masks (code_at m b).line) j 0) s.processors p n)

  pub fire_known : (p : ℕ) → has_bit (get_or (masks (code_at m b).line) j 0) p ≡ false → (has_bit told p && not (has_bit (get_or (masks (code_at m b).line) j 0) p)) ≡ waits (code_at m b) (after_in m b s (Fire j)) p
  fire_known p n = ap (λ v. has_bit told p && not v) n ∙ and_true (has_bit told p) ∙ kept_told m s counts told capacity queue waiting f.kept b f.inside p ∙ sym (fire_same is_wait p n)
    where
      and_true : (v : Bool) → (v && true) ≡ v
      and_true true = refl
      and_true false = refl

  pub fire_known_starts : (able : ℕ) → able_agrees m s s.mode able → (p : ℕ) → has_bit (get_or (masks (code_at m b).line) j 0) p ≡ false → has_bit able p ≡ starts_next (code_at m b) (after_in m b s (Fire j)) p
  fire_known_starts able right p n = able_in m s able b f.inside right p ∙ sym (fire_same is_do p n)

  kept_t : (told' capacity' : ℕ) (queue' : List ℕ) (waiting' : ℕ) → capacity' ≡ capacity → queue' ≡ queue → waiting' ≡ told' → ((q : ℕ) → has_bit told' q ≡ waits (code_at m b) (after_in m b s (Fire j)) q) → IsKept m (after_in m b s (Fire j)) counts told' capacity' queue' waiting'
  kept_t told' capacity' queue' waiting' c q w bits = record {
    reached = reached_t;
    early = f.kept.early;
    few = f.kept.few;
    long = f.kept.long;
    cells = f.kept.cells;
    work = subst (all_work_rightly m (after_in m b s (Fire j)) counts) (sym f.inside) (works.0, fired_all (λ r x. works_rightly (code_at m b) s.clock (get_or counts r 0) x.work) (s.clock + m.machine.delay) (get_or (masks (code_at m b).line) j 0) s.processors (λ p h. let x = member_one p h in let y = fire_long in omega arith) (λ p h. (let y : s.clock + m.machine.delay ≤ s.clock + 100 = omega (arith, f.quick) in y, free_count (code_at m b) s.clock (get_or counts p 0) (processor s p).work (waits_parts (code_at m b) s p (member_waits p h)).0 (works.1 p))) (λ p h. works.1 p));
    room = λ b. subst (λ n. length (masks (code_at m b).line) ≤ n) (sym c) (f.kept.room b);
    told_is = w;
    agrees = subst (λ mode. unit_agrees m (after_in m b s (Fire j)) mode queue' waiting') (sym f.inside) (q ∙ (kept_agrees m s counts told capacity queue waiting f.kept b f.inside).0, w ∙ same_bits told' (waiting_mask (code_at m b) (after_in m b s (Fire j))) (λ q. bits q ∙ sym (waiting_has (code_at m b) (after_in m b s (Fire j)) q)));
  }

  -- what is kept after it
  pub fire_kept : (s' : State) (told' capacity' : ℕ) (queue' : List ℕ) (waiting' : ℕ) → s' ≡ after_in m b s (Fire j) → capacity' ≡ capacity → queue' ≡ queue → waiting' ≡ told' → ((q : ℕ) → has_bit told' q ≡ waits (code_at m b) (after_in m b s (Fire j)) q) → IsKept m s' counts told' capacity' queue' waiting'
  fire_kept s' told' capacity' queue' waiting' e c q w bits = subst (λ x. IsKept m x counts told' capacity' queue' waiting') (sym e) (kept_t told' capacity' queue' waiting' c q w bits)

  pub fire_effect : (s' : State) → s' ≡ after_in m b s (Fire j) → s' ≡ after m s (Fire j)
  fire_effect s' e = e ∙ sym does

  pub fire_left : (s' : State) → s' ≡ after_in m b s (Fire j) → left_in m s' s'.mode < left_in m s s.mode
  fire_left s' e = subst (λ x. left_in m x x.mode < left_in m s s.mode) (sym (fire_effect s' e)) (fire_less m b s f.inside j fire_long (sound_fit m f.sound b) (reached_inside m s counts b (sound_fit m f.sound) f.kept.reached f.inside).masks_are f.ready)

  pub mask_at : slice_get (masks (code_at m b).line) j ≡ Some (get_or (masks (code_at m b).line) j 0)
  mask_at = slice_get-get_or (masks (code_at m b).line) j 0 index_within

  pub fire_gives : (s' : State) (counts' : List ℕ) (event : Event) → s' ≡ after_in m b s (Fire j) → counts' ≡ counts → event ≡ Fired s.clock j (get_or (masks (code_at m b).line) j 0) → Does m s counts (Fire j) event counts' s'
  fire_gives s' counts' event e c ev = record {
    may = fire_may;
    event_is = ap (λ mode. event_to m mode s (Fire j)) f.inside ∙ ap (fire_event s.clock j) mask_at ∙ ap Some (sym ev);
    effect = fire_effect s' e;
    counted = c;
    output = ap (λ x. x.world.output) e ∙ sym (append-nil s.world.output) ∙ ap (λ x. s.world.output ++ printed_by x) (sym ev);
    left = fire_left s' e;
    at = subst (λ x. is_at x s') (sym ev) (sym (ap (λ x. x.clock) e));
    clock = ap (λ x. x.clock) e;
    goes = ap goes_on ev;
  }

-- what the unit chose is its answer at the state
pub answer_is : (choice : Choice) (m : Program) (s : State) (counts : List ℕ) (told capacity : ℕ) (queue : List ℕ) (waiting : ℕ) → IsKept m s counts told capacity queue waiting → (b : ℕ) → s.mode ≡ In b → (o : Option ℕ) → o ≡ choice queue s.fired waiting → answer_at choice m b s ≡ o
answer_is choice m s counts told capacity queue waiting k b inside o e = let a = kept_agrees m s counts told capacity queue waiting k b inside in ap (λ ms. choice ms s.fired (waiting_mask (code_at m b) s)) (sym a.0) ∙ ap (choice queue s.fired) (sym a.1) ∙ sym e
