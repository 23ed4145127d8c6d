-- What is left of a block falls with each step, and is small at its entry.
use Rattle.std.proofs.Common.{◌≡◌, ℕ, zero, suc, ◌+◌, ◌*◌, ◌<◌, ◌≤◌, Bool, true, false, not, List, [], ◌∷◌, length, get_or, set, count_by, drop, slice_get, Some, refl, sym, ap, ◌∙◌, subst, le_refl, arith, ℤ}
use Rattle.std.proofs.lemmas.List.{length-map}
use Rattle.std.proofs.lemmas.List.Sums.{count_by-le-length}
use Rattle.std.proofs.lemmas.Option.{slice_get_within, get_or_from_slice_get}
use Rattle.bm_base.specs.Mask.{has_bit}
use Rattle.tuple_ir.specs.World.{World}
use Rattle.line_model.specs.declared.line.StreamItem.TheVariants.{Do, Wait}
use Rattle.line_model.specs.Streams.{stream, masks}
use Rattle.unit_law.specs.State.{Code, Program, In, Entering, Work, Idle, Busy, Held, Processor, State, at_start, code_at, entered, processor, is_free, is_due, waits}
use Rattle.unit_law.specs.Units.{IsReady}
use Rattle.unit_law.specs.Steps.{Action, Finish, Fire, Start, Branch, Advance, Enter, IsNext, freed, begun, resumed, passed, started, with_processor, read_of, tuple_at, least_tick, or_clock, after_in, after_to, after}
use Rattle.unit_law.specs.Fit.{IsFit}
use Rattle.unit_law.specs.Determinate.{sum_below}
use Rattle.unit_law.proofs.Sums.{sum_le, sum_falls}
use Rattle.unit_law.specs.Inside.{IsWorkAt}
use Rattle.unit_law.proofs.Inside.{set_all, due_within, waits_parts, wait_item, fired_all}
use Rattle.unit_law.proofs.Ordered.{entered_at, started_mode}
use Rattle.unit_law.proofs.Sums.{sum_same}
use Rattle.unit_law.proofs.Meets.{started_clock}
use Rattle.unit_law.proofs.SoundFits.{sound_fit}
use Rattle.unit_law.specs.Sound.{IsSound}
use Rattle.bm_machine.specs.Next.{is_run, busy_one, left_of, left_in, still}
use Rattle.bm_machine.proofs.LineCounts.{one_if, count_cons, all_runs, count_drop, drop_run, drop_wait}

free_one : (clock : ℕ) (w : Work) → is_free clock w ≡ true → busy_one w ≡ 0
free_one clock Idle free = refl
free_one clock (Busy until t operands) free = absurd (cc)
free_one clock (Held until) free = refl

-- the Starts and Finishes that a processor has left
abbrev left_at : Code → ℕ → ℕ → Processor → ℕ
left_at code clock p q = 2 * count_by is_run (drop q.place (stream p code.line)) + busy_one q.work

abbrev all_left : Code → ℕ → List Processor → ℕ → ℕ
all_left code clock qs n = sum_below (λ p. left_at code clock p (get_or qs p at_start)) n

-- ---- one step
-- where one processor is replaced by one that has less left
one_falls : (code : Code) (clock : ℕ) (qs : List Processor) (n p : ℕ) (q : Processor) → p < n → p < length qs → left_at code clock p q + 1 ≤ left_at code clock p (get_or qs p at_start) → all_left code clock (set qs p q) n + 1 ≤ all_left code clock qs n
one_falls code clock qs n p q lt within less =
    sum_falls (λ r. left_at code clock r (get_or qs r at_start)) (λ r. left_at code clock r (get_or (set qs p q) r at_start)) n (λ r l. no_more r) p 1 lt (let x = set_all (λ r x. r ≡ p → left_at code clock r x + 1 ≤ left_at code clock r (get_or qs r at_start)) qs p q within (λ e. less) (λ r ne e. absurd (ne e)) p refl in x)
  where
    no_more : (r : ℕ) → left_at code clock r (get_or (set qs p q) r at_start) ≤ left_at code clock r (get_or qs r at_start)
    no_more r = set_all (λ r x. left_at code clock r x ≤ left_at code clock r (get_or qs r at_start)) qs p q within (omega arith) (λ r ne. le_refl _) r

begun_left : (code : Code) (clock p until t : ℕ) (q : Processor) → is_free clock q.work ≡ true → slice_get (stream p code.line) q.place ≡ Some (Do t) → (operands : List ℤ) → left_at code clock p (begun q until t operands) + 1 ≤ left_at code clock p q
begun_left code clock p until t q idle item operands =
    let x = drop_run q.place t (stream p code.line) item in
    let y = free_one clock q.work idle in omega arith

freed_left : (code : Code) (clock p : ℕ) (place : ℕ) (w : Work) → is_due clock w ≡ true → left_at code clock p (record { place = place; work = Idle }) + 1 ≤ left_at code clock p (record { place = place; work = w })
freed_left code clock p place Idle due = absurd (cc)
freed_left code clock p place (Held until) due = absurd (cc)
freed_left code clock p place (Busy until t operands) due = omega arith

resumed_left : (code : Code) (clock until p : ℕ) (q : Processor) → slice_get (stream p code.line) q.place ≡ Some Wait → left_at code clock p (resumed until q) ≤ left_at code clock p q
resumed_left code clock until p q item = let x = drop_wait q.place (stream p code.line) item in omega arith

same_left : (code : Code) (clock later p : ℕ) (place : ℕ) (w : Work) → left_at code later p (record { place = place; work = w }) ≡ left_at code clock p (record { place = place; work = w })
same_left code clock later p place w = refl

-- one mask more has fired
fired_falls : (fired : List Bool) (j : ℕ) → j < length fired → get_or fired j false ≡ false → count_by not (set fired j true) + 1 ≤ count_by not fired
fired_falls [] j lt e = absurd (omega arith)
fired_falls (f ∷ fired) zero lt e = let x = count_cons not f fired in let y = count_cons not true fired in let z : one_if (not f) ≡ 1 = ap (λ v. one_if (not v)) e in let w : one_if (not true) ≡ 0 = refl in omega arith
fired_falls (f ∷ fired) (suc j) lt e = let x = count_cons not f fired in let y = count_cons not f (set fired j true) in let z = fired_falls fired j (omega arith) e in omega arith

module _ (m : Program) (b : ℕ) (s : State) (long : length s.processors ≡ m.machine.processors) where
  finish_left : (p : ℕ) → is_due s.clock (processor s p).work ≡ true → left_in m (after_in m b s (Finish p)) (In b) + 1 ≤ left_in m s (In b)
  finish_left p due =
      let within = due_within s p due in
      let x = one_falls (code_at m b) s.clock s.processors m.machine.processors p (freed (processor s p)) (omega arith) within (freed_left (code_at m b) s.clock p (processor s p).place (processor s p).work due) in omega arith

  start_left : (p t d : ℕ) → IsNext m (code_at m b) s p t → left_in m (after_in m b s (Start p d)) (In b) + 1 ≤ left_in m s (In b)
  start_left p t d n = subst (λ o. left_in m (started (code_at m b) s p d o) (In b) + 1 ≤ left_in m s (In b)) (sym n.item) here
    where
      q : Processor
      q = begun (processor s p) (s.clock + d) t (read_of (tuple_at (code_at m b) t) s.world)

      here : left_in m (with_processor s p q) (In b) + 1 ≤ left_in m s (In b)
      here =
          let one = n.is_one in
          let x = one_falls (code_at m b) s.clock s.processors m.machine.processors p q one (omega arith) (begun_left (code_at m b) s.clock p (s.clock + d) t (processor s p) n.idle n.item (read_of (tuple_at (code_at m b) t) s.world)) in omega arith

  fire_left : IsFit m (code_at m b) → length s.fired ≡ length (masks (code_at m b).line) → (j : ℕ) → IsReady (masks (code_at m b).line) s.fired (waits (code_at m b) s) j → left_in m (after_in m b s (Fire j)) (In b) + 1 ≤ left_in m s (In b)
  fire_left fit all j r =
      let y = fired_falls s.fired j (let l = slice_get_within (masks (code_at m b).line) j r.mask r.at in omega arith) r.unfired in
      let x = no_more in omega arith
    where
      mask : ℕ
      mask = get_or (masks (code_at m b).line) j 0

      mask_is : mask ≡ r.mask
      mask_is = get_or_from_slice_get (masks (code_at m b).line) j r.mask 0 r.at

      bound : (p : ℕ) → has_bit mask p ≡ true → p < length s.processors
      bound p h = let x = fit.members j p (record { mask = r.mask; at = r.at; has = subst (λ k. has_bit k p ≡ true) mask_is h }) in omega arith

      item : (p : ℕ) → has_bit mask p ≡ true → slice_get (stream p (code_at m b).line) (processor s p).place ≡ Some Wait
      item p h = wait_item _ (waits_parts (code_at m b) s p (r.all_wait p (subst (λ k. has_bit k p ≡ true) mask_is h))).1

      no_more : all_left (code_at m b) s.clock (passed (s.clock + m.machine.delay) mask 0 s.processors) m.machine.processors ≤ all_left (code_at m b) s.clock s.processors m.machine.processors
      no_more = sum_le (λ p. left_at (code_at m b) s.clock p (processor s p)) (λ p. left_at (code_at m b) s.clock p (get_or (passed (s.clock + m.machine.delay) mask 0 s.processors) p at_start)) m.machine.processors (λ p lt. fired_all (λ p x. left_at (code_at m b) s.clock p x ≤ left_at (code_at m b) s.clock p (processor s p)) (s.clock + m.machine.delay) mask s.processors bound (λ p h. resumed_left (code_at m b) s.clock (s.clock + m.machine.delay) p (processor s p) (item p h)) (λ p h. le_refl _) p)

  advance_left : left_in m (after_in m b s Advance) (In b) ≡ left_in m s (In b)
  advance_left = ap (λ k. k + count_by not s.fired) (sum_same (left_of (code_at m b) s) (left_of (code_at m b) (after_in m b s Advance)) m.machine.processors (λ p lt. same_left (code_at m b) s.clock (after_in m b s Advance).clock p (processor s p).place (processor s p).work))

-- ---- in all
double : (f : ℕ → ℕ) (n : ℕ) → sum_below (λ p. 2 * f p) n ≡ 2 * sum_below f n
double f zero = refl
double f (suc n) = let x = double f n in omega arith

left_whole : (code : Code) (clock p : ℕ) (q : Processor) → IsWorkAt code p q → left_at code clock p q ≤ 2 * count_by is_run (stream p code.line)
left_whole code clock p q at = go q.place q.work at
  where
    go : (place : ℕ) (w : Work) → IsWorkAt code p (record { place = place; work = w }) → left_at code clock p (record { place = place; work = w }) ≤ 2 * count_by is_run (stream p code.line)
    go place Idle at = let x = count_drop is_run place (stream p code.line) in omega arith
    go place (Held until) at = let x = count_drop is_run place (stream p code.line) in omega arith
    go place (Busy until t operands) at = here (at until t operands refl)
      where
        here : (k : ℕ) × (place ≡ suc k) × (slice_get (stream p code.line) k ≡ Some (Do t)) → left_at code clock p (record { place = place; work = Busy until t operands }) ≤ 2 * count_by is_run (stream p code.line)
        here (k, e, item) = let x = count_drop is_run k (stream p code.line) in let y = drop_run k t (stream p code.line) item in let z = ap (λ n. count_by is_run (drop n (stream p code.line))) e in omega arith

-- within a block: two for each of at most 128 tuples, and one for each of at most 128 masks
pub few_left : (m : Program) (b : ℕ) (s : State) → IsSound m → b < length m.blocks → ((p : ℕ) → IsWorkAt (code_at m b) p (processor s p)) → length s.fired ≡ length (masks (code_at m b).line) → left_in m s (In b) ≤ 384
few_left m b s all_sound lt work all =
    let sound = all_sound.each b lt in
    let fit = sound_fit m all_sound b in
    let a = sum_le (λ p. 2 * count_by is_run (stream p (code_at m b).line)) (left_of (code_at m b) s) m.machine.processors (λ p l. left_whole (code_at m b) s.clock p (processor s p) (work p)) in
    let c = double (λ p. count_by is_run (stream p (code_at m b).line)) m.machine.processors in
    let d = all_runs m.machine.processors (length (code_at m b).tuples) (code_at m b).line (λ t p k st. (fit.stands t p k st).1) fit.once in
    let e = count_by-le-length not s.fired in
    let f = sound.block.few in
    let g = sound.few_masks in omega arith

pub entered_left : (m : Program) (b clock : ℕ) (w : World) → IsSound m → b < length m.blocks → left_in m (entered m b clock w) (In b) ≤ 384
entered_left m b clock w sound lt = few_left m b (entered m b clock w) sound lt (λ p until t operands is. let x = ap (λ q. q.work) (entered_at m.machine.processors p) in let y : Idle ≡ Busy until t operands = sym x ∙ is in absurd (cc)) (length-map _ _)

-- ---- by the machine's steps
-- a step within a block that leaves less of it
less_left : (m : Program) (b : ℕ) (s t : State) → s.mode ≡ In b → t.mode ≡ In b → left_in m t (In b) + 1 ≤ left_in m s (In b) → left_in m t t.mode < left_in m s s.mode
less_left m b s t e f less = let x = ap (left_in m s) e in let y = ap (left_in m t) f in omega arith

module _ (m : Program) (b : ℕ) (s : State) (inside : s.mode ≡ In b) where
  does : (a : Action) → after m s a ≡ after_in m b s a
  does a = ap (λ mode. after_to m mode s a) inside

  -- a Start
  pub start_less : (p t d : ℕ) → length s.processors ≡ m.machine.processors → IsNext m (code_at m b) s p t → left_in m (after m s (Start p d)) (after m s (Start p d)).mode < left_in m s s.mode
  start_less p t d long n = subst (λ x. left_in m x x.mode < left_in m s s.mode) (sym (does (Start p d))) (less_left m b s (after_in m b s (Start p d)) inside (started_mode (code_at m b) s p d _ ∙ inside) (start_left m b s long p t d n))

  -- a Fire
  pub fire_less : (j : ℕ) → length s.processors ≡ m.machine.processors → IsFit m (code_at m b) → length s.fired ≡ length (masks (code_at m b).line) → IsReady (masks (code_at m b).line) s.fired (waits (code_at m b) s) j → left_in m (after m s (Fire j)) (after m s (Fire j)).mode < left_in m s s.mode
  fire_less j long fit all r = subst (λ x. left_in m x x.mode < left_in m s s.mode) (sym (does (Fire j))) (less_left m b s (after_in m b s (Fire j)) inside inside (fire_left m b s long fit all j r))

  -- a Finish
  pub finish_less : (p : ℕ) → length s.processors ≡ m.machine.processors → is_due s.clock (processor s p).work ≡ true → left_in m (after m s (Finish p)) (after m s (Finish p)).mode < left_in m s s.mode
  finish_less p long due = subst (λ x. left_in m x x.mode < left_in m s s.mode) (sym (does (Finish p))) (less_left m b s (after_in m b s (Finish p)) inside inside (finish_left m b s long p due))

  -- an Advance changes nothing of it
  pub advance_same : length s.processors ≡ m.machine.processors → left_in m (after m s Advance) (after m s Advance).mode ≡ left_in m s s.mode
  advance_same long = subst (λ x. left_in m x x.mode ≡ left_in m s s.mode) (sym (does Advance)) (ap (left_in m (after_in m b s Advance)) inside ∙ advance_left m b s long ∙ sym (ap (left_in m s) inside))

  pub enters : (c : ℕ) → (after m s Branch).mode ≡ Entering c → after m (after m s Branch) Enter ≡ entered m c (s.clock + 1) s.world
  enters c to = ap (λ mode. after_to m mode (after m s Branch) Enter) to ∙ ap (λ t. entered m c (t.clock + 1) t.world) (does Branch)

  -- a Branch to a block, and its entry
  pub enter_few : (c : ℕ) → IsSound m → c < length m.blocks → (after m s Branch).mode ≡ Entering c → left_in m (after m (after m s Branch) Enter) (after m (after m s Branch) Enter).mode < 1000
  enter_few c sound lt to = subst (λ x. left_in m x x.mode < 1000) (sym (enters c to)) (let x = entered_left m c (s.clock + 1) s.world sound lt in omega arith)

  -- ---- the falling number
  started_at : (p d : ℕ) → (after m s (Start p d)).clock ≡ s.clock
  started_at p d = ap (λ x. x.clock) (does (Start p d)) ∙ started_clock (code_at m b) s p d _

  pub start_still : (until p t d : ℕ) → length s.processors ≡ m.machine.processors → IsNext m (code_at m b) s p t → still until m (after m s (Start p d)) < still until m s
  start_still until p t d long n = let x = start_less p t d long n in let y = started_at p d in omega arith

  pub fire_still : (until j : ℕ) → length s.processors ≡ m.machine.processors → IsFit m (code_at m b) → length s.fired ≡ length (masks (code_at m b).line) → IsReady (masks (code_at m b).line) s.fired (waits (code_at m b) s) j → still until m (after m s (Fire j)) < still until m s
  fire_still until j long fit all r = let x = fire_less j long fit all r in let y = ap (λ x. x.clock) (does (Fire j)) in omega arith

  pub finish_still : (until p : ℕ) → length s.processors ≡ m.machine.processors → is_due s.clock (processor s p).work ≡ true → still until m (after m s (Finish p)) < still until m s
  finish_still until p long due = let x = finish_less p long due in let y = ap (λ x. x.clock) (does (Finish p)) in omega arith

  -- an Advance does not raise it
  pub advance_still : (until t : ℕ) → length s.processors ≡ m.machine.processors → least_tick s.clock s.processors ≡ Some t → s.clock ≤ t → still until m (after m s Advance) ≤ still until m s
  advance_still until t long least le = let x = advance_same long in let y = ap (λ x. x.clock) (does Advance) ∙ ap (λ o. or_clock o s.clock) least in omega arith

  -- to leave the block and enter another takes a tick, which weighs more than what may be left of the new block
  pub enter_still : (until c : ℕ) → IsSound m → c < length m.blocks → (after m s Branch).mode ≡ Entering c → s.clock + 1 ≤ until → still until m (after m (after m s Branch) Enter) < still until m s
  enter_still until c sound lt to early = let x = enter_few c sound lt to in let y = ap (λ x. x.clock) (enters c to) in omega arith
