-- What a machine keeps, over an action that changes neither its processors' places nor its unit.
use Rattle.std.proofs.Common.{◌≡◌, ℕ, zero, suc, ◌+◌, ◌<◌, ◌≤◌, Bool, true, false, List, length, get_or, Some, None, ℤ, IsSome, nat_eq, if◌then◌else◌, refl, sym, ap, ◌∙◌, subst, arith, ◌⊎◌, inl, inr}
use Rattle.std.proofs.lemmas.Bool.{both_ways, cases_Bool, cases_eq, cases_lt, le-leb, leb-true, and_parts, and_from}
use Rattle.std.proofs.lemmas.Bool.Decides.{eqb_tells}
use Rattle.bm_base.specs.Mask.{has_bit}
use Rattle.bm_base.proofs.MaskBits.{same_bits}
use Rattle.line_model.specs.Streams.{masks}
use Rattle.unit_law.specs.State.{Code, Program, In, Ended, Work, Idle, Busy, Held, State, code_at, processor, is_free, is_due, waits, waiting_mask}
use Rattle.unit_law.specs.Units.{Choice, IsLawful, has_unfired, first_from}
use Rattle.unit_law.specs.Fit.{AllFit}
use Rattle.unit_law.specs.Steps.{Advance, Branch, NoneDue, NoneStarts, May, may_to, after, after_to, least_tick, or_clock, target}
use Rattle.unit_law.specs.OnUnit.{answer_at, answers_lawfully}
use Rattle.unit_law.proofs.Least.{Goes, busy_until, held_until, least_is, goes_of, busy_ticks}
use Rattle.unit_law.proofs.Waiting.{waiting_has}
use Rattle.bm_machine.specs.Shown.{IsKept, IsReached, unit_agrees, all_work_rightly, works_rightly}
use Rattle.bm_machine.proofs.Goes.{reached_other}
use Rattle.bm_machine.proofs.WithinBlock.{reached_unfired}

pub agrees_in : (m : Program) (s : State) (b : ℕ) (queue : List ℕ) (waiting : ℕ) → s.mode ≡ In b → unit_agrees m s s.mode queue waiting → unit_agrees m s (In b) queue waiting
agrees_in m s b queue waiting e h = subst (λ o. unit_agrees m s o queue waiting) e h

pub work_in : (m : Program) (s : State) (counts : List ℕ) (b : ℕ) → s.mode ≡ In b → all_work_rightly m s counts s.mode → all_work_rightly m s counts (In b)
work_in m s counts b e h = subst (all_work_rightly m s counts) e h

pub blocks_of : (m : Program) (s : State) (counts : List ℕ) (told capacity : ℕ) (queue : List ℕ) (waiting : ℕ) → IsKept m s counts told capacity queue waiting → (b : ℕ) → s.mode ≡ In b → b < length m.blocks
blocks_of m s counts told capacity queue waiting k b mode = (work_in m s counts b mode k.work).0

with_queue : (choice : Choice) (m : Program) (s : State) (b : ℕ) (queue : List ℕ) (waiting : ℕ) → queue ≡ masks (code_at m b).line → waiting ≡ waiting_mask (code_at m b) s → IsLawful queue s.fired (has_bit waiting) (choice queue s.fired waiting) → IsLawful (masks (code_at m b).line) s.fired (has_bit (waiting_mask (code_at m b) s)) (answer_at choice m b s)
with_queue choice m s b queue waiting e f h = subst (λ w. IsLawful (masks (code_at m b).line) s.fired (has_bit w) (choice (masks (code_at m b).line) s.fired w)) f (subst (λ q. IsLawful q s.fired (has_bit waiting) (choice q s.fired waiting)) e h)

-- the unit's answer is lawful
pub lawful_of : ((choice : Choice) (m : Program) (s : State) (b : ℕ) → IsLawful (masks (code_at m b).line) s.fired (has_bit (waiting_mask (code_at m b) s)) (answer_at choice m b s) → answers_lawfully choice m s (In b)) → (choice : Choice) (m : Program) (s : State) (counts : List ℕ) (told capacity : ℕ) (queue : List ℕ) (waiting : ℕ) → IsKept m s counts told capacity queue waiting → IsLawful queue s.fired (has_bit waiting) (choice queue s.fired waiting) → (b : ℕ) → s.mode ≡ In b → answers_lawfully choice m s (In b)
lawful_of by_mask choice m s counts told capacity queue waiting k h b mode = let a = agrees_in m s b queue waiting mode k.agrees in by_mask choice m s b (with_queue choice m s b queue waiting a.0 a.1 h)

-- those of whom the unit was told are those that wait
pub told_bits : (m : Program) (s : State) (counts : List ℕ) (told capacity : ℕ) (queue : List ℕ) (waiting : ℕ) → IsKept m s counts told capacity queue waiting → (b : ℕ) → s.mode ≡ In b → (p : ℕ) → has_bit told p ≡ waits (code_at m b) s p
told_bits m s counts told capacity queue waiting k b mode p = ap (λ w. has_bit w p) (sym k.told_is ∙ (agrees_in m s b queue waiting mode k.agrees).1) ∙ waiting_has (code_at m b) s p

-- whoever is free stays free
free_later : (a b : ℕ) (w : Work) → a ≤ b → is_free a w ≡ true → is_free b w ≡ true
free_later a b Idle le free = refl
free_later a b (Busy until t operands) le free = free
free_later a b (Held until) le free = let x = leb-true until a free in le-leb until b (omega arith)

-- a processor's work is right at a later clock that its tick is not below
pub works_later : (code : Code) (a b count : ℕ) (w : Work) → a ≤ b → ((until t : ℕ) (operands : List ℤ) → w ≡ Busy until t operands → b ≤ until) → works_rightly code a count w → works_rightly code b count w
works_later code a b count Idle le least h = omega arith
works_later code a b count (Busy until t operands) le least h = let lt : b ≤ until = least until t operands refl in let h1 = h.1 in let h3 = h.3 in (lt, omega arith, h.2, omega arith, h.4)
works_later code a b count (Held until) le least h = let x = h.0 in let y = h.1 in (omega arith, omega arith)

pub work_until : (code : Code) (a count until t : ℕ) (operands : List ℤ) (w : Work) → w ≡ Busy until t operands → works_rightly code a count w → a ≤ until
work_until code a count until t operands w e h = (subst (works_rightly code a count) e h).0

eqb_refl' : (n : ℕ) → nat_eq n n ≡ true
eqb_refl' n = go (eqb_tells n n)
  where
    go : ((nat_eq n n ≡ true) × (n ≡ n)) ⊎ ((nat_eq n n ≡ false) × (n ≡ n → ⊥)) → nat_eq n n ≡ true
    go (inl h) = h.0
    go (inr h) = absurd (h.1 refl)

pub some_first : (f : ℕ → Bool) (k n p : ℕ) → k ≤ p → p < k + n → f p ≡ true → IsSome (first_from f k n)
some_first f k zero p lo hi e = absurd (omega arith)
some_first f k (suc n) p lo hi e = go (cases_Bool (f k)) (cases_eq k p) (λ l h. some_first f (suc k) n p l h e)
  where
    go : (f k ≡ true) ⊎ (f k ≡ false) → (k ≡ p) ⊎ (k ≡ p → ⊥) → (suc k ≤ p → p < suc k + n → IsSome (first_from f (suc k) n)) → IsSome (first_from f k (suc n))
    go (inl t) c ih = subst (λ v. IsSome (if v then Some k else first_from f (suc k) n)) (sym t) refl
    go (inr u) (inl q) ih = absurd (both_ways (f p) (ap f (sym q) ∙ u) e)
    go (inr u) (inr ne) ih = subst (λ v. IsSome (if v then Some k else first_from f (suc k) n)) (sym u) (ih (omega arith) (omega arith))

-- the clock may move, where nothing else can be done
pub advance_may : (choice : Choice) (m : Program) (b : ℕ) (s : State) (tick : ℕ) → s.mode ≡ In b → NoneDue s → NoneStarts m (code_at m b) s → answer_at choice m b s ≡ None → answers_lawfully choice m s (In b) → least_tick s.clock s.processors ≡ Some tick → May m s Advance
advance_may choice m b s tick mode due starts none lawful least = subst (λ o. may_to m o s Advance) (sym mode) (due, starts, subst (IsLawful (masks (code_at m b).line) s.fired (waits (code_at m b) s)) none lawful, (tick, least))

-- the clock moves to the least tick
module _ (m : Program) (b : ℕ) (s : State) (counts : List ℕ) (told capacity : ℕ) (queue : List ℕ) (waiting tick : ℕ) (k : IsKept m s counts told capacity queue waiting) (mode : s.mode ≡ In b) (least : least_tick s.clock s.processors ≡ Some tick) where
  works : (p : ℕ) → works_rightly (code_at m b) s.clock (get_or counts p 0) (processor s p).work
  works = (work_in m s counts b mode k.work).1

  pub advance_later : s.clock ≤ tick
  advance_later = let l = least_is s.clock s.processors tick least in go l.p (goes_of s.clock tick (processor s l.p).work l.is)
    where
      go : (p : ℕ) → Goes s.clock tick (processor s p).work → s.clock ≤ tick
      go p (busy_until t operands e) = work_until (code_at m b) s.clock (get_or counts p 0) tick t operands (processor s p).work e (works p)
      go p (held_until e later) = omega arith

  -- where no Finish is due it is past the clock
  pub advance_past : NoneDue s → s.clock < tick
  advance_past due = let l = least_is s.clock s.processors tick least in go l.p (goes_of s.clock tick (processor s l.p).work l.is) (cases_lt s.clock tick)
    where
      go : (p : ℕ) → Goes s.clock tick (processor s p).work → (s.clock < tick) ⊎ (tick ≤ s.clock) → s.clock < tick
      go p goes (inl lt) = lt
      go p (busy_until t operands e) (inr le) = let x = advance_later in let q : tick ≡ s.clock = omega (arith, x, le) in absurd (both_ways _ (due p) (ap (is_due s.clock) e ∙ ap (λ u. is_due s.clock (Busy u t operands)) q ∙ eqb_refl' s.clock))
      go p (held_until e later) (inr le) = absurd (omega arith)

  pub advance_is : after m s Advance ≡ record s { clock = tick }
  advance_is = ap (λ o. after_to m o s Advance) mode ∙ ap (λ o. record s { clock = or_clock o s.clock }) least

  -- whoever waited still waits
  pub advance_waits : (p : ℕ) → has_bit told p ≡ true → waits (code_at m b) (record s { clock = tick }) p ≡ true
  advance_waits p h =
      let x = and_parts _ _ (sym (told_bits m s counts told capacity queue waiting k b mode p) ∙ h) in
      let y = and_parts _ _ x.1 in
      and_from _ _ x.0 (and_from _ _ (free_later s.clock tick (processor s p).work advance_later y.0) y.1)

  module _ (fit : AllFit m) (may : May m s Advance) where
    reached_then : IsReached m (record s { clock = tick }) counts
    reached_then = subst (λ t. IsReached m t counts) advance_is (reached_other m s counts Advance tt k.reached may)

    -- and has a mask that has not fired
    pub advance_unfired : (p : ℕ) → waits (code_at m b) (record s { clock = tick }) p ≡ true → has_unfired queue s.fired p ≡ true
    advance_unfired p w = subst (λ ms. has_unfired ms s.fired p ≡ true) (sym (agrees_in m s b queue waiting mode k.agrees).0) (reached_unfired m (record s { clock = tick }) counts b fit reached_then mode p w)

    kept_then : (told' capacity' : ℕ) (queue' : List ℕ) (waiting' : ℕ) → tick ≤ 1000000000000 → capacity' ≡ capacity → queue' ≡ queue → waiting' ≡ told' → ((p : ℕ) → has_bit told' p ≡ waits (code_at m b) (record s { clock = tick }) p) → IsKept m (record s { clock = tick }) counts told' capacity' queue' waiting'
    kept_then told' capacity' queue' waiting' early c q w bits = record {
      reached = reached_then;
      early = early;
      few = λ p. let f = k.few p in let l = advance_later in omega arith;
      long = k.long;
      cells = k.cells;
      work = subst (all_work_rightly m (record s { clock = tick }) counts) (sym mode) ((work_in m s counts b mode k.work).0, λ p. works_later (code_at m b) s.clock tick (get_or counts p 0) (processor s p).work advance_later (λ until t operands e. (least_is s.clock s.processors tick least).least p until (busy_ticks s.clock until t operands _ e)) (works p));
      room = λ b. subst (λ n. length (masks (code_at m b).line) ≤ n) (sym c) (k.room b);
      told_is = w;
      agrees = subst (λ o. unit_agrees m (record s { clock = tick }) o queue' waiting') (sym mode) (q ∙ (agrees_in m s b queue waiting mode k.agrees).0, w ∙ same_bits told' (waiting_mask (code_at m b) (record s { clock = tick })) (λ p. bits p ∙ sym (waiting_has (code_at m b) (record s { clock = tick }) p)));
    }

    -- what is kept after it
    pub advance_kept : (s' : State) (told' capacity' : ℕ) (queue' : List ℕ) (waiting' : ℕ) → s' ≡ record s { clock = tick } → tick ≤ 1000000000000 → capacity' ≡ capacity → queue' ≡ queue → waiting' ≡ told' → ((p : ℕ) → has_bit told' p ≡ waits (code_at m b) (record s { clock = tick }) p) → IsKept m s' counts told' capacity' queue' waiting'
    advance_kept s' told' capacity' queue' waiting' e early c q w bits = subst (λ x. IsKept m x counts told' capacity' queue' waiting') (sym e) (kept_then told' capacity' queue' waiting' early c q w bits)

-- the run ends
pub halt_kept : (m : Program) (b : ℕ) (s : State) (counts : List ℕ) (told capacity : ℕ) (queue : List ℕ) (waiting : ℕ) → IsKept m s counts told capacity queue waiting → s.mode ≡ In b → target (code_at m b).next s.world ≡ Ended → May m s Branch → IsKept m (record s { mode = Ended }) counts told capacity queue waiting
halt_kept m b s counts told capacity queue waiting k mode halts may = record {
  reached = subst (λ t. IsReached m t counts) (halt_is m b s mode halts) (reached_other m s counts Branch tt k.reached may);
  early = k.early;
  few = k.few;
  long = k.long;
  cells = k.cells;
  work = tt;
  room = k.room;
  told_is = k.told_is;
  agrees = tt;
}
  where
    halt_is : (m : Program) (b : ℕ) (s : State) → s.mode ≡ In b → target (code_at m b).next s.world ≡ Ended → after m s Branch ≡ record s { mode = Ended }
    halt_is m b s mode halts = ap (λ o. after_to m o s Branch) mode ∙ ap (λ o. record s { mode = o }) halts
