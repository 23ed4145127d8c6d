-- What ends next on each processor, by what it does.
use Rattle.std.proofs.Common.{◌≡◌, ℕ, zero, suc, ◌+◌, ◌*◌, ◌<◌, ◌≤◌, Bool, true, false, List, [], ◌∷◌, length, get_or, set, replicate, nat_lt, nat_le, nat_eq, Option, Some, None, refl, sym, ap, ◌∙◌, arith, ◌⊎◌, inl, inr, if◌then◌else◌}
use Rattle.std.proofs.lemmas.Bool.{cases_lt, cases_eq, both_ways, cond-true, cond-false, lt-ltb, le-ltb, ltb-true, le-leb, leb-true}
use Rattle.std.proofs.lemmas.Bool.Decides.{eqb_tells}
use Rattle.std.proofs.lemmas.List.{length-map, map-set}
use Rattle.unit_law.specs.State.{Work, Idle, Busy, Held, Processor, at_start, is_free, is_due}
use Rattle.unit_law.specs.Steps.{tick, lesser, least_tick}
use Rattle.unit_law.specs.Units.{first_from}
use Rattle.unit_law.specs.Canonical.{is_none}
use Rattle.unit_law.proofs.Least.{Least, least_is}
use Rattle.unit_law.proofs.ReadyFacts.{first_none, first_at, first_passes}
use Rattle.bm_machine.specs.declared.agenda.Due.{Due}
use Rattle.bm_machine.specs.declared.agenda.Entry.{Entry}
use Rattle.bm_machine.specs.Agenda.{rank, due_at, hold_until, finish_at, IsFirst}
use Rattle.bm_machine.specs.Shown.{due_of, dues_of}

pub due_there : (clock : ℕ) (qs : List Processor) (p : ℕ) → due_at (dues_of clock qs) p ≡ due_of clock (get_or qs p at_start).work
due_there clock [] p = refl
due_there clock (q ∷ qs) zero = refl
due_there clock (q ∷ qs) (suc p) = due_there clock qs p

pub dues_set : (clock : ℕ) (qs : List Processor) (p : ℕ) (q : Processor) → dues_of clock (set qs p q) ≡ set (dues_of clock qs) p (due_of clock q.work)
dues_set clock qs p q = map-set (λ q. due_of clock q.work) qs p q

pub dues_long : (clock : ℕ) (qs : List Processor) → length (dues_of clock qs) ≡ length qs
dues_long clock qs = length-map qs (λ q. due_of clock q.work)

pub dues_rest : (clock n : ℕ) → dues_of clock (replicate n at_start) ≡ replicate n None
dues_rest clock zero = refl
dues_rest clock (suc n) = ap (λ l. None ∷ l) (dues_rest clock n)

-- ---- free, and what ends next
pub free_none : (clock : ℕ) (w : Work) → is_free clock w ≡ is_none (due_of clock w)
free_none clock Idle = refl
free_none clock (Busy until t operands) = refl
free_none clock (Held until) = go (cases_lt clock until)
  where
    go : (clock < until) ⊎ (until ≤ clock) → nat_le until clock ≡ is_none (if nat_lt clock until then Some (hold_until until) else None)
    go (inl lt) = later (nat_le until clock) refl ∙ sym (ap (λ v. is_none (if v then Some (hold_until until) else None)) (lt-ltb clock until lt))
      where
        later : (v : Bool) → nat_le until clock ≡ v → nat_le until clock ≡ false
        later true e = absurd (let x = leb-true until clock e in omega arith)
        later false e = e
    go (inr le) = le-leb until clock le ∙ sym (ap (λ v. is_none (if v then Some (hold_until until) else None)) (le-ltb clock until le))

pub free_due : (clock : ℕ) (w : Work) → is_free clock w ≡ true → due_of clock w ≡ None
free_due clock w e = go (due_of clock w) refl
  where
    go : (o : Option Due) → due_of clock w ≡ o → due_of clock w ≡ None
    go None s = s
    go (Some d) s = absurd (both_ways (is_free clock w) (free_none clock w ∙ ap is_none s) e)

-- ---- ticks, and what ends next
abbrev pub tick_in : Option Due → Option ℕ
tick_in None = None
tick_in (Some due) = Some due.tick

pub tick_due : (clock : ℕ) (w : Work) → tick clock w ≡ tick_in (due_of clock w)
tick_due clock Idle = refl
tick_due clock (Busy until t operands) = refl
tick_due clock (Held until) = go (nat_lt clock until)
  where
    go : (v : Bool) → (if v then Some until else None) ≡ tick_in (if v then Some (hold_until until) else None)
    go true = refl
    go false = refl

none_lesser : (o p : Option ℕ) → lesser o p ≡ None → (o ≡ None) × (p ≡ None)
none_lesser None p e = (refl, e)
none_lesser (Some a) None e = absurd (cc)
none_lesser (Some a) (Some c) e = absurd (cc)

none_ticks : (clock : ℕ) (qs : List Processor) → least_tick clock qs ≡ None → (q : ℕ) → tick clock (get_or qs q at_start).work ≡ None
none_ticks clock [] e q = refl
none_ticks clock (x ∷ qs) e zero = (none_lesser (tick clock x.work) (least_tick clock qs) e).0
none_ticks clock (x ∷ qs) e (suc q) = none_ticks clock qs (none_lesser (tick clock x.work) (least_tick clock qs) e).1 q

rank_tick : (c d : Due) (p q : ℕ) → q < 256 → rank c p ≤ rank d q → c.tick ≤ d.tick
rank_tick c d p q lt e = go c.is_finish d.is_finish e
  where
    go : (f h : Bool) → c.tick * 512 + (if f then 256 else 0) + p ≤ d.tick * 512 + (if h then 256 else 0) + q → c.tick ≤ d.tick
    go true true e = omega arith
    go true false e = omega arith
    go false true e = omega arith
    go false false e = omega arith

there_within : (clock : ℕ) (qs : List Processor) (p : ℕ) (d : Due) → due_of clock (get_or qs p at_start).work ≡ Some d → p < length qs
there_within clock [] p d e = absurd (cc)
there_within clock (q ∷ qs) zero d e = omega arith
there_within clock (q ∷ qs) (suc p) d e = let x = there_within clock qs p d e in omega arith

abbrev pub tick_of : Option Entry → Option ℕ
tick_of None = None
tick_of (Some entry) = Some entry.due.tick

-- the tick of the first entry is the least tick
pub least_first : (clock : ℕ) (qs : List Processor) (o : Option Entry) → length qs ≤ 256 → IsFirst (dues_of clock qs) o → least_tick clock qs ≡ tick_of o
least_first clock qs o few f = go o f (least_tick clock qs) refl
  where
    tick_at : (p : ℕ) → tick clock (get_or qs p at_start).work ≡ tick_in (due_at (dues_of clock qs) p)
    tick_at p = tick_due clock (get_or qs p at_start).work ∙ ap tick_in (sym (due_there clock qs p))

    go : (o : Option Entry) → IsFirst (dues_of clock qs) o → (t : Option ℕ) → least_tick clock qs ≡ t → least_tick clock qs ≡ tick_of o
    go None f None e = e
    go None f (Some t) e = let l = least_is clock qs t e in absurd (let x : None ≡ Some t = sym (tick_at l.p ∙ ap tick_in (f l.p)) ∙ l.is in cc)
    go (Some entry) f None e = absurd (let x : None ≡ Some entry.due.tick = sym (none_ticks clock qs e entry.processor) ∙ tick_at entry.processor ∙ ap tick_in f.0 in cc)
    go (Some entry) f (Some t) e = e ∙ ap Some same
      where
        l : Least clock qs t
        l = least_is clock qs t e

        up : t ≤ entry.due.tick
        up = l.least entry.processor entry.due.tick (tick_at entry.processor ∙ ap tick_in f.0)

        down : (d : Option Due) → due_at (dues_of clock qs) l.p ≡ d → entry.due.tick ≤ t
        down None s = absurd (let x : None ≡ Some t = sym (tick_at l.p ∙ ap tick_in s) ∙ l.is in cc)
        down (Some d) s = let x : Some d.tick ≡ Some t = sym (tick_at l.p ∙ ap tick_in s) ∙ l.is in let y : d.tick ≡ t = cc in let z = rank_tick entry.due d entry.processor l.p (let w = there_within clock qs l.p d (sym (due_there clock qs l.p) ∙ s) in omega arith) (f.1 l.p d s) in omega arith

        same : t ≡ entry.due.tick
        same = let a = up in let b = down (due_at (dues_of clock qs) l.p) refl in omega arith

-- no entry is before the least tick
pub dues_least : (clock t : ℕ) (qs : List Processor) → least_tick clock qs ≡ Some t → (p : ℕ) (d : Due) → due_at (dues_of clock qs) p ≡ Some d → t ≤ d.tick
dues_least clock t qs e p d s = (least_is clock qs t e).least p d.tick (tick_due clock (get_or qs p at_start).work ∙ ap tick_in (sym (due_there clock qs p) ∙ s))

-- ---- what is due, and what ends next
due_finish : (clock : ℕ) (w : Work) → is_due clock w ≡ true → due_of clock w ≡ Some (finish_at clock)
due_finish clock Idle e = absurd (both_ways true (sym e) refl)
due_finish clock (Busy until t operands) e = go (eqb_tells until clock)
  where
    go : ((nat_eq until clock ≡ true) × (until ≡ clock)) ⊎ ((nat_eq until clock ≡ false) × (until ≡ clock → ⊥)) → Some (finish_at until) ≡ Some (finish_at clock)
    go (inl s) = ap (λ u. Some (finish_at u)) s.1
    go (inr s) = absurd (both_ways (nat_eq until clock) s.0 e)
due_finish clock (Held until) e = absurd (both_ways true (sym e) refl)

finish_due : (clock : ℕ) (w : Work) (d : Due) → due_of clock w ≡ Some d → d.tick ≡ clock → (is_due clock w ≡ true) × (d ≡ finish_at clock)
finish_due clock Idle d e at = absurd (cc)
finish_due clock (Busy until t operands) d e at = let x : finish_at until ≡ d = cc in let y : until ≡ clock = ap (λ d. d.tick) x ∙ at in (go y (eqb_tells until clock), sym x ∙ ap finish_at y)
  where
    go : until ≡ clock → ((nat_eq until clock ≡ true) × (until ≡ clock)) ⊎ ((nat_eq until clock ≡ false) × (until ≡ clock → ⊥)) → nat_eq until clock ≡ true
    go y (inl s) = s.0
    go y (inr s) = absurd (s.1 y)
finish_due clock (Held until) d e at = absurd (go (nat_lt clock until) refl e)
  where
    go : (v : Bool) → nat_lt clock until ≡ v → (if v then Some (hold_until until) else None) ≡ Some d → ⊥
    go true l e = let x : hold_until until ≡ d = cc in let y : until ≡ d.tick = ap (λ d. d.tick) x in let z = ltb-true clock until l in omega arith
    go false l e = cc

-- no entry is before the clock
abbrev pub AllLate : ℕ → List Processor → Type 0
AllLate clock qs = (t : ℕ) → least_tick clock qs ≡ Some t → clock ≤ t

late_due : (clock : ℕ) (qs : List Processor) → AllLate clock qs → (p : ℕ) (d : Due) → due_at (dues_of clock qs) p ≡ Some d → clock ≤ d.tick
late_due clock qs late p d s = go (least_tick clock qs) refl
  where
    go : (o : Option ℕ) → least_tick clock qs ≡ o → clock ≤ d.tick
    go None e = absurd (let x : None ≡ Some d.tick = sym (none_ticks clock qs e p) ∙ tick_due clock (get_or qs p at_start).work ∙ ap tick_in (sym (due_there clock qs p) ∙ s) in cc)
    go (Some t) e = let x = late t e in let y = dues_least clock t qs e p d s in omega arith

-- the lowest processor whose Finish is due is that of the first entry, where it ends by now
pub lowest_first : (clock : ℕ) (qs : List Processor) (entry : Entry) → length qs ≤ 256 → IsFirst (dues_of clock qs) (Some entry) → entry.due.tick ≡ clock → first_from (λ p. is_due clock (get_or qs p at_start).work) 0 (length qs) ≡ Some entry.processor
lowest_first clock qs entry few f at =
    let here = sym (due_there clock qs entry.processor) ∙ f.0 in
    let lt = there_within clock qs entry.processor entry.due here in
    let due = finish_due clock (get_or qs entry.processor at_start).work entry.due here at in
    first_at (λ p. is_due clock (get_or qs p at_start).work) 0 (length qs) entry.processor (omega arith) (omega arith) due.0 (λ i lo l. below due.1 i l (is_due clock (get_or qs i at_start).work) refl)
  where
    below : entry.due ≡ finish_at clock → (i : ℕ) → i < entry.processor → (v : Bool) → is_due clock (get_or qs i at_start).work ≡ v → is_due clock (get_or qs i at_start).work ≡ false
    below same i l false e = e
    below same i l true e =
        let x = f.1 i (finish_at clock) (due_there clock qs i ∙ due_finish clock (get_or qs i at_start).work e) in
        let y = ap (λ d. rank d entry.processor) same in
        absurd (omega arith)

pub none_due_first : (clock : ℕ) (qs : List Processor) (o : Option Entry) → length qs ≤ 256 → AllLate clock qs → IsFirst (dues_of clock qs) o → ((entry : Entry) → o ≡ Some entry → entry.due.tick ≡ clock → ⊥) → first_from (λ p. is_due clock (get_or qs p at_start).work) 0 (length qs) ≡ None
none_due_first clock qs o few late f not = first_none (λ p. is_due clock (get_or qs p at_start).work) 0 (length qs) (λ i lo l. go o f not i (omega arith) (is_due clock (get_or qs i at_start).work) refl)
  where
    go : (o : Option Entry) → IsFirst (dues_of clock qs) o → ((entry : Entry) → o ≡ Some entry → entry.due.tick ≡ clock → ⊥) → (i : ℕ) → i < length qs → (v : Bool) → is_due clock (get_or qs i at_start).work ≡ v → is_due clock (get_or qs i at_start).work ≡ false
    go o f not i l false e = e
    go None f not i l true e = absurd (let x : None ≡ Some (finish_at clock) = sym (f i) ∙ due_there clock qs i ∙ due_finish clock (get_or qs i at_start).work e in cc)
    go (Some entry) f not i l true e =
        let x = f.1 i (finish_at clock) (due_there clock qs i ∙ due_finish clock (get_or qs i at_start).work e) in
        let y = rank_tick entry.due (finish_at clock) entry.processor i (omega arith) x in
        let z = late_due clock qs late entry.processor entry.due f.0 in
        absurd (not entry refl (omega arith))

-- the lowest processor whose Finish is due has the first entry
pub due_first : (clock : ℕ) (qs : List Processor) (n p : ℕ) → length qs ≤ 256 → p < 256 → n ≡ length qs → AllLate clock qs → first_from (λ q. is_due clock (get_or qs q at_start).work) 0 n ≡ Some p → IsFirst (dues_of clock qs) (Some (record { due = finish_at clock; processor = p }))
due_first clock qs n p few small long late e = (due_there clock qs p ∙ due_finish clock (get_or qs p at_start).work passes.0, λ q d s. least q d s (cases_eq d.tick clock))
  where
    passes : (is_due clock (get_or qs p at_start).work ≡ true) × (0 ≤ p) × (p < 0 + n) × ((i : ℕ) → 0 ≤ i → i < p → is_due clock (get_or qs i at_start).work ≡ false)
    passes = first_passes (λ q. is_due clock (get_or qs q at_start).work) 0 n p e

    not_below : (q : ℕ) (d : Due) → due_of clock (get_or qs q at_start).work ≡ Some d → d.tick ≡ clock → (q < p) ⊎ (p ≤ q) → rank (finish_at clock) p ≤ rank d q
    not_below q d s at (inl lt) = absurd (both_ways _ (passes.3 q (omega arith) lt) (finish_due clock (get_or qs q at_start).work d s at).0)
    not_below q d s at (inr le) = let x = ap (λ d. rank d q) (finish_due clock (get_or qs q at_start).work d s at).1 in omega arith

    later : (d : Due) (q : ℕ) → clock < d.tick → (v : Bool) → d.is_finish ≡ v → rank (finish_at clock) p ≤ rank d q
    later d q lt true e = let x = ap (λ v. d.tick * 512 + (if v then 256 else 0) + q) e in omega arith
    later d q lt false e = let x = ap (λ v. d.tick * 512 + (if v then 256 else 0) + q) e in omega arith

    least : (q : ℕ) (d : Due) → due_at (dues_of clock qs) q ≡ Some d → (d.tick ≡ clock) ⊎ (d.tick ≡ clock → ⊥) → rank (finish_at clock) p ≤ rank d q
    least q d s (inl at) = not_below q d (sym (due_there clock qs q) ∙ s) at (cases_lt q p)
    least q d s (inr n) = let x = late_due clock qs late q d s in later d q (omega arith) d.is_finish refl

-- ---- a later clock
-- what ends at the clock's new tick is over, and all else ends as before
pub due_later : (clock to : ℕ) (w : Work) (now : Option Due) → clock ≤ to → ((d : Due) → due_of clock w ≡ Some d → to ≤ d.tick) → (now ≡ due_of clock w) ⊎ ((due_of clock w ≡ Some (hold_until to)) × (now ≡ None)) → (now ≡ Some (hold_until to) → ⊥) → now ≡ due_of to w
due_later clock to Idle now le least (inl e) over = e
due_later clock to Idle now le least (inr e) over = absurd (let x = e.0 in cc)
due_later clock to (Busy until t operands) now le least (inl e) over = e
due_later clock to (Busy until t operands) now le least (inr e) over = absurd (let x : Some (finish_at until) ≡ Some (hold_until to) = e.0 in let y : finish_at until ≡ hold_until to = cc in let z : true ≡ false = ap (λ d. d.is_finish) y in both_ways true z refl)
due_later clock to (Held until) now le least cases over = go (cases_lt clock until) (cases_lt to until) cases
  where
    early : until ≤ to → (if nat_lt to until then Some (hold_until until) else None) ≡ None
    early l = cond-false _ _ _ (le-ltb to until l)

    go : (clock < until) ⊎ (until ≤ clock) → (to < until) ⊎ (until ≤ to) → (now ≡ due_of clock (Held until)) ⊎ ((due_of clock (Held until) ≡ Some (hold_until to)) × (now ≡ None)) → now ≡ due_of to (Held until)
    go (inl lt) (inl past) (inl e) = e ∙ cond-true _ _ _ (lt-ltb clock until lt) ∙ sym (cond-true _ _ _ (lt-ltb to until past))
    go (inl lt) (inl past) (inr e) = absurd (let x : Some (hold_until until) ≡ Some (hold_until to) = sym (cond-true _ _ _ (lt-ltb clock until lt)) ∙ e.0 in let y : hold_until until ≡ hold_until to = cc in let z : until ≡ to = ap (λ d. d.tick) y in omega arith)
    go (inl lt) (inr l) (inl e) = let x = least (hold_until until) (cond-true _ _ _ (lt-ltb clock until lt)) in let y : until ≡ to = omega arith in absurd (over (e ∙ cond-true _ _ _ (lt-ltb clock until lt) ∙ ap (λ u. Some (hold_until u)) y))
    go (inl lt) (inr l) (inr e) = e.1 ∙ sym (early l)
    go (inr ge) (inl past) c = absurd (omega arith)
    go (inr ge) (inr l) (inl e) = e ∙ cond-false _ _ _ (le-ltb clock until ge) ∙ sym (early l)
    go (inr ge) (inr l) (inr e) = e.1 ∙ sym (early l)

-- whose hold ends then is free then
pub hold_over : (clock to : ℕ) (w : Work) → due_of clock w ≡ Some (hold_until to) → is_free to w ≡ true
hold_over clock to Idle e = absurd (cc)
hold_over clock to (Busy until t operands) e = absurd (let y : finish_at until ≡ hold_until to = cc in let z : true ≡ false = ap (λ d. d.is_finish) y in both_ways true z refl)
hold_over clock to (Held until) e = go (nat_lt clock until) refl e
  where
    go : (v : Bool) → nat_lt clock until ≡ v → (if v then Some (hold_until until) else None) ≡ Some (hold_until to) → nat_le until to ≡ true
    go true l e = let y : hold_until until ≡ hold_until to = cc in let z : until ≡ to = ap (λ d. d.tick) y in le-leb until to (omega arith)
    go false l e = absurd (cc)

-- ---- how many entries there are
pub entries : List (Option Due) → ℕ
entries [] = 0
entries (None ∷ dues) = entries dues
entries (Some d ∷ dues) = suc (entries dues)

pub entries_less : (dues : List (Option Due)) (p : ℕ) (d : Due) → due_at dues p ≡ Some d → entries (set dues p None) < entries dues
unfolding entries
entries_less [] p d e = absurd (cc)
entries_less (None ∷ dues) zero d e = absurd (cc)
entries_less (Some c ∷ dues) zero d e = omega arith
entries_less (None ∷ dues) (suc p) d e = entries_less dues p d e
entries_less (Some c ∷ dues) (suc p) d e = let x = entries_less dues p d e in omega arith
