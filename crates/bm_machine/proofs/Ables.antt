-- Who waits and who can start a tuple, as sets.
use Rattle.std.proofs.Common.{◌≡◌, ℕ, ◌+◌, ◌<◌, ◌≤◌, Bool, true, false, not, ◌&&◌, ◌||◌, nat_eq, nat_lt, List, length, map, get_or, set, slice_get, Option, Some, None, refl, sym, ap, ◌∙◌, arith, ◌⊎◌, inl, inr, get_or-set_same, get_or-set_other}
use Rattle.std.proofs.lemmas.Bool.{and_parts, cases_lt, both_ways, lt-ltb, ltb-true, false_from_ne_true}
use Rattle.std.proofs.lemmas.Bool.Decides.{eqb_tells}
use Rattle.std.proofs.lemmas.List.{get_or-map, length-map}
use Rattle.bm_base.specs.Mask.{has_bit, HasNoneFrom, IsFirstMember}
use Rattle.line_model.specs.declared.line.StreamItem.{StreamItem}
use Rattle.line_model.specs.Streams.{stream}
use Rattle.unit_law.specs.State.{Code, State, Processor, at_start, is_free, waits}
use Rattle.unit_law.specs.Units.{first_from}
use Rattle.unit_law.specs.Canonical.{is_none, can_start}
use Rattle.unit_law.proofs.ReadyFacts.{first_passes, none_passes, first_none, first_at}
use Rattle.bm_machine.specs.declared.actor.Actor.{Actor}
use Rattle.bm_machine.specs.declared.agenda.Due.{Due}
use Rattle.bm_machine.specs.Agenda.{due_at}
use Rattle.bm_machine.specs.Shown.{work_of, processor_of, starts_next, dues_of}
use Rattle.bm_machine.proofs.Dues.{due_there, free_none}

-- processor p of n is free, by this, and its next item passes a test
abbrev pub next_passes : (Option StreamItem → Bool) → Code → ℕ → ℕ → Bool → Processor → Bool
next_passes test code n p free q = nat_lt p n && (free && test (slice_get (stream p code.line) q.place))

pub next_at : (test : Option StreamItem → Bool) (code : Code) (clock : ℕ) (actors : List Actor) (p : ℕ) (d : Actor) → p < length actors → next_passes test code (length (map processor_of actors)) p (is_free clock (get_or (map processor_of actors) p at_start).work) (get_or (map processor_of actors) p at_start) ≡ (is_free clock (work_of (get_or actors p d).task) && test (slice_get (stream p code.line) (get_or actors p d).place))
next_at test code clock actors p d lt =
    let long : length (map processor_of actors) ≡ length actors = length-map _ _ in
    ap (λ v. v && (is_free clock (get_or (map processor_of actors) p at_start).work && test (slice_get (stream p code.line) (get_or (map processor_of actors) p at_start).place))) (lt-ltb p (length (map processor_of actors)) (omega (arith, long))) ∙ ap (λ q. is_free clock q.work && test (slice_get (stream p code.line) q.place)) (get_or-map processor_of actors p d at_start lt)

pub next_read : (test : Option StreamItem → Bool) (code : Code) (clock : ℕ) (actors : List Actor) (p : ℕ) (d : Actor) (items : List StreamItem) → p < length actors → items ≡ stream p code.line → (is_free clock (work_of (get_or actors p d).task) && test (slice_get items (get_or actors p d).place)) ≡ next_passes test code (length (map processor_of actors)) p (is_free clock (get_or (map processor_of actors) p at_start).work) (get_or (map processor_of actors) p at_start)
next_read test code clock actors p d items lt e = ap (λ l. is_free clock (work_of (get_or actors p d).task) && test (slice_get l (get_or actors p d).place)) e ∙ sym (next_at test code clock actors p d lt)

within_of : (p n : ℕ) (v : Bool) → (nat_lt p n && v) ≡ true → p < n
within_of p n v e = ltb-true p n (and_parts (nat_lt p n) v e).0

pub waits_one : (code : Code) (s : State) (p : ℕ) → waits code s p ≡ true → p < length s.processors
waits_one code s p e = within_of p (length s.processors) _ e

pub starts_one : (code : Code) (s : State) (p : ℕ) → starts_next code s p ≡ true → p < length s.processors
starts_one code s p e = within_of p (length s.processors) _ e

-- what is right below n is right everywhere, where neither is true from n on
pub right_below : (f told : ℕ → Bool) (n : ℕ) → ((q : ℕ) → f q ≡ true → q < n) → ((q : ℕ) → told q ≡ true → f q ≡ true) → ((q : ℕ) → q < n → told q ≡ f q) → (q : ℕ) → told q ≡ f q
right_below f told n few within below q = go (cases_lt q n)
  where
    go : (q < n) ⊎ (n ≤ q) → told q ≡ f q
    go (inl lt) = below q lt
    go (inr le) = neither (λ e. let x = few q e in omega arith)
      where
        neither : (f q ≡ true → ⊥) → told q ≡ f q
        neither never = false_from_ne_true (told q) (λ e. never (within q e)) ∙ sym (false_from_ne_true (f q) never)

and_true : (v : Bool) → (v && true) ≡ v
and_true true = refl
and_true false = refl

and_false : (v : Bool) → (v && false) ≡ false
and_false true = refl
and_false false = refl

or_false : (v : Bool) → (v || false) ≡ v
or_false true = refl
or_false false = refl

-- once p is added, where it passes, a set is right at p, and elsewhere as it was
pub right_one : (f old new : ℕ → Bool) (p : ℕ) (w : Bool) → w ≡ f p → ((q : ℕ) → new q ≡ (old q || (w && nat_eq q p))) → (old p ≡ true → f p ≡ true) → (q : ℕ) → ((q ≡ p → ⊥) → old q ≡ f q) → new q ≡ f q
right_one f old new p w is bits within q other = go (eqb_tells q p)
  where
    at : (v : Bool) → old p ≡ v → (old p || w) ≡ w
    at true e = ap (λ x. x || w) e ∙ sym (is ∙ within e)
    at false e = ap (λ x. x || w) e

    go : ((nat_eq q p ≡ true) × (q ≡ p)) ⊎ ((nat_eq q p ≡ false) × (q ≡ p → ⊥)) → new q ≡ f q
    go (inl s) = bits q ∙ ap (λ v. old q || (w && v)) s.0 ∙ ap (λ v. old q || v) (and_true w) ∙ ap (λ i. old i || w) s.1 ∙ at (old p) refl ∙ is ∙ ap f (sym s.1)
    go (inr s) = bits q ∙ ap (λ v. old q || (w && v)) s.0 ∙ ap (λ v. old q || v) (and_false w) ∙ or_false (old q) ∙ other s.1

-- a set that was right but at p is right once p is added, where it passes
pub right_with : (f old new : ℕ → Bool) (p : ℕ) (w : Bool) → w ≡ f p → ((q : ℕ) → new q ≡ (old q || (w && nat_eq q p))) → (old p ≡ true → f p ≡ true) → ((q : ℕ) → (q ≡ p → ⊥) → old q ≡ f q) → (q : ℕ) → new q ≡ f q
right_with f old new p w is bits within others q = right_one f old new p w is bits within q (others q)

-- a set that is right but at members of a mask from p on
abbrev pub IsKnownBelow : (ℕ → Bool) → ℕ → ℕ → (ℕ → Bool) → Type 0
IsKnownBelow f mask p set = (q : ℕ) → (has_bit mask q ≡ true → q < p) → set q ≡ f q

pub known_more : (f : ℕ → Bool) (mask p : ℕ) (old new : ℕ → Bool) (w : Bool) → w ≡ f p → ((q : ℕ) → new q ≡ (old q || (w && nat_eq q p))) → ((q : ℕ) → old q ≡ true → f q ≡ true) → IsKnownBelow f mask p old → IsKnownBelow f mask (p + 1) new
known_more f mask p old new w is bits within known q lt = right_one f old new p w is bits (within p) q (λ ne. known q (λ h. let x = lt h in below q p x ne))
  where
    below : (q p : ℕ) → q < p + 1 → (q ≡ p → ⊥) → q < p
    below q p lt ne = go (cases_lt q p)
      where
        go : (q < p) ⊎ (p ≤ q) → q < p
        go (inl l) = l
        go (inr g) = absurd (ne (omega arith))

-- no member stands between
pub known_skip : (f : ℕ → Bool) (mask from p : ℕ) (set : ℕ → Bool) → IsFirstMember mask from p → IsKnownBelow f mask from set → IsKnownBelow f mask p set
known_skip f mask from p set next known q lt = known q (λ h. below h (cases_lt q from))
  where
    below : has_bit mask q ≡ true → (q < from) ⊎ (from ≤ q) → q < from
    below h (inl l) = l
    below h (inr g) = absurd (both_ways (has_bit mask q) (next.skipped q g (lt h)) h)

-- and none from there on
pub known_all : (f : ℕ → Bool) (mask from : ℕ) (set : ℕ → Bool) → HasNoneFrom mask from → IsKnownBelow f mask from set → (q : ℕ) → set q ≡ f q
known_all f mask from set none known q = known q (λ h. below h (cases_lt q from))
  where
    below : has_bit mask q ≡ true → (q < from) ⊎ (from ≤ q) → q < from
    below h (inl l) = l
    below h (inr g) = absurd (both_ways (has_bit mask q) (none q g) h)

pub known_first : (f : ℕ → Bool) (mask : ℕ) (set : ℕ → Bool) → ((q : ℕ) → has_bit mask q ≡ false → set q ≡ f q) → IsKnownBelow f mask 0 set
known_first f mask set known q lt = known q (go (has_bit mask q) refl)
  where
    go : (v : Bool) → has_bit mask q ≡ v → has_bit mask q ≡ false
    go true e = absurd (let x = lt e in omega arith)
    go false e = e

-- a set that was right but at p, where nothing passes, is right without p
pub right_without : (f old new : ℕ → Bool) (p : ℕ) → f p ≡ false → ((q : ℕ) → new q ≡ (old q && not (nat_eq q p))) → ((q : ℕ) → (q ≡ p → ⊥) → old q ≡ f q) → (q : ℕ) → new q ≡ f q
right_without f old new p none bits others q = go (eqb_tells q p)
  where
    go : ((nat_eq q p ≡ true) × (q ≡ p)) ⊎ ((nat_eq q p ≡ false) × (q ≡ p → ⊥)) → new q ≡ f q
    go (inl s) = bits q ∙ ap (λ v. old q && not v) s.0 ∙ and_false (old q) ∙ sym none ∙ ap f (sym s.1)
    go (inr s) = bits q ∙ ap (λ v. old q && not v) s.0 ∙ and_true (old q) ∙ others q s.1

-- ---- by what ends next
-- who is free has no entry, so who waits and who can start is known by the entries and the places
abbrev pub passes_by : (Option StreamItem → Bool) → Code → List Processor → List (Option Due) → ℕ → Bool
passes_by test code qs dues p = next_passes test code (length qs) p (is_none (due_at dues p)) (get_or qs p at_start)

pub by_dues : (test : Option StreamItem → Bool) (code : Code) (clock : ℕ) (qs : List Processor) (dues : List (Option Due)) (p : ℕ) → dues ≡ dues_of clock qs → passes_by test code qs dues p ≡ next_passes test code (length qs) p (is_free clock (get_or qs p at_start).work) (get_or qs p at_start)
by_dues test code clock qs dues p e = ap (λ v. next_passes test code (length qs) p v (get_or qs p at_start)) (ap (λ l. is_none (due_at l p)) e ∙ ap is_none (due_there clock qs p) ∙ sym (free_none clock (get_or qs p at_start).work))

-- once p has no entry
pub by_dues_other : (test : Option StreamItem → Bool) (code : Code) (qs : List Processor) (dues : List (Option Due)) (p q : ℕ) → (q ≡ p → ⊥) → passes_by test code qs dues q ≡ passes_by test code qs (set dues p None) q
by_dues_other test code qs dues p q ne = ap (λ o. next_passes test code (length qs) q (is_none o) (get_or qs q at_start)) (sym (get_or-set_other dues p q None None ne))

pub by_dues_here : (test : Option StreamItem → Bool) (code : Code) (qs : List Processor) (dues : List (Option Due)) (p : ℕ) → p < length dues → passes_by test code qs (set dues p None) p ≡ next_passes test code (length qs) p true (get_or qs p at_start)
by_dues_here test code qs dues p lt = ap (λ o. next_passes test code (length qs) p (is_none o) (get_or qs p at_start)) (get_or-set_same dues p None None lt)

pub by_dues_busy : (test : Option StreamItem → Bool) (code : Code) (qs : List Processor) (dues : List (Option Due)) (p : ℕ) (d : Due) → due_at dues p ≡ Some d → passes_by test code qs dues p ≡ true → ⊥
by_dues_busy test code qs dues p d e t = both_ways (passes_by test code qs dues p) (ap (λ o. next_passes test code (length qs) p (is_none o) (get_or qs p at_start)) e ∙ and_false (nat_lt p (length qs))) t

-- ---- the lowest of a set
pub lowest_is : (able : ℕ → Bool) (code : Code) (s : State) (n m : ℕ) → ((q : ℕ) → able q ≡ starts_next code s q) → length s.processors ≡ n → n ≤ m → first_from able 0 m ≡ first_from (can_start code s) 0 n
lowest_is able code s n m right long few = go (first_from able 0 m) refl
  where
    same : (q : ℕ) → q < n → able q ≡ can_start code s q
    same q lt = right q ∙ ap (λ v. v && can_start code s q) (lt-ltb q (length s.processors) (omega arith))

    go : (o : Option ℕ) → first_from able 0 m ≡ o → first_from able 0 m ≡ first_from (can_start code s) 0 n
    go None e = e ∙ sym (first_none (can_start code s) 0 n (λ i lo l. sym (same i (omega arith)) ∙ none_passes able 0 m e i lo (omega arith)))
    go (Some p) e =
        let x = first_passes able 0 m p e in
        let lt : p < n = let y = starts_one code s p (sym (right p) ∙ x.0) in omega arith in
        e ∙ sym (first_at (can_start code s) 0 n p (omega arith) (omega arith) (sym (same p lt) ∙ x.0) (λ i lo l. sym (same i (omega arith)) ∙ x.3 i lo l))
