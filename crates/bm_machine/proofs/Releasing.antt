-- The holds that end at a tick are taken out of the agenda, one after another.
use Rattle.std.proofs.Common.{◌≡◌, ◌<◌, ◌≤◌, ◌&&◌, ◌||◌, ◌⊎◌, inl, inr, ℕ, Bool, true, nat_eq, List, Option, Some, None, length, get_or, slice_get, map, set, sym, ap, ◌∙◌, arith, get_or-set_same, get_or-set_other}
use Rattle.std.proofs.lemmas.Bool.{cases_eq}
use Rattle.std.proofs.lemmas.List.{length-map, ext_get_or}
use Rattle.line_model.specs.declared.line.StreamItem.{StreamItem}
use Rattle.line_model.specs.Streams.{stream}
use Rattle.unit_law.specs.State.{Code, at_start, is_free}
use Rattle.bm_machine.specs.declared.actor.Actor.{Actor}
use Rattle.bm_machine.specs.declared.agenda.Due.{Due}
use Rattle.bm_machine.specs.Agenda.{due_at, hold_until}
use Rattle.bm_machine.specs.Shown.{due_of, dues_of, work_of, processor_of}
use Rattle.bm_machine.proofs.Chain.{in_room}
use Rattle.bm_machine.proofs.Dues.{due_there, dues_long, due_later, hold_over}
use Rattle.bm_machine.proofs.Ables.{passes_by, next_passes, next_read, right_with, by_dues_other, by_dues_here, by_dues_busy}

-- what is left of the agenda: an entry as at first, or a hold that was over
abbrev pub IsLeft : List (Option Due) → ℕ → List (Option Due) → Type 0
IsLeft first tick now = (q : ℕ) → (due_at now q ≡ due_at first q) ⊎ ((due_at first q ≡ Some (hold_until tick)) × (due_at now q ≡ None))

-- what an entry was at first
at_first : (first : List (Option Due)) (tick : ℕ) (now : List (Option Due)) (p : ℕ) (d : Due) → IsLeft first tick now → due_at now p ≡ Some d → due_at first p ≡ Some d
at_first first tick now p d left e = go (left p)
  where
    go : (due_at now p ≡ due_at first p) ⊎ ((due_at first p ≡ Some (hold_until tick)) × (due_at now p ≡ None)) → due_at first p ≡ Some d
    go (inl s) = sym s ∙ e
    go (inr s) = absurd (let x : None ≡ Some d = sym s.1 ∙ e in cc)

module _ (first : List (Option Due)) (clock tick : ℕ) (actors : List Actor) (is : first ≡ dues_of clock (map processor_of actors)) (now : List (Option Due)) (long : length now ≡ length first) (left : IsLeft first tick now) where
  pub actors_long : length now ≡ length actors
  actors_long = long ∙ ap length is ∙ dues_long clock (map processor_of actors) ∙ length-map actors processor_of

  pub still_late : ((p : ℕ) (d : Due) → due_at first p ≡ Some d → tick ≤ d.tick) → (p : ℕ) (d : Due) → due_at now p ≡ Some d → tick ≤ d.tick
  still_late late p d e = late p d (at_first first tick now p d left e)

  -- processor p's hold is over
  module _ (p : ℕ) (hold : due_at now p ≡ Some (hold_until tick)) where
    pub one_left : p < length actors
    one_left = let x = in_room now p (hold_until tick) hold in let y = actors_long in omega arith

    pub over_free : is_free tick (get_or (map processor_of actors) p at_start).work ≡ true
    over_free = hold_over clock tick (get_or (map processor_of actors) p at_start).work (sym (due_there clock (map processor_of actors) p) ∙ ap (λ l. due_at l p) (sym is) ∙ at_first first tick now p (hold_until tick) left hold)

    pub left_more : IsLeft first tick (set now p None)
    left_more q = go (cases_eq q p)
      where
        go : (q ≡ p) ⊎ (q ≡ p → ⊥) → (due_at (set now p None) q ≡ due_at first q) ⊎ ((due_at first q ≡ Some (hold_until tick)) × (due_at (set now p None) q ≡ None))
        go (inl e) = inr (ap (due_at first) e ∙ at_first first tick now p (hold_until tick) left hold, ap (due_at (set now p None)) e ∙ get_or-set_same now p None None (in_room now p (hold_until tick) hold))
        go (inr n) = other (left q)
          where
            other : (due_at now q ≡ due_at first q) ⊎ ((due_at first q ≡ Some (hold_until tick)) × (due_at now q ≡ None)) → (due_at (set now p None) q ≡ due_at first q) ⊎ ((due_at first q ≡ Some (hold_until tick)) × (due_at (set now p None) q ≡ None))
            other (inl e) = inl (get_or-set_other now p q None None n ∙ e)
            other (inr e) = inr (e.0, get_or-set_other now p q None None n ∙ e.1)

    -- whether it waits, or can start a tuple
    passes_then : (test : Option StreamItem → Bool) (code : Code) (d : Actor) (items : List StreamItem) → items ≡ stream p code.line → (is_free tick (work_of (get_or actors p d).task) && test (slice_get items (get_or actors p d).place)) ≡ next_passes test code (length (map processor_of actors)) p true (get_or (map processor_of actors) p at_start)
    passes_then test code d items e = next_read test code tick actors p d items one_left e ∙ ap (λ v. next_passes test code (length (map processor_of actors)) p v (get_or (map processor_of actors) p at_start)) over_free

    pub right_then : (test : Option StreamItem → Bool) (code : Code) (old new : ℕ → Bool) (d : Actor) (items : List StreamItem) → items ≡ stream p code.line → ((q : ℕ) → new q ≡ (old q || ((is_free tick (work_of (get_or actors p d).task) && test (slice_get items (get_or actors p d).place)) && nat_eq q p))) → ((q : ℕ) → old q ≡ passes_by test code (map processor_of actors) now q) → (q : ℕ) → new q ≡ passes_by test code (map processor_of actors) (set now p None) q
    right_then test code old new d items e bits right = right_with (passes_by test code (map processor_of actors) (set now p None)) old new p _ (passes_then test code d items e ∙ sym (by_dues_here test code (map processor_of actors) now p (in_room now p (hold_until tick) hold))) bits (λ t. absurd (by_dues_busy test code (map processor_of actors) now p (hold_until tick) hold (sym (right p) ∙ t))) (λ q ne. right q ∙ by_dues_other test code (map processor_of actors) now p q ne)

  -- no hold that is over is left
  pub all_later : clock ≤ tick → ((p : ℕ) (d : Due) → due_at first p ≡ Some d → tick ≤ d.tick) → ((p : ℕ) → due_at now p ≡ Some (hold_until tick) → ⊥) → now ≡ dues_of tick (map processor_of actors)
  all_later le late none = ext_get_or None now (dues_of tick (map processor_of actors)) (actors_long ∙ sym (dues_long tick (map processor_of actors) ∙ length-map actors processor_of)) (λ q lt. at q ∙ sym (due_there tick (map processor_of actors) q))
    where
      was : (q : ℕ) → due_at first q ≡ due_of clock (get_or (map processor_of actors) q at_start).work
      was q = ap (λ l. due_at l q) is ∙ due_there clock (map processor_of actors) q

      at : (q : ℕ) → due_at now q ≡ due_of tick (get_or (map processor_of actors) q at_start).work
      at q = due_later clock tick (get_or (map processor_of actors) q at_start).work (due_at now q) le (λ d e. late q d (was q ∙ e)) (go (left q)) (none q)
        where
          go : (due_at now q ≡ due_at first q) ⊎ ((due_at first q ≡ Some (hold_until tick)) × (due_at now q ≡ None)) → (due_at now q ≡ due_of clock (get_or (map processor_of actors) q at_start).work) ⊎ ((due_of clock (get_or (map processor_of actors) q at_start).work ≡ Some (hold_until tick)) × (due_at now q ≡ None))
          go (inl e) = inl (e ∙ was q)
          go (inr e) = inr (sym (was q) ∙ e.0, e.1)
