-- What the canonical run tells is one, and a beginning of it tells a front of that.
use Rattle.std.proofs.Common.{◌≡◌, ℕ, zero, suc, ◌≤◌, List, [], ◌∷◌, ◌++◌, length, get_or, Option, Some, None, refl, sym, ap, ◌∙◌, subst, arith, ◌⊎◌, inl, inr, append_assoc, append-nil}
use Rattle.std.specs.List.{filter}
use Rattle.std.proofs.lemmas.Bool.{cases_eq}
use Rattle.std.proofs.lemmas.List.{length-replicate}
use Rattle.std.proofs.lemmas.List.Elements.{filter-append}
use Rattle.std.specs.Prelude.{replicate}
use Rattle.bm_base.specs.Memory.{Content}
use Rattle.bm_base.specs.Prefix.{IsPrefixOf}
use Rattle.tuple_ir.specs.declared.event.Event.{Event}
use Rattle.unit_law.specs.State.{Program, State}
use Rattle.unit_law.specs.Units.{Choice}
use Rattle.unit_law.specs.Steps.{Action, state_after}
use Rattle.unit_law.specs.Canonical.{Durations, IsCanonical}
use Rattle.unit_law.specs.Events.{event_of, events_of, and_event}
use Rattle.bm_machine.specs.Next.{goes_on}
use Rattle.bm_machine.specs.Shown.{HasCounts}
use Rattle.run_text.specs.RunUpTo.{IsLastBy, End, end_of}
use Rattle.run_text.specs.Runs.{HasCome}
use Rattle.run_text.specs.Told.{told_by, IsToldUpTo, IsToldBy}
use Rattle.run_text.proofs.Coming.{zero_at}
use Rattle.run_text.proofs.OneRun.{same_length, same_last}
use Rattle.run_text.specs.TraceBegins.{Starts}

prefix_refl : {X : Type 0} (xs : List X) → IsPrefixOf xs xs
prefix_refl xs = ([], append-nil xs)

prefix_trans : {X : Type 0} (xs ys zs : List X) → IsPrefixOf xs ys → IsPrefixOf ys zs → IsPrefixOf xs zs
prefix_trans xs ys zs p q = (p.0 ++ q.0, sym (append_assoc xs p.0 q.0) ∙ ap (λ l. l ++ q.0) p.1 ∙ q.1)

told_and : (events : List Event) (o : Option Event) → IsPrefixOf (filter goes_on events) (filter goes_on (and_event events o))
told_and events None = ([], append-nil (filter goes_on events))
told_and events (Some e) = (filter goes_on (e ∷ []), sym (filter-append goes_on events (e ∷ [])))

module _ (choice : Choice) (durations : Durations) (m : Program) (memory : List Content) where
  -- one action more tells no less
  told_grows : (a : Action) (past : List Action) → IsPrefixOf (told_by m memory past) (told_by m memory (a ∷ past))
  told_grows a past = told_and (events_of m memory past) (event_of m (state_after m memory past) a)

  -- what a beginning tells is a front of what each tells that is as long or longer
  longer_told : (xs ys : List Action) → IsCanonical choice durations m memory xs → IsCanonical choice durations m memory ys → length xs ≤ length ys → IsPrefixOf (told_by m memory xs) (told_by m memory ys)
  longer_told xs [] c d le = subst (λ zs. IsPrefixOf (told_by m memory xs) (told_by m memory zs)) (same_length choice durations m memory xs [] c d (omega arith)) (prefix_refl (told_by m memory xs))
  longer_told xs (b ∷ ys) c d le = go (λ l. longer_told xs ys c d.0 l) (cases_eq (length xs) (length (b ∷ ys)))
    where
      go : (length xs ≤ length ys → IsPrefixOf (told_by m memory xs) (told_by m memory ys)) → (length xs ≡ length (b ∷ ys)) ⊎ (length xs ≡ length (b ∷ ys) → ⊥) → IsPrefixOf (told_by m memory xs) (told_by m memory (b ∷ ys))
      go shorter (inl e) = subst (λ zs. IsPrefixOf (told_by m memory xs) (told_by m memory zs)) (same_length choice durations m memory xs (b ∷ ys) c d e) (prefix_refl (told_by m memory xs))
      go shorter (inr ne) = prefix_trans _ _ _ (shorter (omega arith)) (told_grows b ys)

  pub told_front : (until : ℕ) (front events : List Event) (end : Option End) → IsToldBy choice durations m memory until front → IsToldUpTo choice durations m memory until events end → IsPrefixOf front events
  told_front until front events end h k =
      let x = longer_told h.past k.past h.canonical k.is_last.canonical (k.is_last.last h.past h.canonical h.in_time) in
      subst (λ xs. IsPrefixOf xs events) (sym h.events_are) (subst (IsPrefixOf (told_by m memory h.past)) (sym k.events_are) x)

  pub told_one : (until : ℕ) (events : List Event) (end : Option End) (events2 : List Event) (end2 : Option End) → IsToldUpTo choice durations m memory until events end → IsToldUpTo choice durations m memory until events2 end2
      → (events ≡ events2) × (end ≡ end2)
  told_one until events end events2 end2 h k =
      let e = same_last choice durations m memory until h.past k.past h.is_last k.is_last in (
        h.events_are ∙ ap (told_by m memory) e ∙ sym k.events_are,
        h.end_is ∙ ap (λ zs. end_of (state_after m memory zs) (state_after m memory zs).mode) e ∙ sym k.end_is,
      )

  -- the run has come to its start by no action
  abbrev pub come_first : (s : State) (counts : List ℕ) → Starts m memory s counts → HasCome choice durations m memory s counts
  come_first s counts h = record {
    past = [];
    canonical = tt;
    state_is = sym h.state_is;
    counted = subst (λ k. HasCounts k []) (sym h.counts_are) (λ p. zero_at m.machine.processors p);
    each = ap length h.counts_are ∙ length-replicate {A = ℕ} m.machine.processors 0;
  }

-- it starts at clock 0
pub starts_early : (m : Program) (memory : List Content) (s : State) (counts : List ℕ) (budget : ℕ) → Starts m memory s counts → s.clock ≤ budget
starts_early m memory s counts budget h = let zero : s.clock ≡ 0 = ap (λ (x : State). x.clock) h.state_is in omega arith
