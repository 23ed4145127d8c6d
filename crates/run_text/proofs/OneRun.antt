-- The canonical run is one: of two beginnings one goes on from the other.
use Rattle.std.proofs.Common.{◌≡◌, ℕ, ◌<◌, ◌≤◌, List, [], ◌∷◌, length, Option, Some, None, refl, sym, ap, ◌∙◌, subst, arith, ◌⊎◌, inl, inr, ℤ}
use Rattle.std.proofs.lemmas.Bool.{cases_eq}
use Rattle.bm_base.specs.Memory.{Content}
use Rattle.tuple_ir.proofs.Growth.{prefix_refl, prefix_trans}
use Rattle.unit_law.specs.State.{Program, Mode, In, Entering, Ended, State}
use Rattle.unit_law.specs.Units.{Choice}
use Rattle.unit_law.specs.Steps.{Action, state_after}
use Rattle.unit_law.specs.Canonical.{Durations, next_to, next_action, IsCanonical}
use Rattle.bm_base.specs.Prefix.{IsPrefixOf}
use Rattle.run_text.specs.RunUpTo.{IsLastBy, End, end_of, IsRunUpTo, IsShownBy}
use Rattle.run_text.proofs.Later.{clock_later, output_grows}

module _ (choice : Choice) (durations : Durations) (m : Program) (memory : List Content) where
  clock_of : List Action → ℕ
  clock_of past = (state_after m memory past).clock

  -- beginnings of one length are one
  pub same_length : (xs ys : List Action) → IsCanonical choice durations m memory xs → IsCanonical choice durations m memory ys → length xs ≡ length ys → xs ≡ ys
  same_length [] [] c d e = refl
  same_length [] (b ∷ ys) c d e = absurd (omega arith)
  same_length (a ∷ xs) [] c d e = absurd (omega arith)
  same_length (a ∷ xs) (b ∷ ys) c d e = joined (same_length xs ys c.0 d.0 (omega arith))
    where
      joined : xs ≡ ys → a ∷ xs ≡ b ∷ ys
      joined q = let x : Some a ≡ next_action choice durations m memory ys = sym c.1 ∙ ap (next_action choice durations m memory) q in let y : Some a ≡ Some b = x ∙ d.1 in let z : a ≡ b = cc in cc

  -- the output of a beginning is a prefix of that of each that is as long or longer
  pub longer_output : (xs ys : List Action) → IsCanonical choice durations m memory xs → IsCanonical choice durations m memory ys → length xs ≤ length ys → IsPrefixOf (state_after m memory xs).world.output (state_after m memory ys).world.output
  longer_output xs [] c d le = subst (λ zs. IsPrefixOf (state_after m memory xs).world.output (state_after m memory zs).world.output) (same_length xs [] c d (omega arith)) (prefix_refl (state_after m memory xs).world.output)
  longer_output xs (b ∷ ys) c d le = go (λ l. longer_output xs ys c d.0 l) (cases_eq (length xs) (length (b ∷ ys)))
    where
      go : (length xs ≤ length ys → IsPrefixOf (state_after m memory xs).world.output (state_after m memory ys).world.output) → (length xs ≡ length (b ∷ ys)) ⊎ (length xs ≡ length (b ∷ ys) → ⊥) → IsPrefixOf (state_after m memory xs).world.output (state_after m memory (b ∷ ys)).world.output
      go shorter (inl e) = subst (λ zs. IsPrefixOf (state_after m memory xs).world.output (state_after m memory zs).world.output) (same_length xs (b ∷ ys) c d e) (prefix_refl (state_after m memory xs).world.output)
      go shorter (inr ne) = prefix_trans _ _ _ (shorter (omega arith)) (output_grows m memory b ys)

  -- what the run takes next after this beginning, if anything, is past the clock
  abbrev pub Closes : ℕ → List Action → Type 0
  Closes until past = (a : Action) → next_action choice durations m memory past ≡ Some a → until < (state_after m memory (a ∷ past)).clock

  -- so is each longer beginning
  pub past_it : (until : ℕ) (past : List Action) → IsCanonical choice durations m memory past → Closes until past → (other : List Action) → IsCanonical choice durations m memory other → (length other ≤ length past) ⊎ (until < (state_after m memory other).clock)
  past_it until past c closes [] d = inl (omega arith)
  past_it until past c closes (b ∷ other) d = go (past_it until past c closes other d.0) (cases_eq (length other) (length past))
    where
      go : (length other ≤ length past) ⊎ (until < (state_after m memory other).clock) → (length other ≡ length past) ⊎ (length other ≡ length past → ⊥) → (length (b ∷ other) ≤ length past) ⊎ (until < (state_after m memory (b ∷ other)).clock)
      go (inr late) _ = let x = clock_later m memory b other in inr (omega arith)
      go (inl le) (inr ne) = inl (omega arith)
      go (inl le) (inl e) = let q = same_length other past d.0 c e in inr (subst (λ zs. until < (state_after m memory (b ∷ zs)).clock) (sym q) (closes b (subst (λ zs. next_action choice durations m memory zs ≡ Some b) q d.1)))

  -- so this beginning is the last one
  pub last_of : (until : ℕ) (past : List Action) → IsCanonical choice durations m memory past → (state_after m memory past).clock ≤ until → Closes until past → IsLastBy choice durations m memory until past
  last_of until past c le closes = record { canonical = c; in_time = le; last = λ other d early. go other early (past_it until past c closes other d) }
    where
      go : (other : List Action) → (state_after m memory other).clock ≤ until → (length other ≤ length past) ⊎ (until < (state_after m memory other).clock) → length other ≤ length past
      go other early (inl le) = le
      go other early (inr late) = absurd (omega arith)

  -- two last beginnings are one
  pub same_last : (until : ℕ) (xs ys : List Action) → IsLastBy choice durations m memory until xs → IsLastBy choice durations m memory until ys → xs ≡ ys
  same_last until xs ys h k = let x = h.last ys k.canonical k.in_time in let y = k.last xs h.canonical h.in_time in same_length xs ys h.canonical k.canonical (omega arith)

  -- ---- the laws
  pub shows_one : (until : ℕ) (output : List ℤ) (end : Option End) (output2 : List ℤ) (end2 : Option End) → IsRunUpTo choice durations m memory until output end → IsRunUpTo choice durations m memory until output2 end2 → (output ≡ output2) × (end ≡ end2)
  shows_one until output end output2 end2 h k =
      let e = same_last until h.past k.past h.is_last k.is_last in
      (h.output_is ∙ ap (λ zs. (state_after m memory zs).world.output) e ∙ sym k.output_is, h.end_is ∙ ap (λ zs. end_of (state_after m memory zs) (state_after m memory zs).mode) e ∙ sym k.end_is)

  pub shows_front : (until : ℕ) (front output : List ℤ) (end : Option End) → IsShownBy choice durations m memory until front → IsRunUpTo choice durations m memory until output end → IsPrefixOf front output
  shows_front until front output end h k =
      let x = longer_output h.past k.past h.canonical k.is_last.canonical (k.is_last.last h.past h.canonical h.in_time) in
      subst (λ xs. IsPrefixOf xs output) (sym h.output_is) (subst (IsPrefixOf (state_after m memory h.past).world.output) (sym k.output_is) x)

  -- nothing comes after the end
  none_after : (past : List Action) (mode : Mode) → mode ≡ Ended → (s : State) (a : Action) → next_to choice durations m mode past s ≡ Some a → ⊥
  none_after past (In b) e s a h = cc
  none_after past (Entering b) e s a h = cc
  none_after past Ended e s a h = cc

  pub ended_is : (s : State) (mode : Mode) → mode ≡ Ended → end_of s mode ≡ end_of s Ended
  ended_is s mode e = ap (end_of s) e

  pub last_ended : (until : ℕ) (past : List Action) → IsCanonical choice durations m memory past → (state_after m memory past).clock ≤ until → (state_after m memory past).mode ≡ Ended → IsLastBy choice durations m memory until past
  last_ended until past c le over = last_of until past c le (λ a e. absurd (none_after past (state_after m memory past).mode over (state_after m memory past) a e))

  pub shows_end : (until : ℕ) (past : List Action) → IsCanonical choice durations m memory past → (state_after m memory past).clock ≤ until → (state_after m memory past).mode ≡ Ended → IsRunUpTo choice durations m memory until (state_after m memory past).world.output (end_of (state_after m memory past) Ended)
  shows_end until past c le over = record { past = past; is_last = last_ended until past c le over; output_is = refl; end_is = sym (ended_is (state_after m memory past) (state_after m memory past).mode over) }

  pub none_ended : (until : ℕ) (output : List ℤ) → IsRunUpTo choice durations m memory until output None → (past : List Action) → IsCanonical choice durations m memory past → (state_after m memory past).clock ≤ until → (state_after m memory past).mode ≡ Ended → ⊥
  none_ended until output h past c le over = let x = (shows_one until output None (state_after m memory past).world.output (end_of (state_after m memory past) Ended) h (shows_end until past c le over)).1 in cc
