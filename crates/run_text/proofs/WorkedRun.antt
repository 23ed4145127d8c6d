-- What the worked program shows on the static unit, one tick before its end and at its end.
use Rattle.std.proofs.Common.{◌≡◌, ℕ, ◌<◌, List, [], ◌∷◌, Some, None, pos, refl, sym, ◌∙◌, subst, arith}
use Rattle.std.specs.Int.{int_wrap}
use Rattle.bm_base.specs.Memory.{Word}
use Rattle.unit_law.specs.Units.{static_choice}
use Rattle.unit_law.specs.Steps.{Action, Advance, state_after}
use Rattle.unit_law.specs.Canonical.{next_action, canonical}
use Rattle.unit_law.specs.Worked.{worked, worked_memory, longest}
use Rattle.unit_law.proofs.CanonicalRuns.{canonical_begins}
use Rattle.run_text.specs.RunUpTo.{IsRunUpTo}
use Rattle.run_text.proofs.OneRun.{last_of, shows_end}

beginning : ℕ → List Action
beginning n = canonical static_choice longest worked worked_memory n

prints : (state_after worked worked_memory (canonical static_choice longest worked worked_memory 20)).world.output ≡ pos 1 ∷ []
unfolding int_wrap
prints = refl

pub worked_end : IsRunUpTo static_choice longest worked worked_memory 8 (pos 1 ∷ []) (Some (record { clock = 8; memory = Word (pos 0) ∷ [] }))
unfolding beginning
worked_end = subst (λ o. IsRunUpTo static_choice longest worked worked_memory 8 o (Some (record { clock = 8; memory = Word (pos 0) ∷ [] }))) prints (shows_end static_choice longest worked worked_memory 8 (beginning 20) (canonical_begins static_choice longest worked worked_memory 20) (omega arith) refl)

-- the clock goes from 7 to 8
next_is : next_action static_choice longest worked worked_memory (beginning 17) ≡ Some Advance
unfolding beginning
next_is = refl

next_late : (a : Action) → a ≡ Advance → 7 < (state_after worked worked_memory (a ∷ beginning 17)).clock
unfolding beginning
next_late a e = subst (λ b. 7 < (state_after worked worked_memory (b ∷ canonical static_choice longest worked worked_memory 17)).clock) (sym e) (omega arith)

pub worked_going : IsRunUpTo static_choice longest worked worked_memory 7 [] None
unfolding beginning
worked_going = record {
  past = beginning 17;
  is_last = last_of static_choice longest worked worked_memory 7 (beginning 17) (canonical_begins static_choice longest worked worked_memory 17) (omega arith) (λ a e. next_late a (let x : Some a ≡ Some Advance = sym e ∙ next_is in cc));
  output_is = refl;
  end_is = refl;
}
