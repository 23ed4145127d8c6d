-- Where none of the seven lines tells of what is still going, the source is done and each run has ended.
use Rattle.std.proofs.Common.{◌≡◌, Bool, true, false, ◌||◌, if◌then◌else◌, Option, Some, None, refl, arith}
use Rattle.std.specs.Prelude.{is_none}
use Rattle.std.specs.List.{list_any}
use Rattle.bm_course.specs.declared.status.TheConstants.{ENDED, GOING}
use Rattle.run_text.specs.RunUpTo.{End}
use Rattle.src_meaning.specs.declared.evaluate.End.{End as Stand}
use Rattle.src_meaning.specs.declared.evaluate.End.TheVariants.{Done, More}
use Rattle.src_meaning.specs.Meaning.{Outcome}
use Rattle.run_text.specs.declared.kind.UnitKind.{UnitKind}
use Rattle.run_text.specs.declared.kind.UnitKind.TheVariants.{Static, Dynamic}
use Rattle.soak_text.specs.declared.pace.Pace.{Pace}
use Rattle.soak_text.specs.declared.pace.Pace.TheVariants.{Least, Most, Seeded}
use Rattle.soak_text.specs.Lines.{Shown, Part, is_more, clock_of, parts}

or_left : (a b : Bool) → (a || b) ≡ false → a ≡ false
or_left true b e = let no : ⊥ = cc in absurd no
or_left false b e = refl

or_right : (a b : Bool) → (a || b) ≡ false → b ≡ false
or_right true b e = let no : ⊥ = cc in absurd no
or_right false b e = e

pub none_going : (b : Bool) → (if b then GOING else ENDED) ≡ ENDED → b ≡ false
none_going true e = absurd (omega (arith, e))
none_going false e = refl

pub is_done : (s : Stand) → is_more s ≡ false → s ≡ Done
is_done Done e = refl
is_done More e = let no : ⊥ = cc in absurd no

pub has_end : (end : Option End) → is_none (clock_of end) ≡ false → (e : End) × (end ≡ Some e)
has_end (Some e) h = (e, refl)
has_end None h = let no : ⊥ = cc in absurd no

abbrev goes : (UnitKind → Pace → Shown) → UnitKind → Pace → Bool
goes shown kind pace = is_none (clock_of (shown kind pace).end)

module _ (o : Outcome) (shown : UnitKind → Pace → Shown) (none : list_any (λ (part : Part). part.going) (parts o shown) ≡ false) where
  pub source_ended : is_more o.end ≡ false
  source_ended = or_left (is_more o.end) _ none

  pub run_ended : (kind : UnitKind) (pace : Pace) → goes shown kind pace ≡ false
  run_ended Static Least = or_left (goes shown Static Least) _ (or_right (is_more o.end) _ none)
  run_ended Static Most = or_left (goes shown Static Most) _ (or_right (goes shown Static Least) _ (or_right (is_more o.end) _ none))
  run_ended Static Seeded = or_left (goes shown Static Seeded) _ (or_right (goes shown Static Most) _ (or_right (goes shown Static Least) _ (or_right (is_more o.end) _ none)))
  run_ended Dynamic Least =
      or_left (goes shown Dynamic Least) _ (or_right (goes shown Static Seeded) _ (or_right (goes shown Static Most) _ (or_right (goes shown Static Least) _ (or_right (is_more o.end) _ none))))
  run_ended Dynamic Most =
      or_left (goes shown Dynamic Most) _
      (or_right (goes shown Dynamic Least) _ (or_right (goes shown Static Seeded) _ (or_right (goes shown Static Most) _ (or_right (goes shown Static Least) _ (or_right (is_more o.end) _ none)))))
  run_ended Dynamic Seeded =
      or_left (goes shown Dynamic Seeded) _
      (or_right (goes shown Dynamic Most) _
      (or_right (goes shown Dynamic Least) _ (or_right (goes shown Static Seeded) _ (or_right (goes shown Static Most) _ (or_right (goes shown Static Least) _ (or_right (is_more o.end) _ none))))))
