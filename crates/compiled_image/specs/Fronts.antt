-- Of private functions: what stands in front of each tuple of a line, in sets of bits.
use Rattle.std.specs.Prelude.{◌≡◌, ℕ, true, false, Bool, List, All}
use Rattle.bm_base.specs.declared.limits.TheConstants.{MOST_TUPLES}
use Rattle.bm_base.specs.Mask.{has_bit}
use Rattle.line_model.specs.declared.line.Item.{Item}
use Rattle.time_interval.specs.declared.reference.Reference.{Reference}
use Rattle.time_interval.specs.declared.reference.Reason.{Reason}
use Rattle.time_interval.specs.declared.reference.Reason.TheVariants.{SameProcessor, ByBarrier, ByTime}
use Rattle.time_interval.specs.Lines.{IsItem}
use Rattle.time_interval.specs.Seen.{StandsBehind, stands_on, seen_along}

-- behind a front of the line stands tuple t; the sets are those of the tuples of the front on its processor, and of those that it has
-- seen there, on its own or behind barriers
pub record IsFrontOf (processors : ℕ) (line : List Item) (t on seen : ℕ) : Type 0 where
  pub front : List Item
  pub p : ℕ
  pub behind : StandsBehind line front p t
  pub items : All (IsItem MOST_TUPLES processors) front
  pub on_is : (g : ℕ) → has_bit on g ≡ stands_on front p g
  pub seen_is : (g : ℕ) → has_bit seen g ≡ seen_along processors (λ p g. false) front p g

-- the kind of a reason, by whether the earlier tuple is in the one set, and in the other
abbrev pub IsKind : Bool → Bool → Reason → Type 0
IsKind true seen reason = reason ≡ SameProcessor
IsKind false true reason = reason ≡ ByBarrier
IsKind false false reason = (r : Reference) × (reason ≡ ByTime r)
