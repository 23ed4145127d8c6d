-- Private: what a walk along the links knows on its way. No public clause speaks of it.
use Rattle.std.specs.Prelude.{◌≡◌, ℕ, ◌<◌, Bool, true, false, Option, Some, None}
use Rattle.std.specs.Ordering.{nat_cmp}
use Rattle.std.specs.BTreeMap.{get}
use Rattle.dependence.specs.declared.links.Latest.{Latest}
use Rattle.dependence.specs.Links.{Thing, Name, Output}

-- the greatest number below a bound that passes a test, if one does
abbrev pub IsGreatest : (ℕ → Bool) → ℕ → Option ℕ → Type 0
IsGreatest p bound None = (a : ℕ) → a < bound → p a ≡ false
IsGreatest p bound (Some a) = (a < bound) × (p a ≡ true) × ((c : ℕ) → a < c → c < bound → p c ≡ false)

-- what is kept of a thing: the number of the tuple that touched it last
abbrev pub kept_of : Latest → Option Thing → Option ℕ
kept_of kept None = None
kept_of kept (Some (Name x)) = get nat_cmp kept.names x
kept_of kept (Some Output) = kept.print
