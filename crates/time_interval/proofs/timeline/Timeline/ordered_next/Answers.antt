use Rattle.std.proofs.Common.{◌≡◌, ◌++◌, ◌∷◌, [], ℕ, false, nat_eq, Decides, subst}
use Rattle.std.specs.List.{list_any}
use Rattle.line_model.specs.declared.line.Item.TheVariants.{Run}
use Rattle.time_interval.specs.Lines.{Timed, tuples}
use Rattle.time_interval.specs.Ordered.{IsOrdered}
use Rattle.time_interval.proofs.timeline.Timeline.ordered_next.Goals as goal

pub returns : goal.returns
returns c = subst (λ (v : Timed). (i : ℕ) → list_any (nat_eq i) (tuples v.line) ≡ false → Decides c.ordered_next.result (IsOrdered v.pace (v.line ++ Run c.args.p i ∷ []) c.args.g i)) c.self.view_is c.ordered_next.ensures
