use Rattle.std.proofs.Common.{◌≡◌, map, take}
use Rattle.show_text.specs.Shown.{shown_item}
use Rattle.show_text.proofs.shown.show_items.Given as goal

abbrev pub invariant-loop-item : goal.invariant-loop-item
invariant-loop-item l = record { so_far : l.items ≡ map (shown_item l.fn.plan) (take l.item-index l.fn.plan.line.items) }
