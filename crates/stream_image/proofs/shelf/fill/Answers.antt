use Rattle.std.proofs.Common.{◌≡◌, ◌++◌, ◌∷◌, [], ◌+◌, take, sym, ap, ◌∙◌}
use Rattle.line_model.specs.Streams.{masks}
use Rattle.line_model.proofs.Steps.{bar_next, run_next}
use Rattle.stream_image.proofs.shelf.fill.Goals as goal
use Rattle.stream_image.proofs.shelf.fill.Goals.{in-Bar+in_ok-push, in_default}

pub loop-item-preserved : goal.loop-item-preserved
loop-item-preserved c = elim c.match-item.branch as (λ _. c.match-item.queue.items ≡ masks (take (c.loop-item.item-index + 1) c.items-item-items.result.now)) [ in-Bar+in_ok-push w ↦ ap (λ v. v.items) w.queue-is ∙ w.in_ok-push.ensures.items ∙ ap (λ l. l ++ w.in-Bar.mask ∷ []) c.loop-item.invariant ∙ sym (bar_next _ _ _ _ c.loop-item-test.true c.item-item.is w.in-Bar.is) | in_default w ↦ ap (λ v. v.items) w.queue-is ∙ c.loop-item.invariant ∙ sym (run_next _ _ _ _ _ c.loop-item-test.true c.item-item.is w.in_default.is) ]
