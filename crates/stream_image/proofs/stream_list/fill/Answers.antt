use Rattle.std.proofs.Common.{◌≡◌, ◌++◌, ◌∷◌, [], ◌+◌, take, sym, ap, ◌∙◌}
use Rattle.line_model.specs.Streams.{stream}
use Rattle.line_model.proofs.Steps.{own_next, other_next}
use Rattle.stream_image.proofs.stream_list.fill.Goals as goal
use Rattle.stream_image.proofs.stream_list.fill.Goals.{in-Some+in_ok-push, in_default}

pub loop-item-preserved : goal.loop-item-preserved
loop-item-preserved c = elim c.match-own_item.branch as (λ _. c.match-own_item.own.items ≡ stream c.args.p (take (c.loop-item.item-index + 1) c.items-item-items.result.now)) [ in-Some+in_ok-push w ↦ ap (λ v. v.items) w.own-is ∙ w.in_ok-push.ensures.items ∙ ap (λ l. l ++ w.in-Some.one ∷ []) c.loop-item.invariant ∙ sym (own_next _ _ _ _ _ c.loop-item-test.true c.item-item.is (sym c.own_item.ensures ∙ w.in-Some.is)) | in_default w ↦ ap (λ v. v.items) w.own-is ∙ c.loop-item.invariant ∙ sym (other_next _ _ _ _ c.loop-item-test.true c.item-item.is (sym c.own_item.ensures ∙ w.in_default.is)) ]
