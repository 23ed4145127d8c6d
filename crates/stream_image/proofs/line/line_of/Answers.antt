use Rattle.std.proofs.Common.{ap, sym, ◌∙◌, drop, ◌++◌, arith, ◌+◌}
use Rattle.stream_image.specs.Line as spec
use Rattle.stream_image.specs.Rest.{rest_of}
use Rattle.stream_image.proofs.Put.{one_mask, at_first, next_mask}
use Rattle.stream_image.proofs.line.line_of.Goals as goal

pub loop-mask-init : goal.loop-mask-init
loop-mask-init c = ap (λ x. x ++ spec.line_of c.args.n (rest_of c.args.streams.now c.no_places-places.result) c.args.masks.now) c.new-items.ensures ∙ at_first c.args.n c.args.masks.now c.args.streams.now c.no_places-places.result c.no_places-places.ensures

pub loop-mask-preserved : goal.loop-mask-preserved
loop-mask-preserved c =
    let m = c.mask-item.result in
    one_mask c.args.n m (drop (c.loop-mask.mask-index + 1) c.args.masks.now) (rest_of c.args.streams.now c.loop-mask.places) (rest_of c.args.streams.now c.put_members.new.places) c.loop-mask.items c.put_members.new.items c.push.new.self (spec.line_of c.args.n (spec.items_of c.args.streams.now) c.args.masks.now) (ap (λ ms. c.loop-mask.items ++ spec.line_of c.args.n (rest_of c.args.streams.now c.loop-mask.places) ms) (sym (next_mask c.args.masks.now c.loop-mask.mask-index m (omega (arith, c.loop-mask-test.true)) c.mask-item.is)) ∙ c.loop-mask.invariant) c.in_ok-put_members.ensures.runs c.in_ok-push.ensures.ok c.in_ok-put_members.ensures.left
