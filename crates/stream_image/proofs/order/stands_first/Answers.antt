use Rattle.std.proofs.Common.{ap₂, ◌∙◌}
use Rattle.time_interval.specs.Seen.{stands_on}
use Rattle.stream_image.proofs.OrderPairs.{stands_first_is}
use Rattle.stream_image.proofs.order.stands_first.Goals as goal

pub returns : goal.returns
returns c = stands_first_is c.args.items.now c.args.g c.args.i c.requires.line.once c.requires.stands c.stands_on.result (c.stands_on.ensures ∙ ap₂ (λ front p. stands_on front p c.args.g) c.run_of-p.ensures.front c.run_of-p.ensures.processor)
