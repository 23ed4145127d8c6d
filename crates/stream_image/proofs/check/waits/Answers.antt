use Rattle.std.proofs.Common.{◌∙◌, sym}
use Rattle.stream_image.proofs.Bits.{waits_step}
use Rattle.stream_image.proofs.check.waits.Goals as goal

pub loop-processor-preserved : goal.loop-processor-preserved
loop-processor-preserved c =
    let e = sym c.waits_of-waits.ensures ∙ c.if-waits-from.false ∙ c.from.ensures ∙ c.masks_of-masks.ensures in
    waits_step c.args.block c.loop-processor.processor c.args.processors c.args.streams.now c.args.masks.now c.loop-processor-test.true e ∙ c.loop-processor.invariant
