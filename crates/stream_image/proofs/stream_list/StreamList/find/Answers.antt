use Rattle.std.proofs.Common.{◌∙◌, sym, arith}
use Rattle.stream_image.proofs.ColumnFacts.{found_here, found_later}
use Rattle.stream_image.proofs.stream_list.StreamList.find.Goals as goal

pub returns-then-processor-p : goal.returns-then-processor-p
returns-then-processor-p c = c.items.ensures ∙ sym (c.loop-k.invariant ∙ found_here c.args.self.now c.loop-k.k c.args.to c.args.p (omega (arith, c.loop-k-test.true)) c.requires.within (sym c.processor.ensures ∙ c.if-processor-p.true))

pub loop-k-preserved : goal.loop-k-preserved
loop-k-preserved c = c.loop-k.invariant ∙ found_later c.args.self.now c.loop-k.k c.args.to c.args.p (omega (arith, c.loop-k-test.true)) c.requires.within (λ e. c.if-processor-p.false (c.processor.ensures ∙ e))
