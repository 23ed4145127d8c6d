use Rattle.std.proofs.Common.{arith, ◌∙◌, ap}
use Rattle.bm_base.specs.Machine.{Machine}
use Rattle.unit_law.specs.State.{code_at}
use Rattle.stream_file.proofs.Spaces.{more_stream}
use Rattle.stream_file.proofs.writing.write_streams.Goals as goal

pub loop-p-preserved : goal.loop-p-preserved
loop-p-preserved c =
    more_stream c.loop-p.out.items c.write_given.new.out.items c.stream.result.now c.loop-p.p c.args.image.now.machine.processors (code_at c.args.image.now c.args.b).line c.stream.ensures (omega (arith, ap (λ (m : Machine). m.processors) c.spec.ensures, c.processors-p-end.ensures.value)) c.in_ok-write_given.ensures ∙ c.loop-p.invariant
