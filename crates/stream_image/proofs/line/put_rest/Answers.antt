use Rattle.std.proofs.Common.{ap, refl, drop, get_or, true}
use Rattle.stream_image.specs.Rest.{rest_of}
use Rattle.stream_image.proofs.Put.{more_runs}
use Rattle.stream_image.proofs.line.put_rest.Goals as goal

pub loop-p-preserved : goal.loop-p-preserved
loop-p-preserved c = more_runs c.args.items.now c.loop-p.items c.put_runs.new.items c.loop-p.p (λ q. true) (rest_of c.args.streams.now c.args.places.now) _ c.loop-p.invariant c.in_ok-put_runs.ensures.runs (ap (λ o. drop (get_or c.args.places.now c.loop-p.p 0) o) c.items_of.ensures) refl
