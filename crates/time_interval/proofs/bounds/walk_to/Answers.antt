use Rattle.std.proofs.Common.{take, add-one, subst, sym}
use Rattle.time_interval.specs.Ahead.{IsAhead}
use Rattle.time_interval.proofs.bounds.walk_to.Goals as goal

pub loop-k-preserved : goal.loop-k-preserved
loop-k-preserved c = subst (λ n. IsAhead c.args.line.now.pace (take n c.args.line.now.line) c.step.new.front) (sym (add-one c.loop-k.k)) c.step.ensures
