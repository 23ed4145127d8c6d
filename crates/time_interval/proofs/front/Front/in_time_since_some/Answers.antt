use Rattle.std.proofs.Common.{true≢false, sym, arith}
use Rattle.time_interval.proofs.front.Front.in_time_since_some.Goals as goal

pub returns : goal.returns
returns c = (λ e. absurd (true≢false (sym e)), λ t. absurd (c.loop-index.invariant t.0 (omega arith) t.1 t.2))
