use Rattle.std.proofs.Common.{◌≡◌, replicate, None}
use Rattle.list_schedule.proofs.job.Draft.new.Given as goal

abbrev pub invariant-loop-tuple : goal.invariant-loop-tuple
invariant-loop-tuple l = l.starts.items ≡ replicate l._tuple None
