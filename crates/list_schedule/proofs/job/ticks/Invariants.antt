use Rattle.std.proofs.Common.{◌≡◌, map, take}
use Rattle.std.specs.Option.{unwrap_or}
use Rattle.list_schedule.proofs.job.ticks.Given as goal

abbrev pub invariant-loop-start : goal.invariant-loop-start
invariant-loop-start l = l.ticks.items ≡ map (λ start. unwrap_or start 0) (take l.start-index l.starts)
