use Rattle.std.proofs.Common.{rules, ◌≤◌, ◌*◌, length, sum, get_or, arith}
use Rattle.list_schedule.proofs.Sums.{sum_is, sum_le, sum_const}
use Rattle.list_schedule.proofs.totals.sum_of.Goals as goal

pub sum-requires-clause-fits : goal.sum-requires-clause-fits
sum-requires-clause-fits c =
    let times = c.args.times.now in
    let ticks : sum times ≤ length times * 1000 = omega (arith, sum_is times, sum_le (λ k. get_or times k 0) (λ _. 1000) (length times) (λ k _. c.requires.short k), sum_const 1000 (length times)) in
    let small : sum times ≤ 128000 = omega (arith, ticks, c.requires.few) in
    search (rules, small)
