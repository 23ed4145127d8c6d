use Rattle.std.proofs.Common.{◌≤◌, List, arith}
use Rattle.unit_law.specs.Steps.{Action, state_after, IsRun}
use Rattle.bmimd_top.proofs.laws.enough_ticks_end_a_run.Goals as goal

pub returns : goal.returns
returns c machine p m kind script memory budget n text lawful compiled of_names is_text done enough =
    let fit = c.programs_have_images.ensures.fit machine p m lawful compiled in
    let times = c.programs_have_images.ensures.times machine p m lawful compiled in
    let bound : (past : List Action) → IsRun m memory past → (state_after m memory past).clock ≤ budget =
    λ past r. let b = compiled.faithful.ends_within memory past n of_names r done in let l = b.0 in omega arith in
    c.bounded_runs_end.ensures m kind script memory budget text fit times of_names bound is_text
