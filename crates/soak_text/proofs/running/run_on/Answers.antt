use Rattle.std.proofs.Common.{◌≡◌, sym, ap, subst, ◌∙◌}
use Rattle.bm_base.specs.Memory.{initial}
use Rattle.run_text.specs.Begins.{Begins}
use Rattle.run_text.proofs.Texts.{as_parts}
use Rattle.soak_text.specs.declared.running.Ran.{Ran}
use Rattle.soak_text.specs.Parts.{HasRan}
use Rattle.soak_text.proofs.Kept.{ok_then}
use Rattle.soak_text.proofs.running.run_on.Goals as goal

pub returns-clause-value : goal.returns-clause-value
returns-clause-value g c =
    let m = c.args.image.now in
    let v = c.in_ok-machine.machine in
    let store = c.in_ok-store.store in
    let choice = g.U.BarrierUnit.choice c.args.unit in
    let durations = g.T.Timing.duration c.args.timing in
    let choice' = g.U.BarrierUnit.choice v.unit in
    let durations' = g.T.Timing.duration v.timing in
    let e = c.in_ok-machine.ensures.choice in
    let f = ap g.T.Timing.duration c.in_ok-machine.ensures.timing in
    let p = c.in_ok-machine.ensures.program in
    let begins = as_parts (λ x y z. Begins x y z store v.state v.counts) choice choice' durations durations' m v.program e f p c.in_ok-machine.ensures.begins in
    let first : store ≡ initial m.names = c.in_ok-store.ensures.value ∙ ap initial c.names.ensures in
    ok_then _ (λ (ran : Ran). HasRan choice durations m (initial m.names) ran) c.fold_run.result
    (λ ran h. subst (λ memory. HasRan choice durations m memory ran) first (as_parts (λ x y z. HasRan x y z store ran) choice' choice durations' durations v.program m (sym e) (sym f) (sym p) (h store begins))) c.fold_run.ensures.value
