use Rattle.std.proofs.Common.{rules, ap, ◌∙◌}
use Rattle.run_text.proofs.Texts.{took_as, runs_as}
use Rattle.run_text.proofs.writing.write_prints.Goals as goal

pub returns-clause-took : goal.returns-clause-took
returns-clause-took g c memory h l values end s =
    took_as (g.O.Sink.taken c.new-prints.result.values.out.now) (g.O.Sink.taken c.run_prints.new.out.values.out.now) _ _ values c.run_prints.result (ap (λ v. g.O.Sink.taken v.out.now) c.new-prints.ensures ∙ ap g.O.Sink.taken c.new-values.ensures.sink) (search rules) (c.run_prints.ensures.took memory h l values end s)

pub returns-clause-runs : goal.returns-clause-runs
returns-clause-runs g c memory h l =
    runs_as (g.U.BarrierUnit.choice c.args.machine.now.unit) (g.T.Timing.duration c.args.machine.now.timing) c.args.machine.now.program memory c.args.budget c.args.machine.now.state.world.output c.run_prints.new.machine.state (g.O.Sink.taken c.new-prints.result.values.out.now) (g.O.Sink.taken c.run_prints.new.out.values.out.now) _ _ c.run_prints.result
    (ap (λ v. g.O.Sink.taken v.out.now) c.new-prints.ensures ∙ ap g.O.Sink.taken c.new-values.ensures.sink) (search rules) (c.run_prints.ensures.runs memory h l)
