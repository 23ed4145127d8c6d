-- Prints are the events that print.
use Rattle.run_text.specs.Told.{told_by}
use Rattle.run_text.proofs.Going.{runs_prints, took_all}
use Rattle.run_text.proofs.runs.run_prints.Goals as goal

pub returns-clause-runs : goal.returns-clause-runs
returns-clause-runs g c memory h early =
    let v = c.args.machine.now in
    runs_prints g.V.Values.with_value g.V.Values.leaves _ _ _ _ _ memory c.args.until (told_by v.program memory h.past) v.state.world.output c.run.new.machine.state c.run.result (c.run.ensures.tells memory h early)

pub returns-clause-took : goal.returns-clause-took
returns-clause-took g c memory h early values end up =
    let v = c.args.machine.now in
    took_all g.V.Values.with_value g.V.Values.leaves _ _ _ _ _ memory c.args.until (told_by v.program memory h.past) v.state.world.output c.run.new.machine.state c.run.result (returns-clause-runs g c memory h early) values end up
