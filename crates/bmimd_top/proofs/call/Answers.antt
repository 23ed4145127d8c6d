use Rattle.bm_course.specs.Seen.{sink_seen}
use Rattle.bm_course.proofs.Ended.{Goes-done, Goes-stopped}
use Rattle.bmimd_top.proofs.call.Goals as goal

pub returns-in-Ok : goal.returns-in-Ok
returns-in-Ok g c = Goes-done _ _ _ _ (sink_seen g.E.Sink.taken g.E.Sink.faults c.args.err.now) _ _ c.in-Ok.ensures

pub returns-in-Err : goal.returns-in-Err
returns-in-Err g c =
    Goes-stopped _ _ _ _ (sink_seen g.E.Sink.taken g.E.Sink.faults c.args.err.now) (sink_seen g.E.Sink.taken g.E.Sink.faults c.report-code.new.err) _ c.in-Err.stop _ c.in-Err.ensures c.report-code.ensures.told
