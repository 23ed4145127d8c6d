use Rattle.std.proofs.Common.{◌++◌, ◌∷◌, [], sym, subst}
use Rattle.time_interval.specs.Ahead.{IsAhead, IsNew}
use Rattle.time_interval.proofs.AheadFacts.{ahead_run, ahead_bar}
use Rattle.time_interval.proofs.front.Front.past.Goals as goal

pub returns-in-Run : goal.returns-in-Run
returns-in-Run c = λ items a new. subst (λ x. IsAhead c.args.timing.now (items ++ x ∷ []) c.past_run.new.self) (sym c.in-Run.is)
    (ahead_run c.args.timing.now items c.in-Run.processor c.in-Run.tuple c.args.self.now c.past_run.new.self a (subst (IsNew items) c.in-Run.is new) (record {
      seen = c.past_run.ensures.seen;
      knows = c.past_run.ensures.knows;
      walk = c.past_run.ensures.walk;
      small = c.past_run.ensures.small;
      finish = c.past_run.ensures.finish;
      since = c.past_run.ensures.since;
      fires = c.past_run.ensures.fires;
      lows = c.past_run.ensures.lows;
    }))

pub returns-in-Bar : goal.returns-in-Bar
returns-in-Bar c = λ items a new. subst (λ x. IsAhead c.args.timing.now (items ++ x ∷ []) c.past_bar.new.self) (sym c.in-Bar.is)
    (ahead_bar c.args.timing.now items c.in-Bar.mask c.args.self.now c.past_bar.new.self a (record {
      seen = c.past_bar.ensures.seen;
      knows = c.past_bar.ensures.knows;
      walk = c.past_bar.ensures.walk;
      small = c.past_bar.ensures.small;
      finish = c.past_bar.ensures.finish;
      since = c.past_bar.ensures.since;
      fires = c.past_bar.ensures.fires;
      lows = c.past_bar.ensures.lows;
    }))
