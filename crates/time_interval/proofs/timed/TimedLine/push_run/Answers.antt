use Rattle.std.proofs.Common.{◌≡◌, false, nat_eq, sym, subst, length, ◌<◌}
use Rattle.std.specs.List.{list_any}
use Rattle.time_interval.specs.Lines.{Timed, tuples}
use Rattle.time_interval.proofs.NextFacts.{timed_run, pushed}
use Rattle.time_interval.proofs.timed.TimedLine.push_run.Goals as goal

pub invariant_of-self : goal.invariant_of-self
invariant_of-self c = pushed c.push.result _ _ _ _ c.push.ensures.ok c.push.ensures.err c.self.invariant
    (timed_run _ c.args.processor c.args.tuple c.self.invariant
    (subst (λ (v : Timed). c.args.processor < v.pace.processors) (sym c.self.view_is) c.requires.processor)
    (subst (λ (v : Timed). c.args.tuple < length v.pace.times) (sym c.self.view_is) c.requires.tuple)
    (subst (λ (v : Timed). list_any (nat_eq c.args.tuple) (tuples v.line) ≡ false) (sym c.self.view_is) c.requires.new))
