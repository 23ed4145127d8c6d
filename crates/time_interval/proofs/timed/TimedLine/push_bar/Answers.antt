use Rattle.std.proofs.Common.{sym, subst, length, ◌<◌}
use Rattle.line_model.specs.declared.line.Item.TheVariants.{Bar}
use Rattle.line_model.specs.Streams.{masks}
use Rattle.time_interval.specs.Lines.{Timed, IsItem}
use Rattle.time_interval.proofs.NextFacts.{timed_bar, pushed}
use Rattle.time_interval.proofs.timed.TimedLine.push_bar.Goals as goal

pub invariant_of-self : goal.invariant_of-self
invariant_of-self c = pushed c.push.result _ _ _ _ c.push.ensures.ok c.push.ensures.err c.self.invariant
    (timed_bar _ c.args.mask c.self.invariant
    (subst (λ (v : Timed). IsItem 0 v.pace.processors (Bar c.args.mask)) (sym c.self.view_is) c.requires.some)
    (subst (λ (v : Timed). length (masks v.line) < 128) (sym c.self.view_is) c.requires.room))
