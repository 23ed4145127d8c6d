use Rattle.std.proofs.Common.{◌≡◌, ◌∙◌, get_or, subst, sym}
use Rattle.compiled_image.proofs.FrontFacts.{at_first, past_run, past_bar}
use Rattle.time_interval.proofs.SetFacts.{bar_seen}
use Rattle.compiled_image.proofs.fronts.fronts_in.Goals.{in-Run, in-Bar}
use Rattle.compiled_image.proofs.fronts.fronts_in.Goals as goal

pub loop-item-init : goal.loop-item-init
loop-item-init c = at_first c.args.processors c.args.items.now

pub loop-item-preserved : goal.loop-item-preserved
loop-item-preserved c = elim c.match-item.branch [
  | in-Run w ↦ (let a = c.item-item.is in let b = w.in-Run.is in rw (w.on-is, w.seen-is, w.all-is)
      (past_run c.args.processors c.args.items.now c.loop-item.item-index c.loop-item.on c.loop-item.seen c.loop-item.all.on c.loop-item.all.seen c.loop-item-test.true c.loop-item.invariant
      w.in-Run.processor w.in-Run.tuple w.with.result w.with-in-Run.result c.requires.items c.requires.once (subst (λ x. get_or c.args.items.now c.loop-item.item-index x ≡ x) b (sym a)) c.requires.few w.with.ensures w.with-in-Run.ensures))
  | in-Bar w ↦ (let a = c.item-item.is in let b = w.in-Bar.is in rw (w.on-is, w.seen-is, w.all-is)
      (past_bar c.args.processors c.args.items.now c.loop-item.item-index c.loop-item.on c.loop-item.seen c.loop-item.all.on c.loop-item.all.seen c.loop-item-test.true c.loop-item.invariant
      w.in-Bar.mask w.share.new.sets (subst (λ x. get_or c.args.items.now c.loop-item.item-index x ≡ x) b (sym a)) (w.share.auto.sets ∙ c.loop-item.invariant.long_seen) (bar_seen c.args.processors w.in-Bar.mask c.loop-item.seen w.share.new.sets w.union_of-union.result w.union_of-union.ensures w.share.ensures)))
]
