use Rattle.std.proofs.Common.{length, ap, ◌∙◌}
use Rattle.std.proofs.lemmas.List.{length-map}
use Rattle.bm_base.specs.Spec.{time_of}
use Rattle.tuple_ir.specs.Kinds.{class_of}
use Rattle.time_interval.specs.Bounds.{Pace}
use Rattle.time_interval.proofs.Fronts.{timed_from, empty_line}
use Rattle.time_interval.proofs.timed.TimedLine.empty.Goals as goal

pub invariant_of-result : goal.invariant_of-result
invariant_of-result c = timed_from _ _ _ _ _ c.in_ok-timing.ensures.numbers (ap (λ (p : Pace). p.processors) c.in_ok-timing.ensures.value) (ap (λ (p : Pace). length p.times) c.in_ok-timing.ensures.value ∙ (length-map c.items.result.now (λ t. time_of c.args.spec.now (class_of t)) ∙ ap length c.items.ensures)) c.new.ensures c.requires.few (empty_line _ _)
