use Rattle.std.proofs.Common.{sym, subst, Contains}
use Rattle.time_interval.specs.Bounds.{pace_on}
use Rattle.time_interval.specs.Ordered.{AllOrdered}
use Rattle.mask_merge.specs.Reduced.{IsIrreducible}
use Rattle.compiled_image.proofs.planning.plan.Goals as goal

pub returns-clause-irreducible : goal.returns-clause-irreducible
returns-clause-irreducible c = subst (λ deps. IsIrreducible (pace_on c.args.spec.now c.args.block.now.tuples) deps c.in_ok-line.line.items) c.in_ok-deps.ensures.producers c.in_ok-line.ensures.irreducible

pub returns-clause-in_order : goal.returns-clause-in_order
returns-clause-in_order c = record {
  is_line = c.in_ok-line.ensures.line;
  stand = λ t lt. subst (λ us. Contains us t) (sym c.in_ok-line.ensures.tuples.whole) (c.in_ok-inserted.ensures.whole.stand t lt);
  ordered = subst (λ deps. AllOrdered (pace_on c.args.spec.now c.args.block.now.tuples) deps c.in_ok-line.line.items) c.in_ok-deps.ensures.producers c.in_ok-line.ensures.ordered;
}
