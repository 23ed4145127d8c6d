use Rattle.compiled_image.proofs.Kept.{few_inserted}
use Rattle.compiled_image.proofs.compiling.planned.Goals as goal

pub returns : goal.returns
returns c = record {
  reasons = c.in_ok-tally.ensures.reasons;
  told = record { planned = c.in_ok-plan.ensures.planned; reasons = c.in_ok-tally.ensures.are };
  counts = c.in_ok-tally.ensures.counts;
  in_order = c.in_ok-plan.ensures.in_order;
  inserted = few_inserted c.args.spec.now c.args.block.now.tuples c.in_ok-plan.plan c.processors-processors.ensures.lawful c.requires c.in_ok-plan.ensures.planned;
}
