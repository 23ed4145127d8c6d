use Rattle.std.proofs.Common.{◌∙◌, List, Contains, sym, ap, subst}
use Rattle.line_model.specs.declared.line.Item.{Item}
use Rattle.time_interval.specs.Lines as lines
use Rattle.stream_image.specs.Sorted.{line_on}
use Rattle.stream_image.proofs.Again.{none_turned}
use Rattle.stream_image.proofs.order.order_fault.Goals as goal

pub returns-then-branch : goal.returns-then-branch
returns-then-branch c =
    let loose = c.in_ok-all_ordered.ensures c.if-branch.true in
    record { none_turned = none_turned c.args.spec.now c.args.block.now.tuples (line_on c.args.spec.now.processors c.args.streams.now c.args.masks.now) c.machine_is_lawful.ensures c.requires.lined.line loose; none_loose = loose }

pub pair_fault-requires-clause-stand : goal.pair_fault-requires-clause-stand
pair_fault-requires-clause-stand c = λ t l. subst (λ (xs : List Item). Contains (lines.tuples xs) t) (sym (c.in_ok-line.ensures ∙ ap (λ n. line_on n c.args.streams.now c.args.masks.now) c.processors.ensures.value)) (c.requires.lined.stand t l)
