use Rattle.std.proofs.Common.{sym, ap, subst, length, arith, Contains, List, refl}
use Rattle.tuple_ir.specs.declared.tuple.Tuple.{Tuple}
use Rattle.time_interval.specs.Bounds.{pace_on}
use Rattle.time_interval.specs.Lines.{tuples}
use Rattle.time_interval.specs.Edits.{Changing}
use Rattle.stream_image.specs.declared.order.Wrong.{Wrong}
use Rattle.stream_image.specs.declared.order.Wrong.TheVariants.{Turned, Loose}
use Rattle.stream_image.specs.Order.{NoneWrong, IsFirstWrong}
use Rattle.stream_image.specs.Refused.IsOrderFault.{loose}
use Rattle.stream_image.proofs.order.pair_fault.Goals as goal

pub first_pair-requires-clause-stand : goal.first_pair-requires-clause-stand
first_pair-requires-clause-stand c = λ t l. subst (λ (b : Changing). Contains (tuples b.line) t) (sym c.in_ok-bounds.ensures) (c.requires.stand t (let e = ap length c.items-tuples.ensures in omega (arith, l)))

pub first_pair-requires-2-clause-stand : goal.first_pair-requires-2-clause-stand
first_pair-requires-2-clause-stand c = λ t l. subst (λ (b : Changing). Contains (tuples b.line) t) (sym c.in_ok-bounds.ensures) (c.requires.stand t (let e = ap length c.items-tuples.ensures in omega (arith, l)))

pub returns : goal.returns
returns c = record { none_turned = none Turned c.in_default.ensures; none_loose = none Loose c.in_default-first_pair.ensures }
  where
    none : (w : Wrong) → NoneWrong w c.in_ok-bounds.bounds.pace c.items-tuples.result.now c.in_ok-bounds.bounds.line → NoneWrong w (pace_on c.args.spec.now c.args.block.now.tuples) c.args.block.now.tuples c.args.line.now.items
    none w h = subst (λ (ts : List Tuple). NoneWrong w (pace_on c.args.spec.now c.args.block.now.tuples) ts c.args.line.now.items) c.items-tuples.ensures (subst (λ (b : Changing). NoneWrong w b.pace c.items-tuples.result.now b.line) c.in_ok-bounds.ensures h)

pub returns-in-Some-first_pair : goal.returns-in-Some-first_pair
returns-in-Some-first_pair c = loose (record { a = c.in-Some-first_pair.field-0.a; b = c.in-Some-first_pair.field-0.b; fault_is = refl; none_turned = none c.in_default.ensures; first = first c.in-Some-first_pair.ensures })
  where
    none : NoneWrong Turned c.in_ok-bounds.bounds.pace c.items-tuples.result.now c.in_ok-bounds.bounds.line → NoneWrong Turned (pace_on c.args.spec.now c.args.block.now.tuples) c.args.block.now.tuples c.args.line.now.items
    none h = subst (λ (ts : List Tuple). NoneWrong Turned (pace_on c.args.spec.now c.args.block.now.tuples) ts c.args.line.now.items) c.items-tuples.ensures (subst (λ (b : Changing). NoneWrong Turned b.pace c.items-tuples.result.now b.line) c.in_ok-bounds.ensures h)

    first : IsFirstWrong Loose c.in_ok-bounds.bounds.pace c.items-tuples.result.now c.in_ok-bounds.bounds.line c.in-Some-first_pair.field-0.a c.in-Some-first_pair.field-0.b → IsFirstWrong Loose (pace_on c.args.spec.now c.args.block.now.tuples) c.args.block.now.tuples c.args.line.now.items c.in-Some-first_pair.field-0.a c.in-Some-first_pair.field-0.b
    first h = subst (λ (ts : List Tuple). IsFirstWrong Loose (pace_on c.args.spec.now c.args.block.now.tuples) ts c.args.line.now.items c.in-Some-first_pair.field-0.a c.in-Some-first_pair.field-0.b) c.items-tuples.ensures (subst (λ (b : Changing). IsFirstWrong Loose b.pace c.items-tuples.result.now b.line c.in-Some-first_pair.field-0.a c.in-Some-first_pair.field-0.b) c.in_ok-bounds.ensures h)
