use Rattle.std.proofs.Common.{◌≡◌, length, sym, subst, subst₂, ap, ◌∙◌, arith, Contains}
use Rattle.bm_base.specs.Machine.{Machine}
use Rattle.dependence.specs.Producers.{producers_of}
use Rattle.time_interval.specs.Bounds.{pace_on}
use Rattle.time_interval.specs.Examples.{divided}
use Rattle.time_interval.specs.Lines.{IsLine, tuples}
use Rattle.time_interval.specs.Ordered.{AllOrdered}
use Rattle.time_interval.proofs.Worked.{divided_is_line}
use Rattle.mask_merge.specs.Examples.{divided_tuples, divided_machine}
use Rattle.mask_merge.proofs.Worked.{divided_ordered, divided_stands}
use Rattle.layer_tests.proofs.reduction_tests.is_reduced.Goals as goal

pub reduce-requires-clause-few : goal.reduce-requires-clause-few
reduce-requires-clause-few c = let e : length c.in_ok-block.block.tuples ≡ 9 = ap length c.in_ok-block.ensures in omega arith

pub reduce-requires-clause-line : goal.reduce-requires-clause-line
reduce-requires-clause-line c = subst (IsLine _ _) (sym c.in_ok-line.ensures) (subst₂ (λ n p. IsLine n p divided) (sym (ap length c.in_ok-block.ensures)) (sym (ap (λ (m : Machine). m.processors) c.in-Some.ensures)) divided_is_line)

pub reduce-requires-clause-stand : goal.reduce-requires-clause-stand
reduce-requires-clause-stand c = λ t l. let e : length c.in_ok-block.block.tuples ≡ 9 = ap length c.in_ok-block.ensures in subst (λ line. Contains (tuples line) t) (sym c.in_ok-line.ensures) (divided_stands t (omega arith))

pub reduce-requires-clause-ordered : goal.reduce-requires-clause-ordered
reduce-requires-clause-ordered c =
    let deps : c.in_ok-deps.deps.producers ≡ producers_of divided_tuples = c.in_ok-deps.ensures.producers ∙ ap producers_of c.in_ok-block.ensures in
    subst₂ (λ (m : Machine) ts. AllOrdered (pace_on m ts) c.in_ok-deps.deps.producers c.in_ok-line.line.items) (sym c.in-Some.ensures) (sym c.in_ok-block.ensures)
    (subst₂ (λ ps line. AllOrdered (pace_on divided_machine divided_tuples) ps line) (sym deps) (sym c.in_ok-line.ensures) divided_ordered)
