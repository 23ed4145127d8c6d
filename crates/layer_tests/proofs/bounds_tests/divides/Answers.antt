use Rattle.std.proofs.Common.{◌≡◌, length, ap, sym, subst, subst₂, ◌∙◌, Contains, Some}
use Rattle.bm_base.specs.Machine.{Machine}
use Rattle.line_model.specs.Reductions.{merged_at}
use Rattle.time_interval.specs.Edits.{Changing}
use Rattle.time_interval.specs.Examples.{divided, divided_merged}
use Rattle.time_interval.specs.Lines.{IsLine, tuples}
use Rattle.time_interval.proofs.Worked.{divided_is_line, has_6, has_8, merged_has_6}
use Rattle.layer_tests.proofs.bounds_tests.divides.Goals as goal
use Rattle.layer_tests.proofs.bounds_tests.divides.Goals.{In_ok-bounds}

pub of-requires-clause-line : goal.of-requires-clause-line
of-requires-clause-line c = subst (IsLine _ _) (sym c.in_ok-line.ensures) (subst₂ (λ n p. IsLine n p divided) (sym (ap length c.in_ok-block.ensures)) (sym (ap (λ (m : Machine). m.processors) c.in-Some.ensures)) divided_is_line)

line_is : (c : In_ok-bounds) → c.in_ok-bounds.bounds.line ≡ divided
line_is c = ap (λ (v : Changing). v.line) c.in_ok-bounds.ensures ∙ c.in_ok-line.ensures

pub lo-start-requires-clause-point : goal.lo-start-requires-clause-point
lo-start-requires-clause-point c = subst (λ l. Contains (tuples l) 8) (sym (line_is ((goal.at.lo-start-requires-clause-point c).In_ok-bounds))) has_8

pub up-before-requires-clause-point : goal.up-before-requires-clause-point
up-before-requires-clause-point c = subst (λ l. Contains (tuples l) 6) (sym (line_is ((goal.at.up-before-requires-clause-point c).In_ok-bounds))) has_6

pub ordered-order-requires-clause-first : goal.ordered-order-requires-clause-first
ordered-order-requires-clause-first c = subst (λ l. Contains (tuples l) 6) (sym (line_is ((goal.at.ordered-order-requires-clause-first c).In_ok-bounds))) has_6

pub ordered-order-requires-clause-second : goal.ordered-order-requires-clause-second
ordered-order-requires-clause-second c = subst (λ l. Contains (tuples l) 8) (sym (line_is ((goal.at.ordered-order-requires-clause-second c).In_ok-bounds))) has_8

pub up-between-requires-clause-point : goal.up-between-requires-clause-point
up-between-requires-clause-point c =
    let d = (goal.at.up-between-requires-clause-point c).In_ok-bounds in
    let e : c.change.new.self.line ≡ divided_merged = ap (λ (v : Changing). v.line) c.change.ensures ∙ ap (merged_at 0) (line_is d) in
    subst (λ l. Contains (tuples l) 6) (sym e) merged_has_6

pub up-after-requires-clause-point : goal.up-after-requires-clause-point
up-after-requires-clause-point c =
    let d = (goal.at.up-after-requires-clause-point c).In_ok-bounds in
    let stood : c.change.new.self.before ≡ Some c.in_ok-bounds.bounds.line = ap (λ (v : Changing). v.before) c.change.ensures in
    let e : c.settle.new.self.line ≡ divided = ap (λ (v : Changing). v.line) (c.settle.ensures.change c.in_ok-bounds.bounds.line stood) ∙ line_is d in
    subst (λ l. Contains (tuples l) 6) (sym e) has_6
