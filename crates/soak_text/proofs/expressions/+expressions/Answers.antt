use Rattle.std.proofs.Common.{rules, ◌≡◌, ◌-◌}
use Rattle.soak_text.specs.Generator.{expr}
use Rattle.soak_text.proofs.Steps.{expr_of, expr_more}
use Rattle.soak_text.proofs.expressions.+expressions.Goals as goal

pub expr-returns-then-kind-lt3 : goal.expr-returns-then-kind-lt3
expr-returns-then-kind-lt3 t c =
    let e : expr c.args.most c.args.draws.now.state ≡ expr_of (c.args.most - 1) c.below-kind-2.result c.below-kind-2.new.self.state =
    expr_more c.args.most c.args.draws.now.state c.below-kind-2.result c.below-kind-2.new.self.state c.if-most-eq0.false c.below-kind-2.ensures.drawn in
    rw e (search rules)

pub expr-returns-then-kind-eq3 : goal.expr-returns-then-kind-eq3
expr-returns-then-kind-eq3 t c =
    let e : expr c.args.most c.args.draws.now.state ≡ expr_of (c.args.most - 1) c.below-kind-2.result c.below-kind-2.new.self.state =
    expr_more c.args.most c.args.draws.now.state c.below-kind-2.result c.below-kind-2.new.self.state c.if-most-eq0.false c.below-kind-2.ensures.drawn in
    rw e (search rules)

pub expr-returns-else-kind-eq3 : goal.expr-returns-else-kind-eq3
expr-returns-else-kind-eq3 t c =
    let e : expr c.args.most c.args.draws.now.state ≡ expr_of (c.args.most - 1) c.below-kind-2.result c.below-kind-2.new.self.state =
    expr_more c.args.most c.args.draws.now.state c.below-kind-2.result c.below-kind-2.new.self.state c.if-most-eq0.false c.below-kind-2.ensures.drawn in
    rw e (search rules)
