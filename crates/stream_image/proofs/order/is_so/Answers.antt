use Rattle.std.proofs.Common.{◌≡◌, ◌∙◌, subst, sym, true≢false}
use Rattle.line_model.specs.Order.{IsOrderedByProcessor}
use Rattle.stream_image.specs.Order.{IsSo, IsRight}
use Rattle.stream_image.proofs.OrderPairs.{loose_is, not_loose}
use Rattle.stream_image.proofs.order.is_so.Goals as goal

pub returns-in-Loose-clause-so : goal.returns-in-Loose-clause-so
returns-in-Loose-clause-so c = λ e. subst (λ w. IsSo w c.args.bounds.now.pace c.args.bounds.now.line c.args.a c.args.b) (sym c.in-Loose.is) (loose_is c.args.bounds.now.pace c.args.bounds.now.line c.args.a c.args.b c.ordered.result c.ordered.ensures c.is_none.result c.is_none.ensures e)

pub returns-in-Loose-clause-right : goal.returns-in-Loose-clause-right
returns-in-Loose-clause-right c = λ e. subst (λ w. IsRight w c.args.bounds.now.pace c.args.bounds.now.line c.args.a c.args.b) (sym c.in-Loose.is) (not_loose c.args.bounds.now.pace c.args.bounds.now.line c.args.a c.args.b c.ordered.result c.ordered.ensures c.is_none.result c.is_none.ensures e)

line : (c : goal.After-stands_first) → c.items.result.now ≡ c.args.bounds.now.line
line c = c.items.ensures ∙ c.line.ensures

pub returns-in-Turned-clause-so : goal.returns-in-Turned-clause-so
returns-in-Turned-clause-so c = λ e. subst (λ w. IsSo w c.args.bounds.now.pace c.args.bounds.now.line c.args.a c.args.b) (sym c.in-Turned.is) (subst (λ l. IsOrderedByProcessor l c.args.b c.args.a) (line c) (c.stands_first.ensures.0 e))

pub returns-in-Turned-clause-right : goal.returns-in-Turned-clause-right
returns-in-Turned-clause-right c = λ e. subst (λ w. IsRight w c.args.bounds.now.pace c.args.bounds.now.line c.args.a c.args.b) (sym c.in-Turned.is) (λ k. true≢false (sym (c.stands_first.ensures.1 (subst (λ l. IsOrderedByProcessor l c.args.b c.args.a) (sym (line c)) k)) ∙ e))
