use Rattle.std.proofs.Common.{◌||◌, nat_eq, sym, subst}
use Rattle.tuple_ir.specs.declared.tuple.Tuple.{Tuple}
use Rattle.tuple_ir.specs.Conflict.{uses}
use Rattle.dependence.specs.Walk.{IsGreatest}
use Rattle.dependence.proofs.walk.greatest.Goals as goal

pub returns-in-Store : goal.returns-in-Store
returns-in-Store c = subst (λ (t : Tuple). IsGreatest (λ a. uses t a || nat_eq c.args.link a) c.args.bound c.greater.result) (sym c.in-Store.is) (c.greater.ensures (nat_eq c.in-Store.value) (nat_eq c.args.link) c.below.ensures c.below-linked.ensures)

pub returns-in-Print : goal.returns-in-Print
returns-in-Print c = subst (λ (t : Tuple). IsGreatest (λ a. uses t a || nat_eq c.args.link a) c.args.bound c.greater-in-Print.result) (sym c.in-Print.is) (c.greater-in-Print.ensures (nat_eq c.in-Print.value) (nat_eq c.args.link) c.below-in-Print.ensures c.below-linked.ensures)

pub returns-in-LoadEl : goal.returns-in-LoadEl
returns-in-LoadEl c = subst (λ (t : Tuple). IsGreatest (λ a. uses t a || nat_eq c.args.link a) c.args.bound c.greater-in-LoadEl.result) (sym c.in-LoadEl.is) (c.greater-in-LoadEl.ensures (nat_eq c.in-LoadEl.index) (nat_eq c.args.link) c.below-in-LoadEl.ensures c.below-linked.ensures)

pub returns-in-One : goal.returns-in-One
returns-in-One c = subst (λ (t : Tuple). IsGreatest (λ a. uses t a || nat_eq c.args.link a) c.args.bound c.greater-in-One.result) (sym c.in-One.is) (c.greater-in-One.ensures (nat_eq c.in-One.a) (nat_eq c.args.link) c.below-in-One.ensures c.below-linked.ensures)

pub returns-in-StoreEl : goal.returns-in-StoreEl
returns-in-StoreEl c = subst (λ (t : Tuple). IsGreatest (λ a. uses t a || nat_eq c.args.link a) c.args.bound c.greater-in-StoreEl.result) (sym c.in-StoreEl.is) (c.greater-in-StoreEl.ensures (λ a. nat_eq c.in-StoreEl.index a || nat_eq c.in-StoreEl.value a) (nat_eq c.args.link) (c.greater-cells.ensures (nat_eq c.in-StoreEl.index) (nat_eq c.in-StoreEl.value) c.below-in-StoreEl.ensures c.below-in-StoreEl-2.ensures) c.below-linked.ensures)

pub returns-in-Two : goal.returns-in-Two
returns-in-Two c = subst (λ (t : Tuple). IsGreatest (λ a. uses t a || nat_eq c.args.link a) c.args.bound c.greater-in-Two.result) (sym c.in-Two.is) (c.greater-in-Two.ensures (λ a. nat_eq c.in-Two.a a || nat_eq c.in-Two.b a) (nat_eq c.args.link) (c.greater-cells-in-Two.ensures (nat_eq c.in-Two.a) (nat_eq c.in-Two.b) c.below-in-Two.ensures c.below-in-Two-2.ensures) c.below-linked.ensures)
