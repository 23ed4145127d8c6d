use Rattle.std.proofs.Common.{rules}
use Rattle.src_meaning.proofs.Suits.{suits-var, suits-array}
use Rattle.src_meaning.proofs.Valued.{element_value, one_value, two_value}
use Rattle.src_meaning.proofs.evaluate.+value_in.Goals as goal

pub get-requires : goal.get-requires
get-requires t c = suits-var _ _ _ c.in-Var.is c.requires

pub element-requires : goal.element-requires
element-requires t c = suits-array _ _ _ _ c.in-Element.is c.requires

pub returns-in-Element : goal.returns-in-Element
returns-in-Element t c = element_value c.args.x.now c.args.store.now c.value_in.result c.element.result (search rules) (search rules) c.in-Element.name c.in-Element.index c.get-in-Element.result.now c.in-Element.is c.get-in-Element.ensures c.value_in.ensures c.element.ensures

pub returns-in-One : goal.returns-in-One
returns-in-One t c = one_value c.args.x.now c.args.store.now c.value_in-in-One.result c.apply1.result (search rules) (search rules) c.in-One.op c.in-One.a c.get-in-One.result.now c.in-One.is c.get-in-One.ensures c.value_in-in-One.ensures c.apply1.ensures

pub returns-in-Two : goal.returns-in-Two
returns-in-Two t c = two_value c.args.x.now c.args.store.now c.value_in-in-Two.result c.apply2.result (search rules) (search rules) c.in-Two.op c.in-Two.a c.in-Two.b c.get-in-Two.result.now c.get-in-Two-2.result.now c.value_in-in-Two-2.result c.in-Two.is
    c.get-in-Two.ensures c.get-in-Two-2.ensures c.value_in-in-Two.ensures (search rules) c.value_in-in-Two-2.ensures c.apply2.ensures
