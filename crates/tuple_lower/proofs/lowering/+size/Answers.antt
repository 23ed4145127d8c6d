use Rattle.std.proofs.Common.{rules, ◌∙◌, ap, sym, arith}
use Rattle.src_names.specs.declared.resolved.RExpr.{the_lemmas}
use Rattle.src_names.specs.Sizes.{nodes}
use Rattle.tuple_lower.proofs.Sizes.{nodes-number, nodes-var}
use Rattle.tuple_lower.proofs.Putting.{index_nodes, operand_nodes, operands_nodes}
use Rattle.tuple_lower.proofs.lowering.+size.Goals as goal

pub size-requires : goal.size-requires
size-requires t c =
    let n = index_nodes c.args.x.now c.in-Element.name c.in-Element.index c.get.result.now c.in-Element.is c.get.ensures in
    let h = c.requires in
    (search (rules, the_lemmas), omega (arith, n, h))

pub overflow_add-result : goal.overflow_add-result
overflow_add-result t c =
    let n = index_nodes c.args.x.now c.in-Element.name c.in-Element.index c.get.result.now c.in-Element.is c.get.ensures in
    let h = c.requires in
    let e = c.size.ensures in
    omega (arith, n, h, e)

pub size-requires-in-One : goal.size-requires-in-One
size-requires-in-One t c =
    let n = operand_nodes c.args.x.now c.in-One.op c.in-One.a c.get-in-One.result.now c.in-One.is c.get-in-One.ensures in
    let h = c.requires in
    (search (rules, the_lemmas), omega (arith, n, h))

pub overflow_add-result-in-One : goal.overflow_add-result-in-One
overflow_add-result-in-One t c =
    let n = operand_nodes c.args.x.now c.in-One.op c.in-One.a c.get-in-One.result.now c.in-One.is c.get-in-One.ensures in
    let h = c.requires in
    let e = c.size-in-One.ensures in
    omega (arith, n, h, e)

pub size-requires-in-Two : goal.size-requires-in-Two
size-requires-in-Two t c =
    let n = operands_nodes c.args.x.now c.in-Two.op c.in-Two.a c.in-Two.b c.get-in-Two.result.now c.in-Two.b c.in-Two.is c.get-in-Two.ensures (λ i. c.in-Two.b) in
    let h = c.requires in
    (search (rules, the_lemmas), omega (arith, n, h))

pub overflow_add-result-in-Two : goal.overflow_add-result-in-Two
overflow_add-result-in-Two t c =
    let n = operands_nodes c.args.x.now c.in-Two.op c.in-Two.a c.in-Two.b c.get-in-Two.result.now c.in-Two.b c.in-Two.is c.get-in-Two.ensures (λ i. c.in-Two.b) in
    let h = c.requires in
    let e = c.size-in-Two.ensures in
    omega (arith, n, h, e)

pub size-requires-in-Two-2 : goal.size-requires-in-Two-2
size-requires-in-Two-2 t c =
    let n = operands_nodes c.args.x.now c.in-Two.op c.in-Two.a c.in-Two.b c.get-in-Two.result.now c.get-in-Two-2.result.now c.in-Two.is c.get-in-Two.ensures c.get-in-Two-2.ensures in
    let h = c.requires in
    (search (rules, the_lemmas), omega (arith, n, h))

pub overflow_add-result-in-Two-2 : goal.overflow_add-result-in-Two-2
overflow_add-result-in-Two-2 t c =
    let n = operands_nodes c.args.x.now c.in-Two.op c.in-Two.a c.in-Two.b c.get-in-Two.result.now c.get-in-Two-2.result.now c.in-Two.is c.get-in-Two.ensures c.get-in-Two-2.ensures in
    let h = c.requires in
    let e = c.size-in-Two.ensures in
    let f = c.size-in-Two-2.ensures in
    omega (arith, n, h, e, f)

pub returns-in-Number : goal.returns-in-Number
returns-in-Number t c = sym (ap nodes c.in-Number.is ∙ nodes-number c.in-Number.value)

pub returns-in-Var : goal.returns-in-Var
returns-in-Var t c = sym (ap nodes c.in-Var.is ∙ nodes-var c.in-Var.name)

pub returns-in-Element : goal.returns-in-Element
returns-in-Element t c =
    let n = index_nodes c.args.x.now c.in-Element.name c.in-Element.index c.get.result.now c.in-Element.is c.get.ensures in
    let e = c.size.ensures in
    omega (arith, n, e)

pub returns-in-One : goal.returns-in-One
returns-in-One t c =
    let n = operand_nodes c.args.x.now c.in-One.op c.in-One.a c.get-in-One.result.now c.in-One.is c.get-in-One.ensures in
    let e = c.size-in-One.ensures in
    omega (arith, n, e)

pub returns-in-Two : goal.returns-in-Two
returns-in-Two t c =
    let n = operands_nodes c.args.x.now c.in-Two.op c.in-Two.a c.in-Two.b c.get-in-Two.result.now c.get-in-Two-2.result.now c.in-Two.is c.get-in-Two.ensures c.get-in-Two-2.ensures in
    let e = c.size-in-Two.ensures in
    let f = c.size-in-Two-2.ensures in
    omega (arith, n, e, f)
