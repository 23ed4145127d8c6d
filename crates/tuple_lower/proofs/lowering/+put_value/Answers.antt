use Rattle.std.proofs.Common.{rules, refl, arith, w64, to_z, of_z, FitsSigned}
use Rattle.std.proofs.lemmas.Int.{to_z-of_z}
use Rattle.src_names.specs.declared.resolved.RExpr.{the_lemmas}
use Rattle.tuple_lower.proofs.Sizes.{some_nodes}
use Rattle.tuple_lower.proofs.Putting.{index_nodes, operand_nodes, operands_nodes, row_room, number_row, var_row, element_row, one_row, two_row}
use Rattle.tuple_lower.proofs.lowering.+put_value.Goals as goal

pub push-requires : goal.push-requires
push-requires t c = let n = some_nodes c.args.x.now in let h = c.requires in omega (arith, n, h)

pub push-requires-in-Var : goal.push-requires-in-Var
push-requires-in-Var t c = let n = some_nodes c.args.x.now in let h = c.requires in omega (arith, n, h)

pub put_value-requires : goal.put_value-requires
put_value-requires t c =
    let n = index_nodes c.args.x.now c.in-Element.name c.in-Element.index c.get.result.now c.in-Element.is c.get.ensures in
    let h = c.requires in
    (search (rules, the_lemmas), omega (arith, n, h))

pub push-requires-in-Element : goal.push-requires-in-Element
push-requires-in-Element t c =
    let n = index_nodes c.args.x.now c.in-Element.name c.in-Element.index c.get.result.now c.in-Element.is c.get.ensures in
    let l = row_room c.get.result.now c.args.draft.now c.put_value.new.draft c.in_ok-index-in-Element.ensures.row in
    let h = c.requires in
    omega (arith, n, l, h)

pub put_value-requires-in-One : goal.put_value-requires-in-One
put_value-requires-in-One t c =
    let n = operand_nodes c.args.x.now c.in-One.op c.in-One.a c.get-in-One.result.now c.in-One.is c.get-in-One.ensures in
    let h = c.requires in
    (search (rules, the_lemmas), omega (arith, n, h))

pub push-requires-in-One : goal.push-requires-in-One
push-requires-in-One t c =
    let n = operand_nodes c.args.x.now c.in-One.op c.in-One.a c.get-in-One.result.now c.in-One.is c.get-in-One.ensures in
    let l = row_room c.get-in-One.result.now c.args.draft.now c.put_value-in-One.new.draft c.in_ok-a-in-One.ensures.row in
    let h = c.requires in
    omega (arith, n, l, h)

pub put_value-requires-in-Two : goal.put_value-requires-in-Two
put_value-requires-in-Two t c =
    let n = operands_nodes c.args.x.now c.in-Two.op c.in-Two.a c.in-Two.b c.get-in-Two.result.now c.in-Two.b c.in-Two.is c.get-in-Two.ensures refl in
    let h = c.requires in
    (search (rules, the_lemmas), omega (arith, n, h))

pub put_value-requires-in-Two-2 : goal.put_value-requires-in-Two-2
put_value-requires-in-Two-2 t c =
    let n = operands_nodes c.args.x.now c.in-Two.op c.in-Two.a c.in-Two.b c.get-in-Two.result.now c.get-in-Two-2.result.now c.in-Two.is c.get-in-Two.ensures c.get-in-Two-2.ensures in
    let l = row_room c.get-in-Two.result.now c.args.draft.now c.put_value-in-Two.new.draft c.in_ok-a-in-Two.ensures.row in
    let h = c.requires in
    (search (rules, the_lemmas), omega (arith, n, l, h))

pub push-requires-in-Two : goal.push-requires-in-Two
push-requires-in-Two t c =
    let n = operands_nodes c.args.x.now c.in-Two.op c.in-Two.a c.in-Two.b c.get-in-Two.result.now c.get-in-Two-2.result.now c.in-Two.is c.get-in-Two.ensures c.get-in-Two-2.ensures in
    let l = row_room c.get-in-Two.result.now c.args.draft.now c.put_value-in-Two.new.draft c.in_ok-a-in-Two.ensures.row in
    let k = row_room c.get-in-Two-2.result.now c.put_value-in-Two.new.draft c.put_value-in-Two-2.new.draft c.in_ok-b-in-Two.ensures.row in
    let h = c.requires in
    omega (arith, n, l, k, h)

pub returns-in-Number-clause-row : goal.returns-in-Number-clause-row
returns-in-Number-clause-row t c =
    let fits : FitsSigned w64 c.in-Number.value = search rules in
    number_row c.args.x.now c.in-Number.value (to_z w64 (of_z w64 c.in-Number.value)) c.args.draft.now c.push.new.self c.push.result c.in-Number.is (to_z-of_z w64 c.in-Number.value fits) c.push.ensures.pushed

pub returns-in-Var-clause-row : goal.returns-in-Var-clause-row
returns-in-Var-clause-row t c = var_row c.args.x.now c.in-Var.name c.args.draft.now c.push-in-Var.new.self c.push-in-Var.result c.in-Var.is c.push-in-Var.ensures.pushed

pub returns-in_ok-index-in-Element-clause-row : goal.returns-in_ok-index-in-Element-clause-row
returns-in_ok-index-in-Element-clause-row t c =
    element_row c.args.x.now c.in-Element.name c.in-Element.index c.get.result.now c.args.draft.now c.put_value.new.draft c.push-in-Element.new.self c.in_ok-index-in-Element.index c.push-in-Element.result
    c.in-Element.is c.get.ensures c.in_ok-index-in-Element.ensures.row c.in_ok-index-in-Element.ensures.cell c.push-in-Element.ensures.pushed

pub returns-in_ok-a-in-One-clause-row : goal.returns-in_ok-a-in-One-clause-row
returns-in_ok-a-in-One-clause-row t c =
    one_row c.args.x.now c.in-One.op c.in-One.a c.get-in-One.result.now c.args.draft.now c.put_value-in-One.new.draft c.push-in-One.new.self c.in_ok-a-in-One.a c.push-in-One.result
    c.in-One.is c.get-in-One.ensures c.in_ok-a-in-One.ensures.row c.in_ok-a-in-One.ensures.cell c.push-in-One.ensures.pushed

pub returns-in_ok-b-in-Two-clause-row : goal.returns-in_ok-b-in-Two-clause-row
returns-in_ok-b-in-Two-clause-row t c =
    two_row c.args.x.now c.in-Two.op c.in-Two.a c.in-Two.b c.get-in-Two.result.now c.get-in-Two-2.result.now c.args.draft.now c.put_value-in-Two.new.draft c.put_value-in-Two-2.new.draft c.push-in-Two.new.self c.in_ok-a-in-Two.a c.in_ok-b-in-Two.b c.push-in-Two.result
    c.in-Two.is c.get-in-Two.ensures c.get-in-Two-2.ensures c.in_ok-a-in-Two.ensures.row c.in_ok-a-in-Two.ensures.cell c.in_ok-b-in-Two.ensures.row c.in_ok-b-in-Two.ensures.cell c.push-in-Two.ensures.pushed
