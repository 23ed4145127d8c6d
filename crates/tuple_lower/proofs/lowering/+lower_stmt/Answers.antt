use Rattle.std.proofs.Common.{rules, ◌+◌, drop, refl, ap, arith}
use Rattle.src_names.specs.declared.resolved.RStmt.{the_lemmas}
use Rattle.src_names.proofs.Induct.{drop_first}
use Rattle.tuple_ir.specs.declared.block.Next.TheVariants.{Halt}
use Rattle.tuple_lower.specs.Blocks.{lower_stmt, lower_body}
use Rattle.tuple_lower.specs.Drafted.{continued, closed_choice, closed_loop}
use Rattle.tuple_lower.proofs.Putting.{on_ok}
use Rattle.tuple_lower.proofs.Making.{if_fits, while_fits, body_fits, opened_fits, ended_after_choice, ended_after_loop, ended_after_end, ended_after_body, choice_whole, loop_whole, next_stmt, next_fits, first_fits}
use Rattle.tuple_lower.proofs.lowering.+lower_stmt.Goals as goal

pub lower_stmt-open_choice-requires-clause-numbers : goal.lower_stmt-open_choice-requires-clause-numbers
lower_stmt-open_choice-requires-clause-numbers t c = let f = if_fits c.args.stmt.now c.in-If.cond c.in-If.yes c.in-If.no c.args.draft.now c.in-If.is c.requires in let n = f.numbers in omega (arith, n)

pub lower_stmt-lower_body-requires : goal.lower_stmt-lower_body-requires
lower_stmt-lower_body-requires t c =
    let f = if_fits c.args.stmt.now c.in-If.cond c.in-If.yes c.in-If.no c.args.draft.now c.in-If.is c.requires in
    let n = f.numbers in
    let opened = c.in_ok-test-in-If.ensures.opened in
    let l1 = ended_after_choice c.in-If.cond c.args.draft.now c.open_choice.new.draft opened in
    let fits = opened_fits c.in-If.yes c.as_slice.result.now c.open_choice.new.draft c.as_slice.ensures f.few_ones (ap (λ p. p.current) opened) (omega (arith, n, l1)) in
    (search (rules, the_lemmas), fits)

pub lower_stmt-number-end-requires : goal.lower_stmt-number-end-requires
lower_stmt-number-end-requires t c =
    let f = if_fits c.args.stmt.now c.in-If.cond c.in-If.yes c.in-If.no c.args.draft.now c.in-If.is c.requires in
    let n = f.numbers in
    let l1 = ended_after_choice c.in-If.cond c.args.draft.now c.open_choice.new.draft c.in_ok-test-in-If.ensures.opened in
    let l2 = ended_after_body c.in-If.yes c.as_slice.result.now c.open_choice.new.draft c.lower_body.new.draft c.as_slice.ensures f.few_ones c.in_ok-lower_body-in-If.ensures in
    omega (arith, n, l1, l2)

pub lower_stmt-lower_body-requires-in-If : goal.lower_stmt-lower_body-requires-in-If
lower_stmt-lower_body-requires-in-If t c =
    let f = if_fits c.args.stmt.now c.in-If.cond c.in-If.yes c.in-If.no c.args.draft.now c.in-If.is c.requires in
    let n = f.numbers in
    let l1 = ended_after_choice c.in-If.cond c.args.draft.now c.open_choice.new.draft c.in_ok-test-in-If.ensures.opened in
    let l2 = ended_after_body c.in-If.yes c.as_slice.result.now c.open_choice.new.draft c.lower_body.new.draft c.as_slice.ensures f.few_ones c.in_ok-lower_body-in-If.ensures in
    let fits = body_fits c.in-If.no c.as_slice-in-If.result.now Halt c.lower_body.new.draft c.end_by.new.self c.as_slice-in-If.ensures f.few_others c.in_ok-end_by-in-If.ensures (omega (arith, n, l1, l2)) in
    (search (rules, the_lemmas), fits)

pub lower_stmt-close_choice-requires-clause-numbers : goal.lower_stmt-close_choice-requires-clause-numbers
lower_stmt-close_choice-requires-clause-numbers t c =
    let f = if_fits c.args.stmt.now c.in-If.cond c.in-If.yes c.in-If.no c.args.draft.now c.in-If.is c.requires in
    let n = f.numbers in
    let l1 = ended_after_choice c.in-If.cond c.args.draft.now c.open_choice.new.draft c.in_ok-test-in-If.ensures.opened in
    let l2 = ended_after_body c.in-If.yes c.as_slice.result.now c.open_choice.new.draft c.lower_body.new.draft c.as_slice.ensures f.few_ones c.in_ok-lower_body-in-If.ensures in
    let l3 = ended_after_end Halt c.lower_body.new.draft c.end_by.new.self c.in_ok-end_by-in-If.ensures in
    let l4 = ended_after_body c.in-If.no c.as_slice-in-If.result.now c.end_by.new.self c.lower_body-in-If.new.draft c.as_slice-in-If.ensures f.few_others c.in_ok-lower_body-in-If-2.ensures in
    omega (arith, n, l1, l2, l3, l4)

pub lower_stmt-open_loop-requires-clause-numbers : goal.lower_stmt-open_loop-requires-clause-numbers
lower_stmt-open_loop-requires-clause-numbers t c = let f = while_fits c.args.stmt.now c.in-While.cond c.in-While.body c.args.draft.now c.in-While.is c.requires in let n = f.numbers in omega (arith, n)

pub lower_stmt-lower_body-requires-in-While : goal.lower_stmt-lower_body-requires-in-While
lower_stmt-lower_body-requires-in-While t c =
    let f = while_fits c.args.stmt.now c.in-While.cond c.in-While.body c.args.draft.now c.in-While.is c.requires in
    let n = f.numbers in
    let opened = c.in_ok-test-in-While.ensures.opened in
    let l1 = ended_after_loop c.in-While.cond c.args.draft.now c.open_loop.new.draft opened in
    let fits = opened_fits c.in-While.body c.as_slice-in-While.result.now c.open_loop.new.draft c.as_slice-in-While.ensures f.few_body (ap (λ p. p.current) opened) (omega (arith, n, l1)) in
    (search (rules, the_lemmas), fits)

pub lower_stmt-close_loop-requires-clause-numbers : goal.lower_stmt-close_loop-requires-clause-numbers
lower_stmt-close_loop-requires-clause-numbers t c =
    let f = while_fits c.args.stmt.now c.in-While.cond c.in-While.body c.args.draft.now c.in-While.is c.requires in
    let n = f.numbers in
    let l1 = ended_after_loop c.in-While.cond c.args.draft.now c.open_loop.new.draft c.in_ok-test-in-While.ensures.opened in
    let l2 = ended_after_body c.in-While.body c.as_slice-in-While.result.now c.open_loop.new.draft c.lower_body-in-While.new.draft c.as_slice-in-While.ensures f.few_body c.in_ok-lower_body-in-While.ensures in
    omega (arith, n, l1, l2)

pub lower_stmt-returns-in_ok-lower_body-in-If-2 : goal.lower_stmt-returns-in_ok-lower_body-in-If-2
lower_stmt-returns-in_ok-lower_body-in-If-2 t c =
    let test = c.in_ok-test-in-If.test in
    let last = closed_choice test.number test.cell c.number-end.result c.lower_body-in-If.new.draft in
    on_ok c.close_choice.result c.close_choice.new.draft last (continued c.args.draft.now (lower_stmt c.args.stmt.now))
    (choice_whole c.in-If.cond c.in-If.yes c.in-If.no c.as_slice.result.now c.as_slice-in-If.result.now c.args.stmt.now test.number test.cell c.number-end.result
    c.args.draft.now c.open_choice.new.draft c.lower_body.new.draft c.end_by.new.self c.lower_body-in-If.new.draft last
    c.in-If.is c.as_slice.ensures c.as_slice-in-If.ensures c.in_ok-test-in-If.ensures.opened c.in_ok-test-in-If.ensures.number c.in_ok-test-in-If.ensures.cell c.in_ok-lower_body-in-If.ensures c.number-end.ensures
    c.in_ok-end_by-in-If.ensures c.in_ok-lower_body-in-If-2.ensures refl) c.close_choice.ensures

pub lower_stmt-returns-in_ok-lower_body-in-While : goal.lower_stmt-returns-in_ok-lower_body-in-While
lower_stmt-returns-in_ok-lower_body-in-While t c =
    let test = c.in_ok-test-in-While.test in
    let last = closed_loop test.number test.cell c.lower_body-in-While.new.draft in
    on_ok c.close_loop.result c.close_loop.new.draft last (continued c.args.draft.now (lower_stmt c.args.stmt.now))
    (loop_whole c.in-While.cond c.in-While.body c.as_slice-in-While.result.now c.args.stmt.now test.number test.cell
    c.args.draft.now c.open_loop.new.draft c.lower_body-in-While.new.draft last
    c.in-While.is c.as_slice-in-While.ensures c.in_ok-test-in-While.ensures.opened c.in_ok-test-in-While.ensures.number c.in_ok-test-in-While.ensures.cell c.in_ok-lower_body-in-While.ensures refl) c.close_loop.ensures

pub lower_body-lower_stmt-requires : goal.lower_body-lower_stmt-requires
lower_body-lower_stmt-requires t c =
    let zs = c.args.body.now in
    let i = c.loop-stmt.stmt-index in
    let fits = first_fits (drop i zs) c.stmt-item.result (drop (i + 1) zs) c.loop-stmt.draft (drop_first zs i c.stmt-item.result c.loop-stmt-test.true c.stmt-item.is) c.loop-stmt.invariant.fits in
    (search (rules, the_lemmas), fits)

pub lower_body-loop-stmt-preserved : goal.lower_body-loop-stmt-preserved
lower_body-loop-stmt-preserved t c =
    let zs = c.args.body.now in
    let i = c.loop-stmt.stmt-index in
    let is = drop_first zs i c.stmt-item.result c.loop-stmt-test.true c.stmt-item.is in
    record {
      rest = next_stmt (drop i zs) c.stmt-item.result (drop (i + 1) zs) c.loop-stmt.draft c.lower_stmt.new.draft (continued c.args.draft.now (lower_body zs)) is c.in_ok-lower_stmt.ensures c.loop-stmt.invariant.rest;
      fits = next_fits (drop i zs) c.stmt-item.result (drop (i + 1) zs) c.loop-stmt.draft c.lower_stmt.new.draft is c.in_ok-lower_stmt.ensures c.loop-stmt.invariant.fits;
    }
