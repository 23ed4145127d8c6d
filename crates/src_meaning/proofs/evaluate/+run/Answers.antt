use Rattle.std.proofs.Common.{rules, ◌≡◌, ◌∙◌, ◌+◌, ◌-◌, suc, ap, refl, drop, arith, Ok, Err, w64, to_z, of_z, FitsSigned}
use Rattle.std.proofs.lemmas.Int.{to_z-of_z}
use Rattle.std.proofs.lemmas.Result.{err_from_is_err_and}
use Rattle.std.proofs.Math.ListN.{drop_of_length-le}
use Rattle.src_names.specs.declared.resolved.RStmt.{the_lemmas}
use Rattle.src_names.proofs.Induct.{drop_first}
use Rattle.src_meaning.specs.declared.evaluate.End.TheVariants.{Done, More}
use Rattle.src_meaning.specs.Meaning.{statement, statements}
use Rattle.src_meaning.specs.Evaluates.{seen}
use Rattle.src_meaning.proofs.Suits.{suits-is, suits-print, suits-if, suits-while, suits-while-kept, suits-rest, suits-body-is}
use Rattle.src_meaning.proofs.Runs.{first_done, first_more, first_fault, all_done, assigned, assigned_element, printed, refused, chosen_others, chosen_ones, loop_begins, loop_stopped, loop_again, loop_more, loop_fault, loop_done, as_body, turns_fall, zero_word, some_word}
use Rattle.src_meaning.proofs.evaluate.+run.Goals as goal

pub run-returns-in-Assign-clause-evaluates : goal.run-returns-in-Assign-clause-evaluates
run-returns-in-Assign-clause-evaluates g t c =
    assigned g.V.Values.with_value g.V.Values.leaves g.V.Values.is_sure (g.V.Values.held c.args.out.now) (g.V.Values.faults c.args.out.now) c.args.turns.now c.args.store.now c.assign.new.store
    c.args.stmt.now c.in-Assign.name c.in-Assign.value c.in-Assign.is c.assign.ensures

pub run-returns-in-SetElement-clause-evaluates : goal.run-returns-in-SetElement-clause-evaluates
run-returns-in-SetElement-clause-evaluates g t c =
    assigned_element g.V.Values.with_value g.V.Values.leaves g.V.Values.is_sure (g.V.Values.held c.args.out.now) (g.V.Values.faults c.args.out.now) c.args.turns.now c.args.store.now c.set_element.new.store
    c.args.stmt.now c.in-SetElement.name c.in-SetElement.index c.in-SetElement.value c.in-SetElement.is c.set_element.ensures

pub run-assign-requires : goal.run-assign-requires
run-assign-requires g t c = suits-is c.args.stmt.now _ c.args.store.now c.in-Assign.is c.requires

pub run-set_element-requires : goal.run-set_element-requires
run-set_element-requires g t c = suits-is c.args.stmt.now _ c.args.store.now c.in-SetElement.is c.requires

pub run-value_in-requires : goal.run-value_in-requires
run-value_in-requires g t c = suits-print c.args.stmt.now c.in-Print.x c.args.store.now c.in-Print.is c.requires

pub run-value_in-requires-in-If : goal.run-value_in-requires-in-If
run-value_in-requires-in-If g t c = (suits-if c.args.stmt.now c.in-If.cond c.in-If.yes c.in-If.no c.args.store.now c.in-If.is c.requires).suits_test

pub run-run_all-requires : goal.run-run_all-requires
run-run_all-requires g t c =
    let parts = suits-if c.args.stmt.now c.in-If.cond c.in-If.yes c.in-If.no c.args.store.now c.in-If.is c.requires in
    let fits = suits-body-is c.as_slice.result.now c.in-If.no c.args.store.now c.as_slice.ensures parts.suits_others in
    λ κs l. (search (rules, the_lemmas), (search rules, fits))

pub run-run_all-requires-else-value_in-eq0 : goal.run-run_all-requires-else-value_in-eq0
run-run_all-requires-else-value_in-eq0 g t c =
    let parts = suits-if c.args.stmt.now c.in-If.cond c.in-If.yes c.in-If.no c.args.store.now c.in-If.is c.requires in
    let fits = suits-body-is c.as_slice-else-value_in-eq0.result.now c.in-If.yes c.args.store.now c.as_slice-else-value_in-eq0.ensures parts.suits_ones in
    λ κs l. (search (rules, the_lemmas), (search rules, fits))

pub run-loop-cond-init : goal.run-loop-cond-init
run-loop-cond-init g t c = record {
  rest = loop_begins g.V.Values.with_value g.V.Values.leaves g.V.Values.is_sure (seen (g.V.Values.held c.args.out.now) (g.V.Values.faults c.args.out.now) c.args.turns.now c.args.store.now) c.args.stmt.now c.in-While.cond c.in-While.body c.args.turns.now c.args.store.now c.in-While.is;
  suits = suits-while c.args.stmt.now c.in-While.cond c.in-While.body c.args.store.now c.in-While.is c.requires;
  lender = refl;
}

pub run-value_in-requires-in-loop-cond : goal.run-value_in-requires-in-loop-cond
run-value_in-requires-in-loop-cond g t c = c.loop-cond.invariant.suits.suits_test

pub run-returns-then-turns-eq0-clause-evaluates : goal.run-returns-then-turns-eq0-clause-evaluates
run-returns-then-turns-eq0-clause-evaluates g t c =
    loop_stopped g.V.Values.with_value g.V.Values.leaves g.V.Values.is_sure (g.V.Values.held c.loop-cond.out) (g.V.Values.faults c.loop-cond.out) c.loop-cond.turns c.loop-cond.store
    (seen (g.V.Values.held c.args.out.now) (g.V.Values.faults c.args.out.now) c.args.turns.now c.args.store.now) (statement c.args.stmt.now c.args.turns.now c.args.store.now)
    c.in-While.cond c.in-While.body c.value_in-in-loop-cond.result c.value_in-in-loop-cond.ensures c.loop-cond.invariant.rest (some_word c.value_in-in-loop-cond.result c.loop-cond-test.true) c.if-turns-eq0.true

pub run-run_all-requires-in-loop-cond : goal.run-run_all-requires-in-loop-cond
run-run_all-requires-in-loop-cond g t c =
    let fits = suits-body-is c.as_slice-in-loop-cond.result.now c.in-While.body c.loop-cond.store c.as_slice-in-loop-cond.ensures c.loop-cond.invariant.suits.suits_body in
    λ κs l. (search (rules, the_lemmas), (search rules, fits))

pub run-loop-cond-smaller : goal.run-loop-cond-smaller
run-loop-cond-smaller g t c =
    let v = seen (g.V.Values.held c.loop-cond.out) (g.V.Values.faults c.loop-cond.out) (c.loop-cond.turns - 1) c.loop-cond.store in
    let new = c.run_all-in-loop-cond.new in
    let some : c.loop-cond.turns ≡ suc (c.loop-cond.turns - 1) = omega (arith, c.if-turns-eq0.false) in
    turns_fall g.V.Values.with_value g.V.Values.leaves g.V.Values.is_sure v (g.V.Values.held new.out) (g.V.Values.faults new.out) c.loop-cond.turns (c.loop-cond.turns - 1) new.turns c.loop-cond.store new.store c.in-While.body some
    (as_body g.V.Values.with_value g.V.Values.leaves g.V.Values.is_sure v (seen (g.V.Values.held new.out) (g.V.Values.faults new.out) new.turns new.store) c.as_slice-in-loop-cond.result.now c.in-While.body (c.loop-cond.turns - 1) c.loop-cond.store (Ok c.in_ok-run_all-in-While.field-0) (Ok Done)
    c.as_slice-in-loop-cond.ensures (ap Ok c.in-Done.is) c.in_ok-run_all-in-While.ensures.evaluates)

pub run-loop-cond-preserved : goal.run-loop-cond-preserved
run-loop-cond-preserved g t c =
    let j = c.loop-cond.turns - 1 in
    let v = seen (g.V.Values.held c.loop-cond.out) (g.V.Values.faults c.loop-cond.out) j c.loop-cond.store in
    let new = c.run_all-in-loop-cond.new in
    let w = seen (g.V.Values.held new.out) (g.V.Values.faults new.out) new.turns new.store in
    let some : c.loop-cond.turns ≡ suc (c.loop-cond.turns - 1) = omega (arith, c.if-turns-eq0.false) in
    record {
      rest = loop_again g.V.Values.with_value g.V.Values.leaves g.V.Values.is_sure (g.V.Values.held c.loop-cond.out) (g.V.Values.faults c.loop-cond.out) c.loop-cond.turns c.loop-cond.store
          (seen (g.V.Values.held c.args.out.now) (g.V.Values.faults c.args.out.now) c.args.turns.now c.args.store.now) (statement c.args.stmt.now c.args.turns.now c.args.store.now)
          c.in-While.cond c.in-While.body c.value_in-in-loop-cond.result c.value_in-in-loop-cond.ensures c.loop-cond.invariant.rest j w (some_word c.value_in-in-loop-cond.result c.loop-cond-test.true) some
          (as_body g.V.Values.with_value g.V.Values.leaves g.V.Values.is_sure v w c.as_slice-in-loop-cond.result.now c.in-While.body j c.loop-cond.store (Ok c.in_ok-run_all-in-While.field-0) (Ok Done) c.as_slice-in-loop-cond.ensures (ap Ok c.in-Done.is) c.in_ok-run_all-in-While.ensures.evaluates);
      suits = suits-while-kept c.in-While.cond c.in-While.body c.loop-cond.store new.store c.run_all-in-loop-cond.ensures.evaluates.names c.loop-cond.invariant.suits;
      lender = c.run_all-in-loop-cond.ensures.lender ∙ c.loop-cond.invariant.lender;
    }

pub run-returns-in-More-clause-evaluates : goal.run-returns-in-More-clause-evaluates
run-returns-in-More-clause-evaluates g t c =
    let j = c.loop-cond.turns - 1 in
    let v = seen (g.V.Values.held c.loop-cond.out) (g.V.Values.faults c.loop-cond.out) j c.loop-cond.store in
    let new = c.run_all-in-loop-cond.new in
    let w = seen (g.V.Values.held new.out) (g.V.Values.faults new.out) new.turns new.store in
    let some : c.loop-cond.turns ≡ suc (c.loop-cond.turns - 1) = omega (arith, c.if-turns-eq0.false) in
    loop_more g.V.Values.with_value g.V.Values.leaves g.V.Values.is_sure (g.V.Values.held c.loop-cond.out) (g.V.Values.faults c.loop-cond.out) c.loop-cond.turns c.loop-cond.store
    (seen (g.V.Values.held c.args.out.now) (g.V.Values.faults c.args.out.now) c.args.turns.now c.args.store.now) (statement c.args.stmt.now c.args.turns.now c.args.store.now)
    c.in-While.cond c.in-While.body c.value_in-in-loop-cond.result c.value_in-in-loop-cond.ensures c.loop-cond.invariant.rest j w (some_word c.value_in-in-loop-cond.result c.loop-cond-test.true) some
    (as_body g.V.Values.with_value g.V.Values.leaves g.V.Values.is_sure v w c.as_slice-in-loop-cond.result.now c.in-While.body j c.loop-cond.store (Ok c.in_ok-run_all-in-While.field-0) (Ok More) c.as_slice-in-loop-cond.ensures (ap Ok c.in-More.is) c.in_ok-run_all-in-While.ensures.evaluates)

pub run-returns-in_err-run_all-in-While-clause-evaluates : goal.run-returns-in_err-run_all-in-While-clause-evaluates
run-returns-in_err-run_all-in-While-clause-evaluates g t c =
    let j = c.loop-cond.turns - 1 in
    let v = seen (g.V.Values.held c.loop-cond.out) (g.V.Values.faults c.loop-cond.out) j c.loop-cond.store in
    let new = c.run_all-in-loop-cond.new in
    let w = seen (g.V.Values.held new.out) (g.V.Values.faults new.out) new.turns new.store in
    let some : c.loop-cond.turns ≡ suc (c.loop-cond.turns - 1) = omega (arith, c.if-turns-eq0.false) in
    let p = err_from_is_err_and c.from_residual-in_err-run_all-in-While.result c.from_residual-in_err-run_all-in-While.ensures.1 in
    rw (p.1, p.2) (loop_fault g.V.Values.with_value g.V.Values.leaves g.V.Values.is_sure (g.V.Values.held c.loop-cond.out) (g.V.Values.faults c.loop-cond.out) c.loop-cond.turns c.loop-cond.store
    (seen (g.V.Values.held c.args.out.now) (g.V.Values.faults c.args.out.now) c.args.turns.now c.args.store.now) (statement c.args.stmt.now c.args.turns.now c.args.store.now)
    c.in-While.cond c.in-While.body c.value_in-in-loop-cond.result c.value_in-in-loop-cond.ensures c.loop-cond.invariant.rest j w c.in_err-run_all-in-While.field-0.0 (some_word c.value_in-in-loop-cond.result c.loop-cond-test.true) some
    (as_body g.V.Values.with_value g.V.Values.leaves g.V.Values.is_sure v w c.as_slice-in-loop-cond.result.now c.in-While.body j c.loop-cond.store (Err c.in_err-run_all-in-While.field-0.0) (Err c.in_err-run_all-in-While.field-0.0) c.as_slice-in-loop-cond.ensures refl c.in_err-run_all-in-While.ensures.evaluates))

pub run-returns-in_ok-value-in-Print-clause-evaluates : goal.run-returns-in_ok-value-in-Print-clause-evaluates
run-returns-in_ok-value-in-Print-clause-evaluates g t c =
    let fits : FitsSigned w64 c.value_in.result = search rules in
    printed g.V.Values.with_value g.V.Values.leaves g.V.Values.is_sure (g.V.Values.held c.args.out.now) (g.V.Values.held c.value.new.self) (g.V.Values.faults c.args.out.now) (g.V.Values.faults c.value.new.self) c.args.turns.now c.args.store.now
    c.args.stmt.now c.in-Print.x (to_z w64 (of_z w64 c.value_in.result)) c.in_ok-value-in-Print.field-0 c.in-Print.is (to_z-of_z w64 c.value_in.result fits ∙ c.value_in.ensures) c.in_ok-value-in-Print.ensures.taken c.in_ok-value-in-Print.ensures.cause

pub run-returns-in_err-value-in-Print-clause-evaluates : goal.run-returns-in_err-value-in-Print-clause-evaluates
run-returns-in_err-value-in-Print-clause-evaluates g t c =
    let fits : FitsSigned w64 c.value_in.result = search rules in
    let p = err_from_is_err_and c.from_residual.result c.from_residual.ensures.1 in
    rw (p.1, p.2) (refused g.V.Values.with_value g.V.Values.leaves g.V.Values.is_sure (g.V.Values.held c.args.out.now) (g.V.Values.held c.value.new.self) (g.V.Values.faults c.args.out.now) (g.V.Values.faults c.value.new.self) c.args.turns.now c.args.store.now
    c.args.stmt.now c.in-Print.x (to_z w64 (of_z w64 c.value_in.result)) c.in_err-value-in-Print.field-0.0 c.in-Print.is (to_z-of_z w64 c.value_in.result fits ∙ c.value_in.ensures) c.in_err-value-in-Print.ensures.refused c.in_err-value-in-Print.ensures.cause c.in_err-value-in-Print.ensures.sure)

pub run-returns-then-value_in-eq0-clause-evaluates : goal.run-returns-then-value_in-eq0-clause-evaluates
run-returns-then-value_in-eq0-clause-evaluates g t c =
    let fits : FitsSigned w64 c.value_in-in-If.result = search rules in
    let v = seen (g.V.Values.held c.args.out.now) (g.V.Values.faults c.args.out.now) c.args.turns.now c.args.store.now in
    let new = c.run_all.new in
    let w = seen (g.V.Values.held new.out) (g.V.Values.faults new.out) new.turns new.store in
    chosen_others g.V.Values.with_value g.V.Values.leaves g.V.Values.is_sure v w c.args.stmt.now c.in-If.cond c.in-If.yes c.in-If.no c.args.turns.now c.args.store.now c.value_in-in-If.result c.run_all.result c.in-If.is c.value_in-in-If.ensures
    (zero_word c.value_in-in-If.result fits c.if-value_in-eq0.true)
    (as_body g.V.Values.with_value g.V.Values.leaves g.V.Values.is_sure v w c.as_slice.result.now c.in-If.no c.args.turns.now c.args.store.now c.run_all.result c.run_all.result c.as_slice.ensures refl c.run_all.ensures.evaluates)

pub run-returns-else-value_in-eq0-clause-evaluates : goal.run-returns-else-value_in-eq0-clause-evaluates
run-returns-else-value_in-eq0-clause-evaluates g t c =
    let v = seen (g.V.Values.held c.args.out.now) (g.V.Values.faults c.args.out.now) c.args.turns.now c.args.store.now in
    let new = c.run_all-else-value_in-eq0.new in
    let w = seen (g.V.Values.held new.out) (g.V.Values.faults new.out) new.turns new.store in
    chosen_ones g.V.Values.with_value g.V.Values.leaves g.V.Values.is_sure v w c.args.stmt.now c.in-If.cond c.in-If.yes c.in-If.no c.args.turns.now c.args.store.now c.value_in-in-If.result c.run_all-else-value_in-eq0.result c.in-If.is c.value_in-in-If.ensures
    (some_word c.value_in-in-If.result c.if-value_in-eq0.false)
    (as_body g.V.Values.with_value g.V.Values.leaves g.V.Values.is_sure v w c.as_slice-else-value_in-eq0.result.now c.in-If.yes c.args.turns.now c.args.store.now c.run_all-else-value_in-eq0.result c.run_all-else-value_in-eq0.result c.as_slice-else-value_in-eq0.ensures refl c.run_all-else-value_in-eq0.ensures.evaluates)

pub run-returns-after-loop-cond-clause-evaluates : goal.run-returns-after-loop-cond-clause-evaluates
run-returns-after-loop-cond-clause-evaluates g t c =
    let fits : FitsSigned w64 c.value_in-in-loop-cond.result = search rules in
    loop_done g.V.Values.with_value g.V.Values.leaves g.V.Values.is_sure (g.V.Values.held c.loop-cond.out) (g.V.Values.faults c.loop-cond.out) c.loop-cond.turns c.loop-cond.store
    (seen (g.V.Values.held c.args.out.now) (g.V.Values.faults c.args.out.now) c.args.turns.now c.args.store.now) (statement c.args.stmt.now c.args.turns.now c.args.store.now)
    c.in-While.cond c.in-While.body c.value_in-in-loop-cond.result c.value_in-in-loop-cond.ensures c.loop-cond.invariant.rest (zero_word c.value_in-in-loop-cond.result fits c.loop-cond-test.false)

pub run_all-returns-in-More-clause-evaluates : goal.run_all-returns-in-More-clause-evaluates
run_all-returns-in-More-clause-evaluates g t c =
    let v = seen (g.V.Values.held c.loop-stmt.out) (g.V.Values.faults c.loop-stmt.out) c.loop-stmt.turns c.loop-stmt.store in
    let w = seen (g.V.Values.held c.run.new.out) (g.V.Values.faults c.run.new.out) c.run.new.turns c.run.new.store in
    let start = seen (g.V.Values.held c.args.out.now) (g.V.Values.faults c.args.out.now) c.args.turns.now c.args.store.now in
    first_more g.V.Values.with_value g.V.Values.leaves g.V.Values.is_sure v w start (statements c.args.body.now c.args.turns.now c.args.store.now) c.args.body.now c.loop-stmt.stmt-index c.stmt-item.result
    c.loop-stmt-test.true c.stmt-item.is c.loop-stmt.invariant.rest (Ok c.in_ok-run.field-0) c.in_ok-run.field-0 refl c.in-More.is c.in_ok-run.ensures.evaluates

pub run_all-returns-in_err-run-clause-evaluates : goal.run_all-returns-in_err-run-clause-evaluates
run_all-returns-in_err-run-clause-evaluates g t c =
    let v = seen (g.V.Values.held c.loop-stmt.out) (g.V.Values.faults c.loop-stmt.out) c.loop-stmt.turns c.loop-stmt.store in
    let w = seen (g.V.Values.held c.run.new.out) (g.V.Values.faults c.run.new.out) c.run.new.turns c.run.new.store in
    let start = seen (g.V.Values.held c.args.out.now) (g.V.Values.faults c.args.out.now) c.args.turns.now c.args.store.now in
    let p = err_from_is_err_and c.from_residual.result c.from_residual.ensures.1 in
    rw (p.1, p.2) (first_fault g.V.Values.with_value g.V.Values.leaves g.V.Values.is_sure v w start (statements c.args.body.now c.args.turns.now c.args.store.now) c.args.body.now c.loop-stmt.stmt-index c.stmt-item.result
    c.loop-stmt-test.true c.stmt-item.is c.loop-stmt.invariant.rest (Err c.in_err-run.field-0.0) c.in_err-run.field-0.0 refl c.in_err-run.ensures.evaluates)

pub run_all-loop-stmt-preserved : goal.run_all-loop-stmt-preserved
run_all-loop-stmt-preserved g t c =
    let zs = c.args.body.now in
    let i = c.loop-stmt.stmt-index in
    let z = c.stmt-item.result in
    let v = seen (g.V.Values.held c.loop-stmt.out) (g.V.Values.faults c.loop-stmt.out) c.loop-stmt.turns c.loop-stmt.store in
    let w = seen (g.V.Values.held c.run.new.out) (g.V.Values.faults c.run.new.out) c.run.new.turns c.run.new.store in
    let start = seen (g.V.Values.held c.args.out.now) (g.V.Values.faults c.args.out.now) c.args.turns.now c.args.store.now in
    record {
      rest = first_done g.V.Values.with_value g.V.Values.leaves g.V.Values.is_sure v w start (statements zs c.args.turns.now c.args.store.now) zs i z
          c.loop-stmt-test.true c.stmt-item.is c.loop-stmt.invariant.rest (Ok c.in_ok-run.field-0) c.in_ok-run.field-0 refl c.in-Done.is c.in_ok-run.ensures.evaluates;
      suits = suits-rest (drop i zs) z (drop (i + 1) zs) c.loop-stmt.store c.run.new.store (drop_first zs i z c.loop-stmt-test.true c.stmt-item.is) c.run.ensures.evaluates.names c.loop-stmt.invariant.suits;
      lender = c.run.ensures.lender ∙ c.loop-stmt.invariant.lender;
    }

pub run_all-returns-clause-evaluates : goal.run_all-returns-clause-evaluates
run_all-returns-clause-evaluates g t c =
    let start = seen (g.V.Values.held c.args.out.now) (g.V.Values.faults c.args.out.now) c.args.turns.now c.args.store.now in
    all_done g.V.Values.with_value g.V.Values.leaves g.V.Values.is_sure (g.V.Values.held c.loop-stmt.out) (g.V.Values.faults c.loop-stmt.out) c.loop-stmt.turns c.loop-stmt.store start
    (statements c.args.body.now c.args.turns.now c.args.store.now) (drop c.loop-stmt.stmt-index c.args.body.now) (drop_of_length-le c.args.body.now c.loop-stmt-test.false) c.loop-stmt.invariant.rest
