use Rattle.std.proofs.Common.{◌≡◌, drop}
use Rattle.src_meaning.specs.Meaning.{value_of, statement, statements, while_loop}
use Rattle.src_meaning.specs.Evaluates.{seen, SuitsBody}
use Rattle.src_meaning.proofs.Algebra.{Continues}
use Rattle.src_meaning.proofs.Suits.{SuitsWhile}
use Rattle.src_meaning.proofs.evaluate.+run.Given as goal

abbrev pub invariant-run-loop-cond : goal.invariant-run-loop-cond
invariant-run-loop-cond g l = record {
  rest : Continues g.V.Values.with_value g.V.Values.leaves g.V.Values.is_sure
      (seen (g.V.Values.held l.out) (g.V.Values.faults l.out) l.turns l.store) (while_loop (value_of l.cond) (statements l.body) l.turns l.store)
      (seen (g.V.Values.held l.fn.out) (g.V.Values.faults l.fn.out) l.fn.turns l.fn.store) (statement l.fn.stmt l.fn.turns l.fn.store);
  suits : SuitsWhile l.cond l.body l.store;
  lender : g.V.Values.lender l.out ≡ g.V.Values.lender l.fn.out;
}

abbrev pub decreases-run-loop-cond : goal.decreases-run-loop-cond
decreases-run-loop-cond g l = l.turns

abbrev pub invariant-run_all-loop-stmt : goal.invariant-run_all-loop-stmt
invariant-run_all-loop-stmt g l = record {
  rest : Continues g.V.Values.with_value g.V.Values.leaves g.V.Values.is_sure
      (seen (g.V.Values.held l.out) (g.V.Values.faults l.out) l.turns l.store) (statements (drop l.stmt-index l.body) l.turns l.store)
      (seen (g.V.Values.held l.fn.out) (g.V.Values.faults l.fn.out) l.fn.turns l.fn.store) (statements l.body l.fn.turns l.fn.store);
  suits : SuitsBody (drop l.stmt-index l.body) l.store;
  lender : g.V.Values.lender l.out ≡ g.V.Values.lender l.fn.out;
}
