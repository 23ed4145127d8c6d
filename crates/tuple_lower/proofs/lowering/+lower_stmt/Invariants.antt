use Rattle.std.proofs.Common.{◌≡◌, drop}
use Rattle.tuple_lower.specs.Blocks.{lower_body}
use Rattle.tuple_lower.specs.Drafted.{continued, BodyFits}
use Rattle.tuple_lower.proofs.lowering.+lower_stmt.Given as goal

abbrev pub invariant-lower_body-loop-stmt : goal.invariant-lower_body-loop-stmt
invariant-lower_body-loop-stmt l = record {
  rest : continued l.draft (lower_body (drop l.stmt-index l.body)) ≡ continued l.fn.draft (lower_body l.body);
  fits : BodyFits (drop l.stmt-index l.body) l.draft;
}
