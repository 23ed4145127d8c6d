use Rattle.std.proofs.Common.{◌≡◌, [], drop}
use Rattle.std.proofs.lemmas.List.{append-nil, drop_all}
use Rattle.src_names.specs.Named.{NamedBody}
use Rattle.src_names.specs.Named as n
use Rattle.src_names.proofs.Wrong.{body_next, named_next}
use Rattle.src_names.proofs.body.+name.Goals as goal

pub name_body-loop-stmt-preserved : goal.name_body-loop-stmt-preserved
name_body-loop-stmt-preserved t c =
    rw c.in_ok-push.ensures.ok
    (
    record {
      named = named_next c.args.names.now c.args.body.now c.loop-stmt.stmt-index c.stmt-item.result c.loop-stmt-test.true c.stmt-item.is c.in_ok-name_stmt.field-0 c.loop-stmt.named c.in_ok-name_stmt.ensures.ok c.loop-stmt.invariant.named;
      stops = body_next c.args.names.now c.args.body.now c.loop-stmt.stmt-index c.stmt-item.result c.loop-stmt-test.true c.stmt-item.is c.in_ok-name_stmt.field-0 c.in_ok-name_stmt.ensures.ok c.loop-stmt.invariant.stops;
    }
    )

pub name_body-returns-clause-ok : goal.name_body-returns-clause-ok
name_body-returns-clause-ok t c =
    let ends : drop c.loop-stmt.stmt-index c.args.body.now ≡ [] = drop_all c.loop-stmt.stmt-index c.args.body.now c.loop-stmt-test.false in
    let rest : NamedBody c.args.names.now (drop c.loop-stmt.stmt-index c.args.body.now) [] = rw ends n.none in
    rw append-nil at (c.loop-stmt.invariant.named [] rest)
