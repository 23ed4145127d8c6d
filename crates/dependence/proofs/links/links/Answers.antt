use Rattle.std.proofs.Common.{◌<◌, length, pos, arith}
use Rattle.tuple_ir.specs.declared.tuple.Tuple.TheVariants.{Const}
use Rattle.dependence.proofs.Linked.{before_is, kept_next, links_next}
use Rattle.dependence.proofs.links.links.Goals as goal

pub loop-b-preserved : goal.loop-b-preserved
loop-b-preserved c =
    let lt : c.loop-b.b < length c.args.tuples.now = omega arith in
    let ts = c.args.tuples.now in
    let before = before_is ts c.loop-b.b (Const (pos 0)) c.loop-b.latest c.in_ok-before.before lt c.loop-b.invariant.1 c.in_ok-before.ensures.before in
    (links_next ts c.loop-b.b c.loop-b.links.items c.push.new.self.items c.in_ok-before.before c.unwrap_or.result c.loop-b.invariant.0 before c.unwrap_or.ensures c.in_ok-push.ensures.items, kept_next ts c.loop-b.b (Const (pos 0)) c.loop-b.latest c.touch.new.self lt c.loop-b.invariant.1 c.in_ok-before.ensures.kept)
