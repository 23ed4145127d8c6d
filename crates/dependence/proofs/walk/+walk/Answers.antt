use Rattle.std.proofs.Common.{◌≡◌, ◌<◌, ◌≤◌, ◌∙◌, length, pos, Some, get_or, slice_get, sym, ap, arith, append-nil, ◌++◌}
use Rattle.std.proofs.lemmas.Option.{slice_get-get_or}
use Rattle.tuple_ir.specs.declared.tuple.Tuple.TheVariants.{Const}
use Rattle.dependence.proofs.Linked.{links_long, next_link, none_below, with_it, without_it}
use Rattle.dependence.proofs.walk.+walk.Goals as goal

pub next-requires : goal.next-requires
next-requires t c =
    let lt = c.in-Some.ensures.0 in
    omega (arith, links_long c.args.tuples.now, ap length c.requires.links)

pub walk-requires : goal.walk-requires
walk-requires t c =
    let ts = c.args.tuples.now in
    let lt = c.in-Some.ensures.0 in
    let few : c.args.bound ≤ 128 = omega arith in
    let within : c.in-Some.a < length ts = omega arith in
    let at : slice_get ts c.args.b ≡ Some (get_or ts c.args.b (Const (pos 0))) = slice_get-get_or ts c.args.b (Const (pos 0)) c.requires.tuple in
    let link = c.next.ensures ∙ next_link ts c.args.b _ at c.args.link c.args.bound few c.requires.link c.in-Some.a c.in-Some.ensures c.args.links.now c.requires.links within in
    (omega arith, (c.requires.few, (c.requires.tuple, (omega arith, (c.requires.links, link)))))

pub returns-in_ok-push : goal.returns-in_ok-push
returns-in_ok-push t c =
    let ts = c.args.tuples.now in
    let few : c.args.bound ≤ 128 = omega arith in
    let at : slice_get ts c.args.b ≡ Some (get_or ts c.args.b (Const (pos 0))) = slice_get-get_or ts c.args.b (Const (pos 0)) c.requires.tuple in
    with_it ts c.args.b _ at c.args.link c.args.bound few c.requires.link c.in-Some.a c.in-Some.ensures (sym c.conflict.ensures ∙ c.if-conflict.true) c.args.row.now.items c.walk.new.row.items c.push.new.self.items c.in_ok-walk.ensures c.in_ok-push.ensures.ok

pub returns-else-conflict : goal.returns-else-conflict
returns-else-conflict t c =
    let ts = c.args.tuples.now in
    let few : c.args.bound ≤ 128 = omega arith in
    let at : slice_get ts c.args.b ≡ Some (get_or ts c.args.b (Const (pos 0))) = slice_get-get_or ts c.args.b (Const (pos 0)) c.requires.tuple in
    without_it ts c.args.b _ at c.args.link c.args.bound few c.requires.link c.in-Some.a c.in-Some.ensures (sym c.conflict.ensures ∙ c.if-conflict.false) c.args.row.now.items c.walk.new.row.items c.in_ok-walk.ensures

pub returns-in_default : goal.returns-in_default
returns-in_default t c =
    let ts = c.args.tuples.now in
    let few : c.args.bound ≤ 128 = omega arith in
    let at : slice_get ts c.args.b ≡ Some (get_or ts c.args.b (Const (pos 0))) = slice_get-get_or ts c.args.b (Const (pos 0)) c.requires.tuple in
    sym (ap (λ l. c.args.row.now.items ++ l) (none_below ts c.args.b _ at c.args.link c.args.bound few c.requires.link c.in_default.ensures) ∙ append-nil c.args.row.now.items)
