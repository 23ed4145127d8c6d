use Rattle.std.proofs.Common.{◌+◌, arith}
use Rattle.tuple_lower.proofs.Putting.{row_room}
use Rattle.tuple_lower.proofs.Making.{set_few, set_numbers, cut_room, set_done}
use Rattle.tuple_lower.proofs.lowering.put_element.Goals as goal

pub make_room-requires-clause-numbers : goal.make_room-requires-clause-numbers
make_room-requires-clause-numbers c = set_numbers c.args.name c.args.i.now c.args.x.now c.args.draft.now c.requires

pub put_value-requires-2 : goal.put_value-requires-2
put_value-requires-2 c =
    let e = c.size.ensures in
    let f = c.size-2.ensures in
    let few = set_few c.args.name c.args.i.now c.args.x.now c.args.draft.now c.requires in
    let m = c.size.result + c.size-2.result + 1 in
    let room = cut_room m m c.args.draft.now c.make_room.new.self c.in_ok-make_room.ensures (omega (arith, e, f, few)) (omega arith) in
    let l = row_room c.args.i.now c.make_room.new.self c.put_value.new.draft c.in_ok-index.ensures.row in
    omega (arith, e, f, room, l)

pub push-requires : goal.push-requires
push-requires c =
    let e = c.size.ensures in
    let f = c.size-2.ensures in
    let few = set_few c.args.name c.args.i.now c.args.x.now c.args.draft.now c.requires in
    let m = c.size.result + c.size-2.result + 1 in
    let room = cut_room m m c.args.draft.now c.make_room.new.self c.in_ok-make_room.ensures (omega (arith, e, f, few)) (omega arith) in
    let l = row_room c.args.i.now c.make_room.new.self c.put_value.new.draft c.in_ok-index.ensures.row in
    let k = row_room c.args.x.now c.put_value.new.draft c.put_value-2.new.draft c.in_ok-value.ensures.row in
    omega (arith, e, f, room, l, k)

pub returns : goal.returns
returns c =
    set_done c.args.name c.args.i.now c.args.x.now c.size.result c.size-2.result c.in_ok-index.index c.in_ok-value.value c.args.draft.now c.make_room.new.self c.put_value.new.draft c.put_value-2.new.draft c.push.new.self
    c.requires c.size.ensures c.size-2.ensures c.in_ok-make_room.ensures c.in_ok-index.ensures.row c.in_ok-index.ensures.cell c.in_ok-value.ensures.row c.in_ok-value.ensures.cell c.in_ok-push.ensures.pushed
