use Rattle.std.proofs.Common.{◌+◌, arith}
use Rattle.tuple_lower.proofs.Putting.{row_room}
use Rattle.tuple_lower.proofs.Making.{assign_few, assign_numbers, cut_room, assign_done}
use Rattle.tuple_lower.proofs.lowering.put_assign.Goals as goal

pub make_room-requires-clause-numbers : goal.make_room-requires-clause-numbers
make_room-requires-clause-numbers c = assign_numbers c.args.name c.args.x.now c.args.draft.now c.requires

pub push-requires : goal.push-requires
push-requires c =
    let e = c.size.ensures in
    let few = assign_few c.args.name c.args.x.now c.args.draft.now c.requires in
    let room = cut_room (c.size.result + 1) (c.size.result + 1) c.args.draft.now c.make_room.new.self c.in_ok-make_room.ensures (omega (arith, e, few)) (omega arith) in
    let l = row_room c.args.x.now c.make_room.new.self c.put_value.new.draft c.in_ok-value.ensures.row in
    omega (arith, e, room, l)

pub returns : goal.returns
returns c =
    assign_done c.args.name c.args.x.now c.size.result c.in_ok-value.value c.args.draft.now c.make_room.new.self c.put_value.new.draft c.push.new.self c.requires c.size.ensures c.in_ok-make_room.ensures
    c.in_ok-value.ensures.row c.in_ok-value.ensures.cell c.in_ok-push.ensures.pushed
