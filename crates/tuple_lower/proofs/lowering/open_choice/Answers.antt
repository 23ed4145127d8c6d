use Rattle.tuple_lower.proofs.Making.{choice_opened, choice_cell}
use Rattle.tuple_lower.proofs.lowering.open_choice.Goals as goal

pub returns-clause-opened : goal.returns-clause-opened
returns-clause-opened c =
    choice_opened c.args.cond.now c.size.result c.args.draft.now c.make_room.new.self c.put_value.new.draft c.end_by.new.self c.size.ensures c.in_ok-make_room.ensures c.in_ok-cell.ensures.row c.in_ok-end_by.ensures

pub returns-clause-cell : goal.returns-clause-cell
returns-clause-cell c =
    choice_cell c.args.cond.now c.size.result c.in_ok-cell.cell c.args.draft.now c.make_room.new.self c.put_value.new.draft c.size.ensures c.in_ok-make_room.ensures c.in_ok-cell.ensures.row c.in_ok-cell.ensures.cell
