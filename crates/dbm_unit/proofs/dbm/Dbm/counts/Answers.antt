use Rattle.std.proofs.Common.{take, length-take-le, ap, ◌∙◌, arith}
use Rattle.dbm_unit.proofs.Arrivals.{lent}
use Rattle.dbm_unit.proofs.dbm.Dbm.counts.Goals as goal

pub returns : goal.returns
returns c = rw (← c.self.view_is) (ap (take c.self.inside.loaded) c.deref.ensures.value ∙ lent c.self.invariant.kept c.self.inside.loaded (length-take-le c.self.inside.loaded c.self.inside.masks.items c.self.invariant.room.loads) (let x = c.self.invariant.room.loads in let y = c.self.invariant.room.counts_room in omega arith))
