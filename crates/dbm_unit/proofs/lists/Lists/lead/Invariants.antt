use Rattle.std.proofs.Common.{◌-◌, ◌≤◌}
use Rattle.dbm_unit.proofs.Rows.{IsLed}
use Rattle.dbm_unit.proofs.lists.Lists.lead.Given as goal

abbrev pub invariant-loop-p : goal.invariant-loop-p
invariant-loop-p l = record {
  within : l.from ≤ 128;
  led : IsLed l.mask l.j l.from l.initial.self.first.items l.initial.self.next.items l.self.first.items l.self.next.items l.size;
}

abbrev pub decreases-loop-p : goal.decreases-loop-p
decreases-loop-p l = 128 - l.from
