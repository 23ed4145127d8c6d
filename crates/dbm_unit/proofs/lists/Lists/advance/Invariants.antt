use Rattle.std.proofs.Common.{◌≡◌, ℕ, ◌+◌, ◌-◌, ◌*◌, ◌<◌, ◌≤◌, length, get_or, None}
use Rattle.dbm_unit.specs.Lists.{advanced}
use Rattle.dbm_unit.proofs.lists.Lists.advance.Given as goal

abbrev pub invariant-loop-p : goal.invariant-loop-p
invariant-loop-p l = record {
  within : l.from ≤ 128;
  room : length l.self.first.items ≡ length l.initial.self.first.items;
  nodes : l.self.next.items ≡ l.initial.self.next.items;
  firsts : (p : ℕ) → p < l.from → get_or l.self.first.items p None ≡ advanced l.mask (get_or l.initial.self.next.items (l.j * 128 + p) None) p (get_or l.initial.self.first.items p None);
  ahead : (p : ℕ) → l.from ≤ p → get_or l.self.first.items p None ≡ get_or l.initial.self.first.items p None;
}

abbrev pub decreases-loop-p : goal.decreases-loop-p
decreases-loop-p l = 128 - l.from
