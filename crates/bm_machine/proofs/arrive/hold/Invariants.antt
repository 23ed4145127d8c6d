use Rattle.std.proofs.Common.{◌≡◌, ◌-◌, ◌<◌, ◌≤◌, ℕ, true, false, length, Some}
use Rattle.bm_base.specs.Mask.{has_bit}
use Rattle.bm_machine.specs.Agenda.{due_at, hold_until}
use Rattle.bm_machine.proofs.arrive.hold.Given as goal

abbrev pub invariant-loop-p : goal.invariant-loop-p
invariant-loop-p l = record {
  place : l.from ≤ 128;
  long : length l.agenda ≡ length l.initial.agenda;
  held : (q : ℕ) → q < l.from → has_bit l.mask q ≡ true → due_at l.agenda q ≡ Some (hold_until l.until);
  behind : (q : ℕ) → l.from ≤ q → due_at l.agenda q ≡ due_at l.initial.agenda q;
  other : (q : ℕ) → has_bit l.mask q ≡ false → due_at l.agenda q ≡ due_at l.initial.agenda q;
}

abbrev pub decreases-loop-p : goal.decreases-loop-p
decreases-loop-p l = 128 - l.from
