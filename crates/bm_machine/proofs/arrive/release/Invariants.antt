use Rattle.std.proofs.Common.{◌≡◌, ◌⊎◌, ℕ, Some, None, length, map}
use Rattle.bm_base.specs.Mask.{has_bit}
use Rattle.unit_law.specs.State.{is_wait, code_at}
use Rattle.unit_law.specs.Canonical.{is_do}
use Rattle.bm_machine.specs.Agenda.{due_at, hold_until}
use Rattle.bm_machine.specs.Shown.{processor_of}
use Rattle.bm_machine.specs.Seeing.{UnitStays}
use Rattle.bm_machine.proofs.Dues.{entries}
use Rattle.bm_machine.proofs.Ables.{passes_by}
use Rattle.bm_machine.proofs.arrive.release.Given as goal

abbrev pub invariant-loop-p : goal.invariant-loop-p
invariant-loop-p g l = record {
  told : g.U.BarrierUnit.waiting l.unit ≡ l.told;
  bits : (q : ℕ) → has_bit l.told q ≡ passes_by is_wait (code_at l.image l.block) (map processor_of l.actors) l.agenda q;
  able : (q : ℕ) → has_bit l.able q ≡ passes_by is_do (code_at l.image l.block) (map processor_of l.actors) l.agenda q;
  long : length l.agenda ≡ length l.initial.agenda;
  left : (q : ℕ) → (due_at l.agenda q ≡ due_at l.initial.agenda q) ⊎ ((due_at l.initial.agenda q ≡ Some (hold_until l.tick)) × (due_at l.agenda q ≡ None));
  unit : UnitStays g.U.BarrierUnit.queue g.U.BarrierUnit.fired g.U.BarrierUnit.capacity g.U.BarrierUnit.choice l.initial.unit l.unit;
}

abbrev pub decreases-loop-p : goal.decreases-loop-p
decreases-loop-p g l = entries l.agenda
