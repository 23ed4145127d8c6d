use Rattle.std.proofs.Common.{◌≡◌, ◌≤◌, ◌-◌, ℕ, true}
use Rattle.bm_base.specs.Mask.{has_bit}
use Rattle.unit_law.specs.State.{waits, code_at}
use Rattle.bm_machine.specs.Shown.{standing_at, starts_next}
use Rattle.bm_machine.specs.Seeing.{UnitStays}
use Rattle.bm_machine.proofs.Ables.{IsKnownBelow}
use Rattle.bm_machine.proofs.arrive.see_members.Given as goal

abbrev pub invariant-loop-p : goal.invariant-loop-p
invariant-loop-p g l = record {
  place : l.from ≤ 128;
  told : g.U.BarrierUnit.waiting l.unit ≡ l.told;
  within : (q : ℕ) → has_bit l.told q ≡ true → waits (code_at l.image l.block) (standing_at l.clock l.actors) q ≡ true;
  known : IsKnownBelow (waits (code_at l.image l.block) (standing_at l.clock l.actors)) l.mask l.from (has_bit l.told);
  can : (q : ℕ) → has_bit l.able q ≡ true → starts_next (code_at l.image l.block) (standing_at l.clock l.actors) q ≡ true;
  can_known : IsKnownBelow (starts_next (code_at l.image l.block) (standing_at l.clock l.actors)) l.mask l.from (has_bit l.able);
  unit : UnitStays g.U.BarrierUnit.queue g.U.BarrierUnit.fired g.U.BarrierUnit.capacity g.U.BarrierUnit.choice l.initial.unit l.unit;
}

abbrev pub decreases-loop-p : goal.decreases-loop-p
decreases-loop-p g l = 128 - l.from
