use Rattle.std.proofs.Common.{◌≡◌, length, take}
use Rattle.sbm_unit.proofs.sbm.SbmBarrierUnit.load.Given as goal

abbrev pub invariant-loop-i : goal.invariant-loop-i
invariant-loop-i l = record { kept : length l.self-inside.slots.items ≡ length l.initial.self-inside.slots.items; copied : take l.i l.self-inside.slots.items ≡ take l.i l.masks }
