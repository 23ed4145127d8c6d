use Rattle.std.proofs.Common.{◌≡◌, length}
use Rattle.dbm_unit.specs.Kept.{HasRoom}
use Rattle.dbm_unit.proofs.Loads.{IsLoading}
use Rattle.dbm_unit.proofs.dbm.DbmBarrierUnit.load.Given as goal

abbrev pub invariant-loop-j : goal.invariant-loop-j
invariant-loop-j l = record {
  same_room : length l.self-inside.masks.items ≡ length l.initial.self-inside.masks.items;
  all : l.self-inside.loaded ≡ length l.masks;
  nobody : l.self-inside.waiting ≡ 0;
  room : HasRoom (length l.self-inside.masks.items) (length l.masks) l.self-inside.fired.items l.self-inside.lists.first.items l.self-inside.lists.next.items l.self-inside.sizes.items l.self-inside.counts.items l.self-inside.ready;
  loading : IsLoading l.masks l.j l.self-inside.masks.items l.self-inside.fired.items l.self-inside.lists.first.items l.self-inside.lists.next.items l.self-inside.sizes.items l.self-inside.counts.items l.self-inside.ready;
}
