use Rattle.std.proofs.Common.{◌≡◌, replicate, map, [], Vec, ℕ, Global, length}
use Rattle.timing_script.proofs.offsets.Offsets.new.Given as goal

abbrev pub invariant-loop : goal.invariant-loop
invariant-loop l = record {
  empty : map (λ (list : Vec ℕ Global). list.items) l.lists.items ≡ replicate l.counter [];
  count : length l.lists.items ≡ l.counter;
}
