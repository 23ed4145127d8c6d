use Rattle.std.proofs.Common.{◌≡◌, map, string_bytes}
use Rattle.std.specs.List.Sorted.{IsStrictlySortedBy}
use Rattle.std.specs.String.{string_cmp}
use Rattle.toml.specs.View.{table_view}
use Rattle.machine_file.specs.Keys as keys
use Rattle.machine_file.proofs.read.first_unknown.Given as goal

abbrev pub invariant-loop-key : goal.invariant-loop-key
invariant-loop-key l =
    let known = map (λ k. k.now) l.known in
    (keys.first_unknown known (keys.keys_of (table_view l.table)) ≡ keys.first_unknown known (map string_bytes l.key-iterator))
    × IsStrictlySortedBy string_cmp l.key-iterator
