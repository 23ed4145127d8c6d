use Rattle.std.proofs.Common.{◌≡◌}
use Rattle.soak_text.specs.Generator as spec
use Rattle.soak_text.proofs.generator.variables.Given as goal

abbrev pub invariant-loop-k : goal.invariant-loop-k
invariant-loop-k l = record { so_far : l.decls ≡ spec.variables l.k }
