use Rattle.std.proofs.Common.{◌≡◌, ℕ, ◌+◌, ◌-◌, ◌≤◌, List, subst, arith}
use Rattle.bm_base.specs.Memory.{Content}
use Rattle.bm_base.specs.Prefix.{IsPrefixOf}
use Rattle.tuple_ir.specs.declared.block.Block.{Block}
use Rattle.tuple_ir.specs.Serial.{outcome}
use Rattle.tuple_ir.proofs.Growth.{outcome_grows}
use Rattle.tuple_ir.proofs.more_blocks_only_add_output.Goals as goal

more : (blocks : List Block) (memory : List Content) (j k : ℕ) → j ≤ k
    → IsPrefixOf (outcome blocks memory j).world.output (outcome blocks memory k).world.output
more blocks memory j k l = let e : j + (k - j) ≡ k = omega (arith, l) in subst (λ i. IsPrefixOf (outcome blocks memory j).world.output (outcome blocks memory i).world.output) e (outcome_grows blocks memory j (k - j))

pub returns : goal.returns
returns c = more
