-- What a program is compiled to.
use Rattle.std.specs.Prelude.{◌≡◌, List, [], ◌∷◌, map}
use Rattle.bm_base.specs.Entry.{Entry}
use Rattle.bm_base.specs.Machine.{Machine}
use Rattle.tuple_ir.specs.declared.block.Block.{Block}
use Rattle.line_model.specs.declared.line.Item.{Item}
use Rattle.line_model.specs.Streams.{stream, masks}
use Rattle.unit_law.specs.State.{Program}
use Rattle.stream_image.specs.Image.{IsImage}
use Rattle.stream_image.specs.Line.{line_of}
use Rattle.compiled_image.specs.declared.planned.Plan.{Plan}
use Rattle.compiled_image.specs.Planned.{IsPlanned}
use Rattle.src_names.specs.RProgram.{RProgram}
use Rattle.tuple_lower.specs.Means.{blocks_of}
use Rattle.compiled_image.specs.Faithful.{IsFaithful}

-- a plan for each block, in order
abbrev pub ArePlans : Machine → List Block → List Plan → Type 0
ArePlans machine [] [] = Unit {0}
ArePlans machine (block ∷ blocks) (plan ∷ plans) = IsPlanned machine block.tuples plan × ArePlans machine blocks plans
ArePlans machine [] (plan ∷ plans) = ⊥
ArePlans machine (block ∷ blocks) [] = ⊥

-- the line of the streams and masks of a plan's reduced line
abbrev pub line_in : Machine → Plan → List Item
line_in machine plan = line_of machine.processors (λ p. stream p plan.line.items) (masks plan.line.items)

-- blocks with the streams and masks of their plans
abbrev pub program_of : Machine → List Entry → List Block → List Plan → Program
program_of machine names blocks plans = record { machine = machine; names = names; blocks = blocks; lines = map (line_in machine) plans }

-- the program's names, this machine, and the lowered blocks, each with the streams and masks of its plan
pub record IsImageOf (machine : Machine) (p : RProgram) (m : Program) : Type 0 where
  pub plans : List Plan
  pub planned : ArePlans machine (blocks_of p) plans
  pub whole : m ≡ program_of machine p.names (blocks_of p) plans

-- it is that; so it keeps the stream invariant, and means what the program means
pub record IsCompiled (machine : Machine) (p : RProgram) (m : Program) : Type 0 where
  pub image_is : IsImageOf machine p m
  pub lawful : IsImage m
  pub faithful : IsFaithful m p
