-- What the code's draft stands for, and what its steps answer.
use Rattle.std.specs.Prelude.{◌≡◌, ℕ, List, [], ◌∷◌, ◌++◌, length, Option, Some, None, Result, Ok, Err}
use Rattle.bm_base.specs.Machine.{Machine}
use Rattle.line_model.specs.declared.line.StreamItem.{StreamItem}
use Rattle.unit_law.specs.State.{Program}
use Rattle.stream_file.specs.declared.draft.Draft as code
use Rattle.stream_file.specs.declared.draft.BlockDraft.{BlockDraft}
use Rattle.stream_file.specs.declared.fault.StepFault.{StepFault}
use Rattle.stream_file.specs.declared.fault.StepFault.TheVariants.{Refused, Memory}
use Rattle.stream_file.specs.Fields.{BlockFields}
use Rattle.stream_file.specs.Draft.{Draft}

abbrev pub block_fields : BlockDraft → BlockFields
block_fields b = record { tuples = b.tuples.items; masks = b.masks.items; streams = b.streams.items; next = b.next }

-- the code's draft behind these blocks, which it doesn't hold
abbrev pub drafted : List BlockFields → code.Draft → Draft
drafted blocks d = record {
  stage = d.stage;
  version = d.version;
  processors = d.processors;
  barrier = d.barrier;
  times = d.times.items;
  names = d.names;
  blocks = blocks;
  tuples = d.tuples.items;
  masks = d.masks.items;
  streams = d.streams.items;
  from = d.from;
}

-- its machine and names, without blocks
abbrev pub machine_drafted : code.Draft → Machine
machine_drafted d = record { processors = d.processors; delay = d.barrier; times = d.times.items }

abbrev pub head_drafted : code.Draft → Program
head_drafted d = record { machine = machine_drafted d; names = d.names; blocks = []; lines = [] }

-- one block more, where a line ends one
abbrev pub with_block : List BlockFields → Option BlockDraft → List BlockFields
with_block blocks None = blocks
with_block blocks (Some b) = blocks ++ block_fields b ∷ []

-- the step was taken to what there is now, or it is none, unless memory ran out
abbrev pub Takes : {A B : Type 0} → Option B → (A → B) → Result A StepFault → Type 0
Takes wanted now (Ok x) = wanted ≡ Some (now x)
Takes wanted now (Err Refused) = wanted ≡ None
Takes wanted now (Err Memory) = Unit {0}

-- behind any blocks, it was taken from the old draft to the new one
abbrev pub TakesTo : (Draft → Option Draft) → code.Draft → code.Draft → Result (Unit {0}) StepFault → Type 0
TakesTo step old new result = (bs : List BlockFields) → Takes (step (drafted bs old)) (λ _. drafted bs new) result

-- .. with the block that it ended
abbrev pub TakesBlock : (Draft → Option Draft) → code.Draft → code.Draft → Result BlockDraft StepFault → Type 0
TakesBlock step old new result = (bs : List BlockFields)
    → Takes (step (drafted bs old)) (λ b. drafted (bs ++ block_fields b ∷ []) new) result

-- .. with the block that it ended, if it did, behind so many blocks
abbrev pub TakesLine : ℕ → (Draft → Option Draft) → code.Draft → code.Draft → Result (Option BlockDraft) StepFault → Type 0
TakesLine blocks step old new result =
    (bs : List BlockFields) → length bs ≡ blocks → Takes (step (drafted bs old)) (λ ended. drafted (with_block bs ended) new) result

-- a line that ends no block
abbrev pub alone : Result (Unit {0}) StepFault → Result (Option BlockDraft) StepFault
alone (Ok x) = Ok None
alone (Err fault) = Err fault

-- the items are these, or there are none, unless memory ran out
abbrev pub Items : Option (List StreamItem) → Result (List StreamItem) StepFault → Type 0
Items wanted (Ok x) = wanted ≡ Some x
Items wanted (Err Refused) = wanted ≡ None
Items wanted (Err Memory) = Unit {0}
