-- The image of an image's fields, and why it is refused.
use Rattle.std.specs.Prelude.{ℕ, ◌≡◌, ◌≤◌, ◌⊎◌, List, [], ◌∷◌, length, Some, None}
use Rattle.bm_base.specs.declared.limits.TheConstants.{MOST_TUPLES, MOST_MASKS}
use Rattle.bm_base.specs.Machine.{Machine}
use Rattle.tuple_ir.specs.declared.block.Block.{Block}
use Rattle.unit_law.specs.State.{Program}
use Rattle.stream_image.specs.declared.fault.ImageFault.{ImageFault}
use Rattle.stream_image.specs.declared.fault.ImageFault.TheVariants as found
use Rattle.stream_image.specs.Image.{with_streams}
use Rattle.stream_image.specs.Line.{AreIncreasing}
use Rattle.stream_image.specs.Refused.{IsRefused, IsAccepted, target_fault}
use Rattle.stream_file.specs.declared.loading.LoadFault.{LoadFault}
use Rattle.stream_file.specs.declared.loading.LoadFault.TheVariants.{Text, Image, Memory}
use Rattle.stream_file.specs.Fields.{BlockFields, Fields, IsTextOf}
use Rattle.stream_file.specs.First.{IsFirstWrong}

abbrev pub block_of : BlockFields → Block
block_of b = record { tuples = b.tuples; next = b.next }

abbrev pub machine_of : Fields → Machine
machine_of f = record { processors = f.processors; delay = f.barrier; times = f.times }

-- the machine and the names, without blocks
abbrev pub head_of : Fields → Program
head_of f = record { machine = machine_of f; names = f.names; blocks = []; lines = [] }

-- one block more, with the line of its streams and masks
abbrev pub with_fields : Program → BlockFields → Program
with_fields m b = with_streams m (block_of b) b.streams b.masks

abbrev pub with_all : Program → List BlockFields → Program
with_all m [] = m
with_all m (b ∷ bs) = with_all (with_fields m b) bs

-- what a machine runs that has these fields
abbrev pub program_of : Fields → Program
program_of f = with_all (head_of f) f.blocks

-- the next block of an image is accepted, is refused
abbrev pub IsTaken : Program → BlockFields → Type 0
IsTaken m b = IsAccepted m (block_of b) b.streams b.masks

abbrev pub IsDenied : Program → BlockFields → ImageFault → Type 0
IsDenied m b fault = IsRefused m (block_of b) b.streams b.masks fault

-- each of these blocks is accepted behind those before it
abbrev pub AllTaken : Program → List BlockFields → Type 0
AllTaken m [] = Unit {0}
AllTaken m (b ∷ bs) = IsTaken m b × AllTaken (with_fields m b) bs

-- the first of them that is refused is refused for this
abbrev pub IsFirstDenied : Program → List BlockFields → ImageFault → Type 0
IsFirstDenied m [] fault = ⊥
IsFirstDenied m (b ∷ bs) fault = IsDenied m b fault ⊎ (IsTaken m b × IsFirstDenied (with_fields m b) bs fault)

-- nothing refuses the blocks, nor then the targets of all
pub record AreTaken (f : Fields) : Type 0 where
  pub each : AllTaken (head_of f) f.blocks
  pub targets : target_fault (program_of f).blocks ≡ None

-- the first cause: that of the first block that is refused, else of the first target that is none
pub data IsFirstCause (f : Fields) (fault : ImageFault) : Type 0 where
  denied : IsFirstDenied (head_of f) f.blocks fault → IsFirstCause f fault
  astray : AllTaken (head_of f) f.blocks → target_fault (program_of f).blocks ≡ Some fault → IsFirstCause f fault

-- the bytes are the text of this image
pub record IsTextOfImage (bytes : List ℕ) (m : Program) : Type 0 where
  pub fields : Fields
  pub text : IsTextOf bytes fields
  pub taken : AreTaken fields
  pub image : program_of fields ≡ m

-- the bytes are the text of fields that no image has, for this cause
pub record IsRefusedText (bytes : List ℕ) (fault : ImageFault) : Type 0 where
  pub fields : Fields
  pub text : IsTextOf bytes fields
  pub cause : IsFirstCause fields fault

-- why bytes are not loaded
abbrev pub IsLoadFault : List ℕ → LoadFault → Type 0
IsLoadFault bytes (Text line) = IsFirstWrong bytes line
IsLoadFault bytes (Image fault) = IsRefusedText bytes fault
IsLoadFault bytes Memory = Unit {0}

-- Of private functions: what a builder asks of a block
pub record IsGiven (b : BlockFields) : Type 0 where
  pub few_tuples : length b.tuples ≤ MOST_TUPLES
  pub few_masks : length b.masks ≤ MOST_MASKS
  pub rising : AreIncreasing b.streams

-- what is told of the builder's fault
abbrev pub told : ImageFault → LoadFault
told found.Memory = Memory
told fault = Image fault
