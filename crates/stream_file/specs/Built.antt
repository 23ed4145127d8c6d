-- Of private functions: what the blocks of a text make, as they are read.
use Rattle.std.specs.Prelude.{ℕ, ◌≡◌, ◌≤◌, ◌<◌, ◌-◌, ◌^◌, ◌⊎◌, List, [], length, IfSome, Option, Some, None, Result, Ok, Err}
use Rattle.bm_base.specs.Machine.{IsMachine}
use Rattle.unit_law.specs.State.{Program}
use Rattle.stream_image.specs.declared.fault.ImageFault.{ImageFault}
use Rattle.stream_image.specs.declared.fault.ImageFault.TheVariants as found
use Rattle.stream_image.specs.Refused.{target_fault}
use Rattle.stream_file.specs.declared.draft.Draft as code
use Rattle.stream_file.specs.declared.draft.BlockDraft.{BlockDraft}
use Rattle.stream_file.specs.declared.built.Made.{Made}
use Rattle.stream_file.specs.declared.built.Made.TheVariants.{Nothing, Image, Fault}
use Rattle.stream_file.specs.declared.built.Built.{Built}
use Rattle.stream_file.specs.declared.fault.ReadFault.{ReadFault}
use Rattle.stream_file.specs.declared.fault.ReadFault.TheVariants.{Text, Memory}
use Rattle.stream_file.specs.Fields.{BlockFields, Fields, IsTextOf}
use Rattle.stream_file.specs.First.{IsFirstWrong}
use Rattle.stream_file.specs.Drafted.{block_fields, machine_drafted}
use Rattle.stream_file.specs.Images.{head_of, with_all, AllTaken, IsFirstDenied, IsGiven}

-- all of these blocks are taken behind an image, and it has become this
pub record AreBuilt (head : Program) (blocks : List BlockFields) (image : Program) : Type 0 where
  pub value : image ≡ with_all head blocks
  pub taken : AllTaken head blocks

-- what these blocks make behind this image: nothing where there are none; else their image, where all are taken; else the cause for
-- which the first of them is refused, or want of memory
abbrev pub Makes : Program → List BlockFields → Made → Type 0
Makes head blocks Nothing = blocks ≡ []
Makes head blocks (Image image) = (1 ≤ length blocks) × AreBuilt head blocks image
Makes head blocks (Fault f) = (f ≡ found.Memory) ⊎ IsFirstDenied head blocks f

-- .. and how many they are
pub record Builds (head : Program) (blocks : List BlockFields) (built : Built) : Type 0 where
  pub count : length blocks ≡ built.blocks
  pub made : Makes head blocks built.made

-- what is asked of a block that is given to what was made
abbrev pub HasRoom : Made → Type 0
HasRoom Nothing = Unit {0}
HasRoom (Image image) = length image.blocks < 2 ^ 32 - 1
HasRoom (Fault f) = Unit {0}

pub record IsOffered (draft : code.Draft) (made : Made) (block : BlockDraft) : Type 0 where
  pub machine : IsMachine (machine_drafted draft)
  pub given : IsGiven (block_fields block)
  pub room : HasRoom made

-- .. where a line ends one
pub record MayEnd (draft : code.Draft) (built : Built) (ended : Option BlockDraft) : Type 0 where
  pub offered : IfSome ended (IsOffered draft built.made)
  pub few : IfSome ended (λ block. built.blocks < 2 ^ 32 - 1)

-- there is a block
abbrev pub IsBegun : Made → Type 0
IsBegun Nothing = ⊥
IsBegun (Image image) = 1 ≤ length image.blocks
IsBegun (Fault f) = Unit {0}

-- the image of all blocks, or the first cause why there is none, or want of memory
pub record IsWhole (head : Program) (blocks : List BlockFields) (image : Program) : Type 0 where
  pub value : image ≡ with_all head blocks
  pub taken : AllTaken head blocks
  pub targets : target_fault (with_all head blocks).blocks ≡ None

pub data IsNone (head : Program) (blocks : List BlockFields) (f : ImageFault) : Type 0 where
  memory : f ≡ found.Memory → IsNone head blocks f
  denied : IsFirstDenied head blocks f → IsNone head blocks f
  astray : AllTaken head blocks → target_fault (with_all head blocks).blocks ≡ Some f → IsNone head blocks f

abbrev pub Ends : Program → List BlockFields → Result Program ImageFault → Type 0
Ends head blocks (Ok image) = IsWhole head blocks image
Ends head blocks (Err f) = IsNone head blocks f

-- the bytes are the text of fields whose blocks make this
pub record IsReadAs (bytes : List ℕ) (built : Built) : Type 0 where
  pub fields : Fields
  pub text : IsTextOf bytes fields
  pub made : Makes (head_of fields) fields.blocks built.made

-- what bytes are read as, or the first line that cannot stand, unless memory ran out
abbrev pub Reads : List ℕ → Result Built ReadFault → Type 0
Reads bytes (Ok built) = IsReadAs bytes built
Reads bytes (Err (Text line)) = IsFirstWrong bytes line
Reads bytes (Err Memory) = Unit {0}
