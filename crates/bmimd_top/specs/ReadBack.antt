-- What `compile` writes is what `run` reads.
use Rattle.std.specs.Prelude.{ℕ, ◌≤◌, List, length}
use Rattle.bm_base.specs.declared.limits.TheConstants.{MOST_SOURCE_BYTES}
use Rattle.bm_base.specs.Machine.{Machine, IsMachine}
use Rattle.unit_law.specs.State.{Program}
use Rattle.stream_file.specs.Fields.{text_of}
use Rattle.stream_file.specs.Images.{IsTextOfImage}
use Rattle.stream_file.specs.Written.{fields_of}
use Rattle.src_names.specs.RProgram.{RProgram}
use Rattle.src_front.specs.Reads.{Reads}
use Rattle.compiled_image.specs.Compiled.{IsCompiled}

-- the text that is written of the image of a source within its limit is the text of this image
abbrev pub ImagesAreReadBack : Type 0
ImagesAreReadBack = (source : List ℕ) (p : RProgram) (machine : Machine) (image : Program) → length source ≤ MOST_SOURCE_BYTES
    → Reads source p → IsMachine machine → IsCompiled machine p image → IsTextOfImage (text_of (fields_of image)) image
