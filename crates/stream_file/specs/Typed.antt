-- Which images have a text.
use Rattle.std.specs.Prelude.{ℕ, ◌≤◌, ◌<◌, length}
use Rattle.bm_base.specs.Machine.{IsMachine}
use Rattle.bm_base.specs.Names.{AreNames}
use Rattle.unit_law.specs.State.{Program, code_at}
use Rattle.stream_image.specs.Image.{IsImage}
use Rattle.stream_file.specs.Fields.{text_of}
use Rattle.stream_file.specs.RowFits.{AreTypedNames, AreTypedTuples}
use Rattle.stream_file.specs.Images.{IsTextOfImage}
use Rattle.stream_file.specs.Written.{fields_of}

-- the ranges that the types of the code give
pub record IsTyped (m : Program) : Type 0 where
  pub machine : IsMachine m.machine
  pub names : AreNames m.names
  pub kinds : AreTypedNames m.names
  pub few : length m.blocks ≤ 4294967296
  pub tuples : (b : ℕ) → b < length m.blocks → AreTypedTuples (code_at m b).tuples

-- the text of the fields of an image within these ranges is the text of this image
abbrev pub ImagesHaveTexts : Type 0
ImagesHaveTexts = (m : Program) → IsImage m → IsTyped m → IsTextOfImage (text_of (fields_of m)) m
