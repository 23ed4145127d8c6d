-- The image of a file.
use Rattle.std.specs.Prelude.{ℕ, ◌≡◌, List, Result, Ok, Err, Some}
use Rattle.bm_base.specs.declared.limits.TheConstants.{MOST_IMAGE_BYTES}
use Rattle.unit_law.specs.State.{Program}
use Rattle.stream_file.specs.declared.loading.LoadFault.{LoadFault}
use Rattle.stream_file.specs.Images.{IsTextOfImage, IsLoadFault}
use Rattle.bm_course.specs.Course.{Refused, Course, ◌>>=◌, judge}
use Rattle.bm_course.specs.Limited.{limited}
use Rattle.bm_inputs.specs.ImageLines.{load_refused}

-- the image whose text the bytes are, or what their first fault is refused with
abbrev pub LoadsImage : List ℕ → Result Program Refused → Type 0
LoadsImage bytes (Ok image) = IsTextOfImage bytes image
LoadsImage bytes (Err r) = (fault : LoadFault) × IsLoadFault bytes fault × (load_refused fault ≡ Some r)

abbrev pub loaded_course : List ℕ → Course Program
loaded_course name = do
  bytes ← limited name MOST_IMAGE_BYTES
  judge (LoadsImage bytes)

-- what the code keeps of it is the image itself
abbrev pub IsLoaded : Program → Program → Type 0
IsLoaded kept image = kept ≡ image
