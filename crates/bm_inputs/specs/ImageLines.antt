-- What the faults of an image's text are refused with.
use Rattle.std.specs.Prelude.{ℕ, List, ◌++◌, codes, decimal, Option, None}
use Rattle.stream_image.specs.declared.fault.ImageFault.{ImageFault}
use Rattle.stream_image.specs.declared.fault.ImageFault.TheVariants.{Processor, TupleTwice, TupleMissing, Operand, Cell, Waits}
use Rattle.stream_image.specs.declared.fault.ImageFault.TheVariants.{MaskEmpty, MaskBit, Order, Unordered, Target, Memory}
use Rattle.stream_file.specs.declared.loading.LoadFault.{LoadFault}
use Rattle.stream_file.specs.declared.loading.LoadFault.TheVariants as load
use Rattle.bm_course.specs.declared.status.TheConstants.{IMAGE}
use Rattle.bm_course.specs.Course.{Refused}
use Rattle.bm_inputs.specs.SourceLines.{plain}

-- the refusal of an image with this line
abbrev pub told : List ℕ → Option Refused
told line = plain IMAGE line

-- a number in a block
abbrev pub in_block : List ℕ → ℕ → List ℕ → ℕ → List ℕ → List ℕ
in_block number block what value after = number ++ decimal block ++ what ++ decimal value ++ after

abbrev pub image_refused : ImageFault → Option Refused
image_refused (Processor block p) = told (in_block (codes "error 17: block ") block (codes " processor ") p (codes "\n"))
image_refused (TupleTwice block t) = told (in_block (codes "error 18: block ") block (codes " tuple ") t (codes " twice\n"))
image_refused (TupleMissing block t) = told (in_block (codes "error 19: block ") block (codes " tuple ") t (codes " missing\n"))
image_refused (Operand block t place) = told (codes "error 20: block " ++ decimal block ++ codes " tuple " ++ decimal t
    ++ codes " operand " ++ decimal place ++ codes "\n")
image_refused (Cell block c) = told (in_block (codes "error 21: block ") block (codes " cell ") c (codes "\n"))
image_refused (Waits block p waits masks) = told (codes "error 22: block " ++ decimal block ++ codes " processor " ++ decimal p
    ++ codes " has " ++ decimal waits ++ codes " waits and " ++ decimal masks ++ codes " masks\n")
image_refused (MaskEmpty block m) = told (in_block (codes "error 23: block ") block (codes " mask ") m (codes " is empty\n"))
image_refused (MaskBit block m) = told (in_block (codes "error 24: block ") block (codes " mask ") m (codes " has a foreign bit\n"))
image_refused (Order block a b) = told (codes "error 25: block " ++ decimal block ++ codes " tuple " ++ decimal b
    ++ codes " stands before " ++ decimal a ++ codes "\n")
image_refused (Unordered block a b) = told (codes "error 26: block " ++ decimal block ++ codes " pair " ++ decimal a
    ++ codes " " ++ decimal b ++ codes " is not ordered\n")
image_refused (Target block t) = told (in_block (codes "error 27: block ") block (codes " target ") t (codes "\n"))
image_refused Memory = None

abbrev pub load_refused : LoadFault → Option Refused
load_refused (load.Text line) = told (codes "error 28: image line " ++ decimal line ++ codes "\n")
load_refused (load.Image fault) = image_refused fault
load_refused load.Memory = None
