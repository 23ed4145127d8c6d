-- The status that an image is refused with.
use Rattle.std.proofs.Common.{◌≡◌, ℕ, List, Some, ap, subst, refl}
use Rattle.stream_image.specs.declared.fault.ImageFault.{ImageFault}
use Rattle.stream_image.specs.declared.fault.ImageFault.TheVariants.{Processor, TupleTwice, TupleMissing, Operand, Cell, Waits, MaskEmpty, MaskBit, Order, Unordered, Target, Memory}
use Rattle.stream_file.specs.declared.loading.LoadFault.{LoadFault}
use Rattle.stream_file.specs.declared.loading.LoadFault.TheVariants as load
use Rattle.bm_course.specs.Course.{Refused}
use Rattle.bm_course.specs.Status.{IsOfContent}
use Rattle.bm_inputs.specs.ImageLines.{told, image_refused, load_refused}

five : IsOfContent 5
five = refl

by_line : (line : List ℕ) (r : Refused) → told line ≡ Some r → IsOfContent r.status
by_line line r e =
    let f : record { status = 5; line = line } ≡ r = cc in
    subst IsOfContent (ap (λ x. x.status) f) five

by_image : (e : ImageFault) (r : Refused) → image_refused e ≡ Some r → IsOfContent r.status
by_image (Processor b p) r h = by_line _ r h
by_image (TupleTwice b t) r h = by_line _ r h
by_image (TupleMissing b t) r h = by_line _ r h
by_image (Operand b t p) r h = by_line _ r h
by_image (Cell b c) r h = by_line _ r h
by_image (Waits b p w m) r h = by_line _ r h
by_image (MaskEmpty b m) r h = by_line _ r h
by_image (MaskBit b m) r h = by_line _ r h
by_image (Order n a b) r h = by_line _ r h
by_image (Unordered n a b) r h = by_line _ r h
by_image (Target b t) r h = by_line _ r h
by_image Memory r h = let no : ⊥ = cc in absurd no

pub load_refusal : (e : LoadFault) (r : Refused) → load_refused e ≡ Some r → IsOfContent r.status
load_refusal (load.Text line) r h = by_line _ r h
load_refusal (load.Image fault) r h = by_image fault r h
load_refusal load.Memory r h = let no : ⊥ = cc in absurd no
