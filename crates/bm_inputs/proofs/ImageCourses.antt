-- The course of an image: it comes to one step, its refusals have their status, and what it gives is an image.
use Rattle.std.proofs.Common.{◌≤◌, ◌<◌, ◌^◌, ℕ, List, length, refl, subst, arith}
use Rattle.bm_base.specs.declared.limits.TheConstants.{MOST_IMAGE_BYTES}
use Rattle.bm_io.specs.Files.{Held}
use Rattle.unit_law.specs.State.{Program}
use Rattle.stream_image.specs.Image.{IsImage}
use Rattle.stream_file.specs.Images.{IsTextOfImage}
use Rattle.stream_file.specs.Laws.{TextsHaveOneAnswer}
use Rattle.bm_inputs.proofs.FewBlocks.{few_blocks}
use Rattle.bm_course.specs.Course.{Refused, judge}
use Rattle.bm_course.specs.Limited.{limited}
use Rattle.bm_course.specs.Laws.{IsDetermined, Settles, Bounds}
use Rattle.bm_course.specs.Status.{IsOfContent}
use Rattle.bm_course.proofs.Settling.{limited-determined, then-determined, judge-determined}
use Rattle.bm_course.proofs.Leading.{limited-settles, then-settles, judge-settles}
use Rattle.bm_course.proofs.Bounds.{then-bounds, judge-bounds, limited-bounds}
use Rattle.bm_inputs.specs.Images.{LoadsImage, loaded_course}
use Rattle.bm_inputs.proofs.ImageStatuses.{load_refusal}
use Rattle.bm_inputs.proofs.Verdicts.{loads_once, loads_some}
use Rattle.bm_inputs.proofs.Lawful.{image_of_fields}

pub loaded-determined : TextsHaveOneAnswer → (name : List ℕ) → IsDetermined (loaded_course name)
loaded-determined one name = then-determined (limited name MOST_IMAGE_BYTES) (λ bytes. judge (LoadsImage bytes)) (limited-determined name MOST_IMAGE_BYTES) (λ bytes. judge-determined (LoadsImage bytes) (loads_once one bytes))

pub loaded-settles : TextsHaveOneAnswer → (held : Held) (name : List ℕ) → Settles held (loaded_course name)
loaded-settles one held name =
    then-settles held (λ x. Unit {0}) (limited name MOST_IMAGE_BYTES) (λ bytes. judge (LoadsImage bytes)) (λ contents rest x h. tt) (limited-settles held name MOST_IMAGE_BYTES)
    (λ bytes t. judge-settles held (LoadsImage bytes) (loads_some one bytes))

abbrev refusal : Refused → Type 0
refusal r = IsOfContent r.status

three : IsOfContent 3
three = refl

image_of_bytes : (bytes : List ℕ) → length bytes ≤ MOST_IMAGE_BYTES → (m : Program) → IsTextOfImage bytes m → IsImage m
image_of_bytes bytes l m h =
    let few = few_blocks bytes h.fields h.text in
    let short : length h.fields.blocks < 2 ^ 32 = omega arith in
    subst IsImage h.image (image_of_fields h.fields h.text.fits short h.taken)

pub loaded-bounds : (name : List ℕ) → Bounds refusal IsImage (loaded_course name)
loaded-bounds name =
    then-bounds refusal (λ x. length x ≤ MOST_IMAGE_BYTES) IsImage (limited name MOST_IMAGE_BYTES) (λ bytes. judge (LoadsImage bytes)) (limited-bounds refusal name MOST_IMAGE_BYTES three)
    (λ bytes l. judge-bounds refusal IsImage (LoadsImage bytes) (image_of_bytes bytes l) (λ r h. load_refusal h.0 r h.2))
