-- The bytes of an image have one verdict.
use Rattle.std.proofs.Common.{◌≡◌, ℕ, List, Some, Ok, Err, refl, sym, ap, subst, ◌∙◌, ◌⊎◌, inl, inr}
use Rattle.unit_law.specs.State.{Program}
use Rattle.stream_image.specs.declared.fault.ImageFault.{ImageFault}
use Rattle.stream_file.specs.declared.loading.LoadFault.{LoadFault}
use Rattle.stream_file.specs.declared.loading.LoadFault.TheVariants.{Text, Image, Memory}
use Rattle.stream_file.specs.Fields.{Fields, IsTextOf}
use Rattle.stream_file.specs.Laws.{Answer, text, wrong, TextsHaveOneAnswer}
use Rattle.stream_file.specs.Images.{program_of, AreTaken, IsFirstCause, IsTextOfImage, IsRefusedText, IsLoadFault}
use Rattle.stream_file.proofs.Loaded.{taken_or_not}
use Rattle.bm_course.specs.Course.{Refused}
use Rattle.bm_course.specs.Laws.{HasOneVerdict, HasSomeVerdict}
use Rattle.bm_inputs.specs.ImageLines.{load_refused}
use Rattle.bm_inputs.specs.Images.{LoadsImage}
use Rattle.bm_inputs.proofs.Causes.{one_cause, First, taken_or_refused}

module _ (one : TextsHaveOneAnswer) (bytes : List ℕ) where
  same : (f g : Fields) → IsTextOf bytes f → IsTextOf bytes g → f ≡ g
  same = one.one_image bytes

  image_once : (m n : Program) → IsTextOfImage bytes m → IsTextOfImage bytes n → m ≡ n
  image_once m n h k = sym h.image ∙ ap program_of (same h.fields k.fields h.text k.text) ∙ k.image

  not_refused : (m : Program) (fault : ImageFault) → IsTextOfImage bytes m → IsRefusedText bytes fault → ⊥
  not_refused m fault h k = taken_or_not k.fields fault (subst AreTaken (same h.fields k.fields h.text k.text) h.taken) k.cause

  cause_once : (x y : ImageFault) → IsRefusedText bytes x → IsRefusedText bytes y → x ≡ y
  cause_once x y h k = one_cause k.fields x y (subst (λ (f : Fields). IsFirstCause f x) (same h.fields k.fields h.text k.text) h.cause) k.cause

  not_fault : (m : Program) (fault : LoadFault) (r : Refused) → IsTextOfImage bytes m → IsLoadFault bytes fault → load_refused fault ≡ Some r → ⊥
  not_fault m (Text line) r h k e = one.not_both bytes h.fields line h.text k
  not_fault m (Image fault) r h k e = not_refused m fault h k
  not_fault m Memory r h k e = cc

  fault_once : (x y : LoadFault) (r q : Refused) → IsLoadFault bytes x → load_refused x ≡ Some r → IsLoadFault bytes y → load_refused y ≡ Some q → x ≡ y
  fault_once (Text m) (Text n) r q h e k f = ap Text (one.one_line bytes m n h k)
  fault_once (Text m) (Image y) r q h e k f = absurd (one.not_both bytes k.fields m k.text h)
  fault_once (Image x) (Text n) r q h e k f = absurd (one.not_both bytes h.fields n h.text k)
  fault_once (Image x) (Image y) r q h e k f = ap Image (cause_once x y h k)
  fault_once Memory y r q h e k f = let no : ⊥ = cc in absurd no
  fault_once (Text m) Memory r q h e k f = let no : ⊥ = cc in absurd no
  fault_once (Image x) Memory r q h e k f = let no : ⊥ = cc in absurd no

  pub loads_once : HasOneVerdict (LoadsImage bytes)
  loads_once (Ok m) (Ok n) h k = ap Ok (image_once m n h k)
  loads_once (Ok m) (Err r) h k = absurd (not_fault m k.0 r h k.1 k.2)
  loads_once (Err r) (Ok m) h k = absurd (not_fault m h.0 r k h.1 h.2)
  loads_once (Err r) (Err q) h k =
      let d : h.0 ≡ k.0 = fault_once h.0 k.0 r q h.1 h.2 k.1 k.2 in
      let f : Some r ≡ Some q = sym h.2 ∙ ap load_refused d ∙ k.2 in
      let g : r ≡ q = cc in
      ap Err g

  pub loads_some : HasSomeVerdict (LoadsImage bytes)
  loads_some = by (one.some bytes)
    where
      by : Answer bytes → HasSomeVerdict (LoadsImage bytes)
      by (wrong line h) = (Err _, (Text line, h, refl))
      by (text f h) = elim (taken_or_refused f h.fits) [
        | inl t ↦ (Ok (program_of f), record { fields = f; text = h; taken = t; image = refl })
        | inr c ↦ (Err c.told.0, (Image c.fault, record { fields = f; text = h; cause = c.cause }, c.told.1))
      ]
