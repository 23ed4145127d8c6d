-- Bytes are loaded as one image, or refused for one cause.
use Rattle.std.proofs.Common.{◌≡◌, ℕ, refl, sym, ap, subst, ◌∙◌, List, Ok, Err, Result, ◌⊎◌, inl, inr}
use Rattle.std.specs.Prelude.{IfOk, IfErr, MatchResult}
use Rattle.unit_law.specs.State.{Program}
use Rattle.stream_image.specs.declared.fault.ImageFault.{ImageFault}
use Rattle.stream_file.specs.declared.loading.LoadFault.{LoadFault}
use Rattle.stream_file.specs.declared.loading.LoadFault.TheVariants.{Text, Image, Memory}
use Rattle.stream_file.specs.Fields.{Fields, IsTextOf}
use Rattle.stream_file.specs.First.{IsFirstWrong}
use Rattle.stream_file.specs.Images.{program_of, AreTaken, IsFirstCause, IsTextOfImage, IsRefusedText, IsLoadFault}
use Rattle.stream_file.proofs.Answering.{one_image, one_first}
use Rattle.stream_file.proofs.Loaded.{taken_or_not}
use Rattle.stream_file.proofs.OneCause.{one_cause}

module _ (bytes : List ℕ) where
  same_fields : (f g : Fields) → IsTextOf bytes f → IsTextOf bytes g → f ≡ g
  same_fields f g h k = one_image bytes f g h k

  pub only : (r : Result Program LoadFault) → IfOk r (λ m. IsTextOfImage bytes m) → IfErr r (λ e. IsLoadFault bytes e) → (m : Program) → IsTextOfImage bytes m → MatchResult r (λ image. image ≡ m) (λ e. e ≡ Memory)
  only (Ok image) h k m t = sym h.image ∙ ap program_of (same_fields h.fields t.fields h.text t.text) ∙ t.image
  only (Err (Text line)) h k m t = absurd (k.no_text t.fields t.text)
  only (Err (Image fault)) h k m t = absurd (taken_or_not k.fields fault (subst AreTaken (same_fields t.fields k.fields t.text k.text) t.taken) k.cause)
  only (Err Memory) h k m t = refl

  pub only_text : (r : Result Program LoadFault) → IfOk r (λ m. IsTextOfImage bytes m) → IfErr r (λ e. IsLoadFault bytes e) → (line : ℕ) → IsFirstWrong bytes line → MatchResult r (λ _. ⊥) (λ e. (e ≡ Text line) ⊎ (e ≡ Memory))
  only_text (Ok image) h k line w = w.no_text h.fields h.text
  only_text (Err (Text n)) h k line w = inl (ap Text (one_first bytes n line k w))
  only_text (Err (Image fault)) h k line w = absurd (w.no_text k.fields k.text)
  only_text (Err Memory) h k line w = inr refl

  pub only_image : (r : Result Program LoadFault) → IfOk r (λ m. IsTextOfImage bytes m) → IfErr r (λ e. IsLoadFault bytes e) → (f : ImageFault) → IsRefusedText bytes f → MatchResult r (λ _. ⊥) (λ e. (e ≡ Image f) ⊎ (e ≡ Memory))
  only_image (Ok image) h k f t = taken_or_not t.fields f (subst AreTaken (same_fields h.fields t.fields h.text t.text) h.taken) t.cause
  only_image (Err (Text n)) h k f t = absurd (k.no_text t.fields t.text)
  only_image (Err (Image g)) h k f t = inl (ap Image (one_cause t.fields g f (subst (λ (x : Fields). IsFirstCause x g) (same_fields k.fields t.fields k.text t.text) k.cause) t.cause))
  only_image (Err Memory) h k f t = inr refl
