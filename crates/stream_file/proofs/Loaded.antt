-- From the fields that were read to the image that is built.
use Rattle.std.proofs.Common.{◌≡◌, ℕ, ◌+◌, ◌<◌, ◌≤◌, suc, refl, sym, subst, ◌∙◌, arith, List, [], ◌∷◌, length, Some, None, ◌⊎◌, inl, inr, length-append}
use Rattle.std.specs.Prelude.{◌&&◌, nat_le, nat_eq, true, false}
use Rattle.std.proofs.lemmas.Bool.Decides.{nat_tests}
use Rattle.std.specs.List.{AllByRecursion}
use Rattle.bm_base.specs.Machine.{IsMachine, IsTime}
use Rattle.unit_law.specs.State.{Program}
use Rattle.stream_image.specs.declared.given.Stream.{Stream}
use Rattle.stream_image.specs.declared.fault.ImageFault.{ImageFault}
use Rattle.stream_image.specs.declared.fault.ImageFault.TheVariants as found
use Rattle.stream_image.specs.Line.{AreIncreasing}
use Rattle.stream_image.proofs.Accepted.{not_both}
use Rattle.std.proofs.Common.{Option, SomeIff}
use Rattle.bm_base.proofs.StrictTexts.{both_true, chosen, some_same}
use Rattle.std.proofs.Common.{get_or}
use Rattle.bm_base.specs.declared.spec.Interval.{Interval}
use Rattle.stream_file.specs.Fields.{Fields, BlockFields, BlockFits, AreAbove, HeadFits, fits_processors, fits_barrier}
use Rattle.stream_file.specs.Images.{block_of, head_of, with_fields, with_all, AllTaken, IsFirstDenied, AreTaken, IsFirstCause, denied, astray, IsRefusedText, IsLoadFault, IsGiven, told}

-- ---- what a builder asks

above_all : (least p : ℕ) (ss : List Stream) → p < least → AreAbove least ss → AllByRecursion (λ (s : Stream). p < s.processor) ss
above_all least p [] l h = tt
above_all least p (s ∷ ss) l h = (omega (arith, h.0), above_all (suc s.processor) p ss (omega (arith, h.0)) h.1)

pub increasing : (least : ℕ) (ss : List Stream) → AreAbove least ss → AreIncreasing ss
increasing least [] h = tt
increasing least (s ∷ ss) h = (above_all (suc s.processor) s.processor ss (omega arith) h.1, increasing (suc s.processor) ss h.1)

pub given : (v : ℕ) (bs : List BlockFields) → AllByRecursion (BlockFits v) bs → AllByRecursion IsGiven bs
given v [] h = tt
given v (b ∷ bs) h = (record { few_tuples = h.0.open_fits.few_tuples; few_masks = h.0.open_fits.few_masks; rising = increasing 0 b.streams h.0.open_fits.rising }, given v bs h.1)

processors_low : (v n : ℕ) → fits_processors v n ≡ true → (1 ≤ n) × (n ≤ 128)
processors_low v n h = elim (chosen (nat_eq v 3) (nat_le 65 n && nat_le n 128) (nat_le 1 n && nat_le n 64) true h) [
  | inl p ↦ (let k = both_true (nat_le 65 n) (nat_le n 128) p.1 in let a : 65 ≤ n = grind (arith, nat_tests) in let b : n ≤ 128 = grind (arith, nat_tests) in (omega arith, b))
  | inr p ↦ (let k = both_true (nat_le 1 n) (nat_le n 64) p.1 in let a : 1 ≤ n = grind (arith, nat_tests) in let b : n ≤ 64 = grind (arith, nat_tests) in (a, omega arith))
]

barrier_low : (v d : ℕ) → fits_barrier v d ≡ true → d ≤ 100
barrier_low v d h = elim (chosen (nat_eq v 3) (nat_le d 100) (nat_le 1 d && nat_le d 100) true h) [
  | inl p ↦ grind (arith, nat_tests)
  | inr p ↦ (let k = both_true (nat_le 1 d) (nat_le d 100) p.1 in grind (arith, nat_tests))
]

head_barrier : (v n d : ℕ) → HeadFits v n d → d ≤ 100
head_barrier v n d h = elim (nat_eq v 1) as (λ t. nat_eq v 1 ≡ t → d ≤ 100) [
  | true ↦ λ e. (let s : v ≡ 1 = grind (arith, nat_tests) in let z = h.barrier_fits.0 s in omega arith)
  | false ↦ λ e. barrier_low v d (h.barrier_fits.1 (λ s. apart v s e))
] refl
  where
    apart : (v : ℕ) → v ≡ 1 → nat_eq v 1 ≡ false → ⊥
    apart v s e = grind (arith, nat_tests)

pub head_machine : (v p d : ℕ) (times : List Interval) → HeadFits v p d → length times ≡ 9 → AllByRecursion IsTime times → IsMachine (record { processors = p; delay = d; times = times })
head_machine v p d times h count each =
    let n = processors_low v p h.processors_fit in
    record { some = n.0; few = n.1; quick = head_barrier v p d h; count = count; each = each }

-- ---- blocks, one by one

pub long_all : (m : Program) (bs : List BlockFields) → length (with_all m bs).blocks ≡ length m.blocks + length bs
long_all m [] = omega arith
long_all m (b ∷ bs) = omega (arith, long_all (with_fields m b) bs, length-append m.blocks (block_of b ∷ []))

-- ---- taken and refused

pub never_both : (m : Program) (bs : List BlockFields) (fault : ImageFault) → AllTaken m bs → IsFirstDenied m bs fault → ⊥
never_both m [] fault h k = k
never_both m (b ∷ bs) fault h (inl k) = not_both m (block_of b) b.streams b.masks fault k h.0
never_both m (b ∷ bs) fault h (inr k) = never_both (with_fields m b) bs fault h.1 k.1

pub taken_or_not : (f : Fields) (fault : ImageFault) → AreTaken f → IsFirstCause f fault → ⊥
taken_or_not f fault h (denied k) = never_both (head_of f) f.blocks fault h.each k
taken_or_not f fault h (astray k e) = absurd (cc)

pub told_is : (bytes : List ℕ) (f : ImageFault) → (f ≡ found.Memory) ⊎ IsRefusedText bytes f → IsLoadFault bytes (told f)
told_is bytes (found.Processor b p) (inr k) = k
told_is bytes (found.TupleTwice b t) (inr k) = k
told_is bytes (found.TupleMissing b t) (inr k) = k
told_is bytes (found.Operand b t p) (inr k) = k
told_is bytes (found.Cell b c) (inr k) = k
told_is bytes (found.Waits b p w m) (inr k) = k
told_is bytes (found.MaskEmpty b m) (inr k) = k
told_is bytes (found.MaskBit b m) (inr k) = k
told_is bytes (found.Order n a b) (inr k) = k
told_is bytes (found.Unordered n a b) (inr k) = k
told_is bytes (found.Target b t) (inr k) = k
told_is bytes found.Memory k = tt
told_is bytes f (inl e) = subst (λ (g : ImageFault). IsLoadFault bytes (told g)) (sym e) tt

-- nine times are their list
pub nine_are : (ts : List Interval) → length ts ≡ 9 → (d : Interval) → get_or ts 0 d ∷ get_or ts 1 d ∷ get_or ts 2 d ∷ get_or ts 3 d ∷ get_or ts 4 d ∷ get_or ts 5 d ∷ get_or ts 6 d ∷ get_or ts 7 d ∷ get_or ts 8 d ∷ [] ≡ ts
nine_are (a ∷ b ∷ c ∷ d ∷ e ∷ f ∷ g ∷ h ∷ i ∷ []) l x = refl
nine_are [] l x = absurd (omega arith)
nine_are (a ∷ []) l x = absurd (omega arith)
nine_are (a ∷ b ∷ []) l x = absurd (omega arith)
nine_are (a ∷ b ∷ c ∷ []) l x = absurd (omega arith)
nine_are (a ∷ b ∷ c ∷ d ∷ []) l x = absurd (omega arith)
nine_are (a ∷ b ∷ c ∷ d ∷ e ∷ []) l x = absurd (omega arith)
nine_are (a ∷ b ∷ c ∷ d ∷ e ∷ f ∷ []) l x = absurd (omega arith)
nine_are (a ∷ b ∷ c ∷ d ∷ e ∷ f ∷ g ∷ []) l x = absurd (omega arith)
nine_are (a ∷ b ∷ c ∷ d ∷ e ∷ f ∷ g ∷ h ∷ []) l x = absurd (omega arith)
nine_are (a ∷ b ∷ c ∷ d ∷ e ∷ f ∷ g ∷ h ∷ i ∷ j ∷ ks) l x = absurd (omega arith)

pub made_is : {A : Type 0} (o : Option A) (r v : A) (P : Type 0) → SomeIff o P v → P → o ≡ Some r → r ≡ v
made_is None r v P h p e = absurd (h p)
made_is (Some x) r v P h p e = sym (some_same e) ∙ h.1
