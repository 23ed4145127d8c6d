-- A run that has ended, and the source that is done, tell of the same.
use Rattle.std.proofs.Common.{◌≡◌, ℕ, ◌≤◌, List, Some, refl, sym, ap, ◌∙◌, ◌⊎◌, inl, inr, arith}
use Rattle.bm_base.specs.Memory.{Content, initial}
use Rattle.unit_law.specs.State.{Mode, In, Entering, Ended, State}
use Rattle.run_text.specs.RunUpTo.{End, end_of}
use Rattle.src_names.specs.RProgram.{RProgram}
use Rattle.src_meaning.specs.declared.evaluate.End.TheVariants.{Done}
use Rattle.src_meaning.specs.Meaning.{Outcome, meaning}
use Rattle.src_meaning.specs.Laws.{DoneStays}
use Rattle.compiled_image.specs.Faithful.{IsDoneIn}
use Rattle.soak_text.specs.Lines.{Shown}
use Rattle.soak_text.specs.Soak.{turns, outcome_of}
use Rattle.soak_text.specs.Agree.{AgreesWith}

-- an end that is shown is that of a state that has ended
pub mode_is : (s : State) (mode : Mode) (e : End) → end_of s mode ≡ Some e → mode ≡ Ended
mode_is s (In b) e h = let no : ⊥ = cc in absurd no
mode_is s (Entering b) e h = let no : ⊥ = cc in absurd no
mode_is s Ended e h = refl

pub memory_is : (s : State) (mode : Mode) (e : End) → end_of s mode ≡ Some e → s.world.memory ≡ e.memory
memory_is s (In b) e h = let no : ⊥ = cc in absurd no
memory_is s (Entering b) e h = let no : ⊥ = cc in absurd no
memory_is s Ended e h = let same : record { clock = s.clock; memory = s.world.memory } ≡ e = cc in ap (λ x. x.memory) same

-- outcomes that are done, within whatever turns, have one output and one memory
pub record SameDone (a b : Outcome) : Type 0 where
  pub output : a.output ≡ b.output
  pub memory : a.memory ≡ b.memory

either_way : (m n : ℕ) → (m ≤ n) ⊎ (n ≤ m)
either_way m n = grind arith

module _ (stays : DoneStays) (p : RProgram) (memory : List Content) where
  pub same_done : (m n : ℕ) → (meaning p memory m).end ≡ Done → (meaning p memory n).end ≡ Done → SameDone (meaning p memory m) (meaning p memory n)
  same_done m n h k = elim (either_way m n) [
    | inl l ↦ let s = stays p memory m n h l in record { output = sym s.output; memory = sym s.memory }
    | inr l ↦ let s = stays p memory n m k l in record { output = s.output; memory = s.memory }
  ]

  pub agrees : (s : State) (shown : Shown) (e : End) → memory ≡ initial p.names → IsDoneIn (meaning p memory s.clock) s → shown.output ≡ s.world.output → s.world.memory ≡ e.memory → (meaning p memory turns).end ≡ Done → AgreesWith p shown e
  agrees s shown e first done output held h =
      let o : meaning p memory turns ≡ outcome_of p = ap (λ m. meaning p m turns) first in
      let same = same_done s.clock turns done.done h in
      record {
        output = output ∙ sym done.output ∙ same.output ∙ ap (λ x. x.output) o;
        memory = sym held ∙ sym done.memory ∙ same.memory ∙ ap (λ x. x.memory) o;
      }
