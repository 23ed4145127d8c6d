-- The end of a run is one of the serial meaning.
use Rattle.std.proofs.Common.{◌≡◌, ◌+◌, ℤ, List, Some, refl, sym, subst, ◌∙◌}
use Rattle.bm_base.specs.Memory.{Content}
use Rattle.tuple_ir.specs.Serial.{outcome}
use Rattle.unit_law.specs.State.{Program, Mode, In, Entering, Ended, State}
use Rattle.unit_law.specs.Determinate.{EndsAs}
use Rattle.run_text.specs.RunUpTo.{End, end_of}
use Rattle.run_text.specs.Serial.{EndsSerially}

pub ends_serially : (m : Program) (memory : List Content) (s : State) (mode : Mode) (output : List ℤ) (e : End) → output ≡ s.world.output → end_of s mode ≡ Some e → (mode ≡ Ended → EndsAs (outcome m.blocks memory (s.clock + 1)) s) → EndsSerially m memory output e
ends_serially m memory s (In b) output e o h k = let no : ⊥ = cc in absurd no
ends_serially m memory s (Entering b) output e o h k = let no : ⊥ = cc in absurd no
ends_serially m memory s Ended output e o h k =
    let same : record { clock = s.clock; memory = s.world.memory } ≡ e = cc in
    let a = k refl in
    subst (EndsSerially m memory output) same (record { ended = a.ended; memory_is = a.memory; output_is = a.output ∙ sym o })
