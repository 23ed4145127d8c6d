-- The choice of each kind of unit is lawful.
use Rattle.unit_law.specs.State.{Program}
use Rattle.unit_law.specs.Units.{static_choice, dynamic_choice}
use Rattle.unit_law.specs.OnUnit.{IsLawfulChoice}
use Rattle.run_text.specs.declared.kind.UnitKind.{UnitKind}
use Rattle.run_text.specs.declared.kind.UnitKind.TheVariants.{Static, Dynamic}
use Rattle.run_text.specs.RunText.{choice_of}

pub lawful : (m : Program) → IsLawfulChoice static_choice m → IsLawfulChoice dynamic_choice m → (kind : UnitKind) → IsLawfulChoice (choice_of kind) m
lawful m h k Static = h
lawful m h k Dynamic = k
