-- What holds of every tree and its resolved program.
use Rattle.std.specs.Prelude.{◌≡◌}
use Rattle.src_tree.specs.declared.tree.Program.{Program}
use Rattle.src_tree.specs.Laws.{HasPlainParts}
use Rattle.src_names.specs.declared.fault.NameFault.{NameFault}
use Rattle.src_names.specs.RProgram.{RProgram}
use Rattle.src_names.specs.Named.{IsNamed}
use Rattle.src_names.specs.Fault.{Faults}

-- a tree is named by at most one resolved program
abbrev pub HaveOneProgram : Type 0
HaveOneProgram = (p : Program) (r q : RProgram) → IsNamed p r → IsNamed p q → r ≡ q

-- what a tree is: named by a program, or one with a first fault
pub data Answer (p : Program) : Type 0 where
  program : {r : RProgram} → IsNamed p r → Answer p
  fault : {e : NameFault} → Faults p e → Answer p

-- a tree whose identifiers and numbers are as they are read is one of the two; no tree is both, or has another first fault
pub record HaveOneAnswer : Type 0 where
  pub some : (p : Program) → HasPlainParts p → Answer p
  pub not_both : (p : Program) (r : RProgram) (e : NameFault) → IsNamed p r → Faults p e → ⊥
  pub one_fault : (p : Program) (d e : NameFault) → Faults p d → Faults p e → d ≡ e
