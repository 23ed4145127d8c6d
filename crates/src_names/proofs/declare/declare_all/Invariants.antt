use Rattle.std.proofs.Common.{take}
use Rattle.src_names.specs.Declarations.{AreDeclared}
use Rattle.bm_base.specs.Names.{AreInRange}
use Rattle.src_names.proofs.declare.declare_all.Given as goal

abbrev pub invariant-loop-decl : goal.invariant-loop-decl
invariant-loop-decl l = record { declared : AreDeclared (take l.decl-index l.decls) l.names; range : AreInRange l.names }
