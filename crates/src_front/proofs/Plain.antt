-- The declarations of a derived tree are named well.
use Rattle.std.proofs.Common.{zero, suc, List, [], ◌∷◌, arith}
use Rattle.src_tree.specs.declared.tree.Decl.{Decl}
use Rattle.src_tree.specs.Plain.{ArePlainDecls}
use Rattle.src_names.specs.Declarations.{AreNamedWell}
use Rattle.src_names.proofs.Some.{named_well}

pub are_named_well : (ds : List Decl) → ArePlainDecls ds → AreNamedWell ds
are_named_well [] h k z lt = absurd (omega arith)
are_named_well (x ∷ ds) h zero z lt = named_well x h.0
are_named_well (x ∷ ds) h (suc k) z lt = are_named_well ds h.1 k z (omega arith)
