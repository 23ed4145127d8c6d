use Rattle.std.proofs.Common.{◌≡◌, ◌++◌, drop, map}
use Rattle.src_tree.specs.Text.{joined, decl_text}
use Rattle.src_tree.proofs.text.write_decls.Given as goal

abbrev pub invariant-loop-decl : goal.invariant-loop-decl
invariant-loop-decl l = l.out.items ++ joined (map decl_text (drop l.decl-index l.decls)) ≡ l.initial.out.items ++ joined (map decl_text l.decls)
