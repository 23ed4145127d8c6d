use Rattle.std.proofs.Common.{◌≡◌, ◌++◌, drop}
use Rattle.src_tree.specs.Text.{body_text}
use Rattle.src_tree.proofs.text.+write_statements.Given as goal

abbrev pub invariant-write_body-loop-stmt : goal.invariant-write_body-loop-stmt
invariant-write_body-loop-stmt l = l.out.items ++ body_text (drop l.stmt-index l.body) ≡ l.initial.out.items ++ body_text l.body
