use Rattle.std.proofs.Common.{List, ◌++◌, drop}
use Rattle.src_names.specs.declared.resolved.RStmt.{RStmt}
use Rattle.src_names.specs.declared.fault.NameFault.{NameFault}
use Rattle.src_names.specs.Named.{NamedBody}
use Rattle.src_names.specs.Fault.{body_uses}
use Rattle.src_names.specs.Stops.{Stops}
use Rattle.src_names.proofs.body.+name.Given as goal

abbrev pub invariant-name_body-loop-stmt : goal.invariant-name_body-loop-stmt
invariant-name_body-loop-stmt l = record {
  named : (zs : List RStmt) → NamedBody l.names (drop l.stmt-index l.body) zs → NamedBody l.names l.body (l.named ++ zs);
  stops : (f : NameFault) → Stops l.names (body_uses (drop l.stmt-index l.body)) f → Stops l.names (body_uses l.body) f;
}
