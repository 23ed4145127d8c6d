use Rattle.std.proofs.Common.{Err, ap, sym, inl, inr}
use Rattle.toml.proofs.Views.{table_get}
use Rattle.machine_file.proofs.read.at_key.Goals as goal

pub returns-in-Some : goal.returns-in-Some
returns-in-Some c =
    let found = table_get c.get.result c.args.key.now c.args.table.now.entries c.get.ensures.value in
    let here = rw c.in-Some.is at found in
    rw (← here)

pub returns-in-None : goal.returns-in-None
returns-in-None c =
    let found = table_get c.get.result c.args.key.now c.args.table.now.entries c.get.ensures.value in
    let here = rw c.in-None.is at found in
    elim c.key_fault.ensures [ inl e ↦ inl (rw (← here) (ap Err (sym e))) | inr e ↦ inr e ]
