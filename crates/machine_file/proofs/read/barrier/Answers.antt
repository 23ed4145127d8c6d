use Rattle.std.specs.Prelude.{codes}
use Rattle.toml.proofs.Views.{table_get}
use Rattle.machine_file.proofs.read.barrier.Goals as goal

pub returns-in-None-clause-told : goal.returns-in-None-clause-told
returns-in-None-clause-told c =
    let found = table_get c.get.result (codes "barrier") c.args.document.now.entries c.get.ensures.value in
    let here = rw c.in-None.is at found in
    rw (← here)

pub returns-in-Some-clause-told : goal.returns-in-Some-clause-told
returns-in-Some-clause-told c =
    let found = table_get c.get.result (codes "barrier") c.args.document.now.entries c.get.ensures.value in
    let here = rw c.in-Some.is at found in
    rw (← here) c.ticks.ensures.told
