use Rattle.std.proofs.Common.{subst}
use Rattle.unit_law.specs.State.{Program}
use Rattle.stream_file.specs.declared.built.Made.{Made}
use Rattle.stream_file.specs.Drafted.{block_fields, head_drafted}
use Rattle.stream_file.specs.Built.{Makes}
use Rattle.stream_file.proofs.Building.{none_yet, passes_over}
use Rattle.stream_file.proofs.built.add.Goals as goal

pub returns-in-Fault : goal.returns-in-Fault
returns-in-Fault c = λ bs h. passes_over (head_drafted c.args.draft.now) bs (block_fields c.args.one) c.in-Fault.fault (subst (λ (m : Made). Makes (head_drafted c.args.draft.now) bs m) c.in-Fault.is h)

pub returns-in-Ok : goal.returns-in-Ok
returns-in-Ok c = λ bs h.
    let head : Program = head_drafted c.args.draft.now in
    c.put.ensures head bs (none_yet head c.in-Ok.image bs (subst (λ (m : Made). Makes head bs m) c.in-Nothing.is h) c.in-Ok.ensures.ok)
