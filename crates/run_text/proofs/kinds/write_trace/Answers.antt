use Rattle.std.proofs.lemmas.Result.{err_from_is_err_and}
use Rattle.bm_course.proofs.Sending.{Sends-nothing}
use Rattle.unit_law.proofs.SoundFits.{sound_fit, sound_stand}
use Rattle.run_text.proofs.kinds.write_trace.Goals as goal

pub returns-in_err-unit-in-Static-clause-sent : goal.returns-in_err-unit-in-Static-clause-sent
returns-in_err-unit-in-Static-clause-sent g c =
    let m = c.args.image.now in
    let lawful = c.blocks-blocks.ensures.lawful in
    let p = err_from_is_err_and c.from_residual.result c.from_residual.ensures.1 in
    let t =
    c.kinds_have_one_trace.ensures.some m c.args.kind c.args.script c.args.store c.args.budget (sound_fit m lawful.sound)
    (sound_stand m lawful.sound) lawful.machine.times c.requires.memory in
    (t.0, t.1, rw (p.1, p.2) (Sends-nothing _ _))

pub returns-in_err-unit-in-Dynamic-clause-sent : goal.returns-in_err-unit-in-Dynamic-clause-sent
returns-in_err-unit-in-Dynamic-clause-sent g c =
    let m = c.args.image.now in
    let lawful = c.blocks-blocks.ensures.lawful in
    let p = err_from_is_err_and c.from_residual-in_err-unit-in-Dynamic.result c.from_residual-in_err-unit-in-Dynamic.ensures.1 in
    let t =
    c.kinds_have_one_trace.ensures.some m c.args.kind c.args.script c.args.store c.args.budget (sound_fit m lawful.sound)
    (sound_stand m lawful.sound) lawful.machine.times c.requires.memory in
    (t.0, t.1, rw (p.1, p.2) (Sends-nothing _ _))
