use Rattle.std.proofs.Common.{refl, sym, subst}
use Rattle.std.proofs.lemmas.Result.{err_from_is_err_and}
use Rattle.bm_base.specs.Memories.{IsMemoryOf}
use Rattle.bm_report.specs.Text.{end_lines, going_lines}
use Rattle.bm_course.proofs.Sending.{sends_all, sends_part}
use Rattle.run_text.proofs.Texts.{end_as, sent_as}
use Rattle.run_text.proofs.ending.write_ending.Goals as goal

pub write_end-requires : goal.write_end-requires
write_end-requires g c = subst (λ names. IsMemoryOf names c.store.result.now) (sym c.requires) c.store.ensures.memory

pub returns-in_ok-write_end-in-Ended-clause-sent : goal.returns-in_ok-write_end-in-Ended-clause-sent
returns-in_ok-write_end-in-Ended-clause-sent g c =
    let m = c.args.machine.now in
    let w = sent_as _ _ (end_lines c.clock.result c.args.names.now c.store.result.now) (end_lines m.state.clock m.program.names m.state.world.memory) _
    (end_as c.clock.result m.state.clock c.args.names.now m.program.names c.store.result.now m.state.world.memory c.clock.ensures.value c.requires c.store.ensures.value) c.in_ok-write_end-in-Ended.ensures.sent in
    rw c.in-Ended.is (sends_all _ _ (record { status = 0; lines = end_lines m.state.clock m.program.names m.state.world.memory }) tt 0 refl w)

pub returns-in_err-write_end-in-Ended-clause-sent : goal.returns-in_err-write_end-in-Ended-clause-sent
returns-in_err-write_end-in-Ended-clause-sent g c =
    let m = c.args.machine.now in
    let p = err_from_is_err_and c.from_residual.result c.from_residual.ensures.1 in
    let w = sent_as _ _ (end_lines c.clock.result c.args.names.now c.store.result.now) (end_lines m.state.clock m.program.names m.state.world.memory) _
    (end_as c.clock.result m.state.clock c.args.names.now m.program.names c.store.result.now m.state.world.memory c.clock.ensures.value c.requires c.store.ensures.value) c.in_err-write_end-in-Ended.ensures.sent in
    rw (p.1, p.2, c.in-Ended.is) (sends_part _ _ (record { status = 0; lines = end_lines m.state.clock m.program.names m.state.world.memory }) c.in_err-write_end-in-Ended.field-0.0 w)

pub returns-in_ok-write_going-in-Going-clause-sent : goal.returns-in_ok-write_going-in-Going-clause-sent
returns-in_ok-write_going-in-Going-clause-sent g c =
    rw c.in-Going.is (sends_all _ _ (record { status = 8; lines = going_lines c.args.budget }) tt 8 refl c.in_ok-write_going-in-Going.ensures.sent)

pub returns-in_err-write_going-in-Going-clause-sent : goal.returns-in_err-write_going-in-Going-clause-sent
returns-in_err-write_going-in-Going-clause-sent g c =
    let p = err_from_is_err_and c.from_residual-in_err-write_going-in-Going.result c.from_residual-in_err-write_going-in-Going.ensures.1 in
    rw (p.1, p.2, c.in-Going.is) (sends_part _ _ (record { status = 8; lines = going_lines c.args.budget }) c.in_err-write_going-in-Going.field-0.0 c.in_err-write_going-in-Going.ensures.sent)
