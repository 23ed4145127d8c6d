use Rattle.std.proofs.Common.{sym, ap, ◌∙◌}
use Rattle.std.proofs.lemmas.Result.{err_from_is_err_and}
use Rattle.bm_course.proofs.Sending.{Sends-nothing}
use Rattle.unit_law.proofs.SoundFits.{sound_fit, sound_stand}
use Rattle.run_text.specs.TraceText.{IsTraceOf}
use Rattle.run_text.specs.TraceBegins.{Starts}
use Rattle.run_text.proofs.Texts.{as_parts}
use Rattle.run_text.proofs.trace_writing.write_trace_on.Goals as goal

pub returns-in_err-machine-clause-sent : goal.returns-in_err-machine-clause-sent
returns-in_err-machine-clause-sent g c =
    let m = c.args.image.now in
    let p = err_from_is_err_and c.from_residual.result c.from_residual.ensures.1 in
    let t = c.runs_have_one_trace.ensures.some (g.U.BarrierUnit.choice c.args.unit) (g.T.Timing.duration c.args.timing) m (sound_fit m c.blocks-blocks.ensures.lawful.sound) (sound_stand m c.blocks-blocks.ensures.lawful.sound) c.blocks-blocks.ensures.lawful.machine.times
    (g.met.T.Timing.within c.args.timing) c.requires.lawful c.args.store c.requires.memory c.args.budget in
    (t.0, t.1, rw (p.1, p.2) (Sends-nothing _ _))

pub show-requires-clause-names : goal.show-requires-clause-names
show-requires-clause-names g c = c.names.ensures ∙ ap (λ p. p.names) (sym c.in_ok-machine.ensures.program)

pub returns-clause-sent : goal.returns-clause-sent
returns-clause-sent g c =
    let m = c.args.image.now in
    let v = c.in_ok-machine.machine in
    let choice = g.U.BarrierUnit.choice c.args.unit in
    let durations = g.T.Timing.duration c.args.timing in
    let choice' = g.U.BarrierUnit.choice v.unit in
    let durations' = g.T.Timing.duration v.timing in
    let e = c.in_ok-machine.ensures.choice in
    let f = ap g.T.Timing.duration c.in_ok-machine.ensures.timing in
    let p = c.in_ok-machine.ensures.program in
    let t = c.runs_have_one_trace.ensures.some choice durations m (sound_fit m c.blocks-blocks.ensures.lawful.sound) (sound_stand m c.blocks-blocks.ensures.lawful.sound) c.blocks-blocks.ensures.lawful.machine.times (g.met.T.Timing.within c.args.timing) c.requires.lawful c.args.store
    c.requires.memory c.args.budget in (
      t.0,
      t.1,
      c.show.ensures.sent c.args.store t.0 (as_parts (λ x y z. Starts z c.args.store v.state v.counts) choice choice' durations durations' m v.program e f p record { state_is = c.in_ok-machine.ensures.state; counts_are = c.in_ok-machine.ensures.counts })
          (as_parts (λ x y z. IsTraceOf x y z c.args.store c.args.budget t.0) choice choice' durations durations' m v.program e f p t.1),
    )
