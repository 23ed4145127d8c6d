use Rattle.std.proofs.Common.{subst}
use Rattle.bm_base.specs.Machine.{IsMachine}
use Rattle.bm_base.specs.Spec.{standard}
use Rattle.soak_text.proofs.Shown.{shown_all, shown_once}
use Rattle.soak_text.proofs.laws.runs_are_shown.Goals as goal

pub returns-clause-some : goal.returns-clause-some
returns-clause-some c = λ seed p m compiled.
    let lawful : IsMachine standard = subst IsMachine c.standard-machine.ensures c.processors-processors.ensures.lawful in
    let images = c.programs_have_images.ensures in
    shown_all seed m c.a_run_shows_one_thing.ensures.some (images.fit standard p m lawful compiled) (images.stand standard p m lawful compiled) (images.times standard p m lawful compiled)
    (c.choices_are_lawful.ensures.static_unit m) (c.choices_are_lawful.ensures.dynamic_unit m) (c.laws_of_memories.ensures.first m.names)

pub returns-clause-once : goal.returns-clause-once
returns-clause-once c = λ seed m kind pace shown other h k. shown_once seed m c.a_run_shows_one_thing.ensures.one kind pace shown other h k
