use Rattle.std.proofs.Common.{◌≡◌, sym, ap, subst, ◌∙◌}
use Rattle.bm_base.specs.Machine.{IsMachine}
use Rattle.bm_base.specs.Memory.{initial}
use Rattle.bm_base.specs.Spec.{standard}
use Rattle.timing_script.specs.Script.{script_duration}
use Rattle.timing_script.specs.Within.{script_duration-within}
use Rattle.unit_law.specs.Steps.{IsRun, state_after}
use Rattle.src_meaning.specs.declared.evaluate.End.TheVariants.{Done}
use Rattle.src_meaning.specs.Meaning.{meaning}
use Rattle.run_text.specs.RunText.{choice_of}
use Rattle.run_text.proofs.LawfulKinds.{lawful}
use Rattle.soak_text.specs.Soak.{turns, script_of}
use Rattle.soak_text.proofs.Agreeing.{mode_is, memory_is, agrees}
use Rattle.soak_text.proofs.laws.ends_agree.Goals as goal

pub returns : goal.returns
returns c = λ seed p m kind pace shown e compiled shows done ended.
    let is_machine : IsMachine standard = subst IsMachine c.standard-machine.ensures c.processors-processors.ensures.lawful in
    let images = c.programs_have_images.ensures in
    let memory = initial m.names in
    let of_names = c.laws_of_memories.ensures.first m.names in
    let choice = choice_of kind in
    let durations = script_duration (script_of seed pace) in
    let past = shows.past in
    let state = state_after m memory past in
    let legal = lawful m (c.choices_are_lawful.ensures.static_unit m) (c.choices_are_lawful.ensures.dynamic_unit m) kind in
    let on =
    c.canonical_runs_are_runs.ensures.on_unit choice durations m (images.fit standard p m is_machine compiled) (images.times standard p m is_machine compiled) (script_duration-within (script_of seed pace)) memory past shows.is_last.canonical in
    let run : IsRun m memory past = c.lawful_units_run.ensures choice m legal memory past of_names on in
    let first : memory ≡ initial p.names = ap initial compiled.faithful.names in
    let told = sym shows.end_is ∙ ended in
    let here : (meaning p memory turns).end ≡ Done = ap (λ x. (meaning p x turns).end) first ∙ done in
    agrees c.turns_only_add.ensures.done p memory state shown e first (compiled.faithful.ends_so memory past of_names run (mode_is state state.mode e told)) shows.output_is (memory_is state state.mode e told) here
