use Rattle.bmimd_top.proofs.laws.laws_of_readings.Goals as goal

pub returns : goal.returns
returns c = record {
  one = c.words_have_one_step.ensures;
  sources = c.inputs_have_one_step.ensures.source;
  machines = c.inputs_have_one_step.ensures.machine;
  loaded = c.images_have_one_step.ensures;
  right = c.inputs_are_right.ensures.source;
  lawful = c.inputs_are_right.ensures.machine;
  begun = c.beginnings_have_one_step.ensures;
  memories = c.memories_are_right.ensures;
}
