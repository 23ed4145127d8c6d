use Rattle.bm_words.specs.Table.{request_of}
use Rattle.bmimd_top.proofs.Leads.{row-ends}
use Rattle.bmimd_top.proofs.laws.words_have_an_end.Goals as goal

pub returns : goal.returns
returns c words held =
    row-ends
    (record {
      source = c.inputs_settle.ensures.source;
      machine = c.inputs_settle.ensures.machine;
      right = c.inputs_are_right.ensures.source;
      nodes = c.inputs_are_right.ensures.nodes;
      lawful = c.inputs_are_right.ensures.machine;
      image = c.programs_have_images.ensures.image;
      summary = c.programs_have_summaries.ensures.some;
      loaded = c.images_settle.ensures;
      begun = c.beginnings_settle.ensures;
      memories = c.memories_are_right.ensures;
      shown = c.programs_are_shown.ensures;
      text = c.runs_have_some_text.ensures;
      trace = c.kinds_have_one_trace.ensures.some;
      soaks = c.soaks_settle.ensures.settles;
    })
    held
    (request_of words)
    (c.requests_are_in_range.ensures words)
