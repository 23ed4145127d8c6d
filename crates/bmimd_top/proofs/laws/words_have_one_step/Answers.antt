use Rattle.bm_words.specs.Table.{request_of}
use Rattle.bmimd_top.proofs.Settled.{Parts, row-determined, sourced-determined, made-determined, listed-determined, ready-determined}
use Rattle.bmimd_top.proofs.laws.words_have_one_step.Goals as goal

pub returns : goal.returns
returns c =
    let parts : Parts = record {
      inputs = record {
        source = c.inputs_have_one_step.ensures.source;
        machine = c.inputs_have_one_step.ensures.machine;
        right = c.inputs_are_right.ensures.source;
        nodes = c.inputs_are_right.ensures.nodes;
        lawful = c.inputs_are_right.ensures.machine;
        image = c.programs_have_images.ensures.one;
      };
      summary = c.programs_have_summaries.ensures.one;
      loaded = c.images_have_one_step.ensures;
      shown = c.programs_are_shown_once.ensures;
      text = c.runs_have_one_text.ensures;
      trace = c.kinds_have_one_trace.ensures.one;
      soaks = c.soaks_settle.ensures.step;
      sound = c.loaded_images_are_images.ensures;
      begun = c.beginnings_have_one_step.ensures;
    } in
    record {
      words = λ words. row-determined parts (request_of words);
      sourced = sourced-determined parts;
      made = made-determined parts;
      listed = listed-determined parts;
      ready = ready-determined parts;
    }
