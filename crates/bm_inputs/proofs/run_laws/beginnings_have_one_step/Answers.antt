use Rattle.bm_inputs.proofs.Scripts.{script-determined}
use Rattle.bm_inputs.proofs.Memories.{memory-determined}
use Rattle.bm_inputs.proofs.run_laws.beginnings_have_one_step.Goals as goal

pub returns : goal.returns
returns c =
    let texts = c.script_texts_have_one_answer.ensures in
    let one = c.data_has_one_answer.ensures in
    record {
      script = script-determined texts;
      memory = λ names word l. memory-determined names one l word;
    }
