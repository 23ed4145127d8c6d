use Rattle.bm_inputs.proofs.Scripts.{script-settles}
use Rattle.bm_inputs.proofs.Memories.{memory-settles}
use Rattle.bm_inputs.proofs.run_laws.beginnings_settle.Goals as goal

pub returns : goal.returns
returns c =
    let texts = c.script_texts_have_one_answer.ensures in
    let one = c.data_has_one_answer.ensures in
    record {
      script = script-settles texts;
      memory = λ held names word l. memory-settles names one l held word;
    }
