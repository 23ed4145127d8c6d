use Rattle.timing_script.specs.Script.{script_duration}
use Rattle.run_text.specs.RunText.{choice_of}
use Rattle.run_text.proofs.runs_have_one_text.Goals as goal

pub returns : goal.returns
returns c m kind script memory budget s t h k = c.runs_on_any_unit_have_one_text.ensures.one (choice_of kind) (script_duration script) m memory budget s t h k
