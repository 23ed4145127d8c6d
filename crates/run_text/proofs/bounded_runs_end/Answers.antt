use Rattle.timing_script.specs.Script.{script_duration}
use Rattle.timing_script.specs.Within.{script_duration-within}
use Rattle.run_text.specs.RunText.{choice_of}
use Rattle.run_text.proofs.LawfulKinds.{lawful}
use Rattle.run_text.proofs.bounded_runs_end.Goals as goal

pub returns : goal.returns
returns c m kind script memory budget text fit times of_names bound h =
    c.runs_on_any_unit_have_one_text.ensures.bounded (choice_of kind) (script_duration script) m fit times (script_duration-within script) (lawful m (c.choices_are_lawful.ensures.static_unit m) (c.choices_are_lawful.ensures.dynamic_unit m) kind) memory of_names budget bound text h
