use Rattle.timing_script.specs.Script.{script_duration}
use Rattle.timing_script.specs.Within.{script_duration-within}
use Rattle.run_text.specs.RunText.{choice_of}
use Rattle.run_text.proofs.LawfulKinds.{lawful}
use Rattle.run_text.proofs.kinds_have_one_trace.Goals as goal

pub returns-clause-one : goal.returns-clause-one
returns-clause-one c m kind script memory budget s t h k = c.runs_have_one_trace.ensures.one (choice_of kind) (script_duration script) m memory budget s t h k

pub returns-clause-some : goal.returns-clause-some
returns-clause-some c m kind script memory budget fit stand times of_names =
    c.runs_have_one_trace.ensures.some (choice_of kind) (script_duration script) m fit stand times (script_duration-within script) (lawful m (c.choices_are_lawful.ensures.static_unit m) (c.choices_are_lawful.ensures.dynamic_unit m) kind) memory of_names budget
