use Rattle.timing_script.proofs.Readings.{some_answer, one_script, one_first, not_both}
use Rattle.timing_script.proofs.laws.script_texts_have_one_answer.Goals as goal

pub returns : goal.returns
returns c = record { some = some_answer; one_script = one_script; one_line = one_first; not_both = not_both }
