-- What an evaluation writes.
use Rattle.std.specs.Prelude.{ℕ, List, ◌++◌, map}
use Rattle.bm_base.specs.Entry.{Entry}
use Rattle.bm_base.specs.Memory.{Content}
use Rattle.bm_io.specs.LineValues.{value_line}
use Rattle.src_names.specs.RProgram.{RProgram}
use Rattle.src_meaning.specs.declared.evaluate.End.{End}
use Rattle.src_meaning.specs.declared.evaluate.End.TheVariants.{Done, More}
use Rattle.src_meaning.specs.Meaning.{Outcome, meaning}
use Rattle.bm_report.specs.Text.{done_lines, going_lines}
use Rattle.bm_course.specs.Course.{Output}

abbrev pub end_status : End → ℕ
end_status Done = 0
end_status More = 8

-- done with this memory, or going on after its turns
abbrev pub end_lines : End → List Entry → List Content → ℕ → List (List ℕ)
end_lines Done names memory turns = done_lines names memory
end_lines More names memory turns = going_lines turns

-- a line for each print, and then how the evaluation stands
abbrev pub outcome_text : List Entry → ℕ → Outcome → Output
outcome_text names turns o = record {
  status = end_status o.end;
  lines = map value_line o.output ++ end_lines o.end names o.memory turns;
}

-- the text of the program's meaning within these turns, from this memory
abbrev pub eval_text : RProgram → List Content → ℕ → Output
eval_text p memory turns = outcome_text p.names turns (meaning p memory turns)
