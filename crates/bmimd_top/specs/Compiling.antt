-- What a program is compiled to, and how it is written.
use Rattle.std.specs.Prelude.{ℕ, ◌≡◌, List, Option, Some, Result, Ok, Err}
use Rattle.bm_base.specs.Machine.{Machine}
use Rattle.bm_words.specs.Table.{MachineOf}
use Rattle.unit_law.specs.State.{Program}
use Rattle.stream_file.specs.Fields.{text_of}
use Rattle.stream_file.specs.Written.{fields_of}
use Rattle.bm_report.specs.declared.summary.Summary.{Summary}
use Rattle.bm_report.specs.Summary.{summary_lines}
use Rattle.src_names.specs.RProgram.{RProgram}
use Rattle.compiled_image.specs.Compiled.{IsCompiled}
use Rattle.compiled_image.specs.Summarised.{IsSummaryOf}
use Rattle.bm_course.specs.declared.status.TheConstants.{ENDED}
use Rattle.bm_course.specs.Course.{Refused, NewFile, Product, Course, ◌>>=◌, judge}
use Rattle.bm_inputs.specs.Sources.{source_course}
use Rattle.bm_inputs.specs.Machines.{machine_course}
use Rattle.bmimd_top.specs.declared.compile.Written.{Written}

-- what a program comes to: its image, and the summary
pub record Made : Type 0 where
  pub image : Program
  pub summary : Summary

-- what a program comes to on a machine
abbrev pub Makes : Machine → RProgram → Result Made Refused → Type 0
Makes machine p (Ok made) = IsCompiled machine p made.image × IsSummaryOf machine p made.summary
Makes machine p (Err r) = ⊥

-- the source, then the machine, then what the program comes to on it
abbrev pub made_course : List ℕ → MachineOf → Course Made
made_course name machine = do
  program ← source_course name
  spec ← machine_course machine
  judge (Makes spec program)

-- a file with the text of an image
abbrev pub image_file : List ℕ → Program → NewFile
image_file name image = record { name = name; bytes = text_of (fields_of image) }

-- the file of the image, and then the lines of the summary
abbrev pub product_of : List ℕ → Made → Product
product_of name made = record {
  file = Some (image_file name made.image);
  text = record { status = ENDED; lines = summary_lines made.summary };
}

-- what the code keeps of it: the text of the image, and the summary
pub record IsWritten (kept : Written) (made : Made) : Type 0 where
  pub bytes : kept.bytes.items ≡ text_of (fields_of made.image)
  pub summary : kept.summary ≡ made.summary
