-- What is shown of a program.
use Rattle.std.specs.Prelude.{ℕ, ◌≡◌, List, ◌++◌, Result, Ok, Err}
use Rattle.bm_base.specs.Machine.{Machine}
use Rattle.bm_words.specs.Table.{MachineOf}
use Rattle.bm_report.specs.declared.summary.Summary.{Summary}
use Rattle.bm_report.specs.Summary.{summary_lines}
use Rattle.src_names.specs.RProgram.{RProgram}
use Rattle.tuple_lower.specs.Means.{blocks_of}
use Rattle.compiled_image.specs.Summarised.{IsSummaryOf}
use Rattle.show_text.specs.declared.shown.ShownBlock.{ShownBlock}
use Rattle.show_text.specs.Shown.{AreShown}
use Rattle.show_text.specs.Listing.{listing}
use Rattle.bm_course.specs.declared.status.TheConstants.{ENDED}
use Rattle.bm_course.specs.Course.{Refused, Output, Course, ◌>>=◌, judge}
use Rattle.bm_inputs.specs.Sources.{source_course}
use Rattle.bm_inputs.specs.Machines.{machine_course}
use Rattle.bmimd_top.specs.declared.show.Listing.{Listing}

-- what is shown of its blocks, and its summary
pub record Listed : Type 0 where
  pub shown : List ShownBlock
  pub summary : Summary

-- what is shown of a program on a machine
abbrev pub Lists : Machine → RProgram → Result Listed Refused → Type 0
Lists machine p (Ok l) = AreShown machine (blocks_of p) l.shown × IsSummaryOf machine p l.summary
Lists machine p (Err r) = ⊥

-- the source, then the machine, then what is shown of the program on it
abbrev pub listed_course : List ℕ → MachineOf → Course Listed
listed_course name machine = do
  program ← source_course name
  spec ← machine_course machine
  judge (Lists spec program)

-- the listing, and then the lines of the summary
abbrev pub text_of : List ShownBlock → Summary → Output
text_of shown summary = record { status = ENDED; lines = listing shown ++ summary_lines summary }

-- what the code keeps of it
pub record IsListed (kept : Listing) (l : Listed) : Type 0 where
  pub shown : kept.shown ≡ l.shown
  pub summary : kept.summary ≡ l.summary
