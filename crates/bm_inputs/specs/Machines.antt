-- The machine that a word names.
use Rattle.std.specs.Prelude.{ℕ, ◌≡◌, List, Result, Ok, Err, Some}
use Rattle.bm_base.specs.declared.limits.TheConstants.{MOST_MACHINE_BYTES}
use Rattle.bm_base.specs.Machine.{Machine}
use Rattle.bm_base.specs.Spec.{standard}
use Rattle.machine_file.specs.declared.fault.MachineFault.{MachineFault}
use Rattle.machine_file.specs.MachineFile.{machine_of}
use Rattle.bm_words.specs.Table.{MachineOf, Default, MachineFile}
use Rattle.bm_inputs.specs.MachineLines.{machine_refused}
use Rattle.bm_course.specs.Course.{Refused, Course, ◌>>=◌, give, judge}
use Rattle.bm_course.specs.Limited.{limited}

-- the machine that the bytes describe, or what their first fault is refused with
abbrev pub ReadsMachine : List ℕ → Result Machine Refused → Type 0
ReadsMachine bytes (Ok machine) = machine_of bytes ≡ Ok machine
ReadsMachine bytes (Err r) = (fault : MachineFault) × (machine_of bytes ≡ Err fault) × (machine_refused fault ≡ Some r)

abbrev pub file_course : List ℕ → Course Machine
file_course name = do
  bytes ← limited name MOST_MACHINE_BYTES
  judge (ReadsMachine bytes)

abbrev pub machine_course : MachineOf → Course Machine
machine_course Default = give standard
machine_course (MachineFile name) = file_course name
