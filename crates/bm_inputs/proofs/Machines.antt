-- The machine of the fields of a text is lawful.
use Rattle.bm_base.specs.Machine.{IsMachine}
use Rattle.stream_file.specs.Fields.{Fields, Fits}
use Rattle.stream_file.specs.Images.{machine_of}
use Rattle.stream_file.proofs.Loaded.{head_machine}

pub machine_is : (f : Fields) → Fits f → IsMachine (machine_of f)
machine_is f h = head_machine f.version f.processors f.barrier f.times h.head h.count h.times
