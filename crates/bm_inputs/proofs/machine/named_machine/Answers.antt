use Rattle.bm_base.specs.Spec.{standard}
use Rattle.bm_course.proofs.Coming.{Comes-begin}
use Rattle.bm_inputs.specs.Standing.{IsMachine}
use Rattle.bm_inputs.proofs.machine.named_machine.Goals as goal

pub returns-in-Standard : goal.returns-in-Standard
returns-in-Standard g c = rw c.in-Standard.is (Comes-begin IsMachine _ c.standard.result standard c.standard.ensures)
