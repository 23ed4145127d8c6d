use Rattle.std.proofs.Common.{refl}
use Rattle.timing_script.specs.declared.script.Script.TheVariants as script
use Rattle.bm_course.proofs.Coming.{Comes-begin}
use Rattle.bm_inputs.specs.Scripts.{IsScript}
use Rattle.bm_inputs.proofs.script.named_script.Goals as goal

pub returns-in-Least : goal.returns-in-Least
returns-in-Least g c = rw c.in-Least.is (Comes-begin IsScript _ script.Least script.Least refl)

pub returns-in-Most : goal.returns-in-Most
returns-in-Most g c = rw c.in-Most.is (Comes-begin IsScript _ script.Most script.Most refl)

pub returns-in-Seed : goal.returns-in-Seed
returns-in-Seed g c = rw c.in-Seed.is (Comes-begin IsScript _ (script.Seed c.in-Seed.n) (script.Seed c.in-Seed.n) refl)
