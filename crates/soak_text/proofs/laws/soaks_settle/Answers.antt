use Rattle.bm_course.proofs.Leading.{judge-settles}
use Rattle.bm_course.proofs.Settling.{judge-determined}
use Rattle.soak_text.specs.SoakCourse.{Soaks}
use Rattle.soak_text.proofs.Concluding.{soaks_once, soaks_some}
use Rattle.soak_text.proofs.laws.soaks_settle.Goals as goal

pub returns-clause-step : goal.returns-clause-step
returns-clause-step c = λ seed statements. judge-determined (Soaks seed statements) (soaks_once seed statements c.soaks_have_one_text.ensures.one)

pub returns-clause-settles : goal.returns-clause-settles
returns-clause-settles c = λ held seed statements few. judge-settles held (Soaks seed statements) (soaks_some seed statements c.soaks_have_one_text.ensures.some few)
