use Rattle.compiled_image.proofs.InOrder.{lines_sound, determinate}
use Rattle.compiled_image.proofs.plan_laws.planned_programs_are_determinate.Goals as goal

pub returns-clause-sound : goal.returns-clause-sound
returns-clause-sound c = lines_sound

pub returns-clause-determinate : goal.returns-clause-determinate
returns-clause-determinate c = determinate
