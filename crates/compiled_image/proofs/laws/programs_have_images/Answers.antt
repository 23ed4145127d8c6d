use Rattle.compiled_image.proofs.LawFacts.{compiled, some, one_image, fit, stand, times}
use Rattle.compiled_image.proofs.laws.programs_have_images.Goals as goal

pub returns-clause-image : goal.returns-clause-image
returns-clause-image c = let l = c.lowered_blocks_mean_their_programs.ensures in some l.sound l.ends l.keeps_back l.keeps_pace

pub returns-clause-one : goal.returns-clause-one
returns-clause-one c = one_image c.lowered_blocks_mean_their_programs.ensures.sound

pub returns-clause-compiled : goal.returns-clause-compiled
returns-clause-compiled c = let l = c.lowered_blocks_mean_their_programs.ensures in compiled l.sound l.ends l.keeps_back l.keeps_pace

pub returns-clause-fit : goal.returns-clause-fit
returns-clause-fit c = fit

pub returns-clause-stand : goal.returns-clause-stand
returns-clause-stand c = stand

pub returns-clause-times : goal.returns-clause-times
returns-clause-times c = times
