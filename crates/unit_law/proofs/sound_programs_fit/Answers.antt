use Rattle.unit_law.proofs.SoundFits.{sound_fit, sound_early, sound_stand, sound_lead, sound_none_empty}
use Rattle.unit_law.proofs.sound_programs_fit.Goals as goal

pub returns-clause-fit : goal.returns-clause-fit
returns-clause-fit c = sound_fit

pub returns-clause-early : goal.returns-clause-early
returns-clause-early c = sound_early

pub returns-clause-stand : goal.returns-clause-stand
returns-clause-stand c = sound_stand

pub returns-clause-lead : goal.returns-clause-lead
returns-clause-lead c = sound_lead

pub returns-clause-none_empty : goal.returns-clause-none_empty
returns-clause-none_empty c = sound_none_empty
