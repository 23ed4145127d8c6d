use Rattle.unit_law.proofs.SoundFits.{sound_fit, sound_none_empty}
use Rattle.time_law.proofs.Tell.{are_told}
use Rattle.time_law.proofs.executions_tell_their_ticks.Goals as goal

pub returns : goal.returns
returns c = λ m sound. are_told m (sound_fit m sound) (sound_none_empty m sound)
