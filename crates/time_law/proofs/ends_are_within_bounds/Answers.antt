use Rattle.unit_law.proofs.SoundFits.{sound_fit, sound_none_empty}
use Rattle.time_law.proofs.Sound.{ends_are_sound}
use Rattle.time_law.proofs.ends_are_within_bounds.Goals as goal

pub returns : goal.returns
returns c = λ m sound. ends_are_sound m (sound_fit m sound) (sound_none_empty m sound)
