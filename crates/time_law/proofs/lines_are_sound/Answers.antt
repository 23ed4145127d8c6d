use Rattle.time_law.proofs.LineFits.{line_sound}
use Rattle.time_law.proofs.lines_are_sound.Goals as goal

pub returns : goal.returns
returns c = line_sound
