use Rattle.show_text.proofs.Once.{shown_once}
use Rattle.show_text.proofs.laws.programs_are_shown_once.Goals as goal

pub returns : goal.returns
returns c = shown_once c.lowered_blocks_mean_their_programs.ensures.sound
