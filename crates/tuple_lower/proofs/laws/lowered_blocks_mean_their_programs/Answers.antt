use Rattle.tuple_lower.proofs.Meant.{blocks_end, blocks_keep_up, blocks_keep_back, blocks_keep_pace}
use Rattle.tuple_lower.proofs.Sounds.{lowered_are_sound}
use Rattle.tuple_lower.proofs.laws.lowered_blocks_mean_their_programs.Goals as goal

pub returns-clause-ends : goal.returns-clause-ends
returns-clause-ends c = blocks_end

pub returns-clause-keeps_up : goal.returns-clause-keeps_up
returns-clause-keeps_up c = blocks_keep_up

pub returns-clause-keeps_back : goal.returns-clause-keeps_back
returns-clause-keeps_back c = blocks_keep_back

pub returns-clause-sound : goal.returns-clause-sound
returns-clause-sound c = lowered_are_sound

pub returns-clause-keeps_pace : goal.returns-clause-keeps_pace
returns-clause-keeps_pace c = blocks_keep_pace
