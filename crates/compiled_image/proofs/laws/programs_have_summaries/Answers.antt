use Rattle.compiled_image.proofs.LawFacts.{some_summary, one_summary}
use Rattle.compiled_image.proofs.AddUp.{add_up}
use Rattle.compiled_image.proofs.laws.programs_have_summaries.Goals as goal

pub returns-clause-some : goal.returns-clause-some
returns-clause-some c = some_summary c.lowered_blocks_mean_their_programs.ensures.sound

pub returns-clause-one : goal.returns-clause-one
returns-clause-one c = one_summary c.lowered_blocks_mean_their_programs.ensures.sound

pub returns-clause-add_up : goal.returns-clause-add_up
returns-clause-add_up c = add_up
