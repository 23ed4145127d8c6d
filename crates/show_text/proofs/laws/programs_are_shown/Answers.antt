use Rattle.tuple_lower.specs.Means.{blocks_of}
use Rattle.show_text.proofs.Telling.{shown_of}
use Rattle.show_text.proofs.laws.programs_are_shown.Goals as goal

pub returns : goal.returns
returns c machine p l r n = let s = (c.programs_have_summaries.ensures.some machine p l r n).1 in shown_of machine (blocks_of p) s.told s.are
