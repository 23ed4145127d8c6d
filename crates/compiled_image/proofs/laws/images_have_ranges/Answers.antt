use Rattle.compiled_image.proofs.Ranging.{have_ranges}
use Rattle.compiled_image.proofs.laws.images_have_ranges.Goals as goal

pub returns : goal.returns
returns c = let l = c.lowered_tuples_fit.ensures in have_ranges l.tuples l.blocks
