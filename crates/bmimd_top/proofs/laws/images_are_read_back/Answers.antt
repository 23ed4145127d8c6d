use Rattle.bmimd_top.proofs.ReadBack.{read_back}
use Rattle.bmimd_top.proofs.laws.images_are_read_back.Goals as goal

pub returns : goal.returns
returns c =
    let reads = c.programs_are_read_right.ensures in
    read_back reads.right reads.nodes reads.statements reads.range c.images_have_ranges.ensures c.images_have_texts.ensures
