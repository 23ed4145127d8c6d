use Rattle.std.proofs.Common.{subst}
use Rattle.stream_image.specs.Image.{AreLines, IsImage}
use Rattle.stream_image.proofs.ImageFacts.{image_is, lines_are, determinate_is}
use Rattle.stream_image.proofs.image.Image.blocks.Goals as goal

pub returns-clause-lawful : goal.returns-clause-lawful
returns-clause-lawful c = subst IsImage c.self.view_is (image_is c.self.inside.spec c.self.inside.names c.self.inside.held c.machine_is_lawful.ensures c.len-names.ensures.lawful c.self.invariant)

pub returns-clause-determinate : goal.returns-clause-determinate
returns-clause-determinate c = determinate_is c.args.self.now (subst IsImage c.self.view_is (image_is c.self.inside.spec c.self.inside.names c.self.inside.held c.machine_is_lawful.ensures c.len-names.ensures.lawful c.self.invariant))

pub returns-clause-lines : goal.returns-clause-lines
returns-clause-lines c = subst AreLines c.self.view_is (lines_are c.self.inside.spec c.self.inside.names c.self.inside.held c.machine_is_lawful.ensures c.len-names.ensures.lawful c.self.invariant)
