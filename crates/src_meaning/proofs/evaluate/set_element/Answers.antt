use Rattle.src_meaning.proofs.Suits.{suits-set}
use Rattle.src_meaning.proofs.evaluate.set_element.Goals as goal

pub set_element-requires : goal.set_element-requires
set_element-requires c = suits-set c.args.name c.args.index.now c.args.x.now c.args.store.now c.requires
