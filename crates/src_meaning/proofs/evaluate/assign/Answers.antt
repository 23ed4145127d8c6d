use Rattle.src_meaning.proofs.Suits.{suits-assigned}
use Rattle.src_meaning.proofs.evaluate.assign.Goals as goal

pub set-requires : goal.set-requires
set-requires c = suits-assigned c.args.name c.args.x.now c.args.store.now c.requires
