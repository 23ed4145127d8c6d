use Rattle.std.proofs.Common.{◌∙◌}
use Rattle.machine_file.proofs.KeyFacts.{among_any}
use Rattle.machine_file.proofs.read.is_among.Goals as goal

pub returns : goal.returns
returns c = c.contains.ensures.value ∙ among_any c.args.known.now c.args.key.now
