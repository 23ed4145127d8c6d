use Rattle.time_interval.proofs.SetFacts.{seen_none}
use Rattle.time_interval.proofs.seen.Sets.none.Goals as goal

pub returns : goal.returns
returns c = seen_none 128
