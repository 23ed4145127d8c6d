use Rattle.unit_law.proofs.Shown.{shows_exactly}
use Rattle.unit_law.proofs.actions_show_events.Goals as goal

pub returns : goal.returns
returns c = shows_exactly
