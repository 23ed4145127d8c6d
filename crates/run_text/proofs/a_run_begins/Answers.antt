use Rattle.run_text.proofs.Coming.{comes_first}
use Rattle.run_text.proofs.a_run_begins.Goals as goal

pub returns : goal.returns
returns c = comes_first
