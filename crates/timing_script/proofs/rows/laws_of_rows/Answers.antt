use Rattle.timing_script.proofs.Spelled.{spelled}
use Rattle.timing_script.proofs.rows.laws_of_rows.Goals as goal

pub returns : goal.returns
returns c = spelled
