-- What the code's values stand for.
use Rattle.timing_script.specs.declared.gift.Gift as code
use Rattle.timing_script.specs.declared.data_reading.Draft.{Draft}
use Rattle.timing_script.specs.Data.{Gift}
use Rattle.timing_script.specs.DataReading.{State}

abbrev pub gift_shown : code.Gift → Gift
gift_shown g = record { name = g.name.now; values = g.values }

abbrev pub state_of : Draft → State
state_of d = record { memory = d.store; firsts = d.firsts.items }
