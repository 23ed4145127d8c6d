-- Why the naming of a part stops.
use Rattle.std.specs.Prelude.{List}
use Rattle.bm_base.specs.Entry.{Entry}
use Rattle.src_names.specs.declared.fault.NameFault.{NameFault}
use Rattle.src_names.specs.declared.fault.NameFault.TheVariants.{Memory}
use Rattle.src_names.specs.Fault.{Use, UsesFault}

-- by the first fault of these uses, or by want of memory
pub data Stops (names : List Entry) (us : List Use) : NameFault → Type 0 where
  wrong : {fault : NameFault} → UsesFault names us fault → Stops names us fault
  starved : Stops names us Memory
