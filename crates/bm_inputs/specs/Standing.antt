-- What the code keeps of what it read.
use Rattle.std.specs.Prelude.{◌≡◌}
use Rattle.bm_base.specs.Machine.{Machine}
use Rattle.src_names.specs.RProgram.{RProgram}

-- the program itself
abbrev pub IsProgram : RProgram → RProgram → Type 0
IsProgram kept program = kept ≡ program

-- the machine itself
abbrev pub IsMachine : Machine → Machine → Type 0
IsMachine kept machine = kept ≡ machine
