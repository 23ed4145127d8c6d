-- Values that are written as lines.
use Rattle.std.specs.Prelude.{ℕ, ◌≡◌, ℤ, List, ◌++◌, codes}
use Rattle.std.specs.Fmt.{signed_decimal}
use Rattle.bm_io.specs.Sink.{Taken, written, tried}
use Rattle.bm_io.specs.declared.sinks.SinkFault.{SinkFault}
use Rattle.bm_io.specs.declared.sinks.SinkFault.TheVariants.{Failed, Memory}

-- the line of a value: its decimal text and an LF
abbrev pub value_line : ℤ → List ℕ
value_line value = signed_decimal value ++ codes "\n"

-- with one line more, in one write
abbrev pub with_line : Taken → ℤ → Taken
with_line before value = written before (value_line value)

-- a prefix of the line was taken
pub record TakesPrefix (before now : Taken) (line : List ℕ) : Type 0 where
  pub part : List ℕ
  pub refused : List ℕ
  pub line_is : line ≡ part ++ refused
  pub taken : now ≡ written before part

-- where writing failed, a prefix of the line may stand there; for want of memory, nothing of it
abbrev pub LeavesPrefix : SinkFault → Taken → ℤ → Taken → Type 0
LeavesPrefix Failed before value now = TakesPrefix before now (value_line value)
LeavesPrefix Memory before value now = now ≡ tried before
