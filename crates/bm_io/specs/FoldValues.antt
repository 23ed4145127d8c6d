-- Values of which only a count and a fold are kept.
use Rattle.std.specs.Prelude.{◌+◌, ◌%◌, ◌^◌, ℤ, pos, ◌+ℤ◌, ◌*ℤ◌}
use Rattle.bm_base.specs.Word.{wrap}
use Rattle.bm_io.specs.declared.sinks.SinkFault.{SinkFault}
use Rattle.bm_io.specs.declared.fold_values.FoldValues.{FoldValues}

-- with one value more: the count goes on modulo 2^64, and the fold h becomes h * 31 + v, wrapping
abbrev pub with_value : FoldValues → ℤ → FoldValues
with_value h v = record { count = (h.count + 1) % 2 ^ 64; fold = wrap ((h.fold *ℤ pos 31) +ℤ v) }

-- no value is refused
abbrev pub NeverLeaves : SinkFault → FoldValues → ℤ → FoldValues → Type 0
NeverLeaves fault before value now = ⊥
