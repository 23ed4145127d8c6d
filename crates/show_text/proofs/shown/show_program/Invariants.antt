use Rattle.std.proofs.Common.{take}
use Rattle.show_text.specs.Shown.{AreShown}
use Rattle.show_text.proofs.shown.show_program.Given as goal

abbrev pub invariant-loop-block : goal.invariant-loop-block
invariant-loop-block l = record { so_far : AreShown l.fn.spec (take l.block-index l.block-items) l.shown }
