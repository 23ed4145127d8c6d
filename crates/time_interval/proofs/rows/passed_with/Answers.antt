use Rattle.std.proofs.Common.{ap, sym, ◌∙◌}
use Rattle.bm_base.specs.Mask.{has_bit}
use Rattle.bm_base.proofs.MaskBits.{has_bit-insert}
use Rattle.time_interval.specs.Ahead.{has_passed}
use Rattle.time_interval.proofs.rows.passed_with.Goals as goal

pub returns-in-Run : goal.returns-in-Run
returns-in-Run c = λ g. ap (λ x. has_bit x g) c.with.ensures ∙ has_bit-insert c.args.passed c.in-Run.tuple g ∙ ap (λ x. has_passed x (has_bit c.args.passed) g) (sym c.in-Run.is)
