use Rattle.std.proofs.Common.{◌≡◌, ◌∙◌, sym, arith, false}
use Rattle.std.specs.Prelude.{nat_lt}
use Rattle.std.proofs.lemmas.Bool.Decides.{nat_tests}
use Rattle.stream_image.proofs.Bits.{no_high}
use Rattle.stream_image.proofs.check.has_foreign.Goals as goal

pub returns-else-processors-lt-MOST_PROCESSORS : goal.returns-else-processors-lt-MOST_PROCESSORS
returns-else-processors-lt-MOST_PROCESSORS c =
    let t : nat_lt c.args.processors 128 ≡ false = grind (arith, nat_tests) in
    t ∙ sym (no_high c.args.mask c.args.processors (omega arith) (omega arith))
