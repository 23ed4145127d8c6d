-- The numbers of an image are in range.
use Rattle.std.proofs.Common.{sym, subst}
use Rattle.tuple_lower.specs.Sound.{TuplesFit, BlocksAreFew}
use Rattle.compiled_image.specs.Ranges.{HasRanges, ImagesHaveRanges}

pub have_ranges : TuplesFit → BlocksAreFew → ImagesHaveRanges
have_ranges fit count machine p m is_machine right few range image = subst (HasRanges p) (sym image.whole) (record {
  machine = is_machine;
  names = right.names;
  kinds = range.kinds;
  few = count p few;
  tuples = λ b l. fit p right few range b l;
})
