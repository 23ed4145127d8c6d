use Rattle.std.proofs.Common.{◌≡◌}
use Rattle.stream_file.specs.Draft.{items_of}
use Rattle.stream_file.proofs.Items.{items_left, measure}
use Rattle.stream_file.proofs.draft.items.Given as goal

abbrev pub invariant-loop-more : goal.invariant-loop-more
invariant-loop-more l = items_left l.more l.items l.rest ≡ items_of l.fn.text

abbrev pub decreases-loop-more : goal.decreases-loop-more
decreases-loop-more l = measure l.more l.rest
