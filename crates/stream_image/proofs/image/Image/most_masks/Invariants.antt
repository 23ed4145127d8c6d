use Rattle.std.proofs.Common.{◌≡◌, drop, max}
use Rattle.stream_image.specs.Held.{most_masks_of}
use Rattle.stream_image.proofs.image.Image.most_masks.Given as goal

abbrev pub invariant-loop-b : goal.invariant-loop-b
invariant-loop-b l = max l.most (most_masks_of (drop l.b l.self.lines)) ≡ most_masks_of l.self.lines
