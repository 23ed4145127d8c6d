use Rattle.std.proofs.Common.{◌≡◌, ◌++◌, drop}
use Rattle.stream_image.specs.Line as spec
use Rattle.stream_image.specs.Rest.{rest_of}
use Rattle.stream_image.proofs.line.line_of.Given as goal

abbrev pub invariant-loop-mask : goal.invariant-loop-mask
invariant-loop-mask l = l.items ++ spec.line_of l.n (rest_of l.streams l.places) (drop l.mask-index l.masks) ≡ spec.line_of l.n (spec.items_of l.streams) l.masks
