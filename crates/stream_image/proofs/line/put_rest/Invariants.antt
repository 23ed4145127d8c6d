use Rattle.std.proofs.Common.{◌≡◌, ◌++◌, true}
use Rattle.stream_image.specs.Line.{ahead}
use Rattle.stream_image.specs.Rest.{rest_of}
use Rattle.stream_image.proofs.line.put_rest.Given as goal

abbrev pub invariant-loop-p : goal.invariant-loop-p
invariant-loop-p l = l.items ≡ l.fn.items ++ ahead l.p (λ q. true) (rest_of l.streams l.places)
