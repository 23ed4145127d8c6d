-- Of private functions: what is left of streams behind places.
use Rattle.std.specs.Prelude.{ℕ, List, drop, get_or}
use Rattle.line_model.specs.declared.line.StreamItem.{StreamItem}
use Rattle.stream_image.specs.declared.given.Stream.{Stream}
use Rattle.stream_image.specs.Line.{items_of}

-- so many items of its stream each processor has behind it
abbrev pub rest_of : List Stream → List ℕ → ℕ → List StreamItem
rest_of streams places p = drop (get_or places p 0) (items_of streams p)
