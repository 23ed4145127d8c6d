-- What an image has, counted.
use Rattle.std.specs.Prelude.{ℕ, List, ◌++◌, length, codes, decimal}
use Rattle.line_model.specs.Streams.{masks}
use Rattle.unit_law.specs.State.{Program, code_at}
use Rattle.unit_law.specs.Determinate.{sum_below}

-- the tuples of all blocks, and their masks
abbrev pub tuples_in : Program → ℕ
tuples_in m = sum_below (λ b. length (code_at m b).tuples) (length m.blocks)

abbrev pub masks_in : Program → ℕ
masks_in m = sum_below (λ b. length (masks (code_at m b).line)) (length m.blocks)

-- the line that tells them
abbrev pub counts_line : Program → List ℕ
counts_line m = codes "image blocks " ++ decimal (length m.blocks) ++ codes " tuples " ++ decimal (tuples_in m) ++ codes " masks "
    ++ decimal (masks_in m) ++ codes "\n"
