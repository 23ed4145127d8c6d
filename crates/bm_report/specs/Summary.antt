-- The lines of a summary.
use Rattle.std.specs.Prelude.{ℕ, List, [], ◌∷◌, ◌++◌, codes, decimal}
use Rattle.bm_report.specs.declared.summary.Summary.{Summary}
use Rattle.bm_report.specs.Text.{line}

-- a number behind some words
abbrev pub counted : List ℕ → ℕ → List ℕ
counted words value = words ++ decimal value

abbrev pub summary_lines : Summary → List (List ℕ)
summary_lines s =
    line (counted (codes "blocks ") s.blocks) ∷
    line (counted (codes "tuples ") s.tuples) ∷
    line (counted (codes "pairs ") s.pairs ++ counted (codes " processor ") s.by_processor ++ counted (codes " barrier ") s.by_barrier
    ++ counted (codes " time ") s.by_time) ∷
    line (counted (codes "masks inserted ") s.inserted ++ counted (codes " kept ") s.kept) ∷
    line (counted (codes "estimate ") s.makespan ++ counted (codes " work ") s.work ++ counted (codes " longest ") s.longest) ∷ []
