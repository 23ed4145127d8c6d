-- How many statements there are, those in bodies included.
use Rattle.std.specs.Prelude.{ℕ, ◌+◌, List, [], ◌∷◌, map}
use Rattle.src_tree.specs.declared.tree.Stmt.{Stmt, Stmt-F}
use Rattle.src_tree.specs.declared.tree.Stmt.TheFolds.{fold-Stmt}

abbrev pub total : List ℕ → ℕ
total [] = 0
total (n ∷ ns) = n + total ns

abbrev pub count_step : Stmt-F ℕ → ℕ
count_step (Stmt-F.Assign n x) = 1
count_step (Stmt-F.SetElement n i x) = 1
count_step (Stmt-F.Print x) = 1
count_step (Stmt-F.If c ys ns) = 1 + (total ys + total ns)
count_step (Stmt-F.While c ss) = 1 + total ss

-- a statement and those in its bodies
unfoldable pub count_of : Stmt → ℕ
count_of = fold-Stmt ℕ count_step

-- the statements of a body, and those in their bodies
abbrev pub statements : List Stmt → ℕ
statements body = total (map count_of body)
