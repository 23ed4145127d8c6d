-- What files that never fail show.
use Rattle.std.specs.Prelude.{ℕ, List}
use Rattle.bm_io.specs.Files.{Held}
use Rattle.bm_io.specs.Shelf.{shelf_held, shelf_asked}
use Rattle.bm_io.specs.declared.sure_files.SureFiles.{SureFiles}

-- the files held
abbrev pub sure_held : SureFiles → Held
sure_held s = shelf_held s.shelf

-- the names asked so far
abbrev pub sure_asked : SureFiles → List (List ℕ)
sure_asked s = shelf_asked s.shelf
