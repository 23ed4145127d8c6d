-- What a shelf of named files shows.
use Rattle.std.specs.Prelude.{ℕ, List, map}
use Rattle.std.specs.Option.{option_map}
use Rattle.std.specs.String.{string_bytes}
use Rattle.std.specs.BTreeMap.{get_by_text}
use Rattle.bm_io.specs.Files.{Held}
use Rattle.bm_io.specs.declared.shelf.Shelf.{Shelf}

-- the files held
abbrev pub shelf_held : Shelf → Held
shelf_held s = λ name. option_map (λ bytes. bytes.items) (get_by_text s.files name)

-- the names noted so far
abbrev pub shelf_asked : Shelf → List (List ℕ)
shelf_asked s = map string_bytes s.names.items
