-- A line with one Bar fewer.
use Rattle.std.specs.Prelude.{◌≡◌, suc, ◌<◌, false, List, Option, length}
use Rattle.bm_base.specs.Mask.{meets}
use Rattle.line_model.specs.declared.line.Item.{Item}
use Rattle.line_model.specs.Streams.{masks}
use Rattle.line_model.specs.Reductions.{without_bar, merged_at, mask_at}
use Rattle.time_interval.specs.declared.edit.Edit.{Edit}
use Rattle.time_interval.specs.declared.edit.Edit.TheVariants.{Remove, Merge}
use Rattle.time_interval.specs.Bounds.{Pace}

-- the line that an edit makes of a line
abbrev pub edited : Edit → List Item → List Item
edited (Remove j) line = without_bar j line
edited (Merge j) line = merged_at j line

-- the edit is one of the line's: its Bar is there, and the next one too and apart where they merge
abbrev pub IsEdit : List Item → Edit → Type 0
IsEdit line (Remove j) = j < length (masks line)
IsEdit line (Merge j) = (suc j < length (masks line)) × (meets (mask_at line j) (mask_at line (suc j)) ≡ false)

-- a line at hand with what it takes, and where a change stands the line before it
pub record Changing : Type 0 where
  pub pace : Pace
  pub line : List Item
  pub before : Option (List Item)
