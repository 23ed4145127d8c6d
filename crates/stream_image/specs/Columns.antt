-- Of the storage of images: the columns of the blocks.
use Rattle.std.specs.Prelude.{◌≡◌, List, length, take}
use Rattle.stream_image.specs.declared.shelf.Columns.{Columns}
use Rattle.stream_image.specs.Flat.{parts, IsCut, HeldBlock, blocks_of}

-- the blocks that lie in the columns
abbrev pub held_in : Columns → List HeldBlock
held_in c = blocks_of c.nexts.items c.tuples c.masks (parts c.ends.items 0 c.streams)

-- the columns are as long as one another
pub record AreColumns (c : Columns) : Type 0 where
  pub tuples : length c.tuples ≡ length c.nexts.items
  pub masks : length c.masks ≡ length c.nexts.items
  pub ends : length c.ends.items ≡ length c.nexts.items
  pub cut : IsCut c.ends.items 0 (length c.streams)

-- the columns begin as before
pub record BeginAs (old new : Columns) : Type 0 where
  pub nexts : take (length old.nexts.items) new.nexts.items ≡ old.nexts.items
  pub tuples : take (length old.nexts.items) new.tuples ≡ old.tuples
  pub masks : take (length old.nexts.items) new.masks ≡ old.masks
  pub ends : take (length old.nexts.items) new.ends.items ≡ old.ends.items
  pub streams : take (length old.streams) new.streams ≡ old.streams
