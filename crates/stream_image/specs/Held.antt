-- Of the storage of images: what is held, and the program that it is.
use Rattle.std.specs.Prelude.{ℕ, ◌<◌, ◌≤◌, ◌^◌, max, List, [], ◌∷◌, map, length}
use Rattle.std.specs.List.{AllByRecursion}
use Rattle.bm_base.specs.Machine.{Machine}
use Rattle.bm_base.specs.Entry.{Entry}
use Rattle.tuple_ir.specs.Sound.{leads_below}
use Rattle.line_model.specs.declared.line.Item.{Item}
use Rattle.line_model.specs.Streams.{masks}
use Rattle.unit_law.specs.State.{Program}
use Rattle.stream_image.specs.Flat.{HeldBlock}
use Rattle.stream_image.specs.Laws.{HaveEvenWaits}
use Rattle.stream_image.specs.Line.{items_of, line_of}
use Rattle.stream_image.specs.Image.{IsKept}

-- the line of a block that is held, on n processors
abbrev pub line_held : ℕ → HeldBlock → List Item
line_held n h = line_of n (items_of h.streams) h.masks

abbrev pub program_of : Machine → List Entry → List HeldBlock → Program
program_of machine names held = record {
  machine = machine;
  names = names;
  blocks = map (λ h. h.block) held;
  lines = map (line_held machine.processors) held;
}

-- a block that is held keeps the stream invariant, wherever its next leads, and has as many waits as masks
pub record IsHeld (machine : Machine) (names : List Entry) (h : HeldBlock) : Type 0 where
  pub kept : IsKept machine names h.block (line_held machine.processors h)
  pub even : HaveEvenWaits machine.processors (items_of h.streams) h.masks

-- what is held while an image is built: fewer blocks than 2^32
pub record AreHeld (machine : Machine) (names : List Entry) (held : List HeldBlock) : Type 0 where
  pub each : AllByRecursion (IsHeld machine names) held
  pub few : length held < 2 ^ 32

-- each next leads to one of so many blocks
abbrev pub AllLeadBelow : ℕ → List HeldBlock → Type 0
AllLeadBelow count held = AllByRecursion (λ (h : HeldBlock). leads_below count h.block.next) held

-- .. and when it is built: there is a block, and each next leads to blocks
pub record AreWhole (machine : Machine) (names : List Entry) (held : List HeldBlock) : Type 0 where
  pub held_so : AreHeld machine names held
  pub some : 1 ≤ length held
  pub lead : AllLeadBelow (length held) held

-- the greatest number of masks of a block
abbrev pub most_masks_of : List (List Item) → ℕ
most_masks_of [] = 0
most_masks_of (l ∷ ls) = max (length (masks l)) (most_masks_of ls)
