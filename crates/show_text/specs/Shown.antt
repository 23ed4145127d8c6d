-- What is shown of a program on a machine.
use Rattle.std.specs.Prelude.{◌≡◌, ℕ, ◌<◌, List, [], ◌∷◌, map, slice_index}
use Rattle.bm_base.specs.Machine.{Machine}
use Rattle.tuple_ir.specs.declared.block.Block.{Block}
use Rattle.line_model.specs.declared.line.Item.{Item}
use Rattle.line_model.specs.declared.line.Item.TheVariants.{Run, Bar}
use Rattle.time_interval.specs.Bounds.{Pace, pace_on}
use Rattle.compiled_image.specs.declared.planned.Plan.{Plan}
use Rattle.compiled_image.specs.Planned.{IsPlanned}
use Rattle.compiled_image.specs.Reasons.{Pair, pair, pairs_of, AreReasons}
use Rattle.show_text.specs.declared.shown.ShownItem.{ShownItem}
use Rattle.show_text.specs.declared.shown.ShownPair.{ShownPair}
use Rattle.show_text.specs.declared.shown.ShownBlock.{ShownBlock}

-- the tick at which the tuple of an item starts in the plan's schedule
abbrev pub start_of : Plan → Item → ℕ
start_of plan (Run processor tuple) = slice_index plan.schedule.plan.starts tuple
start_of plan (Bar mask) = 0

abbrev pub shown_item : Plan → Item → ShownItem
shown_item plan item = record { item = item; start = start_of plan item }

-- a tuple that it runs has a number below n
abbrev pub RunsBelow : ℕ → Item → Type 0
RunsBelow n (Run processor tuple) = tuple < n
RunsBelow n (Bar mask) = Unit {0}

abbrev pub pair_of : ShownPair → Pair
pair_of p = pair p.b p.a

-- these pairs, each with the reason why it is in order in the line, the first that holds
pub record ArePairs (pace : Pace) (line : List Item) (pairs : List Pair) (shown : List ShownPair) : Type 0 where
  pub pairs_are : map pair_of shown ≡ pairs
  pub reasons : AreReasons pace line pairs (map (λ p. p.reason) shown)

-- the items of the plan's reduced line, the conflicting pairs by the later tuple, then by the earlier one, and what follows the block
pub record IsShown (machine : Machine) (block : Block) (shown : ShownBlock) : Type 0 where
  pub plan : Plan
  pub planned : IsPlanned machine block.tuples plan
  pub items : shown.items ≡ map (shown_item plan) plan.line.items
  pub pairs : ArePairs (pace_on machine block.tuples) plan.line.items (pairs_of block.tuples) shown.pairs
  pub next : shown.next ≡ block.next

-- .. of each block, in order
abbrev pub AreShown : Machine → List Block → List ShownBlock → Type 0
AreShown machine [] [] = Unit {0}
AreShown machine (block ∷ blocks) (shown ∷ more) = IsShown machine block shown × AreShown machine blocks more
AreShown machine [] (shown ∷ more) = ⊥
AreShown machine (block ∷ blocks) [] = ⊥
