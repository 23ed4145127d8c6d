-- The lines of a listing.
use Rattle.std.specs.Prelude.{ℕ, suc, List, [], ◌∷◌, ◌++◌, map, codes, decimal}
use Rattle.tuple_ir.specs.declared.block.Next.{Next}
use Rattle.bm_report.specs.Text.{line}
use Rattle.bm_report.specs.Listing.{item_line_of, pair_line_of, next_line_of}
use Rattle.show_text.specs.declared.shown.ShownItem.{ShownItem}
use Rattle.show_text.specs.declared.shown.ShownPair.{ShownPair}
use Rattle.show_text.specs.declared.shown.ShownBlock.{ShownBlock}

abbrev pub block_line_of : ℕ → List ℕ
block_line_of number = line (codes "block " ++ decimal number)

unfoldable pub shown_item_line : ShownItem → List ℕ
shown_item_line shown = item_line_of shown.item shown.start

unfoldable pub shown_pair_line : ShownPair → List ℕ
shown_pair_line shown = pair_line_of shown.a shown.b shown.reason

unfoldable pub shown_next_line : Next → List ℕ
shown_next_line next = next_line_of next

abbrev pub item_lines : List ShownItem → List (List ℕ)
item_lines items = map shown_item_line items

abbrev pub pair_lines : List ShownPair → List (List ℕ)
pair_lines pairs = map shown_pair_line pairs

-- a block's number, its items, its pairs, and what follows it
abbrev pub block_lines : ℕ → ShownBlock → List (List ℕ)
block_lines number shown =
    (block_line_of number ∷ []) ++ (item_lines shown.items ++ (pair_lines shown.pairs ++ (shown_next_line shown.next ∷ [])))

-- blocks in order, numbered from here on
abbrev pub listing_from : ℕ → List ShownBlock → List (List ℕ)
listing_from number [] = []
listing_from number (shown ∷ more) = block_lines number shown ++ listing_from (suc number) more

abbrev pub listing : List ShownBlock → List (List ℕ)
listing shown = listing_from 0 shown
