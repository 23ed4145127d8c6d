-- Blocks that are shown, one more at a time.
use Rattle.std.proofs.Common.{List, [], ◌∷◌, ◌++◌}
use Rattle.bm_base.specs.Machine.{Machine}
use Rattle.tuple_ir.specs.declared.block.Block.{Block}
use Rattle.show_text.specs.declared.shown.ShownBlock.{ShownBlock}
use Rattle.show_text.specs.Shown.{IsShown, AreShown}

pub shown_more : (machine : Machine) (blocks : List Block) (shown : List ShownBlock) (block : Block) (s : ShownBlock) →
    AreShown machine blocks shown → IsShown machine block s → AreShown machine (blocks ++ block ∷ []) (shown ++ s ∷ [])
shown_more machine [] [] block s h k = (k, tt)
shown_more machine [] (t ∷ ts) block s h k = absurd h
shown_more machine (b ∷ bs) [] block s h k = absurd h
shown_more machine (b ∷ bs) (t ∷ ts) block s h k = (h.0, shown_more machine bs ts block s h.1 k)
