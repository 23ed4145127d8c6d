use Rattle.std.proofs.Common.{◌≡◌, ◌+◌, ◌∙◌, ap, sym, take, ◌++◌, [], ◌∷◌}
use Rattle.std.proofs.lemmas.List.{take_more}
use Rattle.tuple_ir.specs.declared.block.Block.{Block}
use Rattle.show_text.proofs.Blocks.{shown_more}
use Rattle.show_text.proofs.shown.show_program.Goals as goal

pub loop-block-preserved : goal.loop-block-preserved
loop-block-preserved c =
    let xs = c.items-block-items.result.now in
    let i = c.loop-block.block-index in
    let e : take (i + 1) xs ≡ take i xs ++ c.block-item.result ∷ [] =
    take_more xs i c.block-item.result c.loop-block-test.true ∙ ap (λ (b : Block). take i xs ++ b ∷ []) (sym c.block-item.is) in
    rw (c.in_ok-push.ensures.ok, e)
    (record { so_far = shown_more c.args.spec.now (take i xs) c.loop-block.shown c.block-item.result c.in_ok-show_block.field-0 c.loop-block.invariant.so_far c.in_ok-show_block.ensures })
