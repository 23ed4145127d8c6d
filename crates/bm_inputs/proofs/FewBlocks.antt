-- A text of an image has no more blocks than bytes.
use Rattle.std.proofs.Common.{◌≡◌, ℕ, ◌+◌, ◌≤◌, suc, ap, arith, List, [], ◌∷◌, ◌++◌, length, map, length-append}
use Rattle.bm_base.specs.Lines.{unlines}
use Rattle.stream_file.specs.Rows.{Row, Ends, row_text}
use Rattle.stream_file.specs.Fields.{BlockFields, Fields, IsTextOf, text_of, rows, blocks_rows, block_rows, top_rows}

long_rows : (rs : List Row) → length rs ≤ length (unlines (map row_text rs))
long_rows [] = omega arith
long_rows (r ∷ rs) = omega (arith, long_rows rs, length-append (row_text r) (10 ∷ unlines (map row_text rs)))

long_blocks : (n : ℕ) (bs : List BlockFields) → length bs ≤ length (blocks_rows n bs)
long_blocks n [] = omega arith
long_blocks n (b ∷ bs) = omega (arith, long_blocks (suc n) bs, length-append (block_rows n b) (blocks_rows (suc n) bs))

pub few_blocks : (bytes : List ℕ) (f : Fields) → IsTextOf bytes f → length f.blocks ≤ length bytes
few_blocks bytes f t =
    let a = long_rows (rows f) in
    let b = long_blocks 0 f.blocks in
    let c : length (rows f) ≡ length (top_rows f) + length (blocks_rows 0 f.blocks ++ Ends ∷ []) = length-append (top_rows f) (blocks_rows 0 f.blocks ++ Ends ∷ []) in
    let d : length (blocks_rows 0 f.blocks ++ Ends ∷ []) ≡ length (blocks_rows 0 f.blocks) + 1 = length-append (blocks_rows 0 f.blocks) (Ends ∷ []) in
    let e : length bytes ≡ length (text_of f) = ap length t.text in
    short (length f.blocks) (length (blocks_rows 0 f.blocks)) (length (top_rows f)) (length (blocks_rows 0 f.blocks ++ Ends ∷ [])) (length (rows f)) (length (text_of f)) (length bytes) b d c a e
  where
    short : (k b t u r x y : ℕ) → k ≤ b → u ≡ b + 1 → r ≡ t + u → r ≤ x → y ≡ x → k ≤ y
    short k b t u r x y h d c a e = omega arith
