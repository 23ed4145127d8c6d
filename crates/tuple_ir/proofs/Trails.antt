-- The numbers of the blocks that the serial meaning runs.
use Rattle.std.proofs.Common.{◌≡◌, ℕ, zero, suc, ◌+◌, List, [], ◌∷◌, ◌++◌, Option, Some, None, sym, ap, ◌∙◌, refl, arith, append_assoc, append-nil}
use Rattle.bm_base.specs.Memory.{Content}
use Rattle.tuple_ir.specs.declared.block.Block.{Block}
use Rattle.tuple_ir.specs.World.{World}
use Rattle.tuple_ir.specs.Serial.{one_block, outcome}
use Rattle.tuple_ir.proofs.Growth.{ended_stays}

-- the trail of one block more
pub trail_next : (blocks : List Block) (memory : List Content) (n b : ℕ) → (outcome blocks memory n).next ≡ Some b → (outcome blocks memory (suc n)).trail ≡ (outcome blocks memory n).trail ++ b ∷ []
trail_next blocks memory n b e = ap (λ o. (one_block blocks o (outcome blocks memory n).world (outcome blocks memory n).trail).trail) e

one_more : (blocks : List Block) (o : Option ℕ) (w : World) (trail : List ℕ) → (rest : List ℕ) × (trail ++ rest ≡ (one_block blocks o w trail).trail)
one_more blocks None w trail = ([], append-nil trail)
one_more blocks (Some b) w trail = (b ∷ [], refl)

-- the trail of more blocks begins with that of fewer
pub trail_grows : (blocks : List Block) (memory : List Content) (n d : ℕ) → (rest : List ℕ) × ((outcome blocks memory n).trail ++ rest ≡ (outcome blocks memory (n + d)).trail)
trail_grows blocks memory n zero = let e : n ≡ n + 0 = omega arith in ([], append-nil (outcome blocks memory n).trail ∙ ap (λ k. (outcome blocks memory k).trail) e)
trail_grows blocks memory n (suc d) =
    let e : suc (n + d) ≡ n + suc d = omega arith in
    let (x, f) = trail_grows blocks memory n d in
    let (y, g) = one_more blocks (outcome blocks memory (n + d)).next (outcome blocks memory (n + d)).world (outcome blocks memory (n + d)).trail in
    (x ++ y, sym (append_assoc (outcome blocks memory n).trail x y) ∙ ap (λ l. l ++ y) f ∙ g ∙ ap (λ k. (outcome blocks memory k).trail) e)

-- what has ended adds nothing
pub trail_stays : (blocks : List Block) (memory : List Content) (n d : ℕ) → (outcome blocks memory n).next ≡ None → (outcome blocks memory (n + d)).trail ≡ (outcome blocks memory n).trail
trail_stays blocks memory n zero e = let q : n + 0 ≡ n = omega arith in ap (λ k. (outcome blocks memory k).trail) q
trail_stays blocks memory n (suc d) e =
    let q : n + suc d ≡ suc (n + d) = omega arith in
    ap (λ k. (outcome blocks memory k).trail) q
    ∙ ap (λ o. (one_block blocks o (outcome blocks memory (n + d)).world (outcome blocks memory (n + d)).trail).trail) (ended_stays blocks memory n d e).0
    ∙ trail_stays blocks memory n d e
