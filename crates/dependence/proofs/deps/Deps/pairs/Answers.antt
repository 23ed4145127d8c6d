use Rattle.std.proofs.Common.{◌≡◌, ℕ, List, length, get_or, arith, ap, subst}
use Rattle.smallvec.specs.SmallVec.{SmallVec}
use Rattle.dependence.specs.Found.{Found}
use Rattle.dependence.proofs.Rows.{Adds, adds}
use Rattle.dependence.proofs.deps.Deps.pairs.Goals as goal
use Rattle.dependence.proofs.deps.Deps.pairs.Goals.{After-len}

one_more : (c : After-len) → Adds c.args.self.now.producers c.loop-row.row-index c.len.result
one_more c =
    let P : List (SmallVec ℕ) → Type 0 = λ vs. c.row-item.result ≡ get_or vs c.loop-row.row-index c.row-item.result in
    adds c.self.inside.rows.items c.args.self.now.producers c.loop-row.row-index c.len.result c.row-item.result (ap (λ (d : Found). d.producers) c.self.view_is) c.self.invariant (omega (arith, ap length c.deref-row-items.ensures.value)) (subst P c.deref-row-items.ensures.value c.row-item.is) c.len.ensures.value

pub overflow_cast-pairs : goal.overflow_cast-pairs
overflow_cast-pairs c = let a = one_more c in omega (arith, a.small)

pub overflow_add-pairs : goal.overflow_add-pairs
overflow_add-pairs c = let a = one_more c in omega (arith, a.small, a.place, c.loop-row.invariant.1)

pub loop-row-preserved : goal.loop-row-preserved
loop-row-preserved c = let a = one_more c in (omega (arith, a.sum_is, c.loop-row.invariant.0), omega (arith, a.small, c.loop-row.invariant.1))
