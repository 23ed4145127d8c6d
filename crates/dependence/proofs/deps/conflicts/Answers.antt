use Rattle.std.proofs.Common.{◌≡◌, ◌≤◌, ◌∙◌, ℕ, List, map, length, sym, ap, subst, arith}
use Rattle.std.specs.List.{range_with_len}
use Rattle.dependence.specs.Producers.{AreRows, producers_at, producers_of, rows_of}
use Rattle.dependence.proofs.Rows.{rows_more, are_rows}
use Rattle.dependence.proofs.deps.conflicts.Goals as goal

pub loop-b-preserved : goal.loop-b-preserved
loop-b-preserved c = rows_more _ _ c.in_ok-row.row c.items-tuples.result.now c.loop-b.b c.in_ok-push.ensures.items c.loop-b.invariant c.in_ok-row.ensures

pub invariant_of-result : goal.invariant_of-result
invariant_of-result c =
    let P : List (List ℕ) → Type 0 = AreRows in
    let few : length c.items-tuples.result.now ≤ 128 = omega (arith, ap length c.items-tuples.ensures) in
    let end : c.loop-b.b ≡ length c.items-tuples.result.now = omega arith in
    let all : rows_of c.loop-b.rows.items ≡ producers_of c.items-tuples.result.now = c.loop-b.invariant ∙ ap (λ n. map (producers_at c.items-tuples.result.now) (range_with_len 0 n)) end in
    subst P (sym all) (are_rows c.items-tuples.result.now few)
