use Rattle.std.proofs.Common.{◌≡◌, ◌≤◌, List, take, length, ℕ, map, false, ap, ◌∙◌, arith, take_all}
use Rattle.sbm_unit.proofs.Lawful.{front_none}
use Rattle.sbm_unit.proofs.sbm.SbmBarrierUnit.load.Goals as goal

copied : (items masks : List ℕ) (i : ℕ) → take i items ≡ take i masks → length masks ≤ i → i ≤ length masks → take (length masks) items ≡ masks
copied items masks i e lo hi = let q : length masks ≡ i = omega arith in ap (λ n. take n items) q ∙ e ∙ take_all i masks lo

pub returns-clause-fired : goal.returns-clause-fired
returns-clause-fired c = front_none _ ∙ ap (map (λ _. false)) (copied _ _ c.loop-i.i c.loop-i.invariant.copied c.loop-i-test.false (c.loop-i.auto.i-end))
