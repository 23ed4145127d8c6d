use Rattle.std.proofs.Common.{◌≡◌, ◌+◌, ◌++◌, ◌∷◌, [], List, ℕ, Vec, Global, map, length, replicate, ap, ◌∙◌, arith}
use Rattle.std.proofs.lemmas.List.{map-append, length_push, replicate_more}
use Rattle.timing_script.proofs.offsets.Offsets.new.Goals as goal

abbrev held : List (Vec ℕ Global) → List (List ℕ)
held lists = map (λ (list : Vec ℕ Global). list.items) lists

more : (before after : List (Vec ℕ Global)) (list : Vec ℕ Global) (n : ℕ) → held before ≡ replicate n [] → list.items ≡ [] → after ≡ before ++ list ∷ [] → held after ≡ replicate (n + 1) []
more before after list n h e a =
    ap held a
    ∙ map-append (λ (list : Vec ℕ Global). list.items) before (list ∷ [])
    ∙ (λ i. h i ++ e i ∷ [])
    ∙ replicate_more n []

pub loop-init : goal.loop-init
loop-init c = record { empty = ap held c.new-lists.ensures.items; count = ap length c.new-lists.ensures.items }

pub loop-preserved : goal.loop-preserved
loop-preserved c = record {
  empty = more c.loop.lists.items c.push.new.self.items c.new.result c.loop.counter c.loop.invariant.empty c.new.ensures.items c.in_ok-push.ensures.items;
  count = ap length c.in_ok-push.ensures.items ∙ length_push c.loop.lists.items c.new.result ∙ ap (λ n. n + 1) c.loop.invariant.count;
}

pub invariant_of-result : goal.invariant_of-result
invariant_of-result c = let e : c.loop.counter ≡ 256 = omega arith in c.loop.invariant.count ∙ e

pub returns : goal.returns
returns c = let e : c.loop.counter ≡ 256 = omega arith in c.loop.invariant.empty ∙ ap (λ n. replicate n []) e
