use Rattle.std.proofs.Common.{◌≡◌, ◌≤◌, ◌<◌, ◌+◌, ◌-◌, ◌++◌, ℕ, suc, List, sym, ap, ◌∙◌, append_assoc, arith, rules, w64, FitsSigned, to_z-of_z, add-one, pos}
use Rattle.std.specs.Prelude.{slice_get, codes}
use Rattle.std.specs.Fmt.{signed_decimal}
use Rattle.std.proofs.lemmas.Int.{to_z_pos}
use Rattle.bm_base.specs.Memory.{element}
use Rattle.bm_report.specs.Held.{elements_at}
use Rattle.bm_report.proofs.Elements.{elements_next}
use Rattle.bm_report.proofs.memory.elements.Goals as goal

regroup : (p a b c : List ℕ) → p ++ a ++ b ++ c ≡ p ++ (a ++ b ++ c)
regroup p a b c = append_assoc (p ++ a) b c ∙ append_assoc p a (b ++ c) ∙ ap (λ x. p ++ x) (sym (append_assoc a b c))

pub loop-index-preserved : goal.loop-index-preserved
loop-index-preserved c =
    let i : ℕ = c.loop-index.index in
    let end : ℕ = c.min-index-end.result in
    let b : end ≤ c.args.len = omega (arith, c.min-index-end.ensures) in
    let n : ℕ = end - (i + 1) in
    let t : i < end = c.loop-index-test.true in
    let e : end - i ≡ suc n = omega arith in
    let s : List ℕ = codes " " ++ signed_decimal c.element.result in
    let fits : FitsSigned w64 c.element.result = search rules in
    let q = to_z-of_z fits in
    let p : c.number.new.self ≡ c.loop-index.piece ++ codes " " ++ signed_decimal c.element.result = (rw q at c.number.ensures.text) ∙ ap (λ x. x ++ signed_decimal c.element.result) c.text.ensures.text in
    let l : i < 9223372036854775808 = omega (arith, c.requires.few) in
    let v : c.element.result ≡ element c.args.store.now c.args.id (pos i) = c.element.ensures ∙ ap (element c.args.store.now c.args.id) (to_z_pos w64 i l) in
    let x = elements_next (slice_get c.args.store.now c.args.id) c.args.len i (i + 1) n c.requires.array (omega arith) (add-one i) in
    let y : codes " " ++ signed_decimal c.element.result ++ elements_at (slice_get c.args.store.now c.args.id) (i + 1) n ≡ elements_at (slice_get c.args.store.now c.args.id) i (end - i) =
    ap (λ z. codes " " ++ signed_decimal z ++ elements_at (slice_get c.args.store.now c.args.id) (i + 1) n) v ∙ sym x ∙ ap (elements_at (slice_get c.args.store.now c.args.id) i) (sym e) in
    record {
      text = ap (λ x. x ++ elements_at (slice_get c.args.store.now c.args.id) (i + 1) n) p
          ∙ regroup c.loop-index.piece (codes " ") (signed_decimal c.element.result) (elements_at (slice_get c.args.store.now c.args.id) (i + 1) n)
          ∙ ap (λ x. c.loop-index.piece ++ x) y
          ∙ c.loop-index.invariant.text;
      size = omega (arith, c.loop-index.invariant.size, c.text.ensures.length, c.number.ensures.length, c.loop-index.auto.index);
    }
