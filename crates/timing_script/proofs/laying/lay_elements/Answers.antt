use Rattle.std.proofs.Common.{◌≡◌, ◌∙◌, take, pos, FitsSigned, w64, get_or, rules, ◌<◌, ◌^◌}
use Rattle.std.proofs.lemmas.Int.{to_z_pos, to_z-of_z}
use Rattle.std.proofs.lemmas.List.{get_or_default}
use Rattle.bm_base.specs.Memory.{set_element}
use Rattle.timing_script.proofs.Elements.{none_laid, still_array, one_laid}
use Rattle.timing_script.proofs.laying.lay_elements.Goals as goal

pub loop-index-init : goal.loop-index-init
loop-index-init c = record { value = none_laid c.args.store.now c.args.id c.args.values.now c.requires.array; kept = λ names m. m }

pub set_element-requires : goal.set_element-requires
set_element-requires c = still_array c.args.store.now c.args.id (take c.loop-index.index c.args.values.now) c.requires.array c.loop-index.store c.loop-index.invariant.value

pub loop-index-preserved : goal.loop-index-preserved
loop-index-preserved c =
    let e = c.set_element.ensures.value in
    let f : FitsSigned w64 (get_or c.args.values.now c.loop-index.index (pos 0)) = search rules in
    let g : c.loop-index.index < 2 ^ 63 = search rules in
    let given : get_or c.args.values.now c.loop-index.index (pos 0) ≡ get_or c.args.values.now c.loop-index.index (get_or c.args.values.now c.loop-index.index (pos 0)) =
    get_or_default c.args.values.now c.loop-index.index (pos 0) (get_or c.args.values.now c.loop-index.index (pos 0)) c.loop-index-test.true in
    let one = one_laid c.args.store.now c.loop-index.store c.args.id c.loop-index.index c.args.values.now (get_or c.args.values.now c.loop-index.index (pos 0)) c.requires.array c.requires.room c.loop-index.invariant.value c.loop-index-test.true given in
    record {
      value = e ∙ (λ i. set_element c.loop-index.store c.args.id (to_z_pos w64 c.loop-index.index g i) (to_z-of_z w64 (get_or c.args.values.now c.loop-index.index (pos 0)) f i)) ∙ one;
      kept = λ names m. c.set_element.ensures.kept names (c.loop-index.invariant.kept names m);
    }
