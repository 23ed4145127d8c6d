use Rattle.std.proofs.Common.{◌≡◌, ◌<◌, length, get_or, Some, ap, sym, ◌∙◌, subst, arith}
use Rattle.std.proofs.lemmas.Iterator.Adapters.{YieldsList-from_vec}
use Rattle.std.proofs.lemmas.Iterator.Consumers.{YieldsList-turn, YieldsList-end}
use Rattle.std.proofs.lemmas.List.{map-id}
use Rattle.std.proofs.lemmas.Option.{slice_get-get_or}
use Rattle.tuple_ir.specs.Sound.{IsBlockSound}
use Rattle.unit_law.specs.State.{Program}
use Rattle.stream_image.specs.Image.{IsKept}
use Rattle.stream_image.specs.Refused.{target_fault}
use Rattle.compiled_image.proofs.Kept.{plan_kept, sound_leads}
use Rattle.compiled_image.proofs.Made.{made_more}
use Rattle.compiled_image.proofs.compiling.with_plans.Goals.{After-planned, After-drop-block-iterator-2}
use Rattle.compiled_image.proofs.compiling.with_plans.Goals as goal

-- the block of this turn
turn : (c : After-planned) → (length c.loop-block.yielded < length c.args.blocks.blocks) × (c.in-Some.block ≡ get_or c.args.blocks.blocks (length c.loop-block.yielded) c.in-Some.block)
turn c =
    let y = YieldsList-from_vec {s = c.into_iter-block-iterator.result} c.args.blocks.blocks (c.into_iter-block-iterator.ensures.into_iter_gives.0 ∙ c.into_vec-block-items.ensures) (let l = c.into_iter-block-iterator.ensures.into_iter_gives.1 in let k = c.into_vec-block-items.result.ok.0 in let e = ap length c.into_vec-block-items.ensures in omega arith) in
    YieldsList-turn y c.loop-block.yielded c.loop-block.block-iterator c.loop-block.yielded_by c.next.result c.next.new.self c.in-Some.block c.in-Some.is c.next.ensures.steps

-- .. is sound
sound : (c : After-planned) → IsBlockSound c.args.blocks.names (length c.args.blocks.blocks) c.in-Some.block
sound c = let t = turn c in c.requires.sound.each (length c.loop-block.yielded) c.in-Some.block (slice_get-get_or c.args.blocks.blocks (length c.loop-block.yielded) c.in-Some.block t.0 ∙ ap Some (sym t.1))

pub with_block-summary-requires-clause-inserted : goal.with_block-summary-requires-clause-inserted
with_block-summary-requires-clause-inserted c = c.in_ok-planned.ensures.inserted

pub line-requires-clause-kept : goal.line-requires-clause-kept
line-requires-clause-kept c =
    let d = (goal.at.line-requires-clause-kept c).After-planned in
    subst (λ (m : Program). IsKept m.machine m.names c.in-Some.block c.in_ok-planned.planned.plan.line.items) (sym c.loop-block.invariant.0.program)
    (plan_kept c.args.spec c.args.blocks.names (length c.args.blocks.blocks) c.in-Some.block c.in_ok-planned.planned.plan.line.items (sound d) c.in_ok-planned.ensures.in_order)

pub loop-block-preserved : goal.loop-block-preserved
loop-block-preserved c = (
  made_more c.args.spec c.args.blocks.names c.loop-block.yielded c.in-Some.block c.loop-block.builder c.line.new.self c.loop-block.summary c.with_block-summary.result c.in_ok-planned.planned.plan c.in_ok-planned.planned.tally c.loop-block.invariant.0 c.in_ok-planned.ensures c.in_ok-line.ensures.ok
      c.with_block-summary.ensures.summary,
  c.with_block-summary.ensures.room,
)

-- all blocks have been put
all_put : (c : After-drop-block-iterator-2) → c.loop-block.yielded ≡ c.args.blocks.blocks
all_put c =
    let y = YieldsList-from_vec {s = c.into_iter-block-iterator.result} c.args.blocks.blocks (c.into_iter-block-iterator.ensures.into_iter_gives.0 ∙ c.into_vec-block-items.ensures) (let l = c.into_iter-block-iterator.ensures.into_iter_gives.1 in let k = c.into_vec-block-items.result.ok.0 in let e = ap length c.into_vec-block-items.ensures in omega arith) in
    let t = YieldsList-end y c.loop-block.yielded c.loop-block.block-iterator c.loop-block.yielded_by c.next.result c.next.new.self c.in-None.is c.next.ensures.steps in
    sym (map-id c.loop-block.yielded) ∙ t.0

pub unreachable-requires : goal.unreachable-requires
unreachable-requires c =
    let d = (goal.at.unreachable-requires c).After-drop-block-iterator-2 in
    let e = ap (λ (m : Program). target_fault m.blocks) c.loop-block.invariant.0.program ∙ ap target_fault (all_put d) ∙ sound_leads c.args.blocks.names c.args.blocks.blocks c.requires.sound in
    let f = sym e ∙ c.in-Err.ensures.err in
    cc
