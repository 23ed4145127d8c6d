use Rattle.std.proofs.Common.{◌≡◌, sym, subst, ap, length, map, [], ◌∷◌, arith}
use Rattle.std.proofs.lemmas.List.{length-append}
use Rattle.tuple_ir.specs.declared.block.Blocks.{Blocks}
use Rattle.tuple_ir.specs.declared.block.Next.TheVariants.{Halt}
use Rattle.tuple_ir.specs.Sound.{AreBlocksSound}
use Rattle.tuple_lower.specs.Blocks.{lower_body, lowered_blocks, block}
use Rattle.tuple_lower.proofs.Making.{body_few}
use Rattle.compiled_image.specs.Counts.{IsMade}
use Rattle.compiled_image.proofs.Made.{told_plans}
use Rattle.compiled_image.proofs.LawFacts.{compiled_from}
use Rattle.compiled_image.proofs.compiling.compile.Goals.{After-blocks-blocks}
use Rattle.compiled_image.proofs.compiling.compile.Goals as goal

pub with_plans-requires-clause-sound : goal.with_plans-requires-clause-sound
with_plans-requires-clause-sound c = subst (λ (b : Blocks). AreBlocksSound b.names b.blocks) (sym c.in_ok-blocks.ensures) (c.lowered_blocks_mean_their_programs.ensures.sound c.args.program.now c.names-names.ensures.right c.requires.nodes)

pub with_plans-requires-clause-few : goal.with_plans-requires-clause-few
with_plans-requires-clause-few c =
    let body = lower_body c.args.program.now.body 0 [] in
    let e : length c.in_ok-blocks.blocks.blocks ≡ length (lowered_blocks c.args.program.now).blocks = ap (λ (b : Blocks). length b.blocks) c.in_ok-blocks.ensures in
    let l = length-append body.ended (block body.current Halt ∷ []) in
    let f = body_few c.requires.nodes 0 [] in
    let s = c.requires.statements in
    omega arith

made : (c : After-blocks-blocks) → IsMade c.args.spec (lowered_blocks c.args.program.now).names (lowered_blocks c.args.program.now).blocks c.in_ok-compiled.compiled.image c.in_ok-compiled.compiled.summary
made c = subst (λ (b : Blocks). IsMade c.args.spec b.names b.blocks c.in_ok-compiled.compiled.image c.in_ok-compiled.compiled.summary) c.in_ok-blocks.ensures c.in_ok-compiled.ensures

pub returns-clause-image : goal.returns-clause-image
returns-clause-image c =
    let m = made (goal.at.returns-clause-image c).After-blocks-blocks in
    let lowered = c.lowered_blocks_mean_their_programs.ensures in
    compiled_from lowered.ends lowered.keeps_back lowered.keeps_pace c.args.spec c.args.program.now c.in_ok-compiled.compiled.image c.requires.nodes
    (record { plans = map (λ t. t.plan) m.told; planned = told_plans c.args.spec (lowered_blocks c.args.program.now).blocks m.told m.are; whole = m.program }) c.blocks-blocks.ensures.lawful c.blocks-blocks.ensures.determinate

pub returns-clause-summary : goal.returns-clause-summary
returns-clause-summary c =
    let m = made (goal.at.returns-clause-summary c).After-blocks-blocks in
    record { told = m.told; are = m.are; whole = m.summary }
