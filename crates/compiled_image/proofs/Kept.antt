-- A block with the line of its plan, and the builder's program with one more.
use Rattle.std.proofs.Common.{◌≡◌, ℕ, suc, ◌+◌, ◌≤◌, List, [], ◌∷◌, ◌++◌, length, slice_get, Some, None, refl, sym, ap, ap₂, arith, if◌then◌else◌}
use Rattle.std.proofs.lemmas.List.{map_push}
use Rattle.stream_image.proofs.Keeping.{lt_true}
use Rattle.bm_base.specs.Entry.{Entry}
use Rattle.bm_base.specs.Machine.{Machine, IsMachine}
use Rattle.tuple_ir.specs.declared.tuple.Tuple.{Tuple}
use Rattle.tuple_ir.specs.declared.block.Block.{Block}
use Rattle.tuple_ir.specs.declared.block.Next.{Next}
use Rattle.tuple_ir.specs.declared.block.Next.TheVariants.{Halt, Goto, If}
use Rattle.tuple_ir.specs.Sound.{IsBlockSound, leads_below, AreBlocksSound}
use Rattle.line_model.specs.declared.line.Item.{Item}
use Rattle.unit_law.specs.State.{Program}
use Rattle.stream_image.specs.Image.{IsKept, with_line}
use Rattle.stream_image.specs.Refused.{bad_target, target_from, target_fault}
use Rattle.compiled_image.specs.declared.planned.Plan.{Plan}
use Rattle.compiled_image.specs.Planned.{IsPlanned, IsInOrder}
use Rattle.list_schedule.proofs.Blocks.{blocks_are_jobs}
use Rattle.barrier_insert.proofs.LawFacts as insertion
use Rattle.line_model.specs.Streams.{masks}
use Rattle.compiled_image.proofs.InOrder.{pair_ordered}
use Rattle.compiled_image.specs.Compiled.{line_in, program_of}

-- it keeps the stream invariant
pub plan_kept : (machine : Machine) (names : List Entry) (count : ℕ) (block : Block) (line : List Item) → IsBlockSound names count block → IsInOrder machine block.tuples line → IsKept machine names block line
plan_kept machine names count block line s h = record {
  few = s.few;
  operands = s.each;
  cell = s.next.asks;
  is_line = h.is_line;
  whole = h.stand;
  ordered = λ a b k. pair_ordered machine block.tuples line h a b k;
}

pub plan_more : (machine : Machine) (names : List Entry) (blocks : List Block) (plans : List Plan) (block : Block) (plan : Plan) → with_line (program_of machine names blocks plans) block plan.line.items ≡ program_of machine names (blocks ++ block ∷ []) (plans ++ plan ∷ [])
plan_more machine names blocks plans block plan = ap (λ l. let m : Program = record { machine = machine; names = names; blocks = blocks ++ block ∷ []; lines = l } in m) (sym (map_push (line_in machine) plans plan))

-- a plan inserts at most as many barriers as there are tuples
pub few_inserted : (machine : Machine) (ts : List Tuple) (plan : Plan) → IsMachine machine → length ts ≤ 128 → IsPlanned machine ts plan → length (masks plan.inserted.items) ≤ 128
few_inserted machine ts plan h few p =
    let w = insertion.whole machine ts plan.schedule.plan plan.inserted.items (record { few = few; job = blocks_are_jobs machine ts h; greedy = p.scheduled.greedy }) p.insertion in
    omega (arith, w.bars)

-- ---- no target is past the blocks
no_bad : (count : ℕ) (next : Next) → leads_below count next → bad_target count next ≡ None
no_bad count Halt h = refl
no_bad count (Goto b) h = ap (λ v. if v then None else Some b) (lt_true b count h)
no_bad count (If c one other) h = ap₂ (λ v w. if v then (if w then None else Some other) else Some one) (lt_true one count h.0) (lt_true other count h.1)

no_fault : (count b : ℕ) (blocks : List Block) → ((i : ℕ) (block : Block) → slice_get blocks i ≡ Some block → leads_below count block.next) → target_from count b blocks ≡ None
no_fault count b [] h = refl
no_fault count b (x ∷ xs) h = rw (no_bad count x.next (h 0 x refl)) (no_fault count (b + 1) xs (λ i block e. h (suc i) block e))

pub sound_leads : (names : List Entry) (blocks : List Block) → AreBlocksSound names blocks → target_fault blocks ≡ None
sound_leads names blocks h = no_fault (length blocks) 0 blocks (λ i block e. (h.each i block e).next.leads)
