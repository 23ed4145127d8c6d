-- Sound blocks with their plans are an image.
use Rattle.std.proofs.Common.{◌≡◌, ℕ, zero, suc, ◌<◌, ◌≤◌, true, false, List, [], ◌∷◌, length, map, get_or, Option, Some, None, slice_get, refl, sym, ap, ap₂, subst, ◌∙◌, arith, ◌⊎◌, inl, inr}
use Rattle.std.proofs.lemmas.Bool.{cases_lt, both_ways}
use Rattle.std.proofs.lemmas.List.{get_or_past, length-map}
use Rattle.std.proofs.lemmas.Option.{slice_get-get_or, slice_get_within}
use Rattle.bm_base.specs.Entry.{Entry}
use Rattle.bm_base.specs.Names.{AreNames}
use Rattle.bm_base.specs.Machine.{Machine, IsMachine}
use Rattle.tuple_ir.specs.declared.tuple.Tuple.{Tuple}
use Rattle.tuple_ir.specs.declared.block.Block.{Block}
use Rattle.tuple_ir.specs.Conflict.{Conflict, clash}
use Rattle.tuple_ir.specs.Serial.{block_at, no_block}
use Rattle.tuple_ir.specs.Sound.{IsBlockSound, AreBlocksSound}
use Rattle.line_model.specs.Streams.{stream, masks}
use Rattle.unit_law.specs.State.{Program, code_at}
use Rattle.unit_law.specs.Sound.{IsCodeSound}
use Rattle.time_interval.specs.Ordered.{IsOrdered}
use Rattle.time_law.specs.Conflicts.{ConflictsOrdered, pace_of}
use Rattle.time_law.proofs.LineFits.{line_sound}
use Rattle.stream_image.specs.Image.{IsImage, IsKept, IsLawful}
use Rattle.stream_image.specs.Line.{IsOwnLine}
use Rattle.stream_image.proofs.Accepted.{kept_again}
use Rattle.stream_image.proofs.LineStreams.{own_line, even_line}
use Rattle.compiled_image.specs.declared.planned.Plan.{Plan}
use Rattle.compiled_image.specs.Planned.{IsPlanned}
use Rattle.compiled_image.proofs.Machines.{has_times}
use Rattle.compiled_image.proofs.InOrder.{later_within}
use Rattle.compiled_image.proofs.Plans.{in_order, one}
use Rattle.compiled_image.specs.Compiled.{ArePlans, line_in, program_of}
use Rattle.compiled_image.proofs.Kept.{plan_kept}

-- the plan of block b
pub record PlanAt (machine : Machine) (blocks : List Block) (plans : List Plan) (b : ℕ) : Type 0 where
  pub plan : Plan
  pub planned : IsPlanned machine (block_at blocks b).tuples plan
  pub line : get_or (map (line_in machine) plans) b [] ≡ line_in machine plan

pub plan_at : (machine : Machine) (blocks : List Block) (plans : List Plan) → ArePlans machine blocks plans → (b : ℕ) → b < length blocks → PlanAt machine blocks plans b
plan_at machine [] [] h b l = absurd (omega arith)
plan_at machine [] (p ∷ ps) h b l = absurd h
plan_at machine (x ∷ xs) [] h b l = absurd h
plan_at machine (x ∷ xs) (p ∷ ps) h zero l = record { plan = p; planned = h.0; line = refl }
plan_at machine (x ∷ xs) (p ∷ ps) h (suc b) l = let r = plan_at machine xs ps h.1 b (omega arith) in record { plan = r.plan; planned = r.planned; line = r.line }

pub as_many : (machine : Machine) (blocks : List Block) (plans : List Plan) → ArePlans machine blocks plans → length plans ≡ length blocks
as_many machine [] [] h = refl
as_many machine [] (p ∷ ps) h = absurd h
as_many machine (x ∷ xs) [] h = absurd h
as_many machine (x ∷ xs) (p ∷ ps) h = ap suc (as_many machine xs ps h.1)

pub lawful : (machine : Machine) → IsMachine machine → IsLawful machine
lawful machine h =
    let m : Program = record { machine = machine; names = []; blocks = []; lines = [] } in
    record { some = h.some; few = h.few; times = has_times m h }

module _ (machine : Machine) (names : List Entry) (blocks : List Block) (plans : List Plan) (is_machine : IsMachine machine) (sound : AreBlocksSound names blocks) (planned : ArePlans machine blocks plans) where
  abbrev m : Program
  m = program_of machine names blocks plans

  abbrev sound_at : (b : ℕ) → b < length blocks → IsBlockSound names (length blocks) (block_at blocks b)
  sound_at b l = sound.each b (block_at blocks b) (slice_get-get_or blocks b no_block l)

  abbrev at : (b : ℕ) → b < length blocks → PlanAt machine blocks plans b
  at b l = plan_at machine blocks plans planned b l

  kept_plan : (b : ℕ) (l : b < length blocks) → IsKept machine names (block_at blocks b) (at b l).plan.line.items
  kept_plan b l =
      let s = sound_at b l in
      plan_kept machine names (length blocks) (block_at blocks b) (at b l).plan.line.items s (in_order machine (block_at blocks b).tuples (at b l).plan is_machine s.few (at b l).planned)

  kept : (b : ℕ) → b < length blocks → IsKept machine names (block_at blocks b) (code_at m b).line
  kept b l = subst (IsKept machine names (block_at blocks b)) (sym (at b l).line) (kept_again machine names (block_at blocks b) (at b l).plan.line.items (kept_plan b l))

  each_sound : (b : ℕ) → b < length blocks → IsCodeSound m (code_at m b)
  each_sound b l = let k = kept b l in line_sound m (code_at m b) (sound_at b l) k.is_line k.whole

  ordered : ConflictsOrdered m
  ordered b x y k = go (cases_lt b (length blocks))
    where
      go : (b < length blocks) ⊎ (length blocks ≤ b) → IsOrdered (pace_of m (code_at m b)) (code_at m b).line x y
      go (inl l) = (kept b l).ordered x y k
      go (inr le) =
          let none : (code_at m b).tuples ≡ [] = ap (λ (z : Block). z.tuples) (get_or_past blocks b no_block le) in
          let lt = later_within (code_at m b).tuples x y k in
          let z : length (code_at m b).tuples ≡ 0 = ap length none in
          absurd (omega arith)

  own : (b : ℕ) → b < length blocks → IsOwnLine machine.processors (code_at m b).line
  own b l =
      let line = (at b l).plan.line.items in
      subst (IsOwnLine machine.processors) (sym (at b l).line) (own_line machine.processors (masks line) (λ p. stream p line) (λ p k. even_line p line))

  pub is_image : AreNames names → IsImage m
  is_image named = record {
    machine = lawful machine is_machine;
    names = named;
    sound = record {
      some = let s = sound.some in omega arith;
      one_each = length-map plans (line_in machine) ∙ as_many machine blocks plans planned;
      each = each_sound;
    };
    ordered = ordered;
    lines = own;
  }

-- ---- there are plans, and no others
module _ (machine : Machine) (is_machine : IsMachine machine) where
  abbrev pub FewTuples : List Block → Type 0
  FewTuples blocks = (b : ℕ) (block : Block) → slice_get blocks b ≡ Some block → length block.tuples ≤ 128

  pub some_plans : (blocks : List Block) → FewTuples blocks → (plans : List Plan) × ArePlans machine blocks plans
  some_plans [] few = ([], tt)
  some_plans (x ∷ xs) few =
      let r = some_plans xs (λ b block e. few (suc b) block e) in
      let p = one machine x.tuples is_machine (few 0 x refl) in
      (p.0 ∷ r.0, (p.1, r.1))

  pub one_plans : (blocks : List Block) (plans other : List Plan) → FewTuples blocks → ArePlans machine blocks plans → ArePlans machine blocks other → plans ≡ other
  one_plans [] [] [] few h k = refl
  one_plans [] (p ∷ ps) other few h k = absurd h
  one_plans [] [] (q ∷ qs) few h k = absurd k
  one_plans (x ∷ xs) [] other few h k = absurd h
  one_plans (x ∷ xs) (p ∷ ps) [] few h k = absurd k
  one_plans (x ∷ xs) (p ∷ ps) (q ∷ qs) few h k =
      let o = one machine x.tuples is_machine (few 0 x refl) in
      ap₂ (λ a b. a ∷ b) (o.2 p h.0 ∙ sym (o.2 q k.0)) (one_plans xs ps qs (λ b block e. few (suc b) block e) h.1 k.1)
