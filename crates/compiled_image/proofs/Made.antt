-- The program and the summary of blocks, and of one block more.
use Rattle.std.proofs.Common.{◌≡◌, ◌+◌, List, [], ◌∷◌, ◌++◌, length, map, refl, sym, ap, ap₂, ◌∙◌}
use Rattle.std.specs.List.{count_by}
use Rattle.std.proofs.lemmas.List.{length-append, map_push}
use Rattle.std.proofs.lemmas.List.Sums.{sum_by_push}
use Rattle.bm_base.specs.Entry.{Entry}
use Rattle.bm_base.specs.Machine.{Machine}
use Rattle.tuple_ir.specs.declared.block.Block.{Block}
use Rattle.line_model.specs.Streams.{masks}
use Rattle.unit_law.specs.State.{Program}
use Rattle.stream_image.specs.Image.{with_line}
use Rattle.compiled_image.specs.declared.planned.Plan.{Plan}
use Rattle.bm_report.specs.declared.summary.Summary.{Summary}
use Rattle.compiled_image.specs.declared.pairs.Tally.{Tally}
use Rattle.compiled_image.specs.Reasons.{is_processor, is_barrier, is_time}
use Rattle.compiled_image.specs.Compiled.{ArePlans, program_of}
use Rattle.compiled_image.specs.Summarised.{Told, IsTold, AreTold, summary_of}
use Rattle.compiled_image.specs.Counts.{tally_of, Comes, IsMade, with_block}
use Rattle.compiled_image.proofs.Kept.{plan_more}

told_more : (machine : Machine) (blocks : List Block) (told : List Told) (block : Block) (t : Told) → AreTold machine blocks told → IsTold machine block.tuples t → AreTold machine (blocks ++ block ∷ []) (told ++ t ∷ [])
told_more machine [] [] block t h k = (k, tt)
told_more machine [] (x ∷ xs) block t h k = absurd h
told_more machine (b ∷ bs) [] block t h k = absurd h
told_more machine (b ∷ bs) (x ∷ xs) block t h k = (h.0, told_more machine bs xs block t h.1 k)

-- what is told has the plans
pub told_plans : (machine : Machine) (blocks : List Block) (told : List Told) → AreTold machine blocks told → ArePlans machine blocks (map (λ t. t.plan) told)
told_plans machine [] [] h = tt
told_plans machine [] (x ∷ xs) h = absurd h
told_plans machine (b ∷ bs) [] h = absurd h
told_plans machine (b ∷ bs) (x ∷ xs) h = (h.0.planned, told_plans machine bs xs h.1)

-- a list with one element more is longer by one
one_longer : (blocks : List Block) (block : Block) → length (blocks ++ block ∷ []) ≡ length blocks + 1
one_longer blocks block = length-append blocks (block ∷ [])

summary_more : (blocks : List Block) (told : List Told) (block : Block) (t : Told) → summary_of (blocks ++ block ∷ []) (told ++ t ∷ []) ≡ with_block (summary_of blocks told) block.tuples t.plan (tally_of t.reasons)
summary_more blocks told block t =
    rw (
      one_longer blocks block,
      sum_by_push (λ (b : Block). length b.tuples) blocks block,
      sum_by_push (λ (t : Told). length t.reasons) told t,
      sum_by_push (λ (t : Told). count_by is_processor t.reasons) told t,
      sum_by_push (λ (t : Told). count_by is_barrier t.reasons) told t,
      sum_by_push (λ (t : Told). count_by is_time t.reasons) told t,
      sum_by_push (λ (t : Told). length (masks t.plan.inserted.items)) told t,
      sum_by_push (λ (t : Told). length (masks t.plan.line.items)) told t,
      sum_by_push (λ (t : Told). t.plan.schedule.makespan) told t,
      sum_by_push (λ (t : Told). t.plan.schedule.work) told t,
      sum_by_push (λ (t : Told). t.plan.schedule.longest) told t,
    ) refl

pub made_none : (machine : Machine) (names : List Entry) → IsMade machine names [] (program_of machine names [] []) (summary_of [] [])
made_none machine names = record { told = []; are = tt; program = refl; summary = refl }

-- one block more
pub made_more : (machine : Machine) (names : List Entry) (blocks : List Block) (block : Block) (m new : Program) (s more : Summary) (plan : Plan) (tally : Tally) → IsMade machine names blocks m s → Comes machine block.tuples plan tally
    → new ≡ with_line m block plan.line.items → more ≡ with_block s block.tuples plan tally → IsMade machine names (blocks ++ block ∷ []) new more
made_more machine names blocks block m new s more plan tally h k e f =
    let t : Told = record { plan = plan; reasons = k.reasons } in
    let plans = map (λ (x : Told). x.plan) h.told in
    record {
      told = h.told ++ t ∷ [];
      are = told_more machine blocks h.told block t h.are k.told;
      program =
          e ∙ ap (λ (m : Program). with_line m block plan.line.items) h.program ∙ plan_more machine names blocks plans block plan ∙
          ap (program_of machine names (blocks ++ block ∷ [])) (sym (map_push (λ (x : Told). x.plan) h.told t));
      summary = f ∙ ap₂ (λ (s : Summary) (n : Tally). with_block s block.tuples plan n) h.summary k.counts ∙ sym (summary_more blocks h.told block t);
    }
