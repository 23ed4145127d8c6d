-- What a program comes to when it is compiled.
use Rattle.std.specs.Prelude.{◌≡◌, List, [], ◌∷◌, length}
use Rattle.std.specs.List.{sum_by, count_by}
use Rattle.bm_base.specs.Machine.{Machine}
use Rattle.tuple_ir.specs.declared.tuple.Tuple.{Tuple}
use Rattle.tuple_ir.specs.declared.block.Block.{Block}
use Rattle.line_model.specs.Streams.{masks}
use Rattle.time_interval.specs.declared.reference.Reason.{Reason}
use Rattle.time_interval.specs.Bounds.{pace_on}
use Rattle.compiled_image.specs.declared.planned.Plan.{Plan}
use Rattle.compiled_image.specs.Planned.{IsPlanned}
use Rattle.bm_report.specs.declared.summary.Summary.{Summary}
use Rattle.src_names.specs.RProgram.{RProgram}
use Rattle.tuple_lower.specs.Means.{blocks_of}
use Rattle.compiled_image.specs.Reasons.{pairs_of, AreReasons, is_processor, is_barrier, is_time}

-- what is told of a block: its plan, and why its conflicting pairs are in order
pub record Told : Type 0 where
  pub plan : Plan
  pub reasons : List Reason

-- .. in the plan's reduced line
pub record IsTold (machine : Machine) (ts : List Tuple) (told : Told) : Type 0 where
  pub planned : IsPlanned machine ts told.plan
  pub reasons : AreReasons (pace_on machine ts) told.plan.line.items (pairs_of ts) told.reasons

-- .. of each block, in order
abbrev pub AreTold : Machine → List Block → List Told → Type 0
AreTold machine [] [] = Unit {0}
AreTold machine (block ∷ blocks) (told ∷ more) = IsTold machine block.tuples told × AreTold machine blocks more
AreTold machine [] (told ∷ more) = ⊥
AreTold machine (block ∷ blocks) [] = ⊥

-- how many blocks, tuples, conflicting pairs, pairs by each reason, inserted masks and kept ones; and the sums of the schedules' numbers
abbrev pub summary_of : List Block → List Told → Summary
summary_of blocks told = record {
  blocks = length blocks;
  tuples = sum_by (λ (block : Block). length block.tuples) blocks;
  pairs = sum_by (λ t. length t.reasons) told;
  by_processor = sum_by (λ t. count_by is_processor t.reasons) told;
  by_barrier = sum_by (λ t. count_by is_barrier t.reasons) told;
  by_time = sum_by (λ t. count_by is_time t.reasons) told;
  inserted = sum_by (λ t. length (masks t.plan.inserted.items)) told;
  kept = sum_by (λ t. length (masks t.plan.line.items)) told;
  makespan = sum_by (λ t. t.plan.schedule.makespan) told;
  work = sum_by (λ t. t.plan.schedule.work) told;
  longest = sum_by (λ t. t.plan.schedule.longest) told;
}

-- the summary of a program on a machine
pub record IsSummaryOf (machine : Machine) (p : RProgram) (summary : Summary) : Type 0 where
  pub told : List Told
  pub are : AreTold machine (blocks_of p) told
  pub whole : summary ≡ summary_of (blocks_of p) told
