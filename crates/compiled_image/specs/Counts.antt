-- Of private functions: counts of pairs by their reasons, and what a block adds to a summary.
use Rattle.std.specs.Prelude.{◌≡◌, ℕ, ◌+◌, ◌*◌, ◌≤◌, List, length, map}
use Rattle.std.specs.List.{count_by}
use Rattle.bm_base.specs.declared.limits.TheConstants.{MOST_MASKS}
use Rattle.bm_base.specs.Entry.{Entry}
use Rattle.bm_base.specs.Machine.{Machine}
use Rattle.tuple_ir.specs.declared.tuple.Tuple.{Tuple}
use Rattle.tuple_ir.specs.declared.block.Block.{Block}
use Rattle.line_model.specs.declared.line.Item.{Item}
use Rattle.line_model.specs.Streams.{masks}
use Rattle.time_interval.specs.declared.reference.Reason.{Reason}
use Rattle.time_interval.specs.Bounds.{Pace}
use Rattle.compiled_image.specs.declared.planned.Plan.{Plan}
use Rattle.compiled_image.specs.Planned.{IsInOrder}
use Rattle.unit_law.specs.State.{Program}
use Rattle.bm_report.specs.declared.summary.Summary.{Summary}
use Rattle.compiled_image.specs.declared.pairs.Tally.{Tally}
use Rattle.compiled_image.specs.Reasons.{Pair, AreReasons, is_processor, is_barrier, is_time}
use Rattle.compiled_image.specs.Compiled.{program_of}
use Rattle.compiled_image.specs.Summarised.{Told, IsTold, AreTold, summary_of}

abbrev pub tally_of : List Reason → Tally
tally_of reasons = record {
  pairs = length reasons;
  processor = count_by is_processor reasons;
  barrier = count_by is_barrier reasons;
  time = count_by is_time reasons;
}

-- counts up to n
pub record AreUpTo (n : ℕ) (t : Tally) : Type 0 where
  pub pairs : t.pairs ≤ n
  pub processor : t.processor ≤ n
  pub barrier : t.barrier ≤ n
  pub time : t.time ≤ n

-- the pairs have reasons, which these are the counts of
pub record IsTallyOf (pace : Pace) (line : List Item) (pairs : List Pair) (t : Tally) : Type 0 where
  pub reasons : List Reason
  pub are : AreReasons pace line pairs reasons
  pub counts : t ≡ tally_of reasons

-- what a block comes to: its plan, which is in order, and these counts of its pairs; there are no more barriers than tuples
pub record Comes (machine : Machine) (ts : List Tuple) (plan : Plan) (t : Tally) : Type 0 where
  pub reasons : List Reason
  pub told : IsTold machine ts (record { plan = plan; reasons = reasons })
  pub counts : t ≡ tally_of reasons
  pub in_order : IsInOrder machine ts plan.line.items
  pub inserted : length (masks plan.inserted.items) ≤ MOST_MASKS

-- one block more
abbrev pub with_block : Summary → List Tuple → Plan → Tally → Summary
with_block s ts plan t = record {
  blocks = s.blocks + 1;
  tuples = s.tuples + length ts;
  pairs = s.pairs + t.pairs;
  by_processor = s.by_processor + t.processor;
  by_barrier = s.by_barrier + t.barrier;
  by_time = s.by_time + t.time;
  inserted = s.inserted + length (masks plan.inserted.items);
  kept = s.kept + length (masks plan.line.items);
  makespan = s.makespan + plan.schedule.makespan;
  work = s.work + plan.schedule.work;
  longest = s.longest + plan.schedule.longest;
}

-- no sum is greater than so many numbers of 32 bits as there are blocks
pub record HasRoom (s : Summary) : Type 0 where
  pub tuples : s.tuples ≤ s.blocks * 4294967295
  pub pairs : s.pairs ≤ s.blocks * 4294967295
  pub by_processor : s.by_processor ≤ s.blocks * 4294967295
  pub by_barrier : s.by_barrier ≤ s.blocks * 4294967295
  pub by_time : s.by_time ≤ s.blocks * 4294967295
  pub inserted : s.inserted ≤ s.blocks * 4294967295
  pub kept : s.kept ≤ s.blocks * 4294967295
  pub makespan : s.makespan ≤ s.blocks * 4294967295
  pub work : s.work ≤ s.blocks * 4294967295
  pub longest : s.longest ≤ s.blocks * 4294967295

-- the program and the summary of blocks
pub record IsMade (machine : Machine) (names : List Entry) (blocks : List Block) (m : Program) (s : Summary) : Type 0 where
  pub told : List Told
  pub are : AreTold machine blocks told
  pub program : m ≡ program_of machine names blocks (map (λ t. t.plan) told)
  pub summary : s ≡ summary_of blocks told
