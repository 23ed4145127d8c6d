-- A compiled program that means the source's meaning in every run.
use Rattle.std.specs.Prelude.{ℕ, ◌≡◌, ◌+◌, ◌*◌, ◌≤◌, List, length}
use Rattle.bm_base.specs.Memory.{Content}
use Rattle.bm_base.specs.Memories.{IsMemoryOf}
use Rattle.unit_law.specs.State.{Program, Ended, State}
use Rattle.unit_law.specs.Steps.{Action, state_after, IsRun}
use Rattle.bm_base.specs.Prefix.{IsPrefixOf}
use Rattle.unit_law.specs.Determinate.{RespectsConflicts, NeverStuck, pass_time, pass_steps}
use Rattle.src_names.specs.RProgram.{RProgram}
use Rattle.src_meaning.specs.declared.evaluate.End.TheVariants.{Done}
use Rattle.src_meaning.specs.Meaning.{Outcome, meaning}

-- done with this state's memory and output
pub record IsDoneIn (o : Outcome) (s : State) : Type 0 where
  pub done : o.end ≡ Done
  pub memory : o.memory ≡ s.world.memory
  pub output : o.output ≡ s.world.output

-- In every run, whatever the times, the order of simultaneous steps and the lawful answers of the unit: each producer finishes before its
-- consumer starts, and no run is stuck. At clock T the output is a prefix of the source's within T turns, and where T is at least n + 1
-- passes over the blocks, the source's output within n turns is a prefix of it. Where the run has ended, the source is done within as many
-- turns as its clock, with the same memory and output. Where the source is done within n turns, the run has at most the time and the steps
-- of n + 1 passes.
pub record IsFaithful (m : Program) (p : RProgram) : Type 0 where
  pub names : m.names ≡ p.names
  pub respects : RespectsConflicts m
  pub never_stuck : NeverStuck m
  pub no_further : (memory : List Content) (past : List Action) → IsMemoryOf m.names memory → IsRun m memory past
      → IsPrefixOf (state_after m memory past).world.output (meaning p memory (state_after m memory past).clock).output
  pub keeps_up : (memory : List Content) (past : List Action) (n : ℕ) → IsMemoryOf m.names memory → IsRun m memory past
      → (n + 1) * pass_time m ≤ (state_after m memory past).clock
      → IsPrefixOf (meaning p memory n).output (state_after m memory past).world.output
  pub ends_so : (memory : List Content) (past : List Action) → IsMemoryOf m.names memory → IsRun m memory past
      → (state_after m memory past).mode ≡ Ended
      → IsDoneIn (meaning p memory (state_after m memory past).clock) (state_after m memory past)
  pub ends_within : (memory : List Content) (past : List Action) (n : ℕ) → IsMemoryOf m.names memory → IsRun m memory past
      → (meaning p memory n).end ≡ Done
      → ((state_after m memory past).clock ≤ (n + 1) * pass_time m) × (length past ≤ (n + 1) * pass_steps m)
