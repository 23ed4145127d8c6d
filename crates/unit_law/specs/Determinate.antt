-- What it is that every run of a program means its serial order, and cannot be stuck.
use Rattle.std.specs.Prelude.{◌≡◌, ℕ, zero, suc, ◌+◌, ◌*◌, ◌≤◌, true, nat_eq, List, ◌++◌, length, count_by, Option, Some, None}
use Rattle.bm_base.specs.Prefix.{IsPrefixOf}
use Rattle.bm_base.specs.Memory.{Content}
use Rattle.tuple_ir.specs.declared.tuple.Tuple.{Tuple}
use Rattle.tuple_ir.specs.Conflict.{Conflict}
use Rattle.bm_base.specs.Memories.{IsMemoryOf}
use Rattle.tuple_ir.specs.Serial.{Outcome, outcome}
use Rattle.line_model.specs.Streams.{masks}
use Rattle.unit_law.specs.Units.{IsLawful}
use Rattle.unit_law.specs.State.{Program, Mode, In, Entering, Ended, State, code_at, interval_of, processor, is_due, waits}
use Rattle.unit_law.specs.Steps.{Action, Finish, Fire, Start, Enter, NoneDue, IsNext, May, tuple_at, state_after, IsRun}
pub use Rattle.unit_law.specs.Execution.{WorksOn, HasFinished}

-- where a step is a Start of b, and a and b conflict, the Finish of a stands earlier in this execution of the block
abbrev pub RespectsConflicts : Program → Type 0
RespectsConflicts m = (memory : List Content) (past : List Action) (p d block a b : ℕ) → IsMemoryOf m.names memory → IsRun m memory past
    → (state_after m memory past).mode ≡ In block → May m (state_after m memory past) (Start p d)
    → IsNext m (code_at m block) (state_after m memory past) p b → Conflict (code_at m block).tuples a b → HasFinished m memory past a

-- an action follows a unit's answer: it fires the mask that is answered, and no mask where none is
abbrev pub Follows : Option ℕ → Action → Type 0
Follows (Some j) a = a ≡ Fire j
Follows None (Fire j) = ⊥
Follows None _ = Unit {0}

-- an action may be taken and follows the answer
pub record CanStep (m : Program) (s : State) (answer : Option ℕ) : Type 0 where
  pub action : Action
  pub may : May m s action
  pub follows : Follows answer action

-- a state can step: in a block a due Finish may be taken, and where none is due there is a step whatever lawful answer the unit
-- gives; between two blocks the next one may be entered
abbrev pub goes_on : Program → State → Mode → Type 0
goes_on m s (In b) = ((p : ℕ) → is_due s.clock (processor s p).work ≡ true → May m s (Finish p))
    × ((answer : Option ℕ) → NoneDue s → IsLawful (masks (code_at m b).line) s.fired (waits (code_at m b) s) answer → CanStep m s answer)
goes_on m s (Entering b) = May m s Enter
goes_on m s Ended = Unit {0}

-- no run is stuck before its end
abbrev pub NeverStuck : Program → Type 0
NeverStuck m = (memory : List Content) (past : List Action) → IsMemoryOf m.names memory → IsRun m memory past
    → goes_on m (state_after m memory past) (state_after m memory past).mode

-- the sum of f at 0, 1, .. below n
abbrev pub sum_below : (ℕ → ℕ) → ℕ → ℕ
sum_below f zero = 0
sum_below f (suc n) = f n + sum_below f n

-- the greatest time of a tuple
abbrev pub most_time : Program → Option Tuple → ℕ
most_time m None = 0
most_time m (Some t) = (interval_of m t).most

-- 1 plus the greatest times of block b's tuples plus the delay for each of its masks, and that of all blocks: the time bound of one
-- pass over them (K)
abbrev pub block_time : Program → ℕ → ℕ
block_time m b = 1 + sum_below (λ t. most_time m (tuple_at (code_at m b) t)) (length (code_at m b).tuples)
    + m.machine.delay * length (masks (code_at m b).line)

abbrev pub pass_time : Program → ℕ
pass_time m = sum_below (block_time m) (length m.blocks)

-- three steps for each tuple of block b, two for each mask and two more, and those of all blocks: the step bound of one pass (Q)
abbrev pub block_steps : Program → ℕ → ℕ
block_steps m b = 3 * length (code_at m b).tuples + 2 * length (masks (code_at m b).line) + 2

abbrev pub pass_steps : Program → ℕ
pass_steps m = sum_below (block_steps m) (length m.blocks)

-- no block stands more than c times in the trail
abbrev pub StandsAtMost : ℕ → List ℕ → Type 0
StandsAtMost c trail = (b : ℕ) → count_by (nat_eq b) trail ≤ c

-- at clock T the output is a prefix of that of T + 1 blocks
abbrev pub NoFurther : Program → Type 0
NoFurther m = (memory : List Content) (past : List Action) → IsMemoryOf m.names memory → IsRun m memory past
    → IsPrefixOf (state_after m memory past).world.output (outcome m.blocks memory ((state_after m memory past).clock + 1)).world.output

-- where no block stands more than c times in the trail of k blocks, their output is a prefix of that at a clock of c passes or more
abbrev pub KeepsUp : Program → Type 0
KeepsUp m = (memory : List Content) (past : List Action) (c k : ℕ) → IsMemoryOf m.names memory → IsRun m memory past
    → StandsAtMost c (outcome m.blocks memory k).trail → c * pass_time m ≤ (state_after m memory past).clock
    → IsPrefixOf (outcome m.blocks memory k).world.output (state_after m memory past).world.output

-- where a run has ended at clock T, T + 1 blocks have ended with the same memory and output
pub record EndsAs (o : Outcome) (s : State) : Type 0 where
  pub ended : o.next ≡ None
  pub memory : o.world.memory ≡ s.world.memory
  pub output : o.world.output ≡ s.world.output

abbrev pub EndsSo : Program → Type 0
EndsSo m = (memory : List Content) (past : List Action) → IsMemoryOf m.names memory → IsRun m memory past
    → (state_after m memory past).mode ≡ Ended
    → EndsAs (outcome m.blocks memory ((state_after m memory past).clock + 1)) (state_after m memory past)

-- where k blocks have ended and none stands more than c times in their trail, the run has at most c passes' time and steps
abbrev pub EndsWithin : Program → Type 0
EndsWithin m = (memory : List Content) (past : List Action) (c k : ℕ) → IsMemoryOf m.names memory → IsRun m memory past
    → (outcome m.blocks memory k).next ≡ None → StandsAtMost c (outcome m.blocks memory k).trail
    → ((state_after m memory past).clock ≤ c * pass_time m) × (length past ≤ c * pass_steps m)

-- every run, whatever the times, the order of simultaneous steps and the lawful answers: each producer finishes before its
-- consumer starts, no run is stuck, and memory and output are those of the serial order, within stated bounds
pub record IsDeterminate (m : Program) : Type 0 where
  pub respects : RespectsConflicts m
  pub never_stuck : NeverStuck m
  pub no_further : NoFurther m
  pub keeps_up : KeepsUp m
  pub ends_so : EndsSo m
  pub ends_within : EndsWithin m
