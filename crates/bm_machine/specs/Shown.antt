-- What callers see of a running machine.
use Rattle.std.specs.Prelude.{◌≡◌, ℕ, ◌+◌, ◌≤◌, ◌<◌, Bool, ◌&&◌, nat_lt, List, [], ◌∷◌, take, map, length, get_or, Option, Some, None}
use Rattle.std.specs.Prelude.{if◌then◌else◌}
use Rattle.bm_base.specs.declared.limits.TheConstants.{MOST_BUDGET, MOST_TUPLES, MOST_TICKS, MOST_DELAY}
use Rattle.bm_base.specs.Memory.{Content}
use Rattle.tuple_ir.specs.declared.tuple.Tuple.{Tuple}
use Rattle.bm_base.specs.Memories.{IsMemoryOf}
use Rattle.line_model.specs.Streams.{masks}
use Rattle.bm_base.specs.Mask.{has_bit}
use Rattle.unit_law.specs.State.{Program, Mode, In, Entering, Ended, State, Processor, Work, Idle, Busy, Held, Code, code_at, processor}
use Rattle.unit_law.specs.State.{waiting_mask}
use Rattle.unit_law.specs.Steps.{Action, IsRun, tuple_at, state_after}
use Rattle.unit_law.specs.Canonical.{starts, can_start}
use Rattle.bm_machine.specs.Work.{arity}
use Rattle.bm_machine.specs.declared.actor.Task.{Task}
use Rattle.bm_machine.specs.declared.actor.Task.TheVariants.{Rest, Runs, Stays}
use Rattle.bm_machine.specs.declared.actor.Actor.{Actor}
use Rattle.bm_machine.specs.declared.agenda.Due.{Due}
use Rattle.bm_machine.specs.Agenda.{hold_until, finish_at}
use Rattle.bm_machine.specs.declared.actor.Stage.{Stage}
use Rattle.bm_machine.specs.declared.actor.Stage.TheVariants.{Inside, Over}

-- what it runs, the state that it is in, how many instructions each processor has started in the whole run, and its unit and timing
pub record Shown (U T : Type 0) : Type 0 where
  pub program : Program
  pub state : State
  pub counts : List ℕ
  pub unit : U
  pub timing : T

abbrev pub work_of : Task → Work
work_of Rest = Idle
work_of (Runs until tuple count first second) = Busy until tuple (take count (first ∷ second ∷ []))
work_of (Stays until) = Held until

abbrev pub processor_of : Actor → Processor
processor_of a = record { place = a.place; work = work_of a.task }

abbrev pub mode_of : Stage → Mode
mode_of (Inside block) = In block
mode_of Over = Ended

-- the counts are those of the Starts in these actions
abbrev pub HasCounts : List ℕ → List Action → Type 0
HasCounts counts past = (p : ℕ) → get_or counts p 0 ≡ starts p past

-- the state is the last of a run from a memory of the names, and the counts are those of the Starts in this run
pub record IsReached (m : Program) (s : State) (counts : List ℕ) : Type 0 where
  pub memory : List Content
  pub is_memory : IsMemoryOf m.names memory
  pub past : List Action
  pub run : IsRun m memory past
  pub last : state_after m memory past ≡ s
  pub counted : HasCounts counts past

-- within a block the unit's masks and waiting set are those of the state
abbrev pub unit_agrees : Program → State → Mode → List ℕ → ℕ → Type 0
unit_agrees m s (In b) queue waiting = (queue ≡ masks (code_at m b).line) × (waiting ≡ waiting_mask (code_at m b) s)
unit_agrees m s (Entering b) queue waiting = ⊥
unit_agrees m s Ended queue waiting = Unit {0}

-- what a processor works on is a tuple of the block, with as many words as it reads; its tick is not past, and at most the greatest
-- time away; a hold is over at most 100 ticks later; and what it has started in the whole run took a tick each
abbrev pub works_rightly : Code → ℕ → ℕ → Work → Type 0
works_rightly code clock count Idle = count ≤ clock
works_rightly code clock count (Busy until t rs) = (clock ≤ until) × (until ≤ clock + MOST_TICKS) × (count ≤ until) × (count ≤ clock + 1)
    × ((x : Tuple) × (tuple_at code t ≡ Some x) × (length rs ≡ arity x))
works_rightly code clock count (Held until) = (until ≤ clock + MOST_DELAY) × (count ≤ clock)

abbrev pub all_work_rightly : Program → State → List ℕ → Mode → Type 0
all_work_rightly m s counts (In b) = (b < length m.blocks)
    × ((p : ℕ) → works_rightly (code_at m b) s.clock (get_or counts p 0) (processor s p).work)
all_work_rightly m s counts (Entering b) = ⊥
all_work_rightly m s counts Ended = Unit {0}

-- what a machine keeps; told is the mask of those of whom the unit was told, and capacity, queue and waiting are the unit's
pub record IsKept (m : Program) (s : State) (counts : List ℕ) (told capacity : ℕ) (queue : List ℕ) (waiting : ℕ) : Type 0 where
  pub reached : IsReached m s counts
  pub early : s.clock ≤ MOST_BUDGET
  pub few : (p : ℕ) → get_or counts p 0 ≤ s.clock + 1
  pub long : length counts ≡ m.machine.processors
  pub cells : length s.world.cells ≡ MOST_TUPLES
  pub work : all_work_rightly m s counts s.mode
  pub room : (b : ℕ) → length (masks (code_at m b).line) ≤ capacity
  pub told_is : waiting ≡ told
  pub agrees : unit_agrees m s s.mode queue waiting

-- what ends next on a processor: its tuple, or its hold where that ends past the clock; and on each
abbrev pub due_of : ℕ → Work → Option Due
due_of clock Idle = None
due_of clock (Busy until t operands) = Some (finish_at until)
due_of clock (Held until) = if nat_lt clock until then Some (hold_until until) else None

abbrev pub dues_of : ℕ → List Processor → List (Option Due)
dues_of clock processors = map (λ q. due_of clock q.work) processors

-- processor p of the machine can start a tuple
abbrev pub starts_next : Code → State → ℕ → Bool
starts_next code s p = nat_lt p (length s.processors) && can_start code s p

-- within a block `able` is the mask of those that can start a tuple
abbrev pub able_agrees : Program → State → Mode → ℕ → Type 0
able_agrees m s (In b) able = (p : ℕ) → has_bit able p ≡ starts_next (code_at m b) s p
able_agrees m s (Entering b) able = ⊥
able_agrees m s Ended able = Unit {0}

-- all that a machine keeps: its agenda has what ends next on each processor, and it knows who can start a tuple
pub record IsRunning (m : Program) (s : State) (counts : List ℕ) (told capacity : ℕ) (queue : List ℕ)
    (waiting able : ℕ) (agenda : List (Option Due)) : Type 0 where
  pub kept : IsKept m s counts told capacity queue waiting
  pub agenda_is : agenda ≡ dues_of s.clock s.processors
  pub able_is : able_agrees m s s.mode able

-- these actors as a state at this clock: what it says of mode, masks and world is of no account
abbrev pub standing_at : ℕ → List Actor → State
standing_at clock actors = record {
  clock = clock;
  mode = Ended;
  processors = map processor_of actors;
  fired = [];
  world = record { cells = []; memory = []; output = [] };
}
