-- This execution of the block that runs: its steps since the block's entry, and when things happened in it.
use Rattle.std.specs.Prelude.{◌≡◌, ℕ, ◌⊎◌, Bool, false, nat_eq, List, [], ◌∷◌, Option, Some, None, if◌then◌else◌}
use Rattle.bm_base.specs.Memory.{Content}
use Rattle.line_model.specs.declared.line.StreamItem.{StreamItem}
use Rattle.line_model.specs.declared.line.StreamItem.TheVariants.{Do, Wait}
use Rattle.unit_law.specs.State.{Code, Program, In, Work, Idle, Busy, Held, State, code_at, processor, next_item}
use Rattle.unit_law.specs.Steps.{Action, Finish, Fire, Start, Branch, Enter, May, state_after}

-- the steps since the block's entry once this action is taken at this state, where `steps` are those before it: a Branch leaves the
-- block, and an Enter begins anew
abbrev pub since_entry : State → Action → List (State × Action) → List (State × Action)
since_entry s Branch steps = []
since_entry s Enter steps = []
since_entry s a steps = (s, a) ∷ steps

-- this execution of the block: the pairs of state and action since its entry, the latest first
abbrev pub execution : Program → List Content → List Action → List (State × Action)
execution m memory [] = []
execution m memory (a ∷ past) = since_entry (state_after m memory past) a (execution m memory past)

-- the processor works on tuple t
abbrev pub WorksOn : Work → ℕ → Type 0
WorksOn Idle t = ⊥
WorksOn (Busy until u operands) t = u ≡ t
WorksOn (Held until) t = ⊥

-- one of these steps is a Finish of tuple t
abbrev pub FinishedIn : List (State × Action) → ℕ → Type 0
FinishedIn [] t = ⊥
FinishedIn ((s, Finish p) ∷ steps) t = WorksOn (processor s p).work t ⊎ FinishedIn steps t
FinishedIn ((s, a) ∷ steps) t = FinishedIn steps t

-- a Finish of tuple t stands in this execution of the block
abbrev pub HasFinished : Program → List Content → List Action → ℕ → Type 0
HasFinished m memory past t = FinishedIn (execution m memory past) t

-- the tick at which the block was entered: the clock before the first of these steps, and this clock where there is none
abbrev pub first_clock : ℕ → List (State × Action) → ℕ
first_clock clock [] = clock
first_clock clock ((s, a) ∷ steps) = first_clock s.clock steps

abbrev pub entry_tick : Program → List Content → List Action → ℕ
entry_tick m memory past = first_clock (state_after m memory past).clock (execution m memory past)

-- the tick of the latest of these steps that passes a test, none where none does
abbrev pub tick_of : (State → Action → Bool) → List (State × Action) → Option ℕ
tick_of test [] = None
tick_of test ((s, a) ∷ steps) = if test s a then Some s.clock else tick_of test steps

abbrev pub is_tuple : Option StreamItem → ℕ → Bool
is_tuple (Some (Do u)) t = nat_eq u t
is_tuple (Some Wait) t = false
is_tuple None t = false

abbrev pub is_work_on : Work → ℕ → Bool
is_work_on Idle t = false
is_work_on (Busy until u operands) t = nat_eq u t
is_work_on (Held until) t = false

-- the step is a Start of tuple t, a Finish of it, or the Fire of mask j
abbrev pub starts_tuple : Code → ℕ → State → Action → Bool
starts_tuple code t s (Start p d) = is_tuple (next_item code s p) t
starts_tuple code t s _ = false

abbrev pub finishes_tuple : ℕ → State → Action → Bool
finishes_tuple t s (Finish p) = is_work_on (processor s p).work t
finishes_tuple t s _ = false

abbrev pub fires_mask : ℕ → State → Action → Bool
fires_mask j s (Fire i) = nat_eq i j
fires_mask j s _ = false

-- when tuple t of block b has started, when tuple t has finished, and when mask j has fired, in this execution of the block; none
-- where it has not
abbrev pub start_tick : Program → List Content → List Action → ℕ → ℕ → Option ℕ
start_tick m memory past b t = tick_of (starts_tuple (code_at m b) t) (execution m memory past)

abbrev pub finish_tick : Program → List Content → List Action → ℕ → Option ℕ
finish_tick m memory past t = tick_of (finishes_tuple t) (execution m memory past)

abbrev pub fire_tick : Program → List Content → List Action → ℕ → Option ℕ
fire_tick m memory past j = tick_of (fires_mask j) (execution m memory past)

-- each of these steps is taken within block b, and may be taken where it stands
abbrev pub AllWithin : Program → ℕ → List (State × Action) → Type 0
AllWithin m b [] = Unit {0}
AllWithin m b ((s, a) ∷ steps) = (s.mode ≡ In b) × May m s a × AllWithin m b steps
