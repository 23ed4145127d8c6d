-- What the ticks of an execution say of the state that it has led to, and how they hang together.
use Rattle.std.specs.Prelude.{◌≡◌, ℕ, suc, pred, ◌+◌, ◌≤◌, ◌⊎◌, true, false, nat_lt, List, length, Some, None, is_some, get_or}
use Rattle.std.specs.Prelude.{slice_get, if◌then◌else◌, ℤ}
use Rattle.bm_base.specs.Memory.{Content}
use Rattle.line_model.specs.Streams.{before}
use Rattle.line_model.specs.Order.{HasMember, StandsAt}
use Rattle.unit_law.specs.State.{Code, Program, In, Work, Idle, Busy, Held, State, Processor, code_at, processor, is_free}
use Rattle.unit_law.specs.Steps.{Action, IsMaskUrgent, IsNext, IsDuration, tuple_at, state_after, IsRun}
use Rattle.time_interval.specs.declared.reference.Point.TheVariants.{StartOf, FinishOf, FireOf}
use Rattle.time_interval.specs.Bounds.{later}
use Rattle.unit_law.specs.Execution.{entry_tick}
use Rattle.time_law.specs.Happened.{Ticks, ticks_after}

-- how many items of its stream a processor has behind it: one less than its place while it works on a tuple
abbrev pub behind_at : Work → ℕ → ℕ
behind_at Idle place = place
behind_at (Busy until t operands) place = pred place
behind_at (Held until) place = place

abbrev pub behind : Processor → ℕ
behind q = behind_at q.work q.place

-- the points of a block in an execution of it that has led to this state: which have happened, and how their ticks hang together.
-- A processor starts a tuple when it comes to it, finishes it its duration later, and goes on then; from a wait it goes on the delay
-- behind the firing. A firing is no sooner than its members' arrivals, and no later than the latest of these and of the firing before
-- it in the queue, unless that one comes after it
pub record PointsTold (m : Program) (code : Code) (s : State) (entry : ℕ) (x : Ticks) : Type 0 where
  pub first : (p : ℕ) → slice_get (x.came p) 0 ≡ Some entry
  pub long : (p : ℕ) → length (x.came p) ≡ suc (behind (processor s p))
  pub starts : (t p k : ℕ) → StandsAt code.line t p k → x.at (StartOf t)
      ≡ (if nat_lt k (processor s p).place then slice_get (x.came p) k else None)
  pub finishes : (t p k : ℕ) → StandsAt code.line t p k → x.at (FinishOf t) ≡ slice_get (x.came p) (suc k)
  pub fires : (j : ℕ) → is_some (x.at (FireOf j)) ≡ get_or s.fired j false
  pub lasts : (t p k start finish : ℕ) → StandsAt code.line t p k → x.at (StartOf t) ≡ Some start → x.at (FinishOf t) ≡ Some finish
      → finish ≡ start + x.took t
  pub times : (t p k start : ℕ) → StandsAt code.line t p k → x.at (StartOf t) ≡ Some start → IsDuration m (tuple_at code t) (x.took t)
  pub goes_on : (j p : ℕ) → HasMember code.line j p → slice_get (x.came p) (suc (before p j code.line))
      ≡ later (x.at (FireOf j)) m.machine.delay
  pub arrived : (j p fire : ℕ) → HasMember code.line j p → x.at (FireOf j) ≡ Some fire → (arrival : ℕ)
      × (slice_get (x.came p) (before p j code.line) ≡ Some arrival) × (arrival ≤ fire)
  pub cause : (j fire : ℕ) → x.at (FireOf j) ≡ Some fire
      → ((p : ℕ) × HasMember code.line j p × (slice_get (x.came p) (before p j code.line) ≡ Some fire))
      ⊎ ((i : ℕ) × (j ≡ suc i) × ((f : ℕ) → x.at (FireOf i) ≡ Some f → fire ≤ f))

-- a state: a free processor came to its item by now, and one at a tuple came to it now; a busy tick is not past, and is the tuple's
-- duration behind its start; a hold ends the delay behind the firing of the mask that the processor passed last, whose wait is the
-- item before its place; and of an urgent mask's arrivals and the firing of the mask before it the latest is now
pub record StateTold (m : Program) (code : Code) (s : State) (x : Ticks) : Type 0 where
  pub by_now : (p : ℕ) → is_free s.clock (processor s p).work ≡ true → (arrival : ℕ)
      × (slice_get (x.came p) (processor s p).place ≡ Some arrival) × (arrival ≤ s.clock)
  pub free : (p t : ℕ) → IsNext m code s p t → slice_get (x.came p) (processor s p).place ≡ Some s.clock
  pub busy : (p until t : ℕ) (operands : List ℤ) → (processor s p).work ≡ Busy until t operands → (s.clock ≤ until)
      × ((start : ℕ) × (x.at (StartOf t) ≡ Some start) × (until ≡ start + x.took t) × IsDuration m (tuple_at code t) (x.took t))
  pub held : (p until : ℕ) → (processor s p).work ≡ Held until → (j fire : ℕ) × HasMember code.line j p
      × ((processor s p).place ≡ suc (before p j code.line)) × (x.at (FireOf j) ≡ Some fire) × (until ≡ fire + m.machine.delay)
  pub urgent : (j : ℕ) → IsMaskUrgent code s j
      → ((p : ℕ) × HasMember code.line j p × (slice_get (x.came p) (processor s p).place ≡ Some s.clock))
      ⊎ ((i : ℕ) × (j ≡ suc i) × (x.at (FireOf i) ≡ Some s.clock))

-- so it is at each state within a block of every run
abbrev pub TellsTicks : Program → Type 0
TellsTicks m = (memory : List Content) (past : List Action) (b : ℕ) → IsRun m memory past → (state_after m memory past).mode ≡ In b
    → PointsTold m (code_at m b) (state_after m memory past) (entry_tick m memory past) (ticks_after m memory past b)
    × StateTold m (code_at m b) (state_after m memory past) (ticks_after m memory past b)
