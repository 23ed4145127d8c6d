-- When things happened in an execution of a block, told from its steps alone.
use Rattle.std.specs.Prelude.{ℕ, ◌+◌, nat_eq, List, [], ◌∷◌, ◌++◌, Option, Some, if◌then◌else◌}
use Rattle.bm_base.specs.Mask.{has_bit}
use Rattle.bm_base.specs.Memory.{Content}
use Rattle.line_model.specs.Reductions.{mask_at}
use Rattle.unit_law.specs.State.{Code, Program, State, code_at}
use Rattle.unit_law.specs.Steps.{Action, Finish, Fire, Start, Branch, Advance, Enter}
use Rattle.unit_law.specs.Execution.{execution, entry_tick, tick_of, starts_tuple, finishes_tuple, fires_mask}
use Rattle.time_interval.specs.declared.reference.Reference.{Reference}
use Rattle.time_interval.specs.declared.reference.Reference.TheVariants as since
use Rattle.time_interval.specs.declared.reference.Point.{Point}
use Rattle.time_interval.specs.declared.reference.Point.TheVariants.{StartOf, FinishOf, FireOf}

-- the tick at which a point has happened, none where it has not
abbrev pub happened : Code → List (State × Action) → Point → Option ℕ
happened code steps (StartOf t) = tick_of (starts_tuple code t) steps
happened code steps (FinishOf t) = tick_of (finishes_tuple t) steps
happened code steps (FireOf j) = tick_of (fires_mask j) steps

-- the tick of a reference: the block's entry, or the Bar's firing where it has fired
abbrev pub reference_at : ℕ → (Point → Option ℕ) → Reference → Option ℕ
reference_at entry at since.Start = Some entry
reference_at entry at (since.Bar k) = at (FireOf k)

-- the duration that tuple t took up at its Start
abbrev pub duration_of : Action → ℕ
duration_of (Start p d) = d
duration_of _ = 0

abbrev pub taken : Code → List (State × Action) → ℕ → ℕ
taken code [] t = 0
taken code ((s, a) ∷ steps) t = if starts_tuple code t s a then duration_of a else taken code steps t

-- one more tick for processor p: that of its Finish, or the one at which the members of its mask resume
abbrev pub arrives_by : Program → Code → State → Action → ℕ → List ℕ → List ℕ
arrives_by m code s (Finish q) p before = if nat_eq p q then before ++ s.clock ∷ [] else before
arrives_by m code s (Fire j) p before = if has_bit (mask_at code.line j) p then before ++ (s.clock + m.machine.delay) ∷ [] else before
arrives_by m code s (Start q d) p before = before
arrives_by m code s Branch p before = before
arrives_by m code s Advance p before = before
arrives_by m code s Enter p before = before

-- the ticks at which processor p could go on to the items 0, 1, .. of its stream: to the first one at the block's entry, to the
-- others at the Finish of the tuple before them, or the delay behind the firing of the mask before them
abbrev pub arrivals : Program → Code → ℕ → List (State × Action) → ℕ → List ℕ
arrivals m code entry [] p = entry ∷ []
arrivals m code entry ((s, a) ∷ steps) p = arrives_by m code s a p (arrivals m code entry steps p)

-- the ticks of an execution of a block. came p: those at which processor p could go on to the items of its stream; at: when each point
-- has happened; took: the duration that each tuple has taken up
pub record Ticks : Type 0 where
  pub came : ℕ → List ℕ
  pub at : Point → Option ℕ
  pub took : ℕ → ℕ

abbrev pub ticks_of : Program → Code → ℕ → List (State × Action) → Ticks
ticks_of m code entry steps = record { came = arrivals m code entry steps; at = happened code steps; took = taken code steps }

-- those of the execution of block b that a run is in
abbrev pub ticks_after : Program → List Content → List Action → ℕ → Ticks
ticks_after m memory past b = ticks_of m (code_at m b) (entry_tick m memory past) (execution m memory past)
