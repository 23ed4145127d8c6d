-- What has finished in this execution of the block, action by action.
use Rattle.std.proofs.Common.{ℕ, List, ◌⊎◌}
use Rattle.unit_law.specs.State.{State, processor}
use Rattle.unit_law.specs.Steps.{Action, Finish, Fire, Start, Branch, Advance, Enter}
use Rattle.unit_law.specs.Execution.{since_entry, WorksOn, FinishedIn}

-- tuple t has finished in this execution of the block once the action is taken, where `done` says so of the state before it
abbrev pub finished_by : State → Action → ℕ → Type 0 → Type 0
finished_by s (Finish p) t done = WorksOn (processor s p).work t ⊎ done
finished_by s (Fire j) t done = done
finished_by s (Start p d) t done = done
finished_by s Branch t done = ⊥
finished_by s Advance t done = done
finished_by s Enter t done = ⊥

-- so what holds of the one holds of the steps with this one
pub finished_as : (P : (ℕ → Type 0) → Type 0) (steps : List (State × Action)) (s : State) (a : Action) → P (λ t. finished_by s a t (FinishedIn steps t)) → P (FinishedIn (since_entry s a steps))
finished_as P steps s (Finish p) h = h
finished_as P steps s (Fire j) h = h
finished_as P steps s (Start p d) h = h
finished_as P steps s Branch h = h
finished_as P steps s Advance h = h
finished_as P steps s Enter h = h
