-- A run keeps what its memory holds as the names ask.
use Rattle.std.proofs.Common.{ℕ, List, [], ◌∷◌, Option, Some, None}
use Rattle.std.specs.Prelude.{ℤ}
use Rattle.bm_base.specs.Entry.{Entry}
use Rattle.bm_base.specs.Memory.{Content}
use Rattle.tuple_ir.specs.declared.tuple.Tuple.{Tuple}
use Rattle.tuple_ir.specs.declared.tuple.Tuple.TheVariants.{Const, Load, Store, LoadEl, StoreEl, One, Two, Print}
use Rattle.tuple_ir.specs.World.{World, write}
use Rattle.bm_base.specs.Memories.{IsMemoryOf}
use Rattle.line_model.specs.declared.line.StreamItem.{StreamItem}
use Rattle.line_model.specs.declared.line.StreamItem.TheVariants.{Do, Wait}
use Rattle.unit_law.specs.State.{Program, Code, Mode, In, Entering, Ended, Work, Idle, Busy, Held, State, code_at, processor, next_item}
use Rattle.unit_law.specs.Steps.{Action, Finish, Fire, Start, Branch, Advance, Enter, state_after, after_to, written, finished, started, tuple_at}
use Rattle.bm_base.proofs.Kept.{IsMemoryOf-set_variable, IsMemoryOf-set_element}

module _ (names : List Entry) where
  write_keeps : (i : ℕ) (tuple : Tuple) (rs : List ℤ) (w : World) → IsMemoryOf names w.memory → IsMemoryOf names (write i tuple rs w).memory
  write_keeps i (Const v) rs w h = h
  write_keeps i (Load x) [] w h = h
  write_keeps i (Load x) (r ∷ rs) w h = h
  write_keeps i (Store x v) [] w h = h
  write_keeps i (Store x v) (r ∷ rs) w h = IsMemoryOf-set_variable names w.memory x r h
  write_keeps i (LoadEl x e) [] w h = h
  write_keeps i (LoadEl x e) (r ∷ rs) w h = h
  write_keeps i (StoreEl x e v) [] w h = h
  write_keeps i (StoreEl x e v) (k ∷ []) w h = h
  write_keeps i (StoreEl x e v) (k ∷ r ∷ rs) w h = IsMemoryOf-set_element names w.memory x k r h
  write_keeps i (One op a) [] w h = h
  write_keeps i (One op a) (r ∷ rs) w h = h
  write_keeps i (Two op a b) [] w h = h
  write_keeps i (Two op a b) (r ∷ []) w h = h
  write_keeps i (Two op a b) (r ∷ q ∷ rs) w h = h
  write_keeps i (Print v) [] w h = h
  write_keeps i (Print v) (r ∷ rs) w h = h

  written_keeps : (o : Option Tuple) (t : ℕ) (rs : List ℤ) (w : World) → IsMemoryOf names w.memory → IsMemoryOf names (written o t rs w).memory
  written_keeps None t rs w h = h
  written_keeps (Some tuple) t rs w h = write_keeps t tuple rs w h

  finished_keeps : (code : Code) (work : Work) (w : World) → IsMemoryOf names w.memory → IsMemoryOf names (finished code work w).memory
  finished_keeps code Idle w h = h
  finished_keeps code (Busy until t rs) w h = written_keeps (tuple_at code t) t rs w h
  finished_keeps code (Held until) w h = h

  started_keeps : (code : Code) (s : State) (p d : ℕ) (item : Option StreamItem) → IsMemoryOf names s.world.memory → IsMemoryOf names (started code s p d item).world.memory
  started_keeps code s p d (Some (Do t)) h = h
  started_keeps code s p d (Some Wait) h = h
  started_keeps code s p d None h = h

  step_keeps : (m : Program) (mode : Mode) (s : State) (a : Action) → IsMemoryOf names s.world.memory → IsMemoryOf names (after_to m mode s a).world.memory
  step_keeps m (In b) s (Finish p) h = finished_keeps (code_at m b) (processor s p).work s.world h
  step_keeps m (In b) s (Fire j) h = h
  step_keeps m (In b) s (Start p d) h = started_keeps (code_at m b) s p d (next_item (code_at m b) s p) h
  step_keeps m (In b) s Branch h = h
  step_keeps m (In b) s Advance h = h
  step_keeps m (In b) s Enter h = h
  step_keeps m (Entering b) s a h = h
  step_keeps m Ended s a h = h

  pub run_keeps : (m : Program) (memory : List Content) (past : List Action) → IsMemoryOf names memory → IsMemoryOf names (state_after m memory past).world.memory
  run_keeps m memory [] h = h
  run_keeps m memory (a ∷ past) h = step_keeps m (state_after m memory past).mode (state_after m memory past) a (run_keeps m memory past h)
