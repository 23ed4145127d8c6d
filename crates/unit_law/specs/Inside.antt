-- What holds of every state within a block.
use Rattle.std.specs.Prelude.{◌≡◌, ℕ, suc, pred, ◌<◌, ◌≤◌, Bool, true, false, List, length, get_or, Some, slice_get, ℤ}
use Rattle.line_model.specs.declared.line.Item.{Item}
use Rattle.line_model.specs.declared.line.StreamItem.TheVariants.{Do}
use Rattle.line_model.specs.Streams.{stream, masks, before}
use Rattle.line_model.specs.Order.{HasMember}
use Rattle.unit_law.specs.State.{Code, Program, Work, Idle, Busy, Held, Processor, State, processor}

-- a Bar has fired exactly where each of its members has passed it
pub record Agrees (line : List Item) (place : ℕ → ℕ) (fired : ℕ → Bool) : Type 0 where
  pub passed_if : (j p : ℕ) → HasMember line j p → fired j ≡ true → before p j line < place p
  pub fired_if : (j p : ℕ) → HasMember line j p → before p j line < place p → fired j ≡ true

-- how many items of its stream a processor has behind it: one less than its place while it works on a tuple
abbrev pub completed_at : Work → ℕ → ℕ
completed_at Idle place = place
completed_at (Busy until t operands) place = pred place
completed_at (Held until) place = place

abbrev pub completed : Processor → ℕ
completed q = completed_at q.work q.place

-- the tuple that a busy processor works on stands directly before its place
abbrev pub IsWorkAt : Code → ℕ → Processor → Type 0
IsWorkAt code p q = (until t : ℕ) (operands : List ℤ) → q.work ≡ Busy until t operands → (k : ℕ) × (q.place ≡ suc k) × (slice_get (stream p code.line) k ≡ Some (Do t))

-- the tuples that a processor has behind it are done
abbrev pub IsDoneAt : Code → (ℕ → Type 0) → ℕ → Processor → Type 0
IsDoneAt code done p q = (k t : ℕ) → slice_get (stream p code.line) k ≡ Some (Do t) → k < completed q → done t

-- a busy processor's tick is not below the clock
abbrev pub IsNotPast : ℕ → Processor → Type 0
IsNotPast clock q = (until t : ℕ) (operands : List ℤ) → q.work ≡ Busy until t operands → clock ≤ until

-- at a state within a block: a Bar has fired exactly where its members have passed it, a busy processor works on the item before its
-- place, what a processor has behind it is done, and no busy tick is past
pub record Inside (m : Program) (code : Code) (done : ℕ → Type 0) (s : State) : Type 0 where
  pub processors : length s.processors ≡ m.machine.processors
  pub masks_are : length s.fired ≡ length (masks code.line)
  pub agrees : Agrees code.line (λ p. (processor s p).place) (λ j. get_or s.fired j false)
  pub work : (p : ℕ) → IsWorkAt code p (processor s p)
  pub finished : (p : ℕ) → IsDoneAt code done p (processor s p)
  pub ticks : (p : ℕ) → IsNotPast s.clock (processor s p)
