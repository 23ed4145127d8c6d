-- The steps of the machine, and its runs.
use Rattle.std.specs.Prelude.{◌≡◌, ℕ, suc, ◌+◌, ◌<◌, nat_lt, true, false, List, [], ◌∷◌, get_or, set, min, Option, Some, None}
use Rattle.std.specs.Prelude.{slice_get, if◌then◌else◌, ℤ, pos}
use Rattle.std.specs.Ordering.{int_eq}
use Rattle.bm_base.specs.Mask.{has_bit}
use Rattle.bm_base.specs.Memory.{Content}
use Rattle.tuple_ir.specs.declared.tuple.Tuple.{Tuple}
use Rattle.tuple_ir.specs.declared.block.Next.{Next}
use Rattle.tuple_ir.specs.declared.block.Next.TheVariants.{Halt, Goto, If}
use Rattle.tuple_ir.specs.World.{World, reads, write, cell}
use Rattle.line_model.specs.declared.line.StreamItem.{StreamItem}
use Rattle.line_model.specs.declared.line.StreamItem.TheVariants.{Do, Wait}
use Rattle.line_model.specs.Streams.{masks}
use Rattle.timing_law.specs.Duration.{IsWithin}
use Rattle.unit_law.specs.State.{Code, Program, Mode, In, Entering, Ended, Work, Idle, Busy, Held, Processor, State, code_at}
use Rattle.unit_law.specs.State.{interval_of, entered, start, processor, is_free, is_due, next_item, waits}
use Rattle.unit_law.specs.Units.{IsReady, IsUrgent}

-- one atomic action of one actor: a processor finishes its tuple, a mask fires, a processor starts its next tuple and takes
-- a duration for it, the machine leaves a block, the clock goes on within a block, the machine enters a block
pub data Action : Type 0 where
  Finish : (p : ℕ) → Action
  Fire : (j : ℕ) → Action
  Start : (p duration : ℕ) → Action
  Branch : Action
  Advance : Action
  Enter : Action

abbrev pub IsMaskReady : Code → State → ℕ → Type 0
IsMaskReady code s j = IsReady (masks code.line) s.fired (waits code s) j

abbrev pub IsMaskUrgent : Code → State → ℕ → Type 0
IsMaskUrgent code s j = IsUrgent (masks code.line) s.fired (waits code s) j

-- no Finish is due
abbrev pub NoneDue : State → Type 0
NoneDue s = (p : ℕ) → is_due s.clock (processor s p).work ≡ false

-- p is one of the machine's processors and is free, and tuple t is its next item
pub record IsNext (m : Program) (code : Code) (s : State) (p t : ℕ) : Type 0 where
  pub is_one : p < m.machine.processors
  pub idle : is_free s.clock (processor s p).work ≡ true
  pub item : next_item code s p ≡ Some (Do t)

-- p is at its stream's end, and free
pub record IsAtEnd (code : Code) (s : State) (p : ℕ) : Type 0 where
  pub idle : is_free s.clock (processor s p).work ≡ true
  pub nothing : next_item code s p ≡ None

-- the tick until which a processor is busy, or is held past this clock
abbrev pub tick : ℕ → Work → Option ℕ
tick clock Idle = None
tick clock (Busy until t operands) = Some until
tick clock (Held until) = if nat_lt clock until then Some until else None

abbrev pub lesser : Option ℕ → Option ℕ → Option ℕ
lesser None o = o
lesser (Some a) None = Some a
lesser (Some a) (Some b) = Some (min a b)

-- the least tick of the processors that are busy or held past this clock, none where all are free
abbrev pub least_tick : ℕ → List Processor → Option ℕ
least_tick clock [] = None
least_tick clock (q ∷ qs) = lesser (tick clock q.work) (least_tick clock qs)

abbrev pub tuple_at : Code → ℕ → Option Tuple
tuple_at code t = slice_get code.tuples t

-- d is within the tuple's interval
abbrev pub IsDuration : Program → Option Tuple → ℕ → Type 0
IsDuration m None d = ⊥
IsDuration m (Some t) d = IsWithin (interval_of m t) d

-- no processor can start a tuple
abbrev pub NoneStarts : Program → Code → State → Type 0
NoneStarts m code s = (p t : ℕ) → IsNext m code s p t → ⊥

-- all processors are at their streams' ends, and free
abbrev pub AllAtEnd : Program → Code → State → Type 0
AllAtEnd m code s = (p : ℕ) → p < m.machine.processors → IsAtEnd code s p

-- where an action may be taken, in block b
abbrev pub MayIn : Program → ℕ → State → Action → Type 0
MayIn m b s (Finish p) = is_due s.clock (processor s p).work ≡ true
MayIn m b s (Fire j) = NoneDue s × IsMaskReady (code_at m b) s j
MayIn m b s (Start p d) = NoneDue s × ((t : ℕ) × IsNext m (code_at m b) s p t × IsDuration m (tuple_at (code_at m b) t) d)
MayIn m b s Branch = NoneDue s × AllAtEnd m (code_at m b) s
MayIn m b s Advance = NoneDue s × NoneStarts m (code_at m b) s × ((j : ℕ) → IsMaskUrgent (code_at m b) s j → ⊥)
    × ((t : ℕ) × (least_tick s.clock s.processors ≡ Some t))
MayIn m b s Enter = ⊥

-- where an action may be taken, in a state of this mode
abbrev pub may_to : Program → Mode → State → Action → Type 0
may_to m (In b) s a = MayIn m b s a
may_to m (Entering b) s Enter = Unit {0}
may_to m (Entering b) s _ = ⊥
may_to m Ended s a = ⊥

abbrev pub May : Program → State → Action → Type 0
May m s a = may_to m s.mode s a

-- processor p is replaced
abbrev pub with_processor : State → ℕ → Processor → State
with_processor s p q = record s { processors = set s.processors p q }

-- what tuple number t writes, by what it read, and what it reads; no tuple does neither
abbrev pub written : Option Tuple → ℕ → List ℤ → World → World
written None t operands w = w
written (Some tuple) t operands w = write t tuple operands w

abbrev pub read_of : Option Tuple → World → List ℤ
read_of None w = []
read_of (Some tuple) w = reads tuple w

-- what the work of a busy processor writes
abbrev pub finished : Code → Work → World → World
finished code Idle w = w
finished code (Busy until t operands) w = written (tuple_at code t) t operands w
finished code (Held until) w = w

-- a processor that has finished its tuple, one that has started its next one, and one that has passed its wait and is held
abbrev pub freed : Processor → Processor
freed q = record { place = q.place; work = Idle }

abbrev pub begun : Processor → ℕ → ℕ → List ℤ → Processor
begun q until t operands = record { place = suc q.place; work = Busy until t operands }

abbrev pub resumed : ℕ → Processor → Processor
resumed until q = record { place = suc q.place; work = Held until }

-- each member of the mask passes its wait, and is held until this tick; k is the number of the list's first processor
abbrev pub passed : ℕ → ℕ → ℕ → List Processor → List Processor
passed until mask k [] = []
passed until mask k (q ∷ qs) = (if has_bit mask k then resumed until q else q) ∷ passed until mask (suc k) qs

-- processor p starts its next item, where that is a tuple
abbrev pub started : Code → State → ℕ → ℕ → Option StreamItem → State
started code s p d (Some (Do t)) = with_processor s p (begun (processor s p) (s.clock + d) t (read_of (tuple_at code t) s.world))
started code s p d (Some Wait) = s
started code s p d None = s

-- where a next leads
abbrev pub target : Next → World → Mode
target Halt w = Ended
target (Goto b) w = Entering b
target (If c one other) w = if int_eq (cell w c) (pos 0) then Entering other else Entering one

abbrev pub or_clock : Option ℕ → ℕ → ℕ
or_clock None clock = clock
or_clock (Some t) clock = t

-- what an action does, in block b
abbrev pub after_in : Program → ℕ → State → Action → State
after_in m b s (Finish p) = record (with_processor s p (freed (processor s p)))
    { world = finished (code_at m b) (processor s p).work s.world }
after_in m b s (Fire j) = record s
    { processors = passed (s.clock + m.machine.delay) (get_or (masks (code_at m b).line) j 0) 0 s.processors; fired = set s.fired j true }
after_in m b s (Start p d) = started (code_at m b) s p d (next_item (code_at m b) s p)
after_in m b s Branch = record s { mode = target (code_at m b).next s.world }
after_in m b s Advance = record s { clock = or_clock (least_tick s.clock s.processors) s.clock }
after_in m b s Enter = s

-- what an action does, in a state of this mode
abbrev pub after_to : Program → Mode → State → Action → State
after_to m (In b) s a = after_in m b s a
after_to m (Entering b) s a = entered m b (s.clock + 1) s.world
after_to m Ended s a = s

abbrev pub after : Program → State → Action → State
after m s a = after_to m s.mode s a

-- a step from one state to another
pub record Step (m : Program) (s t : State) : Type 0 where
  pub action : Action
  pub may : May m s action
  pub effect : t ≡ after m s action

-- a run is a list of states from the start, each the next by a step; here the latest stands first
abbrev pub IsStateRun : Program → List Content → List State → Type 0
IsStateRun m memory [] = ⊥
IsStateRun m memory (s ∷ []) = s ≡ start m memory
IsStateRun m memory (t ∷ s ∷ states) = IsStateRun m memory (s ∷ states) × Step m s t

-- The start and the actions fix the states, so everywhere else a run is written down by its actions, the latest first: the state
-- that they lead to, and that each may be taken where it stands.
abbrev pub state_after : Program → List Content → List Action → State
state_after m memory [] = start m memory
state_after m memory (a ∷ past) = after m (state_after m memory past) a

abbrev pub IsRun : Program → List Content → List Action → Type 0
IsRun m memory [] = Unit {0}
IsRun m memory (a ∷ past) = IsRun m memory past × May m (state_after m memory past) a

-- the states before the last one, and all states, of the run with these actions
abbrev pub earlier_states : Program → List Content → List Action → List State
earlier_states m memory [] = []
earlier_states m memory (a ∷ past) = state_after m memory past ∷ earlier_states m memory past

abbrev pub states_of : Program → List Content → List Action → List State
states_of m memory past = state_after m memory past ∷ earlier_states m memory past
