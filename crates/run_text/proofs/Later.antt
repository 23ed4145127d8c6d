-- With each action the clock stays or goes on, and the output stays or grows.
use Rattle.std.proofs.Common.{◌≡◌, ℕ, zero, suc, ◌+◌, ◌≤◌, Bool, true, false, List, [], ◌∷◌, ◌++◌, set, replicate, Option, Some, None, refl, sym, ap, ◌∙◌, subst, le_refl, arith, append-nil, ℤ, nat_lt, if◌then◌else◌}
use Rattle.std.proofs.lemmas.Bool.{ltb-true}
use Rattle.bm_base.specs.Mask.{has_bit}
use Rattle.bm_base.specs.Memory.{Content}
use Rattle.tuple_ir.specs.declared.tuple.Tuple.{Tuple}
use Rattle.tuple_ir.specs.declared.tuple.Tuple.TheVariants.{Const, Load, Store, LoadEl, StoreEl, One, Two, Print}
use Rattle.tuple_ir.specs.World.{World, write}
use Rattle.tuple_ir.proofs.Growth.{prefix_refl}
use Rattle.line_model.specs.declared.line.StreamItem.{StreamItem}
use Rattle.line_model.specs.declared.line.StreamItem.TheVariants.{Do, Wait}
use Rattle.unit_law.specs.State.{Code, Program, Mode, In, Entering, Ended, Work, Idle, Busy, Held, Processor, State, at_start, code_at, processor, next_item}
use Rattle.unit_law.specs.Steps.{Action, Finish, Fire, Start, Branch, Advance, Enter, tick, lesser, least_tick, or_clock, resumed, passed, started, written, finished, tuple_at, after_to, state_after}
use Rattle.bm_base.specs.Prefix.{IsPrefixOf}

-- ---- the output
write_grows : (i : ℕ) (t : Tuple) (operands : List ℤ) (w : World) → IsPrefixOf w.output (write i t operands w).output
write_grows i (Const v) operands w = prefix_refl w.output
write_grows i (Load x) [] w = prefix_refl w.output
write_grows i (Load x) (r ∷ operands) w = prefix_refl w.output
write_grows i (Store x v) [] w = prefix_refl w.output
write_grows i (Store x v) (r ∷ operands) w = prefix_refl w.output
write_grows i (LoadEl x e) [] w = prefix_refl w.output
write_grows i (LoadEl x e) (r ∷ operands) w = prefix_refl w.output
write_grows i (StoreEl x e v) [] w = prefix_refl w.output
write_grows i (StoreEl x e v) (k ∷ []) w = prefix_refl w.output
write_grows i (StoreEl x e v) (k ∷ r ∷ operands) w = prefix_refl w.output
write_grows i (One op a) [] w = prefix_refl w.output
write_grows i (One op a) (r ∷ operands) w = prefix_refl w.output
write_grows i (Two op a b) [] w = prefix_refl w.output
write_grows i (Two op a b) (r ∷ []) w = prefix_refl w.output
write_grows i (Two op a b) (r ∷ q ∷ operands) w = prefix_refl w.output
write_grows i (Print v) [] w = prefix_refl w.output
write_grows i (Print v) (r ∷ operands) w = (r ∷ [], refl)

written_grows : (o : Option Tuple) (i : ℕ) (operands : List ℤ) (w : World) → IsPrefixOf w.output (written o i operands w).output
written_grows None i operands w = prefix_refl w.output
written_grows (Some t) i operands w = write_grows i t operands w

finished_grows : (code : Code) (work : Work) (w : World) → IsPrefixOf w.output (finished code work w).output
finished_grows code Idle w = prefix_refl w.output
finished_grows code (Busy until t operands) w = written_grows (tuple_at code t) t operands w
finished_grows code (Held until) w = prefix_refl w.output

started_same : (code : Code) (s : State) (p d : ℕ) (o : Option StreamItem) → (started code s p d o).world ≡ s.world
started_same code s p d None = refl
started_same code s p d (Some Wait) = refl
started_same code s p d (Some (Do t)) = refl

start_grows : (w v : World) → v ≡ w → IsPrefixOf w.output v.output
start_grows w v e = ([], append_to w.output v.output (ap (λ x. x.output) e))
  where
    append_to : (xs ys : List ℤ) → ys ≡ xs → xs ++ [] ≡ ys
    append_to xs ys e = append-nil xs ∙ sym e

pub grows : (m : Program) (mode : Mode) (s : State) (a : Action) → IsPrefixOf s.world.output (after_to m mode s a).world.output
grows m (In b) s (Finish p) = finished_grows (code_at m b) (processor s p).work s.world
grows m (In b) s (Fire j) = prefix_refl s.world.output
grows m (In b) s (Start p d) = start_grows s.world _ (started_same (code_at m b) s p d (next_item (code_at m b) s p))
grows m (In b) s Branch = prefix_refl s.world.output
grows m (In b) s Advance = prefix_refl s.world.output
grows m (In b) s Enter = prefix_refl s.world.output
grows m (Entering b) s a = prefix_refl s.world.output
grows m Ended s a = prefix_refl s.world.output

-- ---- the clock
-- this work is not over before the clock
abbrev IsLate : ℕ → Work → Type 0
IsLate clock Idle = Unit {0}
IsLate clock (Busy until t operands) = clock ≤ until
IsLate clock (Held until) = Unit {0}

-- no processor's work is over before the clock
abbrev pub AllLate : ℕ → List Processor → Type 0
AllLate clock [] = Unit {0}
AllLate clock (q ∷ qs) = IsLate clock q.work × AllLate clock qs

-- the tick, if any, is not before the clock
abbrev IsAhead : ℕ → Option ℕ → Type 0
IsAhead clock None = Unit {0}
IsAhead clock (Some t) = clock ≤ t

tick_ahead : (clock : ℕ) (w : Work) → IsLate clock w → IsAhead clock (tick clock w)
tick_ahead clock Idle h = tt
tick_ahead clock (Busy until t operands) h = h
tick_ahead clock (Held until) h = go (nat_lt clock until) refl
  where
    go : (v : Bool) → nat_lt clock until ≡ v → IsAhead clock (if v then Some until else None)
    go true e = let x = ltb-true clock until e in omega arith
    go false e = tt

tick_late : (clock n : ℕ) (w : Work) → IsAhead n (tick clock w) → IsLate n w
tick_late clock n Idle h = tt
tick_late clock n (Busy until t operands) h = h
tick_late clock n (Held until) h = tt

lesser_ahead : (n : ℕ) (a b : Option ℕ) → IsAhead n a → IsAhead n b → IsAhead n (lesser a b)
lesser_ahead n None b h k = k
lesser_ahead n (Some x) None h k = h
lesser_ahead n (Some x) (Some y) h k = omega arith

lesser_parts : (n : ℕ) (a b : Option ℕ) → IsAhead n (lesser a b) → IsAhead n a × IsAhead n b
lesser_parts n None b h = (tt, h)
lesser_parts n (Some x) None h = (h, tt)
lesser_parts n (Some x) (Some y) h = (omega arith, omega arith)

least_ahead : (clock : ℕ) (qs : List Processor) → AllLate clock qs → IsAhead clock (least_tick clock qs)
least_ahead clock [] h = tt
least_ahead clock (q ∷ qs) h = lesser_ahead clock (tick clock q.work) (least_tick clock qs) (tick_ahead clock q.work h.0) (least_ahead clock qs h.1)

least_late : (clock n : ℕ) (qs : List Processor) → IsAhead n (least_tick clock qs) → AllLate n qs
least_late clock n [] h = tt
least_late clock n (q ∷ qs) h = let parts = lesser_parts n (tick clock q.work) (least_tick clock qs) h in (tick_late clock n q.work parts.0, least_late clock n qs parts.1)

advance_late : (clock : ℕ) (qs : List Processor) (o : Option ℕ) → o ≡ least_tick clock qs → AllLate clock qs → AllLate (or_clock o clock) qs × (clock ≤ or_clock o clock)
advance_late clock qs None e h = (h, le_refl clock)
advance_late clock qs (Some t) e h = (least_late clock t qs (subst (IsAhead t) e (le_refl t)), subst (IsAhead clock) (sym e) (least_ahead clock qs h))

set_late : (clock : ℕ) (qs : List Processor) (p : ℕ) (q : Processor) → AllLate clock qs → IsLate clock q.work → AllLate clock (set qs p q)
set_late clock [] p q h k = tt
set_late clock (r ∷ qs) zero q h k = (k, h.1)
set_late clock (r ∷ qs) (suc p) q h k = (h.0, set_late clock qs p q h.1 k)

resumed_late : (clock until : ℕ) (q : Processor) (v : Bool) → IsLate clock q.work → IsLate clock (if v then resumed until q else q).work
resumed_late clock until q true h = tt
resumed_late clock until q false h = h

passed_late : (clock until mask k : ℕ) (qs : List Processor) → AllLate clock qs → AllLate clock (passed until mask k qs)
passed_late clock until mask k [] h = tt
passed_late clock until mask k (q ∷ qs) h = (resumed_late clock until q (has_bit mask k) h.0, passed_late clock until mask (suc k) qs h.1)

start_late : (code : Code) (s : State) (p d : ℕ) (o : Option StreamItem) → AllLate s.clock s.processors → AllLate (started code s p d o).clock (started code s p d o).processors × (s.clock ≤ (started code s p d o).clock)
start_late code s p d None h = (h, le_refl s.clock)
start_late code s p d (Some Wait) h = (h, le_refl s.clock)
start_late code s p d (Some (Do t)) h = (set_late s.clock s.processors p _ h (omega arith), le_refl s.clock)

idle_late : (clock n : ℕ) → AllLate clock (replicate n at_start)
idle_late clock zero = tt
idle_late clock (suc n) = (tt, idle_late clock n)

-- an action keeps that no work is over before the clock, and the clock never falls
pub late_after : (m : Program) (mode : Mode) (s : State) (a : Action) → AllLate s.clock s.processors → AllLate (after_to m mode s a).clock (after_to m mode s a).processors × (s.clock ≤ (after_to m mode s a).clock)
late_after m (In b) s (Finish p) h = (set_late s.clock s.processors p _ h tt, le_refl s.clock)
late_after m (In b) s (Fire j) h = (passed_late s.clock _ _ 0 s.processors h, le_refl s.clock)
late_after m (In b) s (Start p d) h = start_late (code_at m b) s p d (next_item (code_at m b) s p) h
late_after m (In b) s Branch h = (h, le_refl s.clock)
late_after m (In b) s Advance h = advance_late s.clock s.processors (least_tick s.clock s.processors) refl h
late_after m (In b) s Enter h = (h, le_refl s.clock)
late_after m (Entering b) s a h = (idle_late (s.clock + 1) m.machine.processors, omega arith)
late_after m Ended s a h = (h, le_refl s.clock)

pub all_late : (m : Program) (memory : List Content) (past : List Action) → AllLate (state_after m memory past).clock (state_after m memory past).processors
all_late m memory [] = idle_late 0 m.machine.processors
all_late m memory (a ∷ past) = (late_after m (state_after m memory past).mode (state_after m memory past) a (all_late m memory past)).0

-- one more action of any list of actions
pub clock_later : (m : Program) (memory : List Content) (a : Action) (past : List Action) → (state_after m memory past).clock ≤ (state_after m memory (a ∷ past)).clock
clock_later m memory a past = (late_after m (state_after m memory past).mode (state_after m memory past) a (all_late m memory past)).1

pub output_grows : (m : Program) (memory : List Content) (a : Action) (past : List Action) → IsPrefixOf (state_after m memory past).world.output (state_after m memory (a ∷ past)).world.output
output_grows m memory a past = grows m (state_after m memory past).mode (state_after m memory past) a
