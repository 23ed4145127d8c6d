-- A run has printed the words that its events print.
use Rattle.std.proofs.Common.{◌≡◌, ℕ, List, [], ◌∷◌, ◌++◌, Option, Some, None, refl, sym, ap, ◌∙◌, slice_get, ℤ, append-nil}
use Rattle.std.specs.List.{filter}
use Rattle.std.proofs.lemmas.List.Elements.{filter-append}
use Rattle.bm_base.specs.Memory.{Content}
use Rattle.tuple_ir.specs.declared.block.Next.{Next}
use Rattle.tuple_ir.specs.declared.block.Next.TheVariants.{Halt, Goto, If}
use Rattle.tuple_ir.specs.declared.event.Event.{Event}
use Rattle.tuple_ir.specs.declared.tuple.Tuple.{Tuple}
use Rattle.tuple_ir.specs.declared.tuple.Tuple.TheVariants.{Const, Load, Store, LoadEl, StoreEl, One, Two, Print}
use Rattle.tuple_ir.specs.World.{World, value_of, write}
use Rattle.line_model.specs.declared.line.StreamItem.{StreamItem}
use Rattle.line_model.specs.declared.line.StreamItem.TheVariants.{Do, Wait}
use Rattle.line_model.specs.Streams.{masks}
use Rattle.unit_law.specs.State.{Code, Program, Mode, In, Entering, Ended, Work, Idle, Busy, Held, State, code_at, processor, next_item}
use Rattle.unit_law.specs.Steps.{Action, Finish, Fire, Start, Branch, Advance, Enter, tuple_at, written, finished, started, after_to, state_after}
use Rattle.unit_law.specs.Events.{value_event, tuple_event, finish_event, start_event, fire_event, branch_event, event_to, event_of, and_event, events_of}
use Rattle.bm_machine.specs.Next.{goes_on}
use Rattle.run_text.specs.Told.{told_by, prints_of}
use Rattle.run_text.proofs.Going.{prints_append}

-- the words that one event prints, if any
abbrev printed_if : Option Event → List ℤ
printed_if None = []
printed_if (Some event) = prints_of (filter goes_on (event ∷ []))

nothing : (words : List ℤ) → words ≡ words ++ []
nothing words = sym (append-nil words)

-- what a tuple writes by what it read
write_prints : (clock p t : ℕ) (tuple : Tuple) (operands : List ℤ) (w : World) → (write t tuple operands w).output ≡ w.output ++ printed_if (value_event clock p t tuple (value_of tuple operands))
write_prints clock p t (Const v) rs w = nothing w.output
write_prints clock p t (Load x) [] w = nothing w.output
write_prints clock p t (Load x) (r ∷ rs) w = nothing w.output
write_prints clock p t (Store x v) [] w = nothing w.output
write_prints clock p t (Store x v) (r ∷ rs) w = nothing w.output
write_prints clock p t (LoadEl x i) [] w = nothing w.output
write_prints clock p t (LoadEl x i) (r ∷ rs) w = nothing w.output
write_prints clock p t (StoreEl x i v) [] w = nothing w.output
write_prints clock p t (StoreEl x i v) (k ∷ []) w = nothing w.output
write_prints clock p t (StoreEl x i v) (k ∷ r ∷ rs) w = nothing w.output
write_prints clock p t (One op a) [] w = nothing w.output
write_prints clock p t (One op a) (r ∷ rs) w = nothing w.output
write_prints clock p t (Two op a b) [] w = nothing w.output
write_prints clock p t (Two op a b) (r ∷ []) w = nothing w.output
write_prints clock p t (Two op a b) (r ∷ q ∷ rs) w = nothing w.output
write_prints clock p t (Print c) [] w = nothing w.output
write_prints clock p t (Print c) (r ∷ rs) w = refl

tuple_prints : (clock p t : ℕ) (o : Option Tuple) (operands : List ℤ) (w : World) → (written o t operands w).output ≡ w.output ++ printed_if (tuple_event clock p t o operands)
tuple_prints clock p t None operands w = nothing w.output
tuple_prints clock p t (Some tuple) operands w = write_prints clock p t tuple operands w

-- a Finish, by what the processor works on
finish_prints : (code : Code) (clock p : ℕ) (work : Work) (w : World) → (finished code work w).output ≡ w.output ++ printed_if (finish_event code clock p work)
finish_prints code clock p Idle w = nothing w.output
finish_prints code clock p (Busy until t operands) w = tuple_prints clock p t (tuple_at code t) operands w
finish_prints code clock p (Held until) w = nothing w.output

-- a Start, a Fire and a Branch
start_prints : (code : Code) (s : State) (p d : ℕ) (o : Option StreamItem) → (started code s p d o).world.output ≡ s.world.output ++ printed_if (start_event s.clock p d o)
start_prints code s p d None = nothing s.world.output
start_prints code s p d (Some Wait) = nothing s.world.output
start_prints code s p d (Some (Do t)) = nothing s.world.output

fire_prints : (words : List ℤ) (clock j : ℕ) (o : Option ℕ) → words ≡ words ++ printed_if (fire_event clock j o)
fire_prints words clock j None = nothing words
fire_prints words clock j (Some mask) = nothing words

branch_prints : (words : List ℤ) (clock : ℕ) (next : Next) → words ≡ words ++ printed_if (branch_event clock next)
branch_prints words clock Halt = nothing words
branch_prints words clock (Goto b) = nothing words
branch_prints words clock (If c one other) = nothing words

-- an action adds what its event prints
action_prints : (m : Program) (mode : Mode) (s : State) (a : Action) → (after_to m mode s a).world.output ≡ s.world.output ++ printed_if (event_to m mode s a)
action_prints m (In b) s (Finish p) = finish_prints (code_at m b) s.clock p (processor s p).work s.world
action_prints m (In b) s (Fire j) = fire_prints s.world.output s.clock j (slice_get (masks (code_at m b).line) j)
action_prints m (In b) s (Start p d) = start_prints (code_at m b) s p d (next_item (code_at m b) s p)
action_prints m (In b) s Branch = branch_prints s.world.output s.clock (code_at m b).next
action_prints m (In b) s Advance = nothing s.world.output
action_prints m (In b) s Enter = nothing s.world.output
action_prints m (Entering b) s (Finish p) = nothing s.world.output
action_prints m (Entering b) s (Fire j) = nothing s.world.output
action_prints m (Entering b) s (Start p d) = nothing s.world.output
action_prints m (Entering b) s Branch = nothing s.world.output
action_prints m (Entering b) s Advance = nothing s.world.output
action_prints m (Entering b) s Enter = nothing s.world.output
action_prints m Ended s a = nothing s.world.output

prints_and : (events : List Event) (o : Option Event) → prints_of (filter goes_on (and_event events o)) ≡ prints_of (filter goes_on events) ++ printed_if o
prints_and events None = nothing (prints_of (filter goes_on events))
prints_and events (Some event) = ap prints_of (filter-append goes_on events (event ∷ [])) ∙ prints_append (filter goes_on events) (filter goes_on (event ∷ []))

pub told_prints : (m : Program) (memory : List Content) (past : List Action) → prints_of (told_by m memory past) ≡ (state_after m memory past).world.output
told_prints m memory [] = refl
told_prints m memory (a ∷ past) =
    let s = state_after m memory past in
    prints_and (events_of m memory past) (event_of m s a) ∙ ap (λ words. words ++ printed_if (event_of m s a)) (told_prints m memory past) ∙ sym (action_prints m s.mode s a)
