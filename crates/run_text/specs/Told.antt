-- What a run tells what takes its events, one after another: all of them but its end.
use Rattle.std.specs.Prelude.{◌≡◌, ℕ, ◌≤◌, List, [], ◌∷◌, ◌++◌, fold, Option, Result, OnOk, IfErr, ℤ}
use Rattle.std.specs.List.{filter}
use Rattle.bm_base.specs.Memory.{Content}
use Rattle.bm_io.specs.declared.sinks.SinkFault.{SinkFault}
use Rattle.tuple_ir.specs.declared.event.Event.{Event}
use Rattle.tuple_ir.specs.declared.event.Event.TheVariants.{Printed}
use Rattle.unit_law.specs.State.{Program}
use Rattle.unit_law.specs.Units.{Choice}
use Rattle.unit_law.specs.Steps.{Action, state_after}
use Rattle.unit_law.specs.Canonical.{Durations, IsCanonical}
use Rattle.unit_law.specs.Events.{events_of}
use Rattle.bm_machine.specs.Next.{printed_by, goes_on}
use Rattle.run_text.specs.RunUpTo.{IsLastBy, End, end_of}

-- the events of a run by which it goes on
abbrev pub told_by : Program → List Content → List Action → List Event
told_by m memory past = filter goes_on (events_of m memory past)

-- the words that events print
abbrev pub prints_of : List Event → List ℤ
prints_of [] = []
prints_of (event ∷ events) = printed_by event ++ prints_of events

-- The first of the events were taken, and the next was refused. `next` is what is held once one more event is taken, and `leaves`
-- what a refused one may leave.
pub record StopsAtEvent {Held : Type 0} (next : Held → Event → Held) (leaves : SinkFault → Held → Event → Held
    → Type 0) (before now : Held) (events : List Event) (fault : SinkFault) : Type 0 where
  pub front : List Event
  pub refused : Event
  pub rest : List Event
  pub events_are : events ≡ front ++ refused ∷ rest
  pub left : leaves fault (fold next before front) refused now

-- the events were taken in order, up to the first that was refused
pub record Tells {Held T : Type 0} (next : Held → Event → Held) (leaves : SinkFault → Held → Event → Held
    → Type 0) (before now : Held) (events : List Event) (result : Result T SinkFault) : Type 0 where
  pub ok : OnOk result (now ≡ fold next before events)
  pub err : IfErr result (λ fault. StopsAtEvent next leaves before now events fault)

-- where only prints are taken, by their words
abbrev pub with_print : {Held : Type 0} → (Held → ℤ → Held) → Held → Event → Held
with_print next held (Printed at p t value) = next held value
with_print next held _ = held

abbrev pub leaves_print : {Held : Type 0} → (SinkFault → Held → ℤ → Held → Type 0) → SinkFault → Held → Event → Held → Type 0
leaves_print leaves fault held (Printed at p t value) now = leaves fault held value now
leaves_print leaves fault held _ now = ⊥

-- what the canonical run tells at clocks of at most `until`: these events and, where it has ended by then, this end
pub record IsToldUpTo (choice : Choice) (durations : Durations) (m : Program) (memory : List Content) (until : ℕ) (events : List Event)
    (end : Option End) : Type 0 where
  pub past : List Action
  pub is_last : IsLastBy choice durations m memory until past
  pub events_are : events ≡ told_by m memory past
  pub end_is : end ≡ end_of (state_after m memory past) (state_after m memory past).mode

-- a beginning of the canonical run at such a clock tells these events
pub record IsToldBy (choice : Choice) (durations : Durations) (m : Program) (memory : List Content) (until : ℕ)
    (events : List Event) : Type 0 where
  pub past : List Action
  pub canonical : IsCanonical choice durations m memory past
  pub in_time : (state_after m memory past).clock ≤ until
  pub events_are : events ≡ told_by m memory past
