-- What it is that the bounds along lines hold of the runs of a program.
use Rattle.std.specs.Prelude.{◌≡◌, ℕ, ◌+◌, ◌≤◌, List, length, Option, Some, None, slice_get}
use Rattle.bm_base.specs.Memory.{Content}
use Rattle.line_model.specs.declared.line.Item.{Item}
use Rattle.line_model.specs.Streams.{stream}
use Rattle.unit_law.specs.State.{Program, In, code_at}
use Rattle.unit_law.specs.Steps.{Action, state_after, IsRun}
use Rattle.time_interval.specs.declared.reference.Reference.{Reference}
use Rattle.time_interval.specs.declared.reference.Point.{Point}
use Rattle.time_interval.specs.Bounds.{Pace, known, lo_of, up_of}
use Rattle.time_interval.specs.Lines.{HasPoint}
use Rattle.time_law.specs.Conflicts.{pace_of}
use Rattle.unit_law.specs.Execution.{entry_tick}
use Rattle.time_law.specs.Happened.{Ticks, reference_at, ticks_after}

-- the bounds hold at a clock, of a block entered at tick entry, whose points have happened at these ticks: since each reference that
-- has come, no point of the line has happened before its least bound or after its greatest one, and the greatest bound of a point
-- that has not happened is not past
pub record BoundsHold (pace : Pace) (line : List Item) (clock entry : ℕ) (at : Point → Option ℕ) : Type 0 where
  pub low : (r : Reference) (x : Point) (f t l : ℕ) → HasPoint line x → reference_at entry at r ≡ Some f → at x ≡ Some t
      → lo_of pace line r x ≡ Some l → f + l ≤ t
  pub high : (r : Reference) (x : Point) (f t u : ℕ) → HasPoint line x → reference_at entry at r ≡ Some f → at x ≡ Some t
      → up_of pace line r x ≡ Some u → t ≤ f + u
  pub not_yet : (r : Reference) (x : Point) (f u : ℕ) → HasPoint line x → reference_at entry at r ≡ Some f → at x ≡ None
      → up_of pace line r x ≡ Some u → clock ≤ f + u

-- so it is at each state within a block of every run
abbrev pub KeepsBounds : Program → Type 0
KeepsBounds m = (memory : List Content) (past : List Action) (b : ℕ) → IsRun m memory past → (state_after m memory past).mode ≡ In b
    → BoundsHold (pace_of m (code_at m b)) (code_at m b).line (state_after m memory past).clock (entry_tick m memory past)
    (ticks_after m memory past b).at

-- and so do those behind the whole line: since each reference that has come, no processor could go on from its last item before the
-- least bound that is known there or after the greatest one; and while it could not, the greatest one is not past
pub record EndsHold (pace : Pace) (line : List Item) (clock entry : ℕ) (x : Ticks) : Type 0 where
  pub low : (r : Reference) (p f t l : ℕ) → reference_at entry x.at r ≡ Some f → slice_get (x.came p) (length (stream p line)) ≡ Some t
      → (known pace r line).lo p ≡ Some l → f + l ≤ t
  pub high : (r : Reference) (p f t u : ℕ) → reference_at entry x.at r ≡ Some f → slice_get (x.came p) (length (stream p line)) ≡ Some t
      → (known pace r line).up p ≡ Some u → t ≤ f + u
  pub not_yet : (r : Reference) (p f u : ℕ) → reference_at entry x.at r ≡ Some f → slice_get (x.came p) (length (stream p line)) ≡ None
      → (known pace r line).up p ≡ Some u → clock ≤ f + u

abbrev pub KeepsEnds : Program → Type 0
KeepsEnds m = (memory : List Content) (past : List Action) (b : ℕ) → IsRun m memory past → (state_after m memory past).mode ≡ In b
    → EndsHold (pace_of m (code_at m b)) (code_at m b).line (state_after m memory past).clock (entry_tick m memory past)
    (ticks_after m memory past b)
