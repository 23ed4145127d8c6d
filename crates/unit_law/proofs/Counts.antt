-- Two ways to count: by the greatest times, and by steps.
use Rattle.std.proofs.Common.{◌≡◌, ℕ, ◌+◌, ◌-◌, ◌<◌, ◌≤◌, nat_lt, Bool, true, false, Option, Some, None, refl, le_refl, arith, ◌⊎◌, inl, inr, if◌then◌else◌}
use Rattle.std.proofs.lemmas.Bool.{cases_lt, cond-true, cond-false, eq-eqb, lt-ltb, le-ltb}
use Rattle.tuple_ir.specs.declared.tuple.Tuple.{Tuple}
use Rattle.unit_law.specs.State.{Program, Work, Idle, Busy, Held, code_at, is_due}
use Rattle.unit_law.specs.Steps.{IsDuration, tuple_at}
use Rattle.unit_law.specs.Determinate.{most_time}
use Rattle.unit_law.proofs.Totals.{Count}

abbrev pub until_of : Work → ℕ
until_of Idle = 0
until_of (Busy until t operands) = until
until_of (Held until) = until

pub in_time : (m : Program) (o : Option Tuple) (d : ℕ) → IsDuration m o d → d ≤ most_time m o
in_time m None d h = absurd h
in_time m (Some x) d h = h.high

-- a tuple counts its greatest time before it starts, and then the ticks until its Finish; a mask the delay before it fires, and then
-- the ticks until its hold is over
abbrev pub time_count : (m : Program) (b : ℕ) → Count m b
time_count m b = record {
  ahead = λ t. most_time m (tuple_at (code_at m b) t);
  rest = λ clock w. until_of w - clock;
  each = 0;
  fall = λ clock later. later - clock;
  starts = λ clock t d operands time. let x = in_time m (tuple_at (code_at m b) t) d time in omega arith;
  finishes = λ clock w due. omega arith;
  stays = λ clock later w le due. omega arith;
  advances = λ clock later t operands le due. omega arith;
  wait = m.machine.delay;
  hold = λ clock until. until - clock;
  fires = λ clock. omega arith;
  hold_stays = λ clock later until le. omega arith;
  hold_advances = λ clock later lt. omega arith;
}

abbrev pub rest_steps : ℕ → Work → ℕ
rest_steps clock w = if is_due clock w then 1 else 2

pub few_steps : (clock : ℕ) (w : Work) → rest_steps clock w ≤ 2
few_steps clock w = go (is_due clock w)
  where
    go : (v : Bool) → (if v then 1 else 2) ≤ 2
    go true = omega arith
    go false = omega arith

abbrev pub hold_steps : ℕ → ℕ → ℕ
hold_steps clock until = if nat_lt clock until then 1 else 0

pub few_holds : (clock until : ℕ) → hold_steps clock until ≤ 1
few_holds clock until = go (nat_lt clock until)
  where
    go : (v : Bool) → (if v then 1 else 0) ≤ 1
    go true = omega arith
    go false = omega arith

pub hold_on : (clock later until : ℕ) → clock ≤ later → hold_steps later until ≤ hold_steps clock until
hold_on clock later until le = go (cases_lt later until)
  where
    go : (later < until) ⊎ (until ≤ later) → hold_steps later until ≤ hold_steps clock until
    go (inl lt) = let x : hold_steps clock until ≡ 1 = cond-true _ _ _ (lt-ltb clock until (omega arith)) in let y = few_holds later until in omega arith
    go (inr ge) = let x : hold_steps later until ≡ 0 = cond-false _ _ _ (le-ltb later until ge) in omega arith

pub hold_over : (clock later : ℕ) → clock < later → hold_steps later later + 1 ≤ hold_steps clock later
hold_over clock later lt = let x : hold_steps clock later ≡ 1 = cond-true _ _ _ (lt-ltb clock later lt) in let y : hold_steps later later ≡ 0 = cond-false _ _ _ (le-ltb later later (le_refl _)) in omega arith

-- a tuple counts three steps before it starts, two while it is worked on, and one once its Finish is due; a mask two before it
-- fires, and one until its hold is over
abbrev pub step_count : (m : Program) (b : ℕ) → Count m b
step_count m b = record {
  ahead = λ t. 3;
  rest = rest_steps;
  each = 1;
  fall = λ clock later. 1;
  starts = λ clock t d operands time. let x = few_steps clock (Busy (clock + d) t operands) in omega arith;
  finishes = λ clock w due. let x : rest_steps clock w ≡ 1 = cond-true _ _ _ due in omega arith;
  stays = λ clock later w le due. let x : rest_steps clock w ≡ 2 = cond-false _ _ _ due in let y = few_steps later w in omega arith;
  advances = λ clock later t operands le due. let x : rest_steps clock (Busy later t operands) ≡ 2 = cond-false _ _ _ due in let y : rest_steps later (Busy later t operands) ≡ 1 = cond-true _ _ _ (eq-eqb later later refl) in omega arith;
  wait = 2;
  hold = hold_steps;
  fires = λ clock. let x = few_holds clock (clock + m.machine.delay) in omega arith;
  hold_stays = hold_on;
  hold_advances = hold_over;
}
