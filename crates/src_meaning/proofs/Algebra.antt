-- Evaluations one after another.
use Rattle.std.proofs.Common.{◌≡◌, ℕ, ℤ, List, Bool, Result, Ok, Err, refl, ap, sym, ◌∙◌, subst}
use Rattle.bm_base.specs.Memory.{Content}
use Rattle.bm_io.specs.declared.sinks.SinkFault.{SinkFault}
use Rattle.bm_io.specs.declared.sinks.SinkFault.TheVariants.{Failed}
use Rattle.src_meaning.specs.declared.evaluate.End.{End}
use Rattle.src_meaning.specs.declared.evaluate.End.TheVariants.{Done, More}
use Rattle.src_meaning.specs.Meaning.{Outcome, Action, done, stopped, continued, and_then, behind}
use Rattle.src_meaning.specs.Evaluates.{View, seen, Evaluates}
use Rattle.src_meaning.proofs.Taking.{Took-nothing, Took-then, Took-stop, HasCause-then, HasCause-nothing}

abbrev pub go_on : Outcome → Action → Outcome
go_on o b = behind o.output (b o.turns o.memory)

pub and_then-done : (o : Outcome) (b : Action) → o.end ≡ Done → and_then o b ≡ go_on o b
and_then-done o b d = ap (λ e. continued e o b) d

pub and_then-more : (o : Outcome) (b : Action) → o.end ≡ More → and_then o b ≡ o
and_then-more o b d = ap (λ e. continued e o b) d

module _ {Held : Type 0} (next : Held → ℤ → Held) (leaves : SinkFault → Held → ℤ → Held → Type 0) (is_sure : Bool) where
  -- nothing was done, and nothing printed
  pub Evaluates-done : (v : View Held) → Evaluates next leaves is_sure v v (done v.turns v.memory) (Ok Done)
  Evaluates-done v = record {
    took = Took-nothing next leaves v.held Done;
    end = refl;
    turns = refl;
    memory = refl;
    names = λ names m. m;
    cause = HasCause-nothing Failed v.faults Done;
    sure = λ _. refl;
  }

  pub Evaluates-stopped : (v : View Held) → Evaluates next leaves is_sure v v (stopped v.turns v.memory) (Ok More)
  Evaluates-stopped v = record {
    took = Took-nothing next leaves v.held More;
    end = refl;
    turns = refl;
    memory = refl;
    names = λ names m. m;
    cause = HasCause-nothing Failed v.faults More;
    sure = λ _. refl;
  }

  pub Evaluates-as : (v w : View Held) (o q : Outcome) (r : Result End SinkFault) → o ≡ q → Evaluates next leaves is_sure v w o r → Evaluates next leaves is_sure v w q r
  Evaluates-as v w o q r same h = subst (λ x. Evaluates next leaves is_sure v w x r) same h

  behind_done : (v w z : View Held) (o q : Outcome) (r : Result End SinkFault) → Evaluates next leaves is_sure v w o (Ok Done) → Evaluates next leaves is_sure w z q r → Evaluates next leaves is_sure v z (behind o.output q) r
  behind_done v w z o q r s t = record {
    took = Took-then next leaves v.held w.held z.held o.output q.output Done r s.took t.took;
    end = t.end;
    turns = t.turns;
    memory = t.memory;
    names = λ names m. t.names names (s.names names m);
    cause = HasCause-then Failed v.faults w.faults z.faults (Ok Done) r s.cause t.cause;
    sure = t.sure;
  }

  -- statements that were done, and others behind them
  pub Evaluates-then : (v w z : View Held) (o : Outcome) (b : Action) (r : Result End SinkFault) → Evaluates next leaves is_sure v w o (Ok Done) → Evaluates next leaves is_sure w z (b w.turns w.memory) r → Evaluates next leaves is_sure v z (and_then o b) r
  Evaluates-then v w z o b r s t =
      let here : b w.turns w.memory ≡ b o.turns o.memory = ap (λ n. b n w.memory) s.turns ∙ ap (b o.turns) s.memory in
      let all = behind_done v w z o (b o.turns o.memory) r s (Evaluates-as w z (b w.turns w.memory) (b o.turns o.memory) r here t) in
      Evaluates-as v z (go_on o b) (and_then o b) r (sym (and_then-done o b (sym s.end))) all

  -- more is to come: nothing further runs
  pub Evaluates-more : (v w : View Held) (o : Outcome) (b : Action) → Evaluates next leaves is_sure v w o (Ok More) → Evaluates next leaves is_sure v w (and_then o b) (Ok More)
  Evaluates-more v w o b s = Evaluates-as v w o (and_then o b) (Ok More) (sym (and_then-more o b (sym s.end))) s

  fault_behind : (v w : View Held) (o : Outcome) (b : Action) (e : SinkFault) (end : End) → Evaluates next leaves is_sure v w o (Err e) → Evaluates next leaves is_sure v w (continued end o b) (Err e)
  fault_behind v w o b e Done s = record {
    took = Took-stop next leaves v.held w.held o.output (b o.turns o.memory).output e s.took;
    end = tt;
    turns = tt;
    memory = tt;
    names = s.names;
    cause = s.cause;
    sure = s.sure;
  }
  fault_behind v w o b e More s = s

  -- a value was refused: nothing further runs
  pub Evaluates-fault : (v w : View Held) (o : Outcome) (b : Action) (e : SinkFault) → Evaluates next leaves is_sure v w o (Err e) → Evaluates next leaves is_sure v w (and_then o b) (Err e)
  Evaluates-fault v w o b e s = fault_behind v w o b e o.end s

  -- What is still to come, after which the whole has come.
  abbrev pub Continues : View Held → Outcome → View Held → Outcome → Type 0
  Continues v o start whole = (w : View Held) (r : Result End SinkFault) → Evaluates next leaves is_sure v w o r → Evaluates next leaves is_sure start w whole r

  pub Continues-done : (v w start : View Held) (o : Outcome) (b : Action) (whole : Outcome) → Continues v (and_then o b) start whole → Evaluates next leaves is_sure v w o (Ok Done) → Continues w (b w.turns w.memory) start whole
  Continues-done v w start o b whole k s = λ z r t. k z r (Evaluates-then v w z o b r s t)

  pub Continues-more : (v w start : View Held) (o : Outcome) (b : Action) (whole : Outcome) → Continues v (and_then o b) start whole → Evaluates next leaves is_sure v w o (Ok More) → Evaluates next leaves is_sure start w whole (Ok More)
  Continues-more v w start o b whole k s = k w (Ok More) (Evaluates-more v w o b s)

  pub Continues-fault : (v w start : View Held) (o : Outcome) (b : Action) (whole : Outcome) (e : SinkFault) → Continues v (and_then o b) start whole → Evaluates next leaves is_sure v w o (Err e) → Evaluates next leaves is_sure start w whole (Err e)
  Continues-fault v w start o b whole e k s = k w (Err e) (Evaluates-fault v w o b e s)

  -- the turns at first do not matter to what was evaluated
  pub Evaluates-from : (h : Held) (f i j : ℕ) (m : List Content) (w : View Held) (o : Outcome) (r : Result End SinkFault) → Evaluates next leaves is_sure (seen h f i m) w o r → Evaluates next leaves is_sure (seen h f j m) w o r
  Evaluates-from h f i j m w o r s = record { took = s.took; end = s.end; turns = s.turns; memory = s.memory; names = s.names; cause = s.cause; sure = s.sure }
