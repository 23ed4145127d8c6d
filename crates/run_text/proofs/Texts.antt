-- The text of a run.
use Rattle.std.proofs.Common.{◌≡◌, ℕ, List, [], ◌++◌, map, Option, Result, Ok, Err, refl, sym, ap, subst, ◌∙◌}
use Rattle.std.specs.Prelude.{ℤ, replicate}
use Rattle.bm_base.specs.Entry.{Entry}
use Rattle.bm_base.specs.Memory.{Content}
use Rattle.bm_io.specs.declared.sinks.SinkFault.{SinkFault}
use Rattle.bm_io.specs.Sink.{Taken, Sent}
use Rattle.bm_io.specs.LineValues.{value_line, with_line, LeavesPrefix}
use Rattle.bm_io.specs.Values.{Took}
use Rattle.bm_io.proofs.LineSending.{Sent-values}
use Rattle.unit_law.specs.State.{Program, State, start}
use Rattle.unit_law.specs.Units.{Choice}
use Rattle.unit_law.specs.Canonical.{Durations}
use Rattle.run_text.specs.RunUpTo.{End, IsRunUpTo}
use Rattle.run_text.specs.Runs.{HasCome, RunsOn, end_told}
use Rattle.run_text.specs.declared.runs.RunEnd.{RunEnd}
use Rattle.bm_report.specs.Text.{end_lines}
use Rattle.bm_course.specs.Course.{Output}
use Rattle.bm_course.specs.Sends.{Sends}
use Rattle.bm_course.proofs.Sending.{first_stops, then_sends}
use Rattle.run_text.specs.RunText.{run_text, run_status, ending, ending_text, IsTextOf}
use Rattle.run_text.specs.Laws.{TextsAreOne}
use Rattle.run_text.specs.Begins.{Begins}

module _ (choice : Choice) (durations : Durations) (m : Program) (memory : List Content) (budget : ℕ) where
  -- the output behind none is the output
  behind_none : (before output : List ℤ) (end : Option End) → before ≡ [] → IsRunUpTo choice durations m memory budget (before ++ output) end → IsRunUpTo choice durations m memory budget output end
  behind_none before output end e h = subst (λ b. IsRunUpTo choice durations m memory budget (b ++ output) end) e h

  pub before_all : (before output : List ℤ) (end : Option End) → before ≡ [] → IsRunUpTo choice durations m memory budget output end → IsRunUpTo choice durations m memory budget (before ++ output) end
  before_all before output end e h = subst (λ b. IsRunUpTo choice durations m memory budget (b ++ output) end) (sym e) h

  module _ (text : Output) (is : IsTextOf choice durations m memory budget text) where
    -- a print is refused
    pub prints_stop : {T : Type 0} (before now : Taken) (e : SinkFault) → Took {T = T} with_line LeavesPrefix before now is.output (Err e) → Sends before now text (Err e)
    prints_stop before now e h =
        subst (λ o. Sends before now o (Err e)) (sym is.text_is)
        (first_stops (run_status is.end) (map value_line is.output) (ending m.names budget is.end) before now e (Sent-values before now is.output (Err e) h))

    -- all prints were taken, and the lines of the ending were sent
    pub then_ending : TextsAreOne → (front : List ℤ) → front ≡ [] → (s : State) (told : RunEnd) (before mid now : Taken) (r : Result ℕ SinkFault) → RunsOn choice durations m memory budget front s with_line LeavesPrefix before mid (Ok told)
        → Sends mid now (record { status = run_status (end_told told s); lines = ending m.names budget (end_told told s) }) r → Sends before now text r
    then_ending one front e s told before mid now r h k =
        let end = end_told told s in
        let shows : IsRunUpTo choice durations m memory budget h.values end = behind_none front h.values end e h.shows in
        let same = one choice durations m memory budget (run_text m.names budget h.values end) text (record { output = h.values; end = end; shows = shows; text_is = refl }) is in
        subst (λ o. Sends before now o r) same (then_sends (run_status end) (map value_line h.values) (ending m.names budget end) before mid now told r (Sent-values before mid h.values (Ok told) h.took) k)

  -- a machine at the start of the run
  pub begins_by : (s : State) (counts : List ℕ) → s ≡ start m memory → counts ≡ replicate m.machine.processors 0 → HasCome choice durations m memory (start m memory) (replicate m.machine.processors 0) → Begins choice durations m memory s counts
  begins_by s counts e d h = record {
    come = subst (λ k. HasCome choice durations m memory s k) (sym d) (subst (λ x. HasCome choice durations m memory x (replicate m.machine.processors 0)) (sym e) h);
    clock = ap (λ x. x.clock) e;
    output = ap (λ x. x.world.output) e;
  }

-- what is said of a run is said of equal parts
pub as_parts : (P : Choice → Durations → Program → Type 0) (choice choice' : Choice) (durations durations' : Durations) (m m' : Program) → choice' ≡ choice → durations' ≡ durations → m' ≡ m → P choice durations m → P choice' durations' m'
as_parts P choice choice' durations durations' m m' a b c h = subst (λ x. P x durations' m') (sym a) (subst (λ x. P choice x m') (sym b) (subst (λ x. P choice durations x) (sym c) h))

-- the lines of an end, by equal parts
pub end_as : (clock tick : ℕ) (names others : List Entry) (memory held : List Content) → clock ≡ tick → names ≡ others → memory ≡ held → end_lines clock names memory ≡ end_lines tick others held
end_as clock tick names others memory held e f d = ap (λ x. end_lines x names memory) e ∙ ap (λ x. end_lines tick x memory) f ∙ ap (λ x. end_lines tick others x) d

-- how a run stands, by equal names
pub ending_as : (names others : List Entry) (budget : ℕ) (end : Option End) (before now : Taken) (r : Result ℕ SinkFault) → names ≡ others → Sends before now (ending_text names budget end) r → Sends before now (ending_text others budget end) r
ending_as names others budget end before now r e h = subst (λ n. Sends before now (ending_text n budget end) r) e h

pub sent_as : {T : Type 0} (before now : Taken) (xs ys : List (List ℕ)) (r : Result T SinkFault) → xs ≡ ys → Sent before now xs r → Sent before now ys r
sent_as before now xs ys r e h = subst (λ x. Sent before now x r) e h

-- what took the values, by equal parts
pub took_as : {T : Type 0} (a b before now : Taken) (values : List ℤ) (r : Result T SinkFault) → a ≡ before → b ≡ now → Took with_line LeavesPrefix a b values r → Took with_line LeavesPrefix before now values r
took_as a b before now values r e f h = subst (λ x. Took with_line LeavesPrefix x now values r) e (subst (λ y. Took with_line LeavesPrefix a y values r) f h)

pub runs_as : (choice : Choice) (durations : Durations) (m : Program) (memory : List Content) (budget : ℕ) (before : List ℤ) (s : State) (a b old now : Taken) (r : Result RunEnd SinkFault) → a ≡ old → b ≡ now
    → RunsOn choice durations m memory budget before s with_line LeavesPrefix a b r → RunsOn choice durations m memory budget before s with_line LeavesPrefix old now r
runs_as choice durations m memory budget before s a b old now r e f h =
    subst (λ x. RunsOn choice durations m memory budget before s with_line LeavesPrefix x now r) e (subst (λ y. RunsOn choice durations m memory budget before s with_line LeavesPrefix a y r) f h)
