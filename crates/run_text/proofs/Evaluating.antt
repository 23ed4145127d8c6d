-- The text of an evaluation, from what its parts sent.
use Rattle.std.proofs.Common.{◌≡◌, ℕ, List, map, Result, Ok, Err, subst}
use Rattle.bm_base.specs.Entry.{Entry}
use Rattle.bm_base.specs.Memory.{Content}
use Rattle.bm_io.specs.declared.sinks.SinkFault.{SinkFault}
use Rattle.bm_io.specs.Sink.{Taken}
use Rattle.bm_io.specs.LineValues.{value_line, with_line, LeavesPrefix}
use Rattle.bm_io.specs.Values.{Took}
use Rattle.bm_io.proofs.LineSending.{Sent-values}
use Rattle.src_names.specs.RProgram.{RProgram}
use Rattle.src_meaning.specs.declared.evaluate.End.{End}
use Rattle.src_meaning.specs.Meaning.{Outcome, meaning}
use Rattle.bm_course.specs.Sends.{Sends}
use Rattle.bm_course.proofs.Sending.{first_stops, then_sends}
use Rattle.run_text.specs.EvalText.{end_status, end_lines, eval_text}

module _ (p : RProgram) (turns : ℕ) (memory : List Content) where
  -- a print is refused
  pub prints_stop : {T : Type 0} (before now : Taken) (e : SinkFault) → Took {T = T} with_line LeavesPrefix before now (meaning p memory turns).output (Err e) → Sends before now (eval_text p memory turns) (Err e)
  prints_stop before now e h =
      let o : Outcome = meaning p memory turns in
      first_stops (end_status o.end) (map value_line o.output) (end_lines o.end p.names o.memory turns) before now e (Sent-values before now o.output (Err e) h)

  -- all prints were taken, and then the lines of the end were sent
  pub then_end : {T : Type 0} (before mid now : Taken) (x : T) (r : Result ℕ SinkFault) (end : End) (names : List Entry) (held : List Content) → end ≡ (meaning p memory turns).end → names ≡ p.names → held ≡ (meaning p memory turns).memory
      → Took with_line LeavesPrefix before mid (meaning p memory turns).output (Ok x) → Sends mid now (record { status = end_status end; lines = end_lines end names held turns }) r → Sends before now (eval_text p memory turns) r
  then_end before mid now x r end names held a b d h k =
      let o : Outcome = meaning p memory turns in
      let j : Sends mid now (record { status = end_status o.end; lines = end_lines o.end p.names o.memory turns }) r =
      subst (λ m. Sends mid now (record { status = end_status o.end; lines = end_lines o.end p.names m turns }) r) d
      (subst (λ n. Sends mid now (record { status = end_status o.end; lines = end_lines o.end n held turns }) r) b
      (subst (λ z. Sends mid now (record { status = end_status z; lines = end_lines z names held turns }) r) a k)) in
      then_sends (end_status o.end) (map value_line o.output) (end_lines o.end p.names o.memory turns) before mid now x r (Sent-values before mid o.output (Ok x) h) j
