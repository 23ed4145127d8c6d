-- A command that soaks: nothing is read, and then its text is sent.
use Rattle.std.proofs.Common.{◌≤◌, ℕ, [], Result, Ok, Err, refl, sym, ap, ◌∙◌, inr, arith}
use Rattle.bm_io.specs.Causes.{HasCause}
use Rattle.bm_io.specs.declared.sinks.SinkFault.{SinkFault}
use Rattle.bm_io.specs.declared.sinks.SinkFault.TheVariants as sink
use Rattle.bm_course.specs.Refusals.{answer_of}
use Rattle.bm_course.specs.Course.{Output, text_only, accepted}
use Rattle.bm_course.specs.Sends.{Sends}
use Rattle.bm_course.specs.Seen.{FilesSeen, SinkSeen}
use Rattle.bm_course.specs.Ends.{EndsWriting, writes, Concludes}
use Rattle.bm_course.specs.Laws.{HasOneVerdict, HasSomeVerdict}
use Rattle.bm_course.proofs.Asking.{Stands-nothing}
use Rattle.soak_text.specs.Soak.{IsSoak}
use Rattle.soak_text.specs.SoakCourse.{Soaks, soak_course}
use Rattle.soak_text.specs.Laws.{SoaksHaveAText, SoaksHaveOneText}

sent_text : (f : FilesSeen) (o n : SinkSeen) (text : Output) (r : Result ℕ SinkFault) → Sends o.taken n.taken text r → HasCause sink.Failed o.faults n.faults r → EndsWriting f f o n [] (text_only text) (answer_of r)
sent_text f o n text (Ok status) h c = (Stands-nothing f, h.sent.ok, h.status)
sent_text f o n text (Err sink.Failed) h c = (Stands-nothing f, h.sent.failed refl, c.rose refl)
sent_text f o n text (Err sink.Memory) h c = inr (Stands-nothing f, h.sent.memory refl)

-- where its text was sent so, the command has gone so
pub concludes_soak : (f : FilesSeen) (o n : SinkSeen) (seed statements : ℕ) (text : Output) (r : Result ℕ SinkFault) → IsSoak seed statements text → Sends o.taken n.taken text r → HasCause sink.Failed o.faults n.faults r
    → Concludes f f o n (soak_course seed statements) (answer_of r)
concludes_soak f o n seed statements text r is h c = record {
  contents = [];
  names = [];
  reading = tt;
  ends = writes (text_only text) (accepted (text_only text) (text, is, refl) refl) (sent_text f o n text r h c);
  later = omega arith;
  out_later = c.later;
}

module _ (seed statements : ℕ) where
  pub soaks_once : SoaksHaveOneText → HasOneVerdict (Soaks seed statements)
  soaks_once one (Ok p) (Ok q) h k = ap Ok (h.2 ∙ ap text_only (one seed statements h.0 k.0 h.1 k.1) ∙ sym k.2)
  soaks_once one (Ok p) (Err r) h k = absurd k
  soaks_once one (Err r) q h k = absurd h

  pub soaks_some : SoaksHaveAText → statements ≤ 10000 → HasSomeVerdict (Soaks seed statements)
  soaks_some some few = let t = some seed statements few in (Ok (text_only t.0), (t.0, t.1, refl))
