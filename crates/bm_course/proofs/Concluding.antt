-- A command: a reading, and then the writes.
use Rattle.std.proofs.Common.{◌≤◌, ℕ, List, [], ◌∷◌, Result, Ok, Err, refl, subst, append-nil, inl, inr, arith}
use Rattle.bm_io.specs.Causes.{HasCause}
use Rattle.bm_io.specs.Files.{Keeps}
use Rattle.bm_io.specs.declared.sinks.SinkFault.{SinkFault}
use Rattle.bm_io.specs.declared.sinks.SinkFault.TheVariants as sink
use Rattle.bm_course.specs.Refusals.{refused_as, answer_of}
use Rattle.bm_course.specs.declared.refusal.Refusal.{Refusal}
use Rattle.bm_course.specs.Course.{Output, Product, text_only, Refuses, Gives, Course, gives, ◌>>=◌}
use Rattle.bm_course.specs.Sends.{Sends}
use Rattle.bm_course.specs.Seen.{FilesSeen, SinkSeen, Asked}
use Rattle.bm_course.specs.Ends.{Comes, EndsWriting, stops, writes, Concludes}
use Rattle.bm_course.specs.declared.refusal.Stop.{Stop}
use Rattle.bm_course.specs.declared.refusal.Stop.TheVariants.{Refused as Refusing, Unread, UnwrittenFile, Unwritten, Memory}
use Rattle.bm_course.proofs.Asking.{Asked-then, Asked-nothing, rises, Stands-then, Stands-nothing, Untouched-same, Untouched-then}
use Rattle.bm_course.proofs.Coming.{IsReading-first, StopsReading-first, at_end}

-- what is written behind a reading
EndsWriting-then : (before mid now : FilesSeen) (o n : SinkSeen) (names : List (List ℕ)) (p : Product) (r : Result ℕ Stop) → Asked before mid names → Keeps before.held mid.held → before.faults ≤ mid.faults
    → EndsWriting mid now o n [] p r → EndsWriting before now o n names p r
EndsWriting-then before mid now o n names p (Ok status) a k l h = (Stands-then before mid now names p.file a k h.0, h.1, h.2)
EndsWriting-then before mid now o n names p (Err (Refusing r)) a k l h = absurd h
EndsWriting-then before mid now o n names p (Err (Unread name)) a k l h = absurd h
EndsWriting-then before mid now o n names p (Err (UnwrittenFile name)) a k l h =
    (h.0, h.1, h.2, Asked-then before mid now names (h.0.name ∷ []) a h.3, Untouched-then before mid now o n k h.4, rises before.faults mid.faults now.faults l h.5)
EndsWriting-then before mid now o n names p (Err Unwritten) a k l h = (Stands-then before mid now names p.file a k h.0, h.1, h.2)
EndsWriting-then before mid now o n names p (Err Memory) a k l h = elim h [
  | inl b ↦ inl (
    b.0,
    b.1,
    elim b.2 [
      | inl c ↦ inl (subst (λ x. Asked before now x) (append-nil names) (Asked-then before mid now names [] a c))
      | inr c ↦ inr (Asked-then before mid now names (b.0.name ∷ []) a c)
    ],
    Untouched-then before mid now o n k b.3,
  )
  | inr b ↦ inr (Stands-then before mid now names p.file a k b.0, b.1)
]

-- a text alone is sent
EndsWriting-text : (f : FilesSeen) (o n : SinkSeen) (text : Output) (r : Result ℕ SinkFault) → Sends o.taken n.taken text r → HasCause sink.Failed o.faults n.faults r
    → EndsWriting f f o n [] (text_only text) (answer_of r)
EndsWriting-text f o n text (Ok status) h c = (Stands-nothing f, h.sent.ok, h.status)
EndsWriting-text f o n text (Err sink.Failed) h c = (Stands-nothing f, h.sent.failed refl, c.rose refl)
EndsWriting-text f o n text (Err sink.Memory) h c = inr (Stands-nothing f, h.sent.memory refl)

module _ {X A : Type 0} (Means : X → A → Type 0) (before : FilesSeen) (o : SinkSeen) (m : Course A) (f : A → Course Product) where
  -- nothing is written where the reading is stopped
  pub Concludes-stop : (now : FilesSeen) (e : Stop) → Comes Means before now m (Err e) → Concludes before now o o (m >>= f) (Err e)
  Concludes-stop now e h = record {
    contents = h.contents;
    names = h.names;
    reading = IsReading-first before.held m f h.contents h.names h.reading;
    ends = stops e refl (StopsReading-first before now m f h.contents h.names e h.ends) (record { held = h.held; out = refl });
    later = h.later;
    out_later = omega arith;
  }

  -- what was read comes to a product, which is written
  pub Concludes-writes : (mid now : FilesSeen) (n : SinkSeen) (x : X) (p : Product) (r : Result ℕ Stop) → Comes Means before mid m (Ok x) → ((a : A) → Means x a → f a [] (Gives p []))
      → EndsWriting mid now o n [] p r → mid.faults ≤ now.faults → o.faults ≤ n.faults → Concludes before now o n (m >>= f) r
  Concludes-writes mid now n x p r h g w l k =
      let a : A = h.ends.0 in
      record {
        contents = h.contents;
        names = h.names;
        reading = IsReading-first before.held m f h.contents h.names h.reading;
        ends = writes p (gives a [] (at_end m h.contents a h.ends.2) (g a h.ends.1)) (EndsWriting-then before mid now o n h.names p r h.ends.3 h.held h.later w);
        later = omega (arith, h.later, l);
        out_later = k;
      }

  -- a text alone
  pub Concludes-text : (now : FilesSeen) (n : SinkSeen) (x : X) (text : Output) (r : Result ℕ SinkFault) → Comes Means before now m (Ok x) → ((a : A) → Means x a → f a [] (Gives (text_only text) []))
      → Sends o.taken n.taken text r → HasCause sink.Failed o.faults n.faults r → Concludes before now o n (m >>= f) (answer_of r)
  Concludes-text now n x text r h g s c = Concludes-writes now now n x (text_only text) (answer_of r) h g (EndsWriting-text now o n text r s c) (omega arith) c.later

-- the words are refused, and nothing is asked for
pub Concludes-refuse : (f : FilesSeen) (o : SinkSeen) (course : Course Product) (r : Refusal) → course [] (Refuses (refused_as r)) → Concludes f f o o course (Err (Refusing r))
Concludes-refuse f o course r h = record {
  contents = [];
  names = [];
  reading = tt;
  ends = stops (Refusing r) refl (h, Asked-nothing f) (Untouched-same f o);
  later = omega arith;
  out_later = omega arith;
}
