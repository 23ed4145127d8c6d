-- How a command ends, before the line of its refusal is sent.
use Rattle.std.specs.Prelude.{ℕ, ◌≡◌, ◌≤◌, ◌⊎◌, List, [], ◌∷◌, ◌++◌, Result, Ok, Err, Some}
use Rattle.bm_io.specs.Causes.{Rose}
use Rattle.bm_io.specs.Files.{Keeps}
use Rattle.bm_io.specs.Sink.{Takes, TakesWhole, TakesPart}
use Rattle.bm_course.specs.Course.{NewFile, Product, Asks, Refuses, Gives, Course, IsReading}
use Rattle.bm_course.specs.Seen.{FilesSeen, SinkSeen, Asked, Stands, Untouched}
use Rattle.bm_course.specs.Refusals.{refused_as}
use Rattle.bm_course.specs.declared.refusal.Stop.{Stop}
use Rattle.bm_course.specs.declared.refusal.Stop.TheVariants.{Refused as Refusing, Unread, UnwrittenFile, Unwritten, Memory}

-- a reading is stopped
abbrev pub StopsReading : {A : Type 0} → FilesSeen → FilesSeen → Course A → List (List ℕ) → List (List ℕ) → Stop → Type 0
StopsReading before now course contents names (Refusing r) = (course contents (Refuses (refused_as r))) × Asked before now names
StopsReading before now course contents names (Unread name) =
    ((most : ℕ) × (course contents (Asks name.now most))) × Asked before now (names ++ name.now ∷ []) × Rose before.faults now.faults
StopsReading before now course contents names (UnwrittenFile name) = ⊥
StopsReading before now course contents names Unwritten = ⊥
StopsReading before now course contents names Memory =
    Asked before now names ⊎ ((name : List ℕ) × (most : ℕ) × (course contents (Asks name most)) × Asked before now (names ++ name ∷ []))

-- a reading ends with what stands for a value of the course, or is stopped
abbrev pub EndsReading : {X A : Type 0} → (X → A → Type 0) → FilesSeen → FilesSeen → Course A → List (List ℕ) → List (List ℕ)
    → Result X Stop → Type 0
EndsReading {A = A} Means before now course contents names (Ok x) =
    (a : A) × Means x a × ((rest : List (List ℕ)) → course (contents ++ rest) (Gives a rest)) × Asked before now names
EndsReading Means before now course contents names (Err e) = StopsReading before now course contents names e

-- What a function that reads answers is what comes of the contents that it read. No held file changes.
pub record Comes {X A : Type 0} (Means : X → A → Type 0) (before now : FilesSeen) (course : Course A)
    (result : Result X Stop) : Type 0 where
  pub contents : List (List ℕ)
  pub names : List (List ℕ)
  pub reading : IsReading before.held course contents names
  pub ends : EndsReading Means before now course contents names result
  pub held : Keeps before.held now.held
  pub later : before.faults ≤ now.faults

-- After these names a product is written: its file, and then its text, unless a write is refused.
abbrev pub EndsWriting : FilesSeen → FilesSeen → SinkSeen → SinkSeen → List (List ℕ) → Product → Result ℕ Stop → Type 0
EndsWriting before now out_before out_now names p (Ok status) =
    Stands before now names p.file × Takes out_before.taken out_now.taken p.text.lines × (status ≡ p.text.status)
EndsWriting before now out_before out_now names p (Err (Refusing r)) = ⊥
EndsWriting before now out_before out_now names p (Err (Unread name)) = ⊥
EndsWriting before now out_before out_now names p (Err (UnwrittenFile name)) =
    (file : NewFile) × (p.file ≡ Some file) × (file.name ≡ name.now) × Asked before now (names ++ file.name ∷ [])
    × Untouched before now out_before out_now × Rose before.faults now.faults
EndsWriting before now out_before out_now names p (Err Unwritten) =
    Stands before now names p.file × TakesPart out_before.taken out_now.taken p.text.lines × Rose out_before.faults out_now.faults
EndsWriting before now out_before out_now names p (Err Memory) =
    ((file : NewFile) × (p.file ≡ Some file) × (Asked before now names ⊎ Asked before now (names ++ file.name ∷ []))
    × Untouched before now out_before out_now)
    ⊎ (Stands before now names p.file × TakesWhole out_before.taken out_now.taken p.text.lines)

-- a command's reading is stopped and nothing is written, or its product is written
pub data EndsCommand (before now : FilesSeen) (out_before out_now : SinkSeen) (course : Course Product) (contents names : List
    (List ℕ)) (result : Result ℕ Stop) : Type 0 where
  stops : (e : Stop) → result ≡ Err e → StopsReading before now course contents names e → Untouched before now out_before out_now
      → EndsCommand before now out_before out_now course contents names result
  writes : (p : Product) → course contents (Gives p []) → EndsWriting before now out_before out_now names p result
      → EndsCommand before now out_before out_now course contents names result

-- What a command does is what comes of the contents that it read.
pub record Concludes (before now : FilesSeen) (out_before out_now : SinkSeen) (course : Course Product)
    (result : Result ℕ Stop) : Type 0 where
  pub contents : List (List ℕ)
  pub names : List (List ℕ)
  pub reading : IsReading before.held course contents names
  pub ends : EndsCommand before now out_before out_now course contents names result
  pub later : before.faults ≤ now.faults
  pub out_later : out_before.faults ≤ out_now.faults
