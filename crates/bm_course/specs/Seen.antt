-- What the files and the sinks show before a call and after it.
use Rattle.std.specs.Prelude.{ℕ, ◌≡◌, ◌≤◌, List, [], ◌∷◌, ◌++◌, Option, Some, None}
use Rattle.std.specs.Option.{option_map}
use Rattle.bm_io.specs.Files.{Held, put, asking, Keeps}
use Rattle.bm_io.specs.Sink.{Taken}
use Rattle.bm_course.specs.Course.{NewFile}

-- what is held, which names were asked, and how many calls failed
pub record FilesSeen : Type 0 where
  pub held : Option Held
  pub asked : Option (List (List ℕ))
  pub faults : ℕ

-- what was taken, and how many writes failed
pub record SinkSeen : Type 0 where
  pub taken : Taken
  pub faults : ℕ

-- the files, the output and the errors
pub record Seen : Type 0 where
  pub files : FilesSeen
  pub out : SinkSeen
  pub err : SinkSeen

-- what files show, by the three meanings of their kind
abbrev pub files_seen : {F : Type 0} → (F → Option Held) → (F → Option (List (List ℕ))) → (F → ℕ) → F → FilesSeen
files_seen held asked faults files = record { held = held files; asked = asked files; faults = faults files }

-- what a sink shows, by the two meanings of its kind
abbrev pub sink_seen : {S : Type 0} → (S → Taken) → (S → ℕ) → S → SinkSeen
sink_seen taken faults sink = record { taken = taken sink; faults = faults sink }

abbrev pub together : FilesSeen → SinkSeen → SinkSeen → Seen
together files out err = record { files = files; out = out; err = err }

-- no count of faults fell
pub record Later (before now : Seen) : Type 0 where
  pub files : before.files.faults ≤ now.files.faults
  pub out : before.out.faults ≤ now.out.faults
  pub err : before.err.faults ≤ now.err.faults

-- the files were asked for these names
abbrev pub Asked : FilesSeen → FilesSeen → List (List ℕ) → Type 0
Asked before now names = now.asked ≡ asking before.asked names

-- the name of a file that is written, where there is one
abbrev pub file_names : Option NewFile → List (List ℕ)
file_names None = []
file_names (Some file) = file.name ∷ []

-- what is held once that file is written
abbrev pub holding : Option Held → Option NewFile → Option Held
holding told None = told
holding told (Some file) = option_map (λ held. put held file.name file.bytes) told

-- After these names a file was asked for and written whole, where there is one. No other held file changed.
pub record Stands (before now : FilesSeen) (names : List (List ℕ)) (file : Option NewFile) : Type 0 where
  pub asked : Asked before now (names ++ file_names file)
  pub held : Keeps (holding before.held file) now.held

-- no held file changed, and nothing was written
pub record Untouched (before now : FilesSeen) (out_before out_now : SinkSeen) : Type 0 where
  pub held : Keeps before.held now.held
  pub out : out_now ≡ out_before
