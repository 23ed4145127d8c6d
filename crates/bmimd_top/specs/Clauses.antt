-- What is said of a call beside its course.
use Rattle.std.specs.Prelude.{ℕ, ◌⊎◌, List, Option}
use Rattle.bm_io.specs.Files.{Held}
use Rattle.bm_io.specs.Sink.{Taken}
use Rattle.bm_course.specs.Seen.{Seen, files_seen, sink_seen, together}
use Rattle.bm_course.specs.Lines.{usage, no_memory}
use Rattle.bm_course.specs.Clauses.{StopsAtOnce}

-- what the files, the output and the errors show, by the meanings of their kinds
abbrev pub seen : {F O E : Type 0} → (F → Option Held) → (F → Option (List (List ℕ))) → (F → ℕ) → (O → Taken) → (O → ℕ) → (E
    → Taken) → (E → ℕ) → F → O → E → Seen
seen held asked faults taken out_faults told err_faults files out err = together (files_seen held asked faults files)
    (sink_seen taken out_faults out) (sink_seen told err_faults err)

-- usage is reported, or want of memory is, and nothing is asked for or written
abbrev pub IsUsage : Seen → Seen → ℕ → Type 0
IsUsage before now status = StopsAtOnce before now usage status ⊎ StopsAtOnce before now no_memory status
