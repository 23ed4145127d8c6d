-- What a sink that never fails shows.
use Rattle.std.specs.Prelude.{ℕ, List, Some}
use Rattle.bm_io.specs.Sink.{Taken}
use Rattle.bm_io.specs.declared.sure_sink.SureSink.{SureSink}

-- the bytes taken
abbrev pub sure_bytes : SureSink → List ℕ
sure_bytes s = s.bytes.items

-- how many writes there were
abbrev pub sure_writes : SureSink → ℕ
sure_writes s = s.writes

-- the bytes and the writes
abbrev pub sure_taken : SureSink → Taken
sure_taken s = record { bytes = Some (sure_bytes s); writes = sure_writes s }
