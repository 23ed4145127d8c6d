-- What the real files and sinks show: their counts of faults, and a sink's writer and writes.
use Rattle.std.specs.Prelude.{ℕ}
use Rattle.bm_io.specs.Sink.{Taken, untold_bytes}
use Rattle.bm_io.specs.declared.real.RealFiles.{RealFiles}
use Rattle.bm_io.specs.declared.real.RealSink.{RealSink}

-- how many reads and writes failed
abbrev pub file_faults : {R File Folder : Type 0} → RealFiles R File Folder → ℕ
file_faults files = files.faults

-- how many writes failed
abbrev pub write_faults : {W : Type 0} → RealSink W → ℕ
write_faults sink = sink.faults

-- how many writes there were, and none of the bytes that they took
abbrev pub real_taken : {W : Type 0} → RealSink W → Taken
real_taken sink = record { bytes = untold_bytes; writes = sink.writes }

-- the writer that takes the pieces
abbrev pub writer_of : {W : Type 0} → RealSink W → W
writer_of sink = sink.inner
