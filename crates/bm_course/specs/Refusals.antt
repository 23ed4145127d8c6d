-- The refusals of the code.
use Rattle.std.specs.Prelude.{ℕ, ◌++◌, Result, Ok, Err}
use Rattle.bm_io.specs.declared.sinks.SinkFault.{SinkFault}
use Rattle.bm_io.specs.declared.sinks.SinkFault.TheVariants as sink
use Rattle.bm_course.specs.declared.refusal.Refusal.{Refusal}
use Rattle.bm_course.specs.declared.refusal.Refusal.TheVariants.{Usage, TooLong, Plain, Quoting}
use Rattle.bm_course.specs.declared.refusal.Stop.{Stop}
use Rattle.bm_course.specs.declared.refusal.Stop.TheVariants.{Refused as Refusing, Unread, UnwrittenFile, Unwritten, Memory}
use Rattle.bm_course.specs.Course.{Refused}
use Rattle.bm_course.specs.Lines.{usage, too_long, cannot_read, cannot_write_file, cannot_write, no_memory}

-- what the words or a content refuse
abbrev pub refused_as : Refusal → Refused
refused_as Usage = usage
refused_as (TooLong name len most) = too_long name.now most
refused_as (Plain status line) = record { status = status; line = line }
refused_as (Quoting status before part after) = record { status = status; line = before ++ part.items ++ after }

-- the same of all that stops a command
abbrev pub stopped_as : Stop → Refused
stopped_as (Refusing r) = refused_as r
stopped_as (Unread name) = cannot_read name.now
stopped_as (UnwrittenFile name) = cannot_write_file name.now
stopped_as Unwritten = cannot_write
stopped_as Memory = no_memory

-- what a refused write of the text stops a command with
abbrev pub stop_of : SinkFault → Stop
stop_of sink.Failed = Unwritten
stop_of sink.Memory = Memory

-- what a command answers where its text was sent so
abbrev pub answer_of : Result ℕ SinkFault → Result ℕ Stop
answer_of (Ok status) = Ok status
answer_of (Err fault) = Err (stop_of fault)
