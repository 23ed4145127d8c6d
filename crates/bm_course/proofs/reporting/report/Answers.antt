use Rattle.std.proofs.Common.{inl}
use Rattle.bm_course.proofs.reporting.report.Goals as goal

pub returns-in-Unread-clause-told : goal.returns-in-Unread-clause-told
returns-in-Unread-clause-told g c = rw (c.in-Unread.is, ← c.as_bytes.ensures.value) c.send_quoting.ensures.told

pub returns-in-UnwrittenFile-clause-told : goal.returns-in-UnwrittenFile-clause-told
returns-in-UnwrittenFile-clause-told g c = rw (c.in-UnwrittenFile.is, ← c.as_bytes-in-UnwrittenFile.ensures.value) c.send_quoting-in-UnwrittenFile.ensures.told

pub returns-in-Unwritten-clause-told : goal.returns-in-Unwritten-clause-told
returns-in-Unwritten-clause-told g c = rw c.in-Unwritten.is (inl c.send_line.ensures.told)
