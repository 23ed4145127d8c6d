use Rattle.bm_course.proofs.reporting.report_refusal.Goals as goal

pub returns-in-TooLong-clause-told : goal.returns-in-TooLong-clause-told
returns-in-TooLong-clause-told g c = rw (c.in-TooLong.is, ← c.as_bytes.ensures.value, ← c.limit_text.ensures, ← c.bytes.ensures.value) c.send_quoting.ensures.told
