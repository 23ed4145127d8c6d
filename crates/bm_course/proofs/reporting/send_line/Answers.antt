use Rattle.std.proofs.Common.{refl, ap}
use Rattle.bm_io.proofs.OneLine.{TakesPrefix-part}
use Rattle.bm_course.specs.Goes.{part}
use Rattle.bm_course.proofs.reporting.send_line.Goals as goal

pub returns-in-Err-Failed-clause-told : goal.returns-in-Err-Failed-clause-told
returns-in-Err-Failed-clause-told g c =
    let h = rw c.in-Err-Failed.field-0-is at c.in-Err-Failed.ensures in
    record { line = part (TakesPrefix-part _ _ c.args.line.now (h.sent.failed refl)) (h.cause.rose refl) refl; later = h.cause.later }

pub returns-in-Err-Failed-clause-once : goal.returns-in-Err-Failed-clause-once
returns-in-Err-Failed-clause-once g c =
    let h = rw c.in-Err-Failed.field-0-is at c.in-Err-Failed.ensures in
    ap (λ t. t.writes) (TakesPrefix-part _ _ c.args.line.now (h.sent.failed refl)).taken
