use Rattle.std.proofs.Common.{refl}
use Rattle.bm_course.proofs.Concluding.{Concludes-refuse}
use Rattle.bm_course.specs.declared.refusal.Refusal.TheVariants.{Usage}
use Rattle.bmimd_top.proofs.serve.Goals as goal

pub returns-in-None : goal.returns-in-None
returns-in-None g c = rw (← c.in-None.ensures.row) (Concludes-refuse _ _ _ Usage refl)

pub returns-in-Some-Eval : goal.returns-in-Some-Eval
returns-in-Some-Eval g c =
    let h = rw c.in-Some-Eval.field-0-is at c.in-Some-Eval.ensures in
    rw (← h.row) c.evaluate.ensures

pub go-requires : goal.go-requires
go-requires g c =
    let h = rw c.in-Some-Go.field-0-is at c.in-Some-Go.ensures in
    record { early = h.range }

pub trace_image-requires : goal.trace_image-requires
trace_image-requires g c =
    let h = rw c.in-Some-Trace.field-0-is at c.in-Some-Trace.ensures in
    record { early = h.range }

pub soak-requires : goal.soak-requires
soak-requires g c =
    let h = rw c.in-Some-Soak.field-0-is at c.in-Some-Soak.ensures in
    record { few = h.range }

pub returns-in-Some-Soak : goal.returns-in-Some-Soak
returns-in-Some-Soak g c =
    let h = rw c.in-Some-Soak.field-0-is at c.in-Some-Soak.ensures in
    rw (← h.row) (c.soak.ensures _)

pub run_image-requires : goal.run_image-requires
run_image-requires g c =
    let h = rw c.in-Some-Run.field-0-is at c.in-Some-Run.ensures in
    record { early = h.range }
