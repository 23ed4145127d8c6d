use Rattle.std.proofs.Common.{ℕ, List, [], Some, ap₂}
use Rattle.std.proofs.lemmas.Result.{err_from_is_err_and}
use Rattle.bm_words.specs.Seen.{seen_machine}
use Rattle.bm_report.specs.declared.summary.Summary.{Summary}
use Rattle.bm_report.specs.Summary.{summary_lines}
use Rattle.bm_course.specs.declared.status.TheConstants.{ENDED}
use Rattle.bm_course.specs.Course.{Product, Gives, give}
use Rattle.bm_course.proofs.Concluding.{Concludes-stop, Concludes-writes}
use Rattle.bmimd_top.specs.Compiling.{made_course, product_of, IsWritten}
use Rattle.bmimd_top.proofs.compile.compile_into.Goals as goal

-- what is written, by its parts
abbrev product_with : List ℕ → List ℕ → Summary → Product
product_with name bytes summary = record { file = Some (record { name = name; bytes = bytes }); text = record { status = ENDED; lines = summary_lines summary } }

pub returns-in_err-written : goal.returns-in_err-written
returns-in_err-written g c =
    let p = err_from_is_err_and c.from_residual.result c.from_residual.ensures.1 in
    rw (p.1, p.2) (Concludes-stop IsWritten _ _ (made_course c.args.program.now (seen_machine c.args.machine)) (λ made. give (product_of c.args.name.now made)) _ c.in_err-written.field-0.0 c.in_err-written.ensures)

pub returns : goal.returns
returns g c =
    let name = c.args.name.now in
    let kept = c.in_ok-written.written in
    Concludes-writes IsWritten _ _ (made_course c.args.program.now (seen_machine c.args.machine)) (λ made. give (product_of name made)) _ _ _ kept (product_with name kept.bytes.items kept.summary) c.write_all.result c.in_ok-written.ensures
    (λ made s. ap₂ (λ bytes summary. Gives (product_with name bytes summary) []) s.bytes s.summary) c.write_all.ensures.ends c.write_all.ensures.later c.write_all.ensures.out_later
