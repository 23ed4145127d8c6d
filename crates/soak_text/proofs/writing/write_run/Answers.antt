use Rattle.std.proofs.Common.{◌≡◌, ap, ◌∙◌}
use Rattle.std.specs.Prelude.{is_none, is_some}
use Rattle.std.proofs.lemmas.Result.{err_from_is_err_and}
use Rattle.soak_text.specs.Lines.{run_line, run_part}
use Rattle.soak_text.specs.Parts.{ran_of}
use Rattle.soak_text.proofs.Sending.{part_sent, part_refused, not_back}
use Rattle.soak_text.proofs.writing.write_run.Goals as goal

pub returns-in_err-write-clause-sent : goal.returns-in_err-write-clause-sent
returns-in_err-write-clause-sent g c shown is =
    let p = err_from_is_err_and c.from_residual-in_err-write.result c.from_residual-in_err-write.ensures.1 in
    let h = c.in_ok-ran.ensures.value in
    let same : h.shown ≡ shown = c.runs_are_shown.ensures.once c.args.seed c.args.image.now c.args.kind c.args.pace h.shown shown h.shows is in
    let kept : c.in_ok-ran.ran ≡ ran_of shown = h.kept ∙ ap ran_of same in
    rw (p.1, p.2)
    (part_refused _ _ (run_part c.args.kind c.args.pace shown) _ c.in_err-write.field-0.0 (c.bytes.ensures.value ∙ c.run_line.ensures ∙ ap (λ r. run_line c.args.kind c.args.pace r.end r.prints) kept) c.in_err-write.ensures.sent)

pub returns-clause-sent : goal.returns-clause-sent
returns-clause-sent g c shown is =
    let h = c.in_ok-ran.ensures.value in
    let same : h.shown ≡ shown = c.runs_are_shown.ensures.once c.args.seed c.args.image.now c.args.kind c.args.pace h.shown shown h.shows is in
    let kept : c.in_ok-ran.ran ≡ ran_of shown = h.kept ∙ ap ran_of same in
    part_sent _ _ (run_part c.args.kind c.args.pace shown) _ c.is_none.result (c.bytes.ensures.value ∙ c.run_line.ensures ∙ ap (λ r. run_line c.args.kind c.args.pace r.end r.prints) kept) (not_back c.is_none.result (is_some c.in_ok-ran.ran.end) c.is_none.ensures ∙ ap (λ r. is_none r.end) kept)
    c.in_ok-write.ensures.sent
