use Rattle.std.proofs.Common.{[], ◌∷◌, ◌||◌}
use Rattle.std.proofs.lemmas.Result.{err_from_is_err_and}
use Rattle.soak_text.specs.declared.pace.Pace.TheVariants.{Least, Most, Seeded}
use Rattle.soak_text.specs.Lines.{run_part}
use Rattle.soak_text.proofs.Sending.{parts_stop, parts_more, parts_both}
use Rattle.soak_text.proofs.writing.write_unit.Goals as goal

pub returns-in_err-least-clause-sent : goal.returns-in_err-least-clause-sent
returns-in_err-least-clause-sent g c shown are =
    let p = err_from_is_err_and c.from_residual.result c.from_residual.ensures.1 in
    let k = c.args.kind in
    rw (p.1, p.2)
    (parts_stop _ _ (run_part k Least (shown k Least) ∷ []) (run_part k Most (shown k Most) ∷ run_part k Seeded (shown k Seeded) ∷ []) c.in_err-least.field-0.0 (c.in_err-least.ensures.sent (shown k Least) (are k Least)))

pub returns-in_err-most-clause-sent : goal.returns-in_err-most-clause-sent
returns-in_err-most-clause-sent g c shown are =
    let p = err_from_is_err_and c.from_residual-in_err-most.result c.from_residual-in_err-most.ensures.1 in
    let k = c.args.kind in
    rw (p.1, p.2)
    (parts_more _ _ _ (run_part k Least (shown k Least) ∷ []) (run_part k Most (shown k Most) ∷ run_part k Seeded (shown k Seeded) ∷ []) c.in_ok-least.least c.in_err-most.field-0.0 (c.in_ok-least.ensures.sent (shown k Least) (are k Least))
    (parts_stop _ _ (run_part k Most (shown k Most) ∷ []) (run_part k Seeded (shown k Seeded) ∷ []) c.in_err-most.field-0.0 (c.in_err-most.ensures.sent (shown k Most) (are k Most))))

pub returns-in_err-seeded-clause-sent : goal.returns-in_err-seeded-clause-sent
returns-in_err-seeded-clause-sent g c shown are =
    let p = err_from_is_err_and c.from_residual-in_err-seeded.result c.from_residual-in_err-seeded.ensures.1 in
    let k = c.args.kind in
    let two =
    parts_both _ _ _ (run_part k Least (shown k Least) ∷ []) (run_part k Most (shown k Most) ∷ []) c.in_ok-least.least c.in_ok-most.most (c.in_ok-least.ensures.sent (shown k Least) (are k Least)) (c.in_ok-most.ensures.sent (shown k Most) (are k Most)) in
    rw (p.1, p.2)
    (parts_more _ _ _ (run_part k Least (shown k Least) ∷ run_part k Most (shown k Most) ∷ []) (run_part k Seeded (shown k Seeded) ∷ []) (c.in_ok-least.least || c.in_ok-most.most) c.in_err-seeded.field-0.0 two
    (c.in_err-seeded.ensures.sent (shown k Seeded) (are k Seeded)))

pub returns-clause-sent : goal.returns-clause-sent
returns-clause-sent g c shown are =
    let k = c.args.kind in
    let two =
    parts_both _ _ _ (run_part k Least (shown k Least) ∷ []) (run_part k Most (shown k Most) ∷ []) c.in_ok-least.least c.in_ok-most.most (c.in_ok-least.ensures.sent (shown k Least) (are k Least)) (c.in_ok-most.ensures.sent (shown k Most) (are k Most)) in
    parts_both _ _ _ (run_part k Least (shown k Least) ∷ run_part k Most (shown k Most) ∷ []) (run_part k Seeded (shown k Seeded) ∷ []) (c.in_ok-least.least || c.in_ok-most.most) c.in_ok-seeded.seeded two
    (c.in_ok-seeded.ensures.sent (shown k Seeded) (are k Seeded))
