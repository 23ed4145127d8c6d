use Rattle.std.proofs.Common.{[], ◌∷◌, ◌++◌, ◌||◌}
use Rattle.std.proofs.lemmas.Result.{err_from_is_err_and}
use Rattle.run_text.specs.declared.kind.UnitKind.TheVariants.{Static, Dynamic}
use Rattle.soak_text.specs.Lines.{source_part, unit_parts}
use Rattle.soak_text.specs.Soak.{outcome_of}
use Rattle.soak_text.proofs.Sending.{parts_stop, parts_more, parts_both}
use Rattle.soak_text.proofs.writing.write_parts.Goals as goal

pub returns-in_err-source-clause-sent : goal.returns-in_err-source-clause-sent
returns-in_err-source-clause-sent g c shown are =
    let p = err_from_is_err_and c.from_residual.result c.from_residual.ensures.1 in
    rw (p.1, p.2)
    (parts_stop _ _ (source_part (outcome_of c.args.program.now) ∷ []) (unit_parts Static shown ++ unit_parts Dynamic shown) c.in_err-source.field-0.0 c.in_err-source.ensures.sent)

pub returns-in_err-fixed-clause-sent : goal.returns-in_err-fixed-clause-sent
returns-in_err-fixed-clause-sent g c shown are =
    let p = err_from_is_err_and c.from_residual-in_err-fixed.result c.from_residual-in_err-fixed.ensures.1 in
    rw (p.1, p.2)
    (parts_more _ _ _ (source_part (outcome_of c.args.program.now) ∷ []) (unit_parts Static shown ++ unit_parts Dynamic shown) c.in_ok-source.source c.in_err-fixed.field-0.0 c.in_ok-source.ensures.sent
    (parts_stop _ _ (unit_parts Static shown) (unit_parts Dynamic shown) c.in_err-fixed.field-0.0 (c.in_err-fixed.ensures.sent shown are)))

pub returns-in_err-dynamic-clause-sent : goal.returns-in_err-dynamic-clause-sent
returns-in_err-dynamic-clause-sent g c shown are =
    let p = err_from_is_err_and c.from_residual-in_err-dynamic.result c.from_residual-in_err-dynamic.ensures.1 in
    let two = parts_both _ _ _ (source_part (outcome_of c.args.program.now) ∷ []) (unit_parts Static shown) c.in_ok-source.source c.in_ok-fixed.fixed c.in_ok-source.ensures.sent (c.in_ok-fixed.ensures.sent shown are) in
    rw (p.1, p.2)
    (parts_more _ _ _ ((source_part (outcome_of c.args.program.now) ∷ []) ++ unit_parts Static shown) (unit_parts Dynamic shown) (c.in_ok-source.source || c.in_ok-fixed.fixed) c.in_err-dynamic.field-0.0 two (c.in_err-dynamic.ensures.sent shown are))

pub returns-clause-sent : goal.returns-clause-sent
returns-clause-sent g c shown are =
    let two = parts_both _ _ _ (source_part (outcome_of c.args.program.now) ∷ []) (unit_parts Static shown) c.in_ok-source.source c.in_ok-fixed.fixed c.in_ok-source.ensures.sent (c.in_ok-fixed.ensures.sent shown are) in
    parts_both _ _ _ ((source_part (outcome_of c.args.program.now) ∷ []) ++ unit_parts Static shown) (unit_parts Dynamic shown) (c.in_ok-source.source || c.in_ok-fixed.fixed) c.in_ok-dynamic.dynamic two (c.in_ok-dynamic.ensures.sent shown are)
