use Rattle.std.proofs.Common.{◌≤◌, ◌++◌, length, ap, ◌∙◌, arith}
use Rattle.bm_report.proofs.Shortness.{declared-short, name_is}
use Rattle.bm_report.proofs.memory.name_piece.Goals as goal

pub text-requires : goal.text-requires
text-requires c =
    let s : length c.name.result.now ≤ 64 = declared-short c.args.names.now c.args.id c.name.result.now c.requires.lawful.each c.requires.name c.name.ensures in
    let e = c.new-piece.ensures in
    rw e (omega arith)

pub returns-clause-name : goal.returns-clause-name
returns-clause-name c =
    c.text.ensures.text ∙ ap (λ x. x ++ c.name.result.now) c.new-piece.ensures ∙ name_is c.args.names.now c.args.id c.name.result.now c.requires.name c.name.ensures

pub returns-clause-short : goal.returns-clause-short
returns-clause-short c =
    let s : length c.name.result.now ≤ 64 = declared-short c.args.names.now c.args.id c.name.result.now c.requires.lawful.each c.requires.name c.name.ensures in
    let e = rw c.new-piece.ensures at c.text.ensures.length in
    omega arith
