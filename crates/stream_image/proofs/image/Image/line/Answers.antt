use Rattle.std.proofs.Common.{◌≡◌, ℕ, List, length, sym, ap, subst, ◌∙◌}
use Rattle.bm_base.specs.Machine.{Machine}
use Rattle.line_model.specs.declared.line.Line.{Line}
use Rattle.unit_law.specs.State.{code_at}
use Rattle.time_interval.specs.Lines.{IsLine}
use Rattle.stream_image.specs.Line.{items_of, line_of}
use Rattle.stream_image.proofs.ImageLine.{block_line, if_ok}
use Rattle.stream_image.proofs.image.Image.line.Goals.{After-drop-streams}
use Rattle.stream_image.proofs.image.Image.line.Goals as goal

same : (c : After-drop-streams) → line_of c.processors.result (items_of c.deref.result.now) c.masks.result.now ≡ (code_at c.args.self.now c.args.b).line
same c =
    let m = c.args.self.now in
    block_line m.machine.processors c.processors.result (code_at m c.args.b).line c.in_ok-streams.streams.items c.deref.result.now c.masks.result.now
    (c.processors.ensures.value ∙ ap (λ (k : Machine). k.processors) c.spec.ensures) c.deref.ensures.value c.masks.ensures c.in_ok-streams.ensures (c.blocks-blocks.ensures.lawful.lines c.args.b c.requires)

pub returns-clause-line : goal.returns-clause-line
returns-clause-line c = if_ok c.line_of.result (λ line e. e ∙ same c) c.line_of.ensures

pub returns-clause-bounded : goal.returns-clause-bounded
returns-clause-bounded c =
    let m = c.args.self.now in
    if_ok c.line_of.result
    (λ line e. subst (IsLine (length (code_at m c.args.b).tuples) m.machine.processors) (sym (e ∙ same c)) (c.blocks-blocks.ensures.lines c.args.b c.requires))
    c.line_of.ensures
