use Rattle.std.proofs.Common.{◌<◌, ◌≤◌, ◌∷◌, List, ℕ, arith, length, sym, ap, ◌∙◌, subst}
use Rattle.bm_base.specs.Lines.{LinesLeft}
use Rattle.bm_base.proofs.LineTexts.{front-short}
use Rattle.timing_script.specs.Rows.{fields_of, text_row}
use Rattle.timing_script.proofs.FieldTexts.{fields-few}
use Rattle.timing_script.proofs.RowTexts.{rows_left, rows-next, row-taken, row-passed, behind_short}
use Rattle.timing_script.proofs.rows.Rows.next.Goals as goal

pub returns-then-not-passes_over-clause-row : goal.returns-then-not-passes_over-clause-row
returns-then-not-passes_over-clause-row c =
    let e = c.in-Some.ensures.line in
    sym c.loop-line.invariant.left
    ∙ rows-next c.loop-line.self-inside.lines c.next.new.self c.in-Some.line.number c.in-Some.line.bytes.now c.trim-bytes.result.now c.in-Some.line.ended e.1 e.2 e.3 c.in-Some.ensures.rest c.trim-bytes.ensures.value
    ∙ row-taken c.in-Some.line.number (fields_of c.trim-bytes.result.now) (rows_left c.next.new.self) (sym c.passes_over.ensures ∙ c.if-not-passes_over.true)
    ∙ ap (λ f. text_row c.in-Some.line.number f ∷ rows_left c.next.new.self) (sym c.new.ensures)

pub loop-line-smaller : goal.loop-line-smaller
loop-line-smaller c =
    let e = c.in-Some.ensures.line in
    subst (λ (l : LinesLeft). length l.rest < length c.loop-line.self-inside.lines.rest) (sym c.in-Some.ensures.rest) (behind_short 10 c.loop-line.self-inside.lines.rest e.0)

pub loop-line-preserved : goal.loop-line-preserved
loop-line-preserved c =
    let e = c.in-Some.ensures.line in
    let left =
    sym (row-passed c.in-Some.line.number (fields_of c.trim-bytes.result.now) (rows_left c.next.new.self) (sym c.passes_over.ensures ∙ c.if-not-passes_over.false))
    ∙ sym (rows-next c.loop-line.self-inside.lines c.next.new.self c.in-Some.line.number c.in-Some.line.bytes.now c.trim-bytes.result.now c.in-Some.line.ended e.1 e.2 e.3 c.in-Some.ensures.rest c.trim-bytes.ensures.value)
    ∙ c.loop-line.invariant.left in
    record { left = left; few = c.in-Some.ensures.few }

pub returns-then-not-passes_over-clause-few : goal.returns-then-not-passes_over-clause-few
returns-then-not-passes_over-clause-few c =
    let front : length c.in-Some.line.bytes.now ≤ length c.loop-line.self-inside.lines.rest =
    subst (λ (x : List ℕ). length x ≤ length c.loop-line.self-inside.lines.rest) (sym c.in-Some.ensures.line.1) (front-short 10 c.loop-line.self-inside.lines.rest) in
    let fields : length c.new.result ≤ length c.trim-bytes.result.now =
    subst (λ (f : List (List ℕ)). length f ≤ length c.trim-bytes.result.now) (sym c.new.ensures) (fields-few c.trim-bytes.result.now) in
    omega (arith, c.trim-bytes.ensures.shorter, c.loop-line.invariant.few)
