use Rattle.std.proofs.Common.{◌≡◌, ◌++◌, ◌∷◌, [], map, append_assoc, ap, sym, subst, ◌∙◌, List, ℕ}
use Rattle.bm_base.specs.Entry.{Entry}
use Rattle.stream_file.specs.Rows as spec
use Rattle.stream_file.specs.Words.{classes}
use Rattle.stream_file.specs.Fields.{Fields, top_rows, blocks_rows}
use Rattle.stream_file.specs.Written.{fields_of, head_lines, time_lines}
use Rattle.stream_file.specs.Texts.{text_of_rows}
use Rattle.bm_base.specs.Machine.{IsMachine}
use Rattle.bm_base.specs.Names.{AreNames}
use Rattle.unit_law.specs.State.{Program}
use Rattle.stream_file.specs.RowFits.{AreTypedNames}
use Rattle.stream_file.specs.Typed.{IsTyped}
use Rattle.stream_file.proofs.Again.{image_text}
use Rattle.stream_file.proofs.Spaces.{behind, on_ok, more_rows}
use Rattle.stream_file.proofs.writing.write_fields.Goals as goal

pub returns-clause-text : goal.returns-clause-text
returns-clause-text c =
    let out0 : List ℕ = c.args.out.now.items in
    let f : Fields = fields_of c.args.image.now in
    let a : List ℕ = text_of_rows (top_rows f) in
    let b : List ℕ = text_of_rows (blocks_rows 0 f.blocks) in
    let e : List ℕ = text_of_rows (spec.Ends ∷ []) in
    let e1 : c.write_top.new.out.items ≡ out0 ++ a = c.in_ok-write_top.ensures.text ∙ (λ i. out0 ++ text_of_rows (head_lines (c.spec.ensures i) ++ (time_lines (c.spec.ensures i) classes ++ map (λ (x : Entry). spec.Named x) (c.names.ensures i)))) in
    let e2 : c.write_blocks.new.out.items ≡ c.write_top.new.out.items ++ b = c.in_ok-write_blocks.ensures.text in
    let f2 = behind out0 c.write_top.new.out.items c.write_blocks.new.out.items a b e1 e2 in
    let all : text_of_rows (top_rows f ++ (blocks_rows 0 f.blocks ++ spec.Ends ∷ [])) ≡ (a ++ b) ++ e = more_rows (top_rows f) (blocks_rows 0 f.blocks ++ spec.Ends ∷ []) ∙ ap (λ (l : List ℕ). a ++ l) (more_rows (blocks_rows 0 f.blocks) (spec.Ends ∷ [])) ∙ sym (append_assoc a b e) in
    on_ok c.write_line.result (λ k. behind out0 c.write_blocks.new.out.items c.write_line.new.out.items (a ++ b) e f2 k ∙ ap (λ (l : List ℕ). out0 ++ l) (sym all)) c.write_line.ensures.text

pub returns-clause-image : goal.returns-clause-image
returns-clause-image c =
    let m : Program = c.args.image.now in
    let typed : IsTyped m = record {
      machine = subst IsMachine c.spec.ensures c.in_ok-write_top.ensures.machine;
      names = subst AreNames c.names.ensures c.in_ok-write_top.ensures.names;
      kinds = subst AreTypedNames c.names.ensures c.in_ok-write_top.ensures.typed;
      few = c.in_ok-write_blocks.ensures.few;
      tuples = c.in_ok-write_blocks.ensures.typed;
    } in
    on_ok c.write_line.result (λ h. image_text m c.in_ok-write_blocks.ensures.lawful typed) c.write_line.ensures.text
