use Rattle.std.proofs.Common.{◌≡◌, ◌++◌, ◌∷◌, [], map, ap, sym, ◌∙◌, List, ℕ}
use Rattle.tuple_ir.specs.declared.tuple.Tuple.{Tuple}
use Rattle.tuple_ir.specs.declared.block.Next.{Next}
use Rattle.line_model.specs.Streams.{masks}
use Rattle.unit_law.specs.State.{Code, code_at}
use Rattle.stream_file.specs.Rows as spec
use Rattle.stream_file.specs.Written.{fields_at, stream_rows, streams_from}
use Rattle.stream_file.specs.Texts.{text_of_rows}
use Rattle.stream_file.proofs.Spaces.{behind, on_ok, block_text}
use Rattle.stream_file.proofs.writing.write_block.Goals as goal

pub returns-clause-text : goal.returns-clause-text
returns-clause-text c =
    let out0 : List ℕ = c.args.out.now.items in
    let code : Code = code_at c.args.image.now c.args.b in
    let a : List ℕ = text_of_rows (spec.Opens c.args.b ∷ []) in
    let b : List ℕ = text_of_rows (map (λ (t : Tuple). spec.Does t) code.tuples) in
    let m : List ℕ = text_of_rows (map (λ (x : ℕ). spec.Masks x) (masks code.line)) in
    let s : List ℕ = text_of_rows (stream_rows (streams_from 0 c.args.image.now.machine.processors code.line)) in
    let e1 : c.write_line.new.out.items ≡ out0 ++ a = c.in_ok-write_line.ensures.text in
    let e2 : c.write_tuples.new.out.items ≡ c.write_line.new.out.items ++ b = c.in_ok-write_tuples.ensures.text ∙ ap (λ (l : List Tuple). c.write_line.new.out.items ++ text_of_rows (map (λ (t : Tuple). spec.Does t) l)) c.tuples.ensures in
    let e3 : c.write_masks.new.out.items ≡ c.write_tuples.new.out.items ++ m = c.in_ok-write_masks.ensures ∙ ap (λ (l : List ℕ). c.write_tuples.new.out.items ++ text_of_rows (map (λ (x : ℕ). spec.Masks x) l)) c.masks.ensures in
    let e4 : c.write_streams.new.out.items ≡ c.write_masks.new.out.items ++ s = c.in_ok-write_streams.ensures in
    let f2 = behind out0 c.write_line.new.out.items c.write_tuples.new.out.items a b e1 e2 in
    let f3 = behind out0 c.write_tuples.new.out.items c.write_masks.new.out.items (a ++ b) m f2 e3 in
    let f4 = behind out0 c.write_masks.new.out.items c.write_streams.new.out.items ((a ++ b) ++ m) s f3 e4 in
    let all = block_text c.args.b (fields_at c.args.image.now c.args.b) in
    on_ok c.write_line-2.result (λ h. behind out0 c.write_streams.new.out.items c.write_line-2.new.out.items (((a ++ b) ++ m) ++ s) (text_of_rows (spec.Follows code.next ∷ [])) f4 (h ∙ ap (λ (n : Next). c.write_streams.new.out.items ++ text_of_rows (spec.Follows n ∷ [])) c.next.ensures) ∙ ap (λ (l : List ℕ). out0 ++ l) (sym all)) c.write_line-2.ensures.text
