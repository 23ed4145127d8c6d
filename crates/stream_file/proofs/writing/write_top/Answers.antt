use Rattle.std.proofs.Common.{◌≡◌, ◌++◌, map, append_assoc, ap, sym, ◌∙◌, List, ℕ}
use Rattle.bm_base.specs.Entry.{Entry}
use Rattle.stream_file.specs.Rows as spec
use Rattle.stream_file.specs.Words.{classes}
use Rattle.stream_file.specs.Written.{version_of, head_lines, time_lines}
use Rattle.stream_file.specs.Fields.{head_rows}
use Rattle.stream_file.specs.Texts.{text_of_rows}
use Rattle.stream_file.proofs.Spaces.{behind, on_ok, more_rows}
use Rattle.stream_file.proofs.writing.write_top.Goals as goal

pub returns-clause-text : goal.returns-clause-text
returns-clause-text c =
    let out0 : List ℕ = c.args.out.now.items in
    let h : List spec.Row = head_lines c.args.machine.now in
    let t : List spec.Row = time_lines c.args.machine.now classes in
    let n : List spec.Row = map (λ (e : Entry). spec.Named e) c.args.names.now in
    let p : ℕ = c.processors-processors.result in
    let d : ℕ = c.barrier-delay.result in
    let e0 : c.write_head.new.out.items ≡ out0 ++ text_of_rows h = c.in_ok-write_head.ensures ∙ ap (λ (v : ℕ). out0 ++ text_of_rows (head_rows v p d)) c.version.ensures ∙ (λ i. out0 ++ text_of_rows (head_rows (version_of (c.processors-processors.ensures.value i) (c.barrier-delay.ensures.value i)) (c.processors-processors.ensures.value i) (c.barrier-delay.ensures.value i))) in
    let f2 = behind out0 c.write_head.new.out.items c.write_times.new.out.items (text_of_rows h) (text_of_rows t) e0 c.in_ok-write_times.ensures in
    let all : text_of_rows (h ++ (t ++ n)) ≡ (text_of_rows h ++ text_of_rows t) ++ text_of_rows n = more_rows h (t ++ n) ∙ ap (λ (l : List ℕ). text_of_rows h ++ l) (more_rows t n) ∙ sym (append_assoc (text_of_rows h) (text_of_rows t) (text_of_rows n)) in
    on_ok c.write_names.result (λ k. behind out0 c.write_times.new.out.items c.write_names.new.out.items (text_of_rows h ++ text_of_rows t) (text_of_rows n) f2 k ∙ ap (λ (l : List ℕ). out0 ++ l) (sym all)) c.write_names.ensures.text
