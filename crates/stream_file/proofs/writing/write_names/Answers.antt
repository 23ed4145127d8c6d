use Rattle.std.proofs.Common.{◌++◌, ◌+◌, ◌<◌, length, drop, map, ap, sym, subst, ◌∙◌, arith, List}
use Rattle.bm_base.specs.Entry.{Entry}
use Rattle.stream_file.specs.Rows as spec
use Rattle.stream_file.specs.RowFits.{AreTypedNames}
use Rattle.stream_file.specs.Texts.{text_of_rows}
use Rattle.stream_file.proofs.Spaces.{more_row, name_row}
use Rattle.stream_file.proofs.writing.write_names.Goals as goal

pub loop-id-preserved : goal.loop-id-preserved
loop-id-preserved c =
    let here : c.loop-id.id < length c.args.names.now = omega arith in
    let e = name_row c.args.names.now c.loop-id.id c.name-name.result.now c.kind-kind.result here c.name-name.ensures c.kind-kind.ensures in
    let row : spec.Row = spec.Named (record { name = c.name-name.result.now; kind = c.kind-kind.result }) in
    record {
      text = ap (λ l. l ++ text_of_rows (map (λ (x : Entry). spec.Named x) (drop (c.loop-id.id + 1) c.args.names.now))) c.in_ok-write_line.ensures.text
          ∙ more_row c.loop-id.out.items row (map (λ (x : Entry). spec.Named x) (drop (c.loop-id.id + 1) c.args.names.now))
          ∙ ap (λ (l : List Entry). c.loop-id.out.items ++ text_of_rows (map (λ (x : Entry). spec.Named x) l)) (sym e) ∙ c.loop-id.invariant.text;
      typed = λ h. c.loop-id.invariant.typed (subst AreTypedNames (sym e) (c.in_ok-write_line.ensures.typed, h));
    }
