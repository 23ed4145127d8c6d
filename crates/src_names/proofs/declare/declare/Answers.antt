use Rattle.std.proofs.Common.{◌≡◌, ◌<◌, length, Some, Ok, Err, refl, ap, ◌∙◌, arith, rules, w64}
use Rattle.std.specs.Prelude.{slice_get}
use Rattle.std.proofs.lemmas.Int.{to_z-of_z}
use mir.Val.{SFits}
use Rattle.std.proofs.lemmas.Option.{slice_get_read}
use Rattle.bm_base.specs.declared.names.NamesFault.TheVariants as b
use Rattle.src_names.specs.Declarations.{name_of}
use Rattle.src_names.specs.Adding.{kind_of}
use Rattle.src_names.proofs.Find.{within}
use Rattle.src_names.proofs.Declaring.{means_of, length_declared, declared_at, added, size_fault, twice_fault, range_more}
use Rattle.src_names.proofs.declare.declare.Goals as goal

pub bounds-earlier-first : goal.bounds-earlier-first
bounds-earlier-first c =
    let text = c.as_slice.ensures ∙ ap (λ n. n.text) c.name.ensures in
    let twice : c.add.result ≡ Err (b.Twice c.in-Err-Twice.first) = cc in
    let place = means_of c.args.decl.now c.args.names.now (Err (b.Twice c.in-Err-Twice.first)) c.requires.well c.requires.few (rw (twice, text, c.kind.ensures) at c.add.ensures.answer) in
    let long = length_declared c.requires.declared in
    omega (arith, within (name_of c.args.decl.now).text c.args.names.now c.in-Err-Twice.first place)

pub unreachable-requires : goal.unreachable-requires
unreachable-requires c =
    let text = c.as_slice.ensures ∙ ap (λ n. n.text) c.name.ensures in
    let refused : c.add.result ≡ Err b.BadName = cc in
    means_of c.args.decl.now c.args.names.now (Err b.BadName) c.requires.well c.requires.few (rw (refused, text, c.kind.ensures) at c.add.ensures.answer)

pub unreachable-requires-in-Err-TooMany : goal.unreachable-requires-in-Err-TooMany
unreachable-requires-in-Err-TooMany c =
    let text = c.as_slice.ensures ∙ ap (λ n. n.text) c.name.ensures in
    let refused : c.add.result ≡ Err b.TooMany = cc in
    means_of c.args.decl.now c.args.names.now (Err b.TooMany) c.requires.well c.requires.few (rw (refused, text, c.kind.ensures) at c.add.ensures.answer)

pub returns-in-Ok-clause-ok : goal.returns-in-Ok-clause-ok
returns-in-Ok-clause-ok c =
    let text = c.as_slice.ensures ∙ ap (λ n. n.text) c.name.ensures in
    let place = means_of c.args.decl.now c.args.names.now (Ok c.in-Ok.field-0) c.requires.well c.requires.few (rw (c.in-Ok.is, text, c.kind.ensures) at c.add.ensures.answer) in
    let more = rw (text, c.kind.ensures) at c.in-Ok.ensures.ok in
    added c.requires.declared c.args.decl.now c.requires.well place.1 more.1

pub returns-in-Ok-clause-range : goal.returns-in-Ok-clause-range
returns-in-Ok-clause-range c =
    let text = c.as_slice.ensures ∙ ap (λ n. n.text) c.name.ensures in
    let place = means_of c.args.decl.now c.args.names.now (Ok c.in-Ok.field-0) c.requires.well c.requires.few (rw (c.in-Ok.is, text, c.kind.ensures) at c.add.ensures.answer) in
    let more = rw (text, c.kind.ensures) at c.in-Ok.ensures.ok in
    rw more.1 (range_more c.args.names.now (name_of c.args.decl.now) (kind_of c.args.decl.now) c.requires.range place.0 place.1)

pub returns-in-Err-Twice-clause-err : goal.returns-in-Err-Twice-clause-err
returns-in-Err-Twice-clause-err c = λ _.
    let text = c.as_slice.ensures ∙ ap (λ n. n.text) c.name.ensures in
    let twice : c.add.result ≡ Err (b.Twice c.in-Err-Twice.first) = cc in
    let place = means_of c.args.decl.now c.args.names.now (Err (b.Twice c.in-Err-Twice.first)) c.requires.well c.requires.few (rw (twice, text, c.kind.ensures) at c.add.ensures.answer) in
    let long = length_declared c.requires.declared in
    let below : c.in-Err-Twice.first < length c.args.earlier.now = omega (arith, within (name_of c.args.decl.now).text c.args.names.now c.in-Err-Twice.first place) in
    let here : slice_get c.args.earlier.now c.in-Err-Twice.first ≡ Some c.index-earlier-first.result = slice_get_read c.args.earlier.now (length c.args.earlier.now) c.in-Err-Twice.first c.index-earlier-first.result refl below c.index-earlier-first.is in
    twice_fault c.args.earlier.now c.args.names.now c.args.decl.now c.name.result.now.at c.name-in-Err-Twice.result.now.at
    (ap (λ n. n.at) c.name.ensures)
    (declared_at c.requires.declared (name_of c.args.decl.now) c.in-Err-Twice.first c.name-in-Err-Twice.result.now.at c.index-earlier-first.result place here (ap (λ n. n.at) c.name-in-Err-Twice.ensures))

pub returns-in-Err-Size-clause-err : goal.returns-in-Err-Size-clause-err
returns-in-Err-Size-clause-err c = λ _.
    let text = c.as_slice.ensures ∙ ap (λ n. n.text) c.name.ensures in
    let refused : c.add.result ≡ Err b.Size = cc in
    let place = means_of c.args.decl.now c.args.names.now (Err b.Size) c.requires.well c.requires.few (rw (refused, text, c.kind.ensures) at c.add.ensures.answer) in
    let f : SFits w64 c.size.result = search rules in
    rw (to_z-of_z w64 c.size.result f, c.size.ensures, c.name.ensures) (size_fault c.args.earlier.now c.args.names.now c.args.decl.now c.requires.well place.0 place.1)
