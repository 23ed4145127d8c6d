use Rattle.std.proofs.Common.{◌≡◌, Some, sym, ap, subst, ◌∙◌}
use Rattle.std.specs.Prelude.{slice_get}
use Rattle.bm_base.specs.declared.names.Kind.TheVariants.{Var, Array}
use Rattle.bm_base.specs.Memories.{IsOfKind}
use Rattle.bm_report.specs.Held.{IsArrayOf, variable_at, row_at}
use Rattle.bm_report.proofs.Names.{named, a_word, some_words}
use Rattle.bm_report.proofs.OneLine.{variable_get, array_get, array_within}
use Rattle.bm_report.proofs.held_line.memory_line.Goals as goal

pub variable_line-requires-clause-variable : goal.variable_line-requires-clause-variable
variable_line-requires-clause-variable c =
    let n = named c.args.names.now c.args.store.now c.args.id c.requires.same c.requires.name in
    let k : Var c.in-Var.initial ≡ n.entry.kind = rw n.entry_is at c.in-Var.ensures in
    let w = a_word c.in-Var.initial n.content (subst (λ x. IsOfKind x n.content) (sym k) n.kind) in
    (w.0, n.content_is ∙ ap Some w.1)

pub row_line-line-requires-clause-array : goal.row_line-line-requires-clause-array
row_line-line-requires-clause-array c =
    let n = named c.args.names.now c.args.store.now c.args.id c.requires.same c.requires.name in
    let k : Array c.in-Array.len ≡ n.entry.kind = rw n.entry_is at c.in-Array.ensures in
    let r : IsArrayOf (Some n.content) c.in-Array.len = some_words c.in-Array.len n.content (subst (λ x. IsOfKind x n.content) (sym k) n.kind) in
    rw (n.content_is, c.from.ensures) r

pub row_line-line-requires-clause-within : goal.row_line-line-requires-clause-within
row_line-line-requires-clause-within c =
    let n = named c.args.names.now c.args.store.now c.args.id c.requires.same c.requires.name in
    let k : Array c.in-Array.len ≡ n.entry.kind = rw n.entry_is at c.in-Array.ensures in
    let r : IsArrayOf (Some n.content) c.in-Array.len = some_words c.in-Array.len n.content (subst (λ x. IsOfKind x n.content) (sym k) n.kind) in
    let q : IsArrayOf (slice_get c.args.store.now c.args.id) c.in-Array.len = rw n.content_is r in
    rw (c.from.ensures, c.from-in-Array.ensures) (array_within (slice_get c.args.store.now c.args.id) c.in-Array.len c.args.first q c.requires.first)

pub returns-in-Var : goal.returns-in-Var
returns-in-Var c =
    let n = named c.args.names.now c.args.store.now c.args.id c.requires.same c.requires.name in
    let k : Var c.in-Var.initial ≡ n.entry.kind = rw n.entry_is at c.in-Var.ensures in
    let w = a_word c.in-Var.initial n.content (subst (λ x. IsOfKind x n.content) (sym k) n.kind) in
    let t : c.text.new.self ≡ variable_at (slice_get c.args.names.now c.args.id) (slice_get c.args.store.now c.args.id) = rw (c.requires.empty, c.bytes.ensures.value, c.variable_line.ensures) at c.text.ensures.text in
    variable_get (slice_get c.args.names.now c.args.id) n.entry (slice_get c.args.store.now c.args.id) w.0 c.args.first c.text.new.self n.entry_is (n.content_is ∙ ap Some w.1) c.requires.first t

pub returns-in-Array : goal.returns-in-Array
returns-in-Array c =
    let n = named c.args.names.now c.args.store.now c.args.id c.requires.same c.requires.name in
    let k : Array c.in-Array.len ≡ n.entry.kind = rw n.entry_is at c.in-Array.ensures in
    let r : IsArrayOf (Some n.content) c.in-Array.len = some_words c.in-Array.len n.content (subst (λ x. IsOfKind x n.content) (sym k) n.kind) in
    let q : IsArrayOf (slice_get c.args.store.now c.args.id) c.in-Array.len = rw n.content_is r in
    let t : c.text-in-Array.new.self ≡ row_at (slice_get c.args.names.now c.args.id) (slice_get c.args.store.now c.args.id) c.args.first = rw (c.requires.empty, c.bytes-in-Array.ensures.value, c.row_line-line.ensures, c.from-in-Array.ensures) at c.text-in-Array.ensures.text in
    array_get (slice_get c.args.names.now c.args.id) n.entry (slice_get c.args.store.now c.args.id) c.in-Array.len c.args.first c.text-in-Array.new.self n.entry_is q c.requires.first t
