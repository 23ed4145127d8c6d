use Rattle.std.proofs.Common.{◌≡◌, refl, sym, ap, subst, ◌∙◌, [], ◌∷◌, Some}
use Rattle.std.specs.Prelude.{slice_get}
use Rattle.bm_base.specs.declared.names.Kind.TheVariants.{Var, Array}
use Rattle.bm_base.specs.Memories.{IsOfKind}
use Rattle.bm_report.specs.Held.{IsArrayOf, lines_at, variable_at}
use Rattle.bm_report.proofs.Names.{named, a_word, some_words}
use Rattle.bm_report.proofs.Memories.{Sent-same}
use Rattle.bm_report.proofs.memory.write_name.Goals as goal

pub write_array-requires-clause-array : goal.write_array-requires-clause-array
write_array-requires-clause-array g c =
    let n = named c.args.names.now c.args.store.now c.args.id c.requires.same c.requires.name in
    let k : Array c.in-Array.len ≡ n.entry.kind = rw n.entry_is at c.in-Array.ensures in
    let q : IsOfKind (Array c.in-Array.len) n.content = subst (λ x. IsOfKind x n.content) (sym k) n.kind in
    let r : IsArrayOf (Some n.content) c.in-Array.len = some_words c.in-Array.len n.content q in
    rw (n.content_is, c.from.ensures) r

pub variable_line-requires-clause-variable : goal.variable_line-requires-clause-variable
variable_line-requires-clause-variable g c =
    let n = named c.args.names.now c.args.store.now c.args.id c.requires.same c.requires.name in
    let k : Var c.in-Var.initial ≡ n.entry.kind = rw n.entry_is at c.in-Var.ensures in
    let q : IsOfKind (Var c.in-Var.initial) n.content = subst (λ x. IsOfKind x n.content) (sym k) n.kind in
    let w = a_word c.in-Var.initial n.content q in
    (w.0, n.content_is ∙ ap Some w.1)

pub returns-in-Var-clause-sent : goal.returns-in-Var-clause-sent
returns-in-Var-clause-sent g c =
    let n = named c.args.names.now c.args.store.now c.args.id c.requires.same c.requires.name in
    let k : Var c.in-Var.initial ≡ n.entry.kind = rw n.entry_is at c.in-Var.ensures in
    let q : IsOfKind (Var c.in-Var.initial) n.content = subst (λ x. IsOfKind x n.content) (sym k) n.kind in
    let w = a_word c.in-Var.initial n.content q in
    let s = rw (c.bytes.ensures.value, c.variable_line.ensures) at c.write.ensures.sent in
    let e : variable_at (slice_get c.args.names.now c.args.id) (slice_get c.args.store.now c.args.id) ∷ [] ≡ lines_at (slice_get c.args.names.now c.args.id) (slice_get c.args.store.now c.args.id) =
    rw (n.entry_is, n.content_is ∙ ap Some w.1) refl in
    Sent-same _ _ _ _ c.write.result e s
