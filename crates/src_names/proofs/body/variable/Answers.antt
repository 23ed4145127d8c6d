use Rattle.std.proofs.Common.{◌≡◌, Some, None, sym, ◌∙◌}
use Rattle.bm_base.specs.declared.names.Kind.TheVariants as k
use Rattle.bm_base.specs.Names.{place_of}
use Rattle.src_names.specs.Fault as t
use Rattle.src_names.proofs.Find.{found, absent}
use Rattle.src_names.proofs.body.variable.Goals as goal

pub returns-in_default-clause-err : goal.returns-in_default-clause-err
returns-in_default-clause-err c =
    let none : place_of c.args.name.now.text c.args.names.now ≡ None = rw c.as_slice.ensures at (sym c.find.ensures.number ∙ c.in_default.is) in
    t.unknown (absent c.args.name.now c.args.names.now none)

pub returns-in-Var-clause-ok : goal.returns-in-Var-clause-ok
returns-in-Var-clause-ok c =
    let placed : place_of c.args.name.now.text c.args.names.now ≡ Some c.in-Some.id = rw c.as_slice.ensures at (sym c.find.ensures.number ∙ c.in-Some.is) in
    record {
      initial = c.in-Var.initial;
      here = found c.args.name.now.text c.args.names.now c.in-Some.id (k.Var c.in-Var.initial) placed (rw c.in-Var.is at c.kind.ensures);
    }

pub returns-in-Array-clause-err : goal.returns-in-Array-clause-err
returns-in-Array-clause-err c =
    let placed : place_of c.args.name.now.text c.args.names.now ≡ Some c.in-Some.id = rw c.as_slice.ensures at (sym c.find.ensures.number ∙ c.in-Some.is) in
    t.not_variable
    (record {
      id = c.in-Some.id;
      len = c.in-Array.len;
      here = found c.args.name.now.text c.args.names.now c.in-Some.id (k.Array c.in-Array.len) placed (rw c.in-Array.is at c.kind.ensures);
    })
