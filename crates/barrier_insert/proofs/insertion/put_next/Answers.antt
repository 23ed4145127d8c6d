use Rattle.std.proofs.Common.{◌∷◌, [], ◌++◌, nat_eq, Result, Ok, Err, OnOk, sym, subst, ap, ap₂, ◌∙◌}
use Rattle.std.specs.List.{list_any}
use Rattle.line_model.specs.declared.line.Item.TheVariants.{Run}
use Rattle.time_interval.specs.Lines.{tuples}
use Rattle.barrier_insert.specs.Inserted.{assignment, IsPut}
use Rattle.barrier_insert.specs.Inserted.IsPut.{free, barred}
use Rattle.barrier_insert.proofs.Made.{bar_adds_none}
use Rattle.barrier_insert.proofs.insertion.put_next.Goals as goal

on_ok_more : {T E P Q : Type 0} (r : Result T E) → (P → Q) → OnOk r P → OnOk r Q
on_ok_more (Ok x) f h = f h
on_ok_more (Err e) f h = h

pub push_run-requires-in-Some-clause-new : goal.push_run-requires-in-Some-clause-new
push_run-requires-in-Some-clause-new c = ap (list_any (nat_eq c.args.i)) (ap tuples c.in_ok-push_bar-in-Some.ensures.ok ∙ bar_adds_none c.args.part.now.line c.in-Some.mask) ∙ c.requires.new

pub returns-in-None-clause-put : goal.returns-in-None-clause-put
returns-in-None-clause-put c =
    let a = assignment c.args.part.now.pace c.args.deps.now.producers c.args.schedule.now.plan in
    on_ok_more c.push_run.result
    (λ e. subst (IsPut a c.args.part.now.line c.args.i) (sym (e ∙ ap (λ p. c.args.part.now.line ++ Run p c.args.i ∷ []) c.processor-p.ensures)) (free c.in-None.ensures))
    c.push_run.ensures.ok

pub returns-in_ok-push_bar-in-Some-clause-put : goal.returns-in_ok-push_bar-in-Some-clause-put
returns-in_ok-push_bar-in-Some-clause-put c =
    let a = assignment c.args.part.now.pace c.args.deps.now.producers c.args.schedule.now.plan in
    on_ok_more c.push_run-in-Some.result
    (λ e. subst (IsPut a c.args.part.now.line c.args.i) (sym (e ∙ ap₂ (λ l p. l ++ Run p c.args.i ∷ []) c.in_ok-push_bar-in-Some.ensures.ok c.processor-p.ensures)) (barred c.in-Some.mask c.in-Some.ensures))
    c.push_run-in-Some.ensures.ok
