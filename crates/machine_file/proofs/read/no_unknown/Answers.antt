use Rattle.std.proofs.Common.{inl, inr}
use Rattle.std.proofs.lemmas.Result.{err_from_is_err_and}
use Rattle.machine_file.specs.Keys.{top_keys, class_keys}
use Rattle.machine_file.proofs.read.no_unknown.Goals as goal

pub returns : goal.returns
unfolding top_keys class_keys
returns c = let e = c.in_ok-has_only.ensures in rw e c.has_only-2.ensures

pub returns-in_err-has_only : goal.returns-in_err-has_only
unfolding top_keys class_keys
returns-in_err-has_only c =
    let p = err_from_is_err_and c.from_residual.result c.from_residual.ensures.1 in
    rw (p.1, p.2) (elim c.in_err-has_only.ensures [ inl e ↦ inl (rw e) | inr e ↦ inr e ])
