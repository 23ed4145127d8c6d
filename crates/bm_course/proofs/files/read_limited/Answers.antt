use Rattle.std.proofs.Common.{◌≤◌, ◌<◌, refl, ap, length, arith}
use Rattle.std.proofs.lemmas.Result.{err_from_is_err_and}
use Rattle.bm_course.specs.declared.refusal.Refusal.TheVariants.{TooLong}
use Rattle.bm_course.specs.Course.{file, judge, accepted, rejected}
use Rattle.bm_course.specs.Lines.{too_long}
use Rattle.bm_course.specs.Limited.{IsContent, Fits}
use Rattle.bm_course.proofs.Coming.{Comes-stop, Comes-give, Comes-refuse}
use Rattle.bm_course.proofs.files.read_limited.Goals as goal

pub returns-in_err-bytes-clause-comes : goal.returns-in_err-bytes-clause-comes
returns-in_err-bytes-clause-comes g c =
    let p = err_from_is_err_and c.from_residual.result c.from_residual.ensures.1 in
    rw (p.1, p.2) (Comes-stop IsContent IsContent _ _ (file c.args.name.now c.args.most) (λ bytes. judge (Fits c.args.name.now c.args.most bytes)) c.in_err-bytes.field-0.0 c.in_err-bytes.ensures.comes)

pub returns-then-len-most-clause-comes : goal.returns-then-len-most-clause-comes
returns-then-len-most-clause-comes g c =
    Comes-refuse IsContent IsContent _ _ (file c.args.name.now c.args.most) (λ bytes. judge (Fits c.args.name.now c.args.most bytes)) c.in_ok-bytes.bytes (TooLong c.args.name c.len-len.result c.args.most) c.in_ok-bytes.ensures.comes
    (λ a e. let l : c.args.most < length a = omega (arith, ap length e, c.len-len.ensures) in rejected (too_long c.args.name.now c.args.most) (refl, l) refl)

pub returns-clause-comes : goal.returns-clause-comes
returns-clause-comes g c =
    Comes-give IsContent IsContent _ _ (file c.args.name.now c.args.most) (λ bytes. judge (Fits c.args.name.now c.args.most bytes)) c.in_ok-bytes.bytes c.in_ok-bytes.bytes c.in_ok-bytes.ensures.comes
    (λ a e. let l : length a ≤ c.args.most = omega (arith, ap length e, c.len-len.ensures) in (a, e, λ rest. accepted a (refl, l) refl))
