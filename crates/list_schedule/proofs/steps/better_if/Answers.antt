use Rattle.std.proofs.Common.{ℕ, Option, sym, subst}
use Rattle.list_schedule.specs.Steps.{Tells}
use Rattle.list_schedule.proofs.steps.better_if.Goals as goal

pub returns-in-Some : goal.returns-in-Some
returns-in-Some c = λ lates scores told score best. let t = subst (λ (o : Option ℕ). Tells o (lates c.args.k)) c.in-Some.is told in c.better.ensures lates scores (sym t.0) score best
