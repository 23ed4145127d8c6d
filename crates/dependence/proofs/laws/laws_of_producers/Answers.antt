use Rattle.dependence.specs.Producers.{in_conflict}
use Rattle.dependence.proofs.Kept.{kept_ascend, kept_from, kept_has}
use Rattle.dependence.proofs.Rows.{row_at, as_many}
use Rattle.dependence.proofs.laws.laws_of_producers.Goals as goal

pub returns-clause-exact : goal.returns-clause-exact
returns-clause-exact c = λ ts a b. (λ h. let r = kept_from (in_conflict ts b) b a h in record { before = r.0; shared = r.1 }, λ k. kept_has (in_conflict ts b) b a k.before k.shared)

pub returns-clause-ascending : goal.returns-clause-ascending
returns-clause-ascending c = λ ts b. kept_ascend (in_conflict ts b) b

pub returns-clause-each : goal.returns-clause-each
returns-clause-each c = as_many

pub returns-clause-place : goal.returns-clause-place
returns-clause-place c = row_at
