use Rattle.mask_merge.proofs.LawFacts as law
use Rattle.mask_merge.proofs.laws.laws_of_reduction.Goals as goal

pub returns-clause-one : goal.returns-clause-one
returns-clause-one c = law.one

pub returns-clause-some : goal.returns-clause-some
returns-clause-some c = law.some

pub returns-clause-irreducible : goal.returns-clause-irreducible
returns-clause-irreducible c = law.irreducible

pub returns-clause-ordered : goal.returns-clause-ordered
returns-clause-ordered c = law.ordered

pub returns-clause-fewer : goal.returns-clause-fewer
returns-clause-fewer c = law.fewer

pub returns-clause-tuples : goal.returns-clause-tuples
returns-clause-tuples c = law.keeps_tuples

pub returns-clause-lines : goal.returns-clause-lines
returns-clause-lines c = law.keeps_lines
