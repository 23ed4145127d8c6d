use Rattle.std.proofs.Common.{refl}
use Rattle.soak_text.specs.Generator.{operator}
use Rattle.soak_text.proofs.expressions.operator.Goals as goal

pub returns-in-0 : goal.returns-in-0
unfolding operator
returns-in-0 c = rw c.in-0.is refl

pub returns-in-1 : goal.returns-in-1
unfolding operator
returns-in-1 c = rw c.in-1.is refl

pub returns-in-2 : goal.returns-in-2
unfolding operator
returns-in-2 c = rw c.in-2.is refl

pub returns-in-3 : goal.returns-in-3
unfolding operator
returns-in-3 c = rw c.in-3.is refl

pub returns-in-4 : goal.returns-in-4
unfolding operator
returns-in-4 c = rw c.in-4.is refl

pub returns-in-5 : goal.returns-in-5
unfolding operator
returns-in-5 c = rw c.in-5.is refl

pub returns-in-6 : goal.returns-in-6
unfolding operator
returns-in-6 c = rw c.in-6.is refl

pub returns-in-7 : goal.returns-in-7
unfolding operator
returns-in-7 c = rw c.in-7.is refl

pub returns-in-8 : goal.returns-in-8
unfolding operator
returns-in-8 c = rw c.in-8.is refl

pub returns-in-9 : goal.returns-in-9
unfolding operator
returns-in-9 c = rw c.in-9.is refl

pub returns-in-10 : goal.returns-in-10
unfolding operator
returns-in-10 c = rw c.in-10.is refl

pub returns-in-11 : goal.returns-in-11
unfolding operator
returns-in-11 c = rw c.in-11.is refl

pub returns-in-12 : goal.returns-in-12
unfolding operator
returns-in-12 c = rw c.in-12.is refl

pub returns-in-13 : goal.returns-in-13
unfolding operator
returns-in-13 c = rw c.in-13.is refl

pub returns-in-14 : goal.returns-in-14
unfolding operator
returns-in-14 c = rw c.in-14.is refl

pub returns-in-15 : goal.returns-in-15
unfolding operator
returns-in-15 c = rw c.in-15.is refl
