use Rattle.std.proofs.Common.{ap}
use Rattle.dependence.specs.Found.{Found}
use Rattle.dependence.proofs.Rows.{row_ascends, row_below}
use Rattle.dependence.proofs.deps.Deps.producers.Goals as goal

pub returns-clause-ascending : goal.returns-clause-ascending
returns-clause-ascending c = row_ascends _ _ c.args.i c.index.result.now _ (ap (λ (d : Found). d.producers) c.self.view_is) c.self.invariant c.requires c.index.ensures c.as_slice.ensures

pub returns-clause-below : goal.returns-clause-below
returns-clause-below c = row_below _ _ c.args.i c.index.result.now _ (ap (λ (d : Found). d.producers) c.self.view_is) c.self.invariant c.requires c.index.ensures c.as_slice.ensures
