use Rattle.dependence.proofs.Linked.{link_greatest, link_none}
use Rattle.dependence.proofs.laws.laws_of_links.Goals as goal

pub returns-clause-greatest : goal.returns-clause-greatest
returns-clause-greatest c = link_greatest

pub returns-clause-none : goal.returns-clause-none
returns-clause-none c = link_none
