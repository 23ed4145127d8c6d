use Rattle.std.proofs.Common.{rules, ◌≡◌, ◌-◌}
use Rattle.soak_text.specs.Generator.{item}
use Rattle.soak_text.proofs.Steps.{item_of, item_more, several_more}
use Rattle.soak_text.proofs.statements.+items.Goals as goal

pub item-returns-in_ok-plain-2 : goal.item-returns-in_ok-plain-2
item-returns-in_ok-plain-2 t c =
    let e : item c.args.levels c.args.draws.now.state ≡ item_of (c.args.levels - 1) c.below-kind-2.result c.below-kind-2.new.self.state =
    item_more c.args.levels c.args.draws.now.state c.below-kind-2.result c.below-kind-2.new.self.state c.if-levels-eq0.false c.below-kind-2.ensures.drawn in
    rw e (search rules)

pub item-returns-in_ok-choose : goal.item-returns-in_ok-choose
item-returns-in_ok-choose t c =
    let e : item c.args.levels c.args.draws.now.state ≡ item_of (c.args.levels - 1) c.below-kind-2.result c.below-kind-2.new.self.state =
    item_more c.args.levels c.args.draws.now.state c.below-kind-2.result c.below-kind-2.new.self.state c.if-levels-eq0.false c.below-kind-2.ensures.drawn in
    rw e (search rules)

pub item-returns-else-kind-eq8 : goal.item-returns-else-kind-eq8
item-returns-else-kind-eq8 t c =
    let e : item c.args.levels c.args.draws.now.state ≡ item_of (c.args.levels - 1) c.below-kind-2.result c.below-kind-2.new.self.state =
    item_more c.args.levels c.args.draws.now.state c.below-kind-2.result c.below-kind-2.new.self.state c.if-levels-eq0.false c.below-kind-2.ensures.drawn in
    rw e (search rules)

pub several-loop-preserved : goal.several-loop-preserved
several-loop-preserved t c =
    rw c.in_ok-append.ensures
    (record { drawn = several_more c.loop.counter (item c.args.levels) c.args.draws.now.state c.loop.draws.state c.item.new.draws.state c.loop.items c.in_ok-item.field-0 c.loop.invariant.drawn c.in_ok-item.ensures })
