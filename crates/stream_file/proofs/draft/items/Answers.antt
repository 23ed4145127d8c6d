use Rattle.std.proofs.Common.{◌≡◌, ◌∙◌, sym, ap, List, Some}
use Rattle.bm_base.specs.Lines.{front_of}
use Rattle.line_model.specs.declared.line.StreamItem.{StreamItem}
use Rattle.stream_file.specs.Rows.{item_of}
use Rattle.stream_file.proofs.Items.{next_item, bad_item, items_left}
use Rattle.stream_file.proofs.draft.items.Goals as goal

pub returns-in-None : goal.returns-in-None
returns-in-None c =
    sym c.loop-more.invariant ∙ (λ i. items_left (c.loop-more-test.true i) c.loop-more.items c.loop-more.rest.now) ∙ bad_item c.loop-more.items c.loop-more.rest.now (ap item_of (sym c.split_at_byte-found.ensures.front) ∙ sym c.item.ensures ∙ c.in-None.is)

pub loop-more-preserved : goal.loop-more-preserved
loop-more-preserved c =
    let is : item_of (front_of 32 c.loop-more.rest.now) ≡ Some c.in-Some.item = ap item_of (sym c.split_at_byte-found.ensures.front) ∙ sym c.item.ensures ∙ c.in-Some.is in
    let next = next_item c.loop-more.items c.loop-more.rest.now c.in-Some.item c.split_at_byte-found.result.1 c.split_at_byte-found.result.2.now is c.split_at_byte-found.ensures.found c.split_at_byte-found.ensures.behind in
    ap (λ (x : List StreamItem). items_left c.split_at_byte-found.result.1 x c.split_at_byte-found.result.2.now) c.in_ok-add-in-Some.ensures.ok ∙ next ∙ (λ i. items_left (sym c.loop-more-test.true i) c.loop-more.items c.loop-more.rest.now) ∙ c.loop-more.invariant
