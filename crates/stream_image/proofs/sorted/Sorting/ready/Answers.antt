use Rattle.std.proofs.Common.{◌<◌, ◌∙◌, ap, arith, get_or, length, Some}
use Rattle.std.proofs.lemmas.Option.{slice_get-get_or}
use Rattle.stream_image.proofs.SortedFacts.{ready_is}
use Rattle.stream_image.proofs.sorted.Sorting.ready.Goals as goal

pub returns-then-may_run : goal.returns-then-may_run
returns-then-may_run c =
    let p = c.index-streams-k.result.processor in
    let place = get_or c.args.self.now.places p 0 in
    let lt : place < length c.items-own.result.now = omega (arith, c.if-place-own.true) in
    ready_is (length c.args.deps.now.producers) c.args.k c.args.streams.now c.args.self.now c.index-streams-k.result c.items-own.result.now c.in-Do.tuple c.requires.given c.requires.inside c.index-streams-k.is c.items-own.ensures (slice_get-get_or c.items-own.result.now place _ lt ∙ ap Some c.in-Do.is) (c.may_run.ensures.below c.if-may_run.true) (c.may_run.ensures.few c.if-may_run.true) (c.may_run.ensures.new c.if-may_run.true)
