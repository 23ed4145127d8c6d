use Rattle.std.proofs.Common.{◌∙◌, sym, arith, eqb-true}
use Rattle.std.proofs.lemmas.Map.Views.{Contains-from_any}
use Rattle.time_interval.specs.Lines.{tuples}
use Rattle.stream_image.proofs.SortedFacts.{first_next, all_first}
use Rattle.stream_image.proofs.sorted.Sorting.come_first.Goals as goal

pub ordered_next-requires-clause-first : goal.ordered_next-requires-clause-first
ordered_next-requires-clause-first c = Contains-from_any (λ x y e. eqb-true x y e) _ (tuples c.args.self.now.walked.line) (sym (c.requires.passed _) ∙ sym c.has.ensures.value ∙ c.if-not-has.false)

pub loop-a-preserved : goal.loop-a-preserved
loop-a-preserved c = first_next c.args.self.now.walked.pace c.args.self.now.walked.line c.args.numbers.now c.args.p c.loop-a.a-index c.loop-a.invariant (omega (arith, c.loop-a-test.true)) (λ i new. (sym (c.requires.passed _) ∙ sym c.has.ensures.value ∙ c.if-not-has.false, (c.ordered_next.ensures i new).0 c.if-not-ordered_next.false))

pub returns : goal.returns
returns c = λ e. all_first c.args.self.now.walked.pace c.args.self.now.walked.line c.args.numbers.now c.args.p c.loop-a.a-index (omega (arith, c.loop-a-test.false)) c.loop-a.invariant
