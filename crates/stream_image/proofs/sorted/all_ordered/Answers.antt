use Rattle.std.proofs.Common.{◌∙◌, sym, ap, subst, length, arith}
use Rattle.dependence.proofs.Rows.{as_many}
use Rattle.time_interval.specs.Bounds.{Pace, pace_on}
use Rattle.stream_image.specs.Sorted.{AreSettled}
use Rattle.stream_image.proofs.SortedFacts.{as_long, given_on, first_sorted, alike_of, none_loose}
use Rattle.stream_image.proofs.sorted.all_ordered.Goals as goal

pub loop-init : goal.loop-init
loop-init c =
    let h = c.in_ok-sorting.ensures in
    record {
      pace = h.pace;
      sorted = first_sorted c.args.deps.now.producers c.args.streams.now c.args.masks.now c.in_ok-sorting.sorting
          (given_on (sym (ap (λ (p : Pace). p.processors) h.pace)) c.requires.lined.given)
          (ap (λ (p : Pace). length p.times) h.pace ∙ as_long c.args.spec.now c.args.block.now.tuples ∙ sym (ap length c.requires.deps.producers ∙ as_many c.args.block.now.tuples))
          h.line h.passed h.places h.room h.queue h.turn;
    }

pub step-requires-clause-processors : goal.step-requires-clause-processors
step-requires-clause-processors c = c.processors-n.ensures.value ∙ sym (ap (λ (p : Pace). p.processors) c.loop.invariant.pace)

pub step-requires-clause-sorted : goal.step-requires-clause-sorted
step-requires-clause-sorted c = c.loop.invariant.sorted

pub loop-preserved : goal.loop-preserved
loop-preserved c =
    let gone = c.in_ok-step.ensures c.if-not-branch.false in
    record { pace = gone.pace ∙ c.loop.invariant.pace; sorted = gone.sorted }

pub returns : goal.returns
returns c = λ e.
    let i = c.loop.invariant in
    let s = c.loop.sorting in
    let pace = pace_on c.args.spec.now c.args.block.now.tuples in
    let same = c.processors-n.ensures.value in
    let alike = alike_of pace c.args.block.now.tuples c.args.spec.now.processors c.args.streams.now c.args.masks.now c.requires.lined s.walked.line s.places s.queue i.sorted.streams i.sorted.masks_are (λ p l. c.is_whole.ensures.streams e p (omega (arith, l, same))) (c.is_whole.ensures.queue e) in
    none_loose pace c.args.block.now.tuples c.args.spec.now.processors c.args.streams.now c.args.masks.now c.requires.lined c.args.deps.now.producers s.walked.line c.requires.deps.producers alike (subst (λ (p : Pace). AreSettled p c.args.deps.now.producers s.walked.line) i.pace i.sorted.settled)
