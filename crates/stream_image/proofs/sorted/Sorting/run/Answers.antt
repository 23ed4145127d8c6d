use Rattle.std.proofs.Common.{refl, subst, List, ℕ}
use Rattle.stream_image.specs.Sorted.{ComeFirst}
use Rattle.stream_image.proofs.sorted.Sorting.run.Goals as goal

pub returns : goal.returns
returns c = λ e. record {
  pace = c.in_ok-push_run.ensures.pace;
  line = c.in_ok-push_run.ensures.ok;
  passed = c.insert.ensures.bits;
  places = refl;
  queue = refl;
  turn = refl;
  first = subst (λ (row : List ℕ). ComeFirst c.args.self.now.walked.pace c.args.self.now.walked.line row c.args.ready.processor) c.producers.ensures.value (c.come_first.ensures c.if-not-come_first.false);
}
