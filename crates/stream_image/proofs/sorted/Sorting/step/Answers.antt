use Rattle.std.proofs.Common.{◌≡◌, true, Bool}
use Rattle.stream_image.specs.Sorted.{HasRun, HasFired, HasGone}
use Rattle.stream_image.proofs.SortedFacts.{if_ok, step_run, step_bar}
use Rattle.stream_image.proofs.sorted.Sorting.step.Goals as goal

pub returns-in-Some : goal.returns-in-Some
returns-in-Some c =
    let rows = c.args.deps.now.producers in
    if_ok c.run.result (λ (went : Bool). went ≡ true → HasRun rows c.args.self.now c.run.new.self c.in-Some.ready) (λ (went : Bool). went ≡ true → HasGone rows c.args.streams.now c.args.masks.now c.args.self.now c.run.new.self) (λ went. step_run rows c.args.streams.now c.args.masks.now c.args.self.now c.run.new.self c.in-Some.ready went c.requires.sorted c.in-Some.ensures) c.run.ensures

pub returns-in-None : goal.returns-in-None
returns-in-None c =
    let rows = c.args.deps.now.producers in
    if_ok c.bar.result (λ (went : Bool). went ≡ true → HasFired c.args.n c.args.streams.now c.args.masks.now c.args.self.now c.bar.new.self) (λ (went : Bool). went ≡ true → HasGone rows c.args.streams.now c.args.masks.now c.args.self.now c.bar.new.self) (λ went. step_bar rows c.args.n c.args.streams.now c.args.masks.now c.args.self.now c.bar.new.self went c.requires.processors c.requires.sorted) c.bar.ensures
