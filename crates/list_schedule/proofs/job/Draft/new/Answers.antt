use Rattle.std.proofs.Common.{◌∙◌, ◌++◌, ◌∷◌, [], None, ap}
use Rattle.list_schedule.proofs.Starts.{none_more}
use Rattle.list_schedule.proofs.job.Draft.new.Goals as goal

pub loop-tuple-preserved : goal.loop-tuple-preserved
loop-tuple-preserved c = c.in_ok-push.ensures.items ∙ ap (λ xs. xs ++ None ∷ []) c.loop-tuple.invariant ∙ none_more c.loop-tuple._tuple
