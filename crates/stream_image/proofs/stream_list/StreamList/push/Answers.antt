use Rattle.std.proofs.Common.{◌∙◌, ap, ap₂, ◌++◌, ◌∷◌, []}
use Rattle.stream_image.specs.Flat.{streams_of}
use Rattle.stream_image.proofs.ColumnFacts.{streams_push}
use Rattle.stream_image.proofs.stream_list.StreamList.push.Goals as goal

pub returns-in-Ok-clause-ok : goal.returns-in-Ok-clause-ok
returns-in-Ok-clause-ok c = ap₂ streams_of c.in-Ok.ensures.items c.in_ok-push.ensures.ok ∙ streams_push c.self.inside.processors.items c.self.inside.items c.args.processor c.args.items.now c.self.invariant ∙ ap (λ ss. ss ++ record { processor = c.args.processor; items = c.args.items.now } ∷ []) c.self.view_is
