use Rattle.std.proofs.Common.{◌∙◌, ap, ap₂, take}
use Rattle.stream_image.specs.Flat.{streams_of}
use Rattle.stream_image.proofs.ColumnFacts.{streams_take}
use Rattle.stream_image.proofs.stream_list.StreamList.truncate.Goals as goal

pub returns : goal.returns
returns c = ap₂ streams_of c.truncate.ensures.items c.truncate-2.ensures ∙ streams_take c.args.count c.self.inside.processors.items c.self.inside.items ∙ ap (take c.args.count) c.self.view_is
