use Rattle.std.proofs.Common.{◌∙◌, sym, ap, length}
use Rattle.stream_image.proofs.ColumnFacts.{streams_long}
use Rattle.stream_image.proofs.stream_list.StreamList.len.Goals as goal

pub returns : goal.returns
returns c = ap length c.as_slice.ensures.value ∙ sym (streams_long c.self.inside.processors.items c.self.inside.items c.args.self.now c.self.invariant c.self.view_is)
