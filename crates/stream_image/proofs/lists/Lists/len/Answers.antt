use Rattle.std.proofs.Common.{◌∙◌, sym, ap, length}
use Rattle.stream_image.proofs.FlatLists.{parts_length}
use Rattle.stream_image.proofs.lists.Lists.len.Goals as goal

pub returns : goal.returns
returns g c =
    ap length c.as_slice.ensures.value ∙ sym (parts_length c.self.inside.ends.items 0 c.self.inside.all.items) ∙ ap length c.self.view_is
