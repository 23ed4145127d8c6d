use Rattle.std.proofs.Common.{◌<◌, ◌∙◌, sym, ap, subst, length, ℕ}
use Rattle.stream_image.proofs.FlatLists.{parts_length}
use Rattle.stream_image.proofs.lists.Lists.list.Goals as goal

pub between-requires-clause-here : goal.between-requires-clause-here
between-requires-clause-here g c =
    let e = ap length c.deref-2.ensures.value ∙ sym (parts_length c.self.inside.ends.items 0 c.self.inside.all.items) ∙ ap length c.self.view_is in
    subst (λ (n : ℕ). c.args.i < n) (sym e) c.requires
