use Rattle.std.proofs.Common.{◌≤◌, ◌∙◌, sym, ap, subst, length, get_or, ℕ}
use Rattle.std.specs.Prelude.{slice_range}
use Rattle.stream_image.proofs.FlatLists.{parts_at, bounds_at}
use Rattle.stream_image.proofs.lists.between.Goals as goal

pub part-requires : goal.part-requires
part-requires g c =
    let k = bounds_at c.args.ends.now 0 (length c.args.all.now) c.args.i c.requires.cut c.requires.here in
    record { order = subst (λ (n : ℕ). n ≤ get_or c.args.ends.now c.args.i 0) (sym c.start.ensures) k.0; within = k.1 }

pub returns : goal.returns
returns g c = c.part.ensures ∙ ap (λ (n : ℕ). slice_range c.args.all.now n (get_or c.args.ends.now c.args.i 0)) c.start.ensures ∙ sym (parts_at c.args.ends.now 0 c.args.all.now c.args.i c.requires.here)
