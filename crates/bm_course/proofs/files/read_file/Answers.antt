use Rattle.std.proofs.Common.{[], ◌∷◌, refl, sym, ◌∙◌, inl, inr}
use Rattle.bm_io.proofs.Asking.{asking-nothing}
use Rattle.bm_course.proofs.files.read_file.Goals as goal

pub returns-in-Ok-clause-comes : goal.returns-in-Ok-clause-comes
returns-in-Ok-clause-comes g c = record {
  contents = c.in-Ok.bytes.items ∷ [];
  names = c.args.name.now ∷ [];
  reading = (c.args.most, refl, c.in-Ok.ensures.content, c.in-Ok.ensures.short, tt);
  ends = (c.in-Ok.bytes.items, refl, λ rest. refl, c.in-Ok.ensures.asked);
  held = c.in-Ok.ensures.held;
  later = c.in-Ok.ensures.cause.later;
}

pub returns-in-Err-Failed-clause-comes : goal.returns-in-Err-Failed-clause-comes
returns-in-Err-Failed-clause-comes g c =
    let h = rw c.in-Err-Failed.field-0-is at c.in-Err-Failed.ensures in
    record {
      contents = [];
      names = [];
      reading = tt;
      ends = ((c.args.most, refl), h.asked, h.cause.rose refl);
      held = h.held;
      later = h.cause.later;
    }

pub returns-in-Err-Memory-clause-comes : goal.returns-in-Err-Memory-clause-comes
returns-in-Err-Memory-clause-comes g c =
    let h = rw c.in-Err-Memory.field-0-is at c.in-Err-Memory.ensures in
    record {
      contents = [];
      names = [];
      reading = tt;
      ends = elim h.asked [ inl a ↦ inr (c.args.name.now, c.args.most, refl, a) | inr b ↦ inl (b ∙ sym (asking-nothing _)) ];
      held = h.held;
      later = h.cause.later;
    }
