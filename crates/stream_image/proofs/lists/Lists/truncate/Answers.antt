use Rattle.std.proofs.Common.{◌≡◌, ◌≤◌, ◌<◌, ◌∙◌, take, sym, ap, ap₂, subst, length, arith, ℕ, List}
use Rattle.std.proofs.lemmas.List.{length-take-le}
use Rattle.stream_image.specs.Flat.{parts, IsCut, start_of}
use Rattle.stream_image.proofs.FlatLists.{all_taken, cut_take, parts_take, parts_length, start_within}
use Rattle.stream_image.proofs.lists.Lists.truncate.Goals as goal

below : (g : _) (c : goal.After-truncate-then-count-as_slice g) → c.args.count < length c.self.inside.ends.items
below g c = subst (λ n. c.args.count < n) (ap length c.as_slice.ensures.value) c.if-count-as_slice.true

begin : (g : _) (c : goal.After-truncate-then-count-as_slice g) → c.start.result ≡ start_of c.self.inside.ends.items 0 c.args.count
begin g c = c.start.ensures ∙ ap (λ (es : List ℕ). start_of es 0 c.args.count) c.deref.ensures.value

within : (g : _) (c : goal.After-truncate-then-count-as_slice g) → start_of c.self.inside.ends.items 0 c.args.count ≤ length c.self.inside.all.items
within g c = (start_within c.self.inside.ends.items 0 (length c.self.inside.all.items) c.args.count c.self.invariant (let l = below g c in omega (arith, l))).1

pub invariant_of-self : goal.invariant_of-self
invariant_of-self g c =
    let l = below g c in
    let e = begin g c in
    let w = within g c in
    let long : length c.truncate.new.self.items ≡ start_of c.self.inside.ends.items 0 c.args.count = ap length c.truncate.ensures.items ∙ ap (λ n. length (take n c.self.inside.all.items)) e ∙ length-take-le (start_of c.self.inside.ends.items 0 c.args.count) c.self.inside.all.items w in
    subst (λ n. IsCut c.truncate-then-count-as_slice.new.self.items 0 n) (sym long) (subst (λ (es : List ℕ). IsCut es 0 (start_of c.self.inside.ends.items 0 c.args.count)) (sym c.truncate-then-count-as_slice.ensures.items) (cut_take c.self.inside.ends.items 0 (length c.self.inside.all.items) c.args.count c.self.invariant (omega (arith, l))))

pub returns-then-count-as_slice : goal.returns-then-count-as_slice
returns-then-count-as_slice g c =
    let l = below g c in
    let e = begin g c in
    let w = within g c in
    ap₂ (λ (es : List ℕ) xs. parts es 0 xs) c.truncate-then-count-as_slice.ensures.items (c.truncate.ensures.items ∙ ap (λ n. take n c.self.inside.all.items) e)
    ∙ parts_take c.self.inside.ends.items 0 c.self.inside.all.items c.args.count (start_of c.self.inside.ends.items 0 c.args.count) c.self.invariant (omega (arith, l)) (omega arith)
    ∙ ap (take c.args.count) c.self.view_is

pub returns-else-count-as_slice : goal.returns-else-count-as_slice
returns-else-count-as_slice g c =
    let long : length c.args.self.now ≡ length c.self.inside.ends.items = ap length (sym c.self.view_is) ∙ parts_length c.self.inside.ends.items 0 c.self.inside.all.items in
    let e = ap length c.as_slice.ensures.value in
    sym (all_taken c.args.self.now c.args.count (omega (arith, long, e, c.if-count-as_slice.false)))
