use Rattle.std.proofs.Common.{◌≡◌, ◌+◌, ◌++◌, ◌∷◌, [], ◌∙◌, sym, ap, ap₂, subst, length, length-append, arith, ℕ, List, Bool, if◌then◌else◌}
use Rattle.stream_image.specs.Flat.{parts, IsCut}
use Rattle.stream_image.proofs.FlatLists.{parts_push, cut_push}
use Rattle.stream_image.proofs.lists.put.Goals as goal

pushed : (g : _) (c : goal.Then-is_ok g) → c.push.new.self.items ≡ c.args.ends.now.items ++ c.in-Ok.end ∷ []
pushed g c = c.push.ensures.items ∙ ap (λ (b : Bool). if b then c.args.ends.now.items ++ c.in-Ok.end ∷ [] else c.args.ends.now.items) (sym c.is_ok.ensures.value ∙ c.if-is_ok.true)

end_is : (g : _) (c : goal.Then-is_ok g) → c.in-Ok.end ≡ length c.args.all.now.items + length c.args.list.now
end_is g c =
    let a = ap length c.in_ok-extend_from_slice.ensures.items in
    let s : length c.as_slice.result.now ≡ length c.extend_from_slice.new.self.items = ap length c.as_slice.ensures.value in
    omega (arith, c.in-Ok.ensures, a, s, length-append c.args.all.now.items c.args.list.now)

pub returns-then-is_ok-clause-cut : goal.returns-then-is_ok-clause-cut
returns-then-is_ok-clause-cut g c =
    let n = end_is g c in
    let m : c.in-Ok.end ≡ length c.extend_from_slice.new.self.items = (let a = ap length c.in_ok-extend_from_slice.ensures.items in omega (arith, n, a, length-append c.args.all.now.items c.args.list.now)) in
    subst (λ (l : List ℕ). IsCut l 0 (length c.extend_from_slice.new.self.items)) (sym (pushed g c)) (cut_push c.args.ends.now.items 0 (length c.args.all.now.items) (length c.extend_from_slice.new.self.items) c.in-Ok.end c.requires (omega (arith, n)) m)

pub returns-then-is_ok-clause-ok : goal.returns-then-is_ok-clause-ok
returns-then-is_ok-clause-ok g c = ap₂ (λ es xs. parts es 0 xs) (pushed g c) c.in_ok-extend_from_slice.ensures.items ∙ parts_push c.args.ends.now.items 0 c.args.all.now.items c.args.list.now c.in-Ok.end c.requires (end_is g c)
