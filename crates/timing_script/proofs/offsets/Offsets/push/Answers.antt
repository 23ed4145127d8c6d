use Rattle.std.proofs.Common.{◌≡◌, ◌<◌, ◌++◌, ◌∷◌, [], List, ℕ, Vec, Global, map, length, get_or, set, sym, ap, ◌∙◌, arith}
use Rattle.std.proofs.lemmas.List.{map-set, get_or-map}
use Rattle.timing_script.specs.Reading.{pushed}
use Rattle.timing_script.proofs.offsets.Offsets.push.Goals as goal

abbrev held : List (Vec ℕ Global) → List (List ℕ)
held lists = map (λ (list : Vec ℕ Global). list.items) lists

set-pushed : (lists : List (Vec ℕ Global)) (p offset : ℕ) (list now : Vec ℕ Global) → p < length lists → list ≡ get_or lists p list → now.items ≡ list.items ++ offset ∷ []
    → held (set lists p now) ≡ pushed (held lists) p offset
set-pushed lists p offset list now h e a =
    map-set (λ (list : Vec ℕ Global). list.items) lists p now
    ∙ ap (set (held lists) p) (a ∙ ap (λ (x : List ℕ). x ++ offset ∷ []) (ap (λ (x : Vec ℕ Global). x.items) e ∙ sym (get_or-map (λ (list : Vec ℕ Global). list.items) lists p list [] h)))

pub returns : goal.returns
returns c =
    let within : c.args.processor < length c.self.inside.lists.items = omega (arith, c.self.invariant) in
    set-pushed c.self.inside.lists.items c.args.processor c.args.offset c.index_mut.result.now c.push.new.self within c.index_mut.ensures.value c.in_ok-push.ensures.items
    ∙ ap (λ (x : List (List ℕ)). pushed x c.args.processor c.args.offset) c.self.view_is
