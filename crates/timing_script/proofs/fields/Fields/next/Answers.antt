use Rattle.std.proofs.Common.{◌≡◌, [], List, ℕ, length, refl, sym, ap, ◌∙◌, ◌∷◌, arith}
use Rattle.std.proofs.lemmas.Bool.Decides.{nat_tests}
use Rattle.timing_script.specs.Rows.{fields_of}
use Rattle.timing_script.proofs.FieldTexts.{fields-next, fields-none}
use Rattle.timing_script.proofs.fields.Fields.next.Goals as goal

empty : (bytes : List ℕ) → length bytes ≡ 0 → bytes ≡ []
empty [] h = refl
empty (b ∷ bs) h = absurd (omega arith)

pub returns-then-is_empty : goal.returns-then-is_empty
returns-then-is_empty c =
    let none : length c.behind_blanks-from.result.now ≡ 0 = grind (arith, nat_tests) in
    sym c.self.view_is ∙ fields-none c.self.inside.rest.now c.behind_blanks-from.result.now c.behind_blanks-from.ensures (empty c.behind_blanks-from.result.now none)

pub returns : goal.returns
returns c =
    let some : length c.behind_blanks-from.result.now ≡ 0 → ⊥ = λ e. grind (arith, nat_tests) in
    sym c.self.view_is ∙ fields-next c.self.inside.rest.now c.behind_blanks-from.result.now c.behind_blanks-from.ensures (λ e. some (ap length e))
    ∙ (λ i. sym c.split.ensures.field i ∷ fields_of (sym c.split.ensures.rest i))
