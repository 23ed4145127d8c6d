-- The texts of soaks are those of their parts.
use Rattle.std.proofs.Common.{◌≡◌, List, [], ◌∷◌, ◌++◌, ap, ap₂, ◌∙◌}
use Rattle.src_meaning.specs.Meaning.{Outcome}
use Rattle.bm_report.specs.declared.summary.Summary.{Summary}
use Rattle.run_text.specs.declared.kind.UnitKind.{UnitKind}
use Rattle.run_text.specs.declared.kind.UnitKind.TheVariants.{Static, Dynamic}
use Rattle.soak_text.specs.declared.pace.Pace.{Pace}
use Rattle.soak_text.specs.declared.pace.Pace.TheVariants.{Least, Most, Seeded}
use Rattle.soak_text.specs.Lines.{Shown, Part, source_part, run_part, unit_parts, parts}
use Rattle.soak_text.specs.Soak.{soak_text}

module _ (a b : UnitKind → Pace → Shown) (same : (kind : UnitKind) (pace : Pace) → a kind pace ≡ b kind pace) where
  abbrev three : UnitKind → Shown → Shown → Shown → List Part
  three kind x y z = run_part kind Least x ∷ run_part kind Most y ∷ run_part kind Seeded z ∷ []

  unit_as : (kind : UnitKind) → unit_parts kind a ≡ unit_parts kind b
  unit_as kind =
      ap (λ x. three kind x (a kind Most) (a kind Seeded)) (same kind Least) ∙ ap (λ x. three kind (b kind Least) x (a kind Seeded)) (same kind Most) ∙ ap (λ x. three kind (b kind Least) (b kind Most) x) (same kind Seeded)

  pub texts_as : (s t : Summary) (o p : Outcome) → s ≡ t → o ≡ p → soak_text s (parts o a) ≡ soak_text t (parts p b)
  texts_as s t o p e f =
      ap (λ x. soak_text x (parts o a)) e ∙ ap (λ x. soak_text t (parts x a)) f ∙ ap₂ (λ x y. soak_text t ((source_part p ∷ []) ++ (x ++ y))) (unit_as Static) (unit_as Dynamic)
