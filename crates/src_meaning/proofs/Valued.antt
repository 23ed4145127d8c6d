-- The value of an expression, from the values of its parts.
use Rattle.std.proofs.Common.{◌≡◌, ℕ, ℤ, List, ap, sym, ◌∙◌, w64, to_z, of_z, FitsSigned}
use Rattle.std.proofs.lemmas.Int.{to_z-of_z}
use Rattle.bm_base.specs.declared.word.Un.{Un}
use Rattle.bm_base.specs.declared.word.Bin.{Bin}
use Rattle.bm_base.specs.Word.{unary_value, binary_value}
use Rattle.bm_base.specs.Memory.{Content, element}
use Rattle.src_names.specs.declared.resolved.RExpr.{RExpr}
use Rattle.src_names.specs.declared.resolved.RExpr.TheVariants as e
use Rattle.src_meaning.specs.Meaning.{value_of}
use Rattle.src_meaning.proofs.Equations.{value-element, value-one, value-two}

module _ (x : RExpr) (m : List Content) (k r : ℤ) (fits : FitsSigned w64 r) (kept : FitsSigned w64 k) where
  pub element_value : (n : ℕ) (i j : RExpr) → x ≡ e.Element n i → j ≡ i → k ≡ value_of j m → r ≡ element m n (to_z w64 (of_z w64 k)) → to_z w64 (of_z w64 r) ≡ value_of x m
  element_value n i j is same v h =
      to_z-of_z w64 r fits ∙ h ∙ ap (element m n) (to_z-of_z w64 k kept ∙ v ∙ ap (λ z. value_of z m) same)
      ∙ ap (λ f. f m) (sym (value-element n i)) ∙ ap (λ z. value_of z m) (sym is)

  pub one_value : (op : Un) (a j : RExpr) → x ≡ e.One op a → j ≡ a → k ≡ value_of j m → r ≡ unary_value op (to_z w64 (of_z w64 k)) → to_z w64 (of_z w64 r) ≡ value_of x m
  one_value op a j is same v h =
      to_z-of_z w64 r fits ∙ h ∙ ap (unary_value op) (to_z-of_z w64 k kept ∙ v ∙ ap (λ z. value_of z m) same)
      ∙ ap (λ f. f m) (sym (value-one op a)) ∙ ap (λ z. value_of z m) (sym is)

  pub two_value : (op : Bin) (a b i j : RExpr) (q : ℤ) → x ≡ e.Two op a b → i ≡ a → j ≡ b → k ≡ value_of i m → FitsSigned w64 q → q ≡ value_of j m → r ≡ binary_value op (to_z w64 (of_z w64 k)) (to_z w64 (of_z w64 q)) → to_z w64 (of_z w64 r) ≡ value_of x m
  two_value op a b i j q is left right v g w h =
      let first = to_z-of_z w64 k kept ∙ v ∙ ap (λ z. value_of z m) left in
      let second = to_z-of_z w64 q g ∙ w ∙ ap (λ z. value_of z m) right in
      to_z-of_z w64 r fits ∙ h ∙ ap (λ y. binary_value op y (to_z w64 (of_z w64 q))) first ∙ ap (binary_value op (value_of a m)) second
      ∙ ap (λ f. f m) (sym (value-two op a b)) ∙ ap (λ z. value_of z m) (sym is)
