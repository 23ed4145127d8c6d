-- Induction over expressions, by the cases of the source.
use Rattle.std.proofs.Common.{ℕ, ℤ, sym, subst}
use Rattle.bm_base.specs.declared.word.Un.{Un}
use Rattle.bm_base.specs.declared.word.Bin.{Bin}
use Rattle.src_names.specs.declared.resolved.RExpr.{RExpr, RExpr-F, roll-RExpr, map-RExpr}
use Rattle.src_names.specs.declared.resolved.RExpr.TheFolds.{ind-RExpr}
use Rattle.src_names.specs.declared.resolved.RExpr.TheVariants as e

pub record ExprCases (P : RExpr → Type 0) : Type 0 where
  pub number : (v : ℤ) → P (e.Number v)
  pub var : (x : ℕ) → P (e.Var x)
  pub element : (x : ℕ) (i : RExpr) → P i → P (e.Element x i)
  pub one : (op : Un) (a : RExpr) → P a → P (e.One op a)
  pub two : (op : Bin) (a b : RExpr) → P a → P b → P (e.Two op a b)

module _ (P : RExpr → Type 0) (c : ExprCases P) where
  layer : (X : Type 0) (f : X → RExpr) → ((d : X) → P (f d)) → (y : RExpr-F X) → P (roll-RExpr (map-RExpr X RExpr f y))
  layer X f h (RExpr-F.Number v) = subst P (sym (e.rolls-Number v)) (c.number v)
  layer X f h (RExpr-F.Var x) = subst P (sym (e.rolls-Var x)) (c.var x)
  layer X f h (RExpr-F.Element x i) = subst P (sym (e.rolls-Element x (f i))) (c.element x (f i) (h i))
  layer X f h (RExpr-F.One op a) = subst P (sym (e.rolls-One op (f a))) (c.one op (f a) (h a))
  layer X f h (RExpr-F.Two op a b) = subst P (sym (e.rolls-Two op (f a) (f b))) (c.two op (f a) (f b) (h a) (h b))

  pub expr_induct : (x : RExpr) → P x
  expr_induct x = ind-RExpr P (λ x y q. subst (λ l. P (roll-RExpr l)) q (layer _ (λ d. d.0) (λ d. d.1) y)) x
