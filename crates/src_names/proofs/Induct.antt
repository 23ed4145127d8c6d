-- Induction over statements, by the cases of the source.
use Rattle.std.proofs.Common.{◌≡◌, ℕ, ◌<◌, ◌+◌, List, [], ◌∷◌, map, drop, length, get_or, ap, sym, ◌∙◌, subst}
use Rattle.std.proofs.lemmas.List.{drop_more}
use Rattle.src_names.specs.declared.resolved.RExpr.{RExpr}
use Rattle.src_names.specs.declared.resolved.RStmt.{RStmt, RStmt-F, roll-RStmt, map-RStmt}
use Rattle.src_names.specs.declared.resolved.RStmt.TheFolds.{ind-RStmt}
use Rattle.src_names.specs.declared.resolved.RStmt.TheVariants as s

-- a fact of each of the statements
pub data Each (P : RStmt → Type 0) : List RStmt → Type 0 where
  none : Each P []
  more : {z : RStmt} {zs : List RStmt} → P z → Each P zs → Each P (z ∷ zs)

pub record Cases (P : RStmt → Type 0) : Type 0 where
  pub assign : (x : ℕ) (v : RExpr) → P (s.Assign x v)
  pub set : (x : ℕ) (i v : RExpr) → P (s.SetElement x i v)
  pub print : (v : RExpr) → P (s.Print v)
  pub choose : (c : RExpr) (ones others : List RStmt) → Each P ones → Each P others → P (s.If c ones others)
  pub repeat : (c : RExpr) (body : List RStmt) → Each P body → P (s.While c body)

module _ (P : RStmt → Type 0) (c : Cases P) where
  each_of : (X : Type 0) (f : X → RStmt) → ((e : X) → P (f e)) → (es : List X) → Each P (map f es)
  each_of X f h [] = none
  each_of X f h (e ∷ es) = more (h e) (each_of X f h es)

  layer : (X : Type 0) (f : X → RStmt) → ((e : X) → P (f e)) → (y : RStmt-F X) → P (roll-RStmt (map-RStmt X RStmt f y))
  layer X f h (RStmt-F.Assign x v) = subst P (sym (s.rolls-Assign x v)) (c.assign x v)
  layer X f h (RStmt-F.SetElement x i v) = subst P (sym (s.rolls-SetElement x i v)) (c.set x i v)
  layer X f h (RStmt-F.Print v) = subst P (sym (s.rolls-Print v)) (c.print v)
  layer X f h (RStmt-F.If t ys ns) = subst P (sym (s.rolls-If t (map f ys) (map f ns))) (c.choose t (map f ys) (map f ns) (each_of X f h ys) (each_of X f h ns))
  layer X f h (RStmt-F.While t ys) = subst P (sym (s.rolls-While t (map f ys))) (c.repeat t (map f ys) (each_of X f h ys))

  pub induct : (z : RStmt) → P z
  induct z = ind-RStmt P (λ x y e. subst (λ l. P (roll-RStmt l)) e (layer _ (λ d. d.0) (λ d. d.1) y)) z

  pub induct_all : (zs : List RStmt) → Each P zs
  induct_all [] = none
  induct_all (z ∷ zs) = more (induct z) (induct_all zs)

-- what is left of statements from number i on
pub drop_first : (zs : List RStmt) (i : ℕ) (z : RStmt) → i < length zs → z ≡ get_or zs i z → drop i zs ≡ z ∷ drop (i + 1) zs
drop_first zs i z within is = drop_more zs i z within ∙ ap (λ y. y ∷ drop (i + 1) zs) (sym is)
