-- Parts of what suits a memory.
use Rattle.std.proofs.Common.{◌≡◌, ℕ, List, [], ◌∷◌, refl, ap, sym, ◌∙◌, subst}
use Rattle.bm_base.specs.Entry.{Entry}
use Rattle.bm_base.specs.Memory.{Content, IsVariable, IsArray}
use Rattle.bm_base.specs.Memories.{IsMemoryOf}
use Rattle.src_names.specs.Right.{RightExpr, RightStmt, RightBody}
use Rattle.bm_base.specs.Names.{IsVariableOf, IsArrayOf}
use Rattle.src_names.specs.Right as r
use Rattle.src_names.specs.declared.resolved.RExpr.{RExpr, RExpr-F}
use Rattle.src_names.specs.declared.resolved.RExpr.TheViews.{out-RExpr}
use Rattle.src_names.specs.declared.resolved.RExpr.TheVariants as e
use Rattle.src_names.specs.declared.resolved.RStmt.{RStmt, RStmt-F}
use Rattle.src_names.specs.declared.resolved.RStmt.TheViews.{out-RStmt}
use Rattle.src_names.specs.declared.resolved.RStmt.TheVariants as s
use Rattle.src_meaning.specs.Evaluates.{SuitsExpr, SuitsStmt, SuitsBody}
use Rattle.src_meaning.proofs.Named.{IsVariable-named, IsArray-named}

module _ (names : List Entry) where
  -- what is right of the layer of an expression
  abbrev pub ExprLayer : RExpr-F RExpr → Type 0
  ExprLayer (RExpr-F.Number v) = Unit {0}
  ExprLayer (RExpr-F.Var x) = IsVariableOf names x
  ExprLayer (RExpr-F.Element x i) = IsArrayOf names x × RightExpr names i
  ExprLayer (RExpr-F.One op a) = RightExpr names a
  ExprLayer (RExpr-F.Two op a b) = RightExpr names a × RightExpr names b

  expr_layer : {z : RExpr} → RightExpr names z → ExprLayer (out-RExpr z)
  expr_layer (r.number {v = v}) = rw (e.outs-Number v) tt
  expr_layer (r.var {id = x} d) = rw (e.outs-Var x) d
  expr_layer (r.element {id = x} {i = i} d h) = rw (e.outs-Element x i) (d, h)
  expr_layer (r.one {op = op} {a = a} h) = rw (e.outs-One op a) h
  expr_layer (r.two {op = op} {a = a} {b = b} h k) = rw (e.outs-Two op a b) (h, k)

  pub expr_layer_of : (z w : RExpr) (y : RExpr-F RExpr) → z ≡ w → out-RExpr w ≡ y → RightExpr names z → ExprLayer y
  expr_layer_of z w y is o h = subst ExprLayer (ap out-RExpr is ∙ o) (expr_layer h)

  -- what is right of the layer of a statement
  abbrev pub StmtLayer : RStmt-F RStmt → Type 0
  StmtLayer (RStmt-F.Assign x v) = IsVariableOf names x × RightExpr names v
  StmtLayer (RStmt-F.SetElement x i v) = IsArrayOf names x × RightExpr names i × RightExpr names v
  StmtLayer (RStmt-F.Print v) = RightExpr names v
  StmtLayer (RStmt-F.If c ys ns) = RightExpr names c × RightBody names ys × RightBody names ns
  StmtLayer (RStmt-F.While c ys) = RightExpr names c × RightBody names ys

  stmt_layer : {z : RStmt} → RightStmt names z → StmtLayer (out-RStmt z)
  stmt_layer (r.assign {id = x} {x = v} d h) = rw (s.outs-Assign x v) (d, h)
  stmt_layer (r.set {id = x} {i = i} {x = v} d h k) = rw (s.outs-SetElement x i v) (d, h, k)
  stmt_layer (r.print {x = v} h) = rw (s.outs-Print v) h
  stmt_layer (r.choose {x = c} {ys = ys} {ns = ns} h k l) = rw (s.outs-If c ys ns) (h, k, l)
  stmt_layer (r.repeat {x = c} {ys = ys} h k) = rw (s.outs-While c ys) (h, k)

  pub stmt_layer_of : (z w : RStmt) (y : RStmt-F RStmt) → z ≡ w → out-RStmt w ≡ y → RightStmt names z → StmtLayer y
  stmt_layer_of z w y is o h = subst StmtLayer (ap out-RStmt is ∙ o) (stmt_layer h)

  abbrev BodyLayer : List RStmt → Type 0
  BodyLayer [] = Unit {0}
  BodyLayer (z ∷ zs) = RightStmt names z × RightBody names zs

  body_layer : {zs : List RStmt} → RightBody names zs → BodyLayer zs
  body_layer r.none = tt
  body_layer (r.more h k) = (h, k)

  pub body_layer_of : (zs : List RStmt) (z : RStmt) (rest : List RStmt) → zs ≡ z ∷ rest → RightBody names zs → RightStmt names z × RightBody names rest
  body_layer_of zs z rest is h = subst BodyLayer is (body_layer h)

pub suits-var : (x : RExpr) (v : ℕ) (memory : List Content) → x ≡ e.Var v → SuitsExpr x memory → IsVariable memory v
suits-var x v memory is t = IsVariable-named t.names memory v (expr_layer_of t.names x (e.Var v) (RExpr-F.Var v) is (e.outs-Var v) t.right) t.holds

pub suits-array : (x : RExpr) (v : ℕ) (i : RExpr) (memory : List Content) → x ≡ e.Element v i → SuitsExpr x memory → IsArray memory v
suits-array x v i memory is t = IsArray-named t.names memory v (expr_layer_of t.names x (e.Element v i) (RExpr-F.Element v i) is (e.outs-Element v i) t.right).0 t.holds

pub suits-assigned : (x : ℕ) (v : RExpr) (memory : List Content) → SuitsStmt (s.Assign x v) memory → IsVariable memory x
suits-assigned x v memory t = IsVariable-named t.names memory x (stmt_layer_of t.names (s.Assign x v) (s.Assign x v) (RStmt-F.Assign x v) refl (s.outs-Assign x v) t.right).0 t.holds

pub suits-set : (x : ℕ) (i v : RExpr) (memory : List Content) → SuitsStmt (s.SetElement x i v) memory → IsArray memory x
suits-set x i v memory t = IsArray-named t.names memory x (stmt_layer_of t.names (s.SetElement x i v) (s.SetElement x i v) (RStmt-F.SetElement x i v) refl (s.outs-SetElement x i v) t.right).0 t.holds

pub suits-is : (z w : RStmt) (memory : List Content) → z ≡ w → SuitsStmt z memory → SuitsStmt w memory
suits-is z w memory is t = subst (λ y. SuitsStmt y memory) is t

pub suits-print : (z : RStmt) (v : RExpr) (memory : List Content) → z ≡ s.Print v → SuitsStmt z memory → SuitsExpr v memory
suits-print z v memory is t = record { names = t.names; right = stmt_layer_of t.names z (s.Print v) (RStmt-F.Print v) is (s.outs-Print v) t.right; holds = t.holds }

-- the test and the body of a loop
pub record SuitsWhile (c : RExpr) (body : List RStmt) (memory : List Content) : Type 0 where
  pub suits_test : SuitsExpr c memory
  pub suits_body : SuitsBody body memory

pub suits-while : (z : RStmt) (c : RExpr) (body : List RStmt) (memory : List Content) → z ≡ s.While c body → SuitsStmt z memory → SuitsWhile c body memory
suits-while z c body memory is t =
    let l = stmt_layer_of t.names z (s.While c body) (RStmt-F.While c body) is (s.outs-While c body) t.right in
    record {
      suits_test = record { names = t.names; right = l.0; holds = t.holds };
      suits_body = record { names = t.names; right = l.1; holds = t.holds };
    }

-- what suits a memory suits another of the same names
pub suits-while-kept : (c : RExpr) (body : List RStmt) (old now : List Content) → ((names : List Entry) → IsMemoryOf names old → IsMemoryOf names now) → SuitsWhile c body old → SuitsWhile c body now
suits-while-kept c body old now k t = record {
  suits_test = record { names = t.suits_test.names; right = t.suits_test.right; holds = k t.suits_test.names t.suits_test.holds };
  suits_body = record { names = t.suits_body.names; right = t.suits_body.right; holds = k t.suits_body.names t.suits_body.holds };
}

-- the test and the bodies of an `if`
pub record SuitsIf (c : RExpr) (ones others : List RStmt) (memory : List Content) : Type 0 where
  pub suits_test : SuitsExpr c memory
  pub suits_ones : SuitsBody ones memory
  pub suits_others : SuitsBody others memory

pub suits-if : (z : RStmt) (c : RExpr) (ones others : List RStmt) (memory : List Content) → z ≡ s.If c ones others → SuitsStmt z memory → SuitsIf c ones others memory
suits-if z c ones others memory is t =
    let l = stmt_layer_of t.names z (s.If c ones others) (RStmt-F.If c ones others) is (s.outs-If c ones others) t.right in
    record {
      suits_test = record { names = t.names; right = l.0; holds = t.holds };
      suits_ones = record { names = t.names; right = l.1; holds = t.holds };
      suits_others = record { names = t.names; right = l.2; holds = t.holds };
    }

pub suits-first : (zs : List RStmt) (z : RStmt) (rest : List RStmt) (memory : List Content) → zs ≡ z ∷ rest → SuitsBody zs memory → SuitsStmt z memory
suits-first zs z rest memory is t = record { names = t.names; right = (body_layer_of t.names zs z rest is t.right).0; holds = t.holds }

-- behind the first statement, in another memory of the same names
pub suits-rest : (zs : List RStmt) (z : RStmt) (rest : List RStmt) (old now : List Content) → zs ≡ z ∷ rest → ((names : List Entry) → IsMemoryOf names old → IsMemoryOf names now) → SuitsBody zs old → SuitsBody rest now
suits-rest zs z rest old now is k t = record { names = t.names; right = (body_layer_of t.names zs z rest is t.right).1; holds = k t.names t.holds }

pub suits-body-is : (zs body : List RStmt) (memory : List Content) → zs ≡ body → SuitsBody body memory → SuitsBody zs memory
suits-body-is zs body memory is t = subst (λ l. SuitsBody l memory) (sym is) t
