-- Plain trees, whose text can be read again.
use Rattle.std.specs.Prelude.{◌<◌, ◌≤◌, ◌^◌, ◌+◌, ◌-◌, ℤ, pos, negsuc, List, [], ◌∷◌, length}
use Rattle.bm_base.specs.declared.word.Un.{Un}
use Rattle.bm_base.specs.declared.word.Bin.{Bin}
use Rattle.bm_base.specs.declared.limits.TheConstants.{MOST_NAME_BYTES}
use Rattle.src_lexer.specs.declared.token.Token.{Token}
use Rattle.src_lexer.specs.Spell.{Spells}
use Rattle.src_lexer.specs.Laws.{IsNameText}
use Rattle.src_tree.specs.declared.tree.Ident.{Ident}
use Rattle.src_tree.specs.declared.tree.Expr.{Expr}
use Rattle.src_tree.specs.declared.tree.Expr.TheVariants as e
use Rattle.src_tree.specs.declared.tree.Stmt.{Stmt}
use Rattle.src_tree.specs.declared.tree.Stmt.TheVariants as s
use Rattle.src_tree.specs.declared.tree.Decl.{Decl}
use Rattle.src_tree.specs.declared.tree.Decl.TheVariants as d
use Rattle.src_tree.specs.declared.tree.Program.{Program}
use Rattle.src_tree.specs.Text.{program_text}
use Rattle.src_tree.specs.Limits.{KeepsLimits}

-- a name that is not reserved, of at most MOST_NAME_BYTES bytes
pub record IsName (n : Ident) : Type 0 where
  pub text : IsNameText n.text
  pub short : length n.text ≤ MOST_NAME_BYTES

-- a word that is 0 or more
abbrev pub IsCount : ℤ → Type 0
IsCount (pos n) = n < 2 ^ 63
IsCount (negsuc n) = ⊥

-- a word above -2^63; `negsuc n` is -(n + 1)
abbrev pub IsInitial : ℤ → Type 0
IsInitial (pos n) = n < 2 ^ 63
IsInitial (negsuc n) = n + 1 < 2 ^ 63

-- each identifier is a name, each number is 0 or more
pub data IsPlainExpr : Expr → Type 0 where
  number : {v : ℤ} → IsCount v → IsPlainExpr (e.Number v)
  var : {n : Ident} → IsName n → IsPlainExpr (e.Var n)
  element : {n : Ident} {i : Expr} → IsName n → IsPlainExpr i → IsPlainExpr (e.Element n i)
  one : {op : Un} {a : Expr} → IsPlainExpr a → IsPlainExpr (e.One op a)
  two : {op : Bin} {a b : Expr} → IsPlainExpr a → IsPlainExpr b → IsPlainExpr (e.Two op a b)

mutual
  pub data IsPlainStmt : Stmt → Type 0 where
    assign : {n : Ident} {x : Expr} → IsName n → IsPlainExpr x → IsPlainStmt (s.Assign n x)
    set : {n : Ident} {i x : Expr} → IsName n → IsPlainExpr i → IsPlainExpr x → IsPlainStmt (s.SetElement n i x)
    print : {x : Expr} → IsPlainExpr x → IsPlainStmt (s.Print x)
    choose : {c : Expr} {ys ns : List Stmt} → IsPlainExpr c → IsPlainBody ys → IsPlainBody ns → IsPlainStmt (s.If c ys ns)
    repeat : {c : Expr} {body : List Stmt} → IsPlainExpr c → IsPlainBody body → IsPlainStmt (s.While c body)

  pub data IsPlainBody : List Stmt → Type 0 where
    none : IsPlainBody []
    more : {st : Stmt} {body : List Stmt} → IsPlainStmt st → IsPlainBody body → IsPlainBody (st ∷ body)

-- an array's length is 0 or more, an initial value is above -2^63
abbrev pub IsPlainDecl : Decl → Type 0
IsPlainDecl (d.Var n v) = IsName n × IsInitial v
IsPlainDecl (d.Array n v) = IsName n × IsCount v

abbrev pub ArePlainDecls : List Decl → Type 0
ArePlainDecls [] = Unit {0}
ArePlainDecls (x ∷ ds) = IsPlainDecl x × ArePlainDecls ds

-- a plain tree: its text is short enough, and keeps the limits
pub record IsPlain (p : Program) : Type 0 where
  pub decls : ArePlainDecls p.decls
  pub body : IsPlainBody p.body
  pub short : length (program_text p) < 2 ^ 32 - 1
  pub limits : (ts : List Token) → Spells (program_text p) 0 ts → KeepsLimits ts
