-- The canonical text of a tree: a statement a line, no indentation, and no parentheses but those that the levels ask for.
use Rattle.std.specs.Prelude.{ℕ, suc, List, [], ◌∷◌, ◌++◌, nat_lt, if◌then◌else◌, codes, map}
use Rattle.std.specs.Fmt.{signed_decimal}
use Rattle.src_lexer.specs.declared.token.Symbol.{Symbol}
use Rattle.src_lexer.specs.Symbols.{spelling}
use Rattle.src_tree.specs.declared.tree.Expr.{Expr, Expr-F}
use Rattle.src_tree.specs.declared.tree.Expr.TheFolds.{fold-Expr}
use Rattle.src_tree.specs.declared.tree.Stmt.{Stmt, Stmt-F}
use Rattle.src_tree.specs.declared.tree.Stmt.TheFolds.{fold-Stmt}
use Rattle.src_tree.specs.declared.tree.Decl.{Decl}
use Rattle.src_tree.specs.declared.tree.Decl.TheVariants as d
use Rattle.src_tree.specs.declared.tree.Program.{Program}
use Rattle.src_tree.specs.Operators.{level, operand, bin_symbol, un_symbol}

-- the text of an expression, and the level of its loosest operator
pub record Text : Type 0 where
  pub level : ℕ
  pub bytes : List ℕ

-- an operand that is to bind at least so tightly: in parentheses where it is looser
abbrev pub tight : ℕ → Text → List ℕ
tight least t = if nat_lt t.level least then codes "(" ++ t.bytes ++ codes ")" else t.bytes

-- a symbol with a blank on each side
abbrev pub spaced : Symbol → List ℕ
spaced k = codes " " ++ spelling k ++ codes " "

-- A binary operator has a blank on each side. Its left operand may be of its own level, its right one is to be tighter.
abbrev pub text_step : Expr-F Text → Text
text_step (Expr-F.Number v) = record { level = operand; bytes = signed_decimal v }
text_step (Expr-F.Var n) = record { level = operand; bytes = n.text }
text_step (Expr-F.Element n i) = record { level = operand; bytes = n.text ++ codes "[" ++ i.bytes ++ codes "]" }
text_step (Expr-F.One op a) = record { level = operand; bytes = spelling (un_symbol op) ++ tight operand a }
text_step (Expr-F.Two op a b) = record {
  level = level op;
  bytes = tight (level op) a ++ spaced (bin_symbol op) ++ tight (suc (level op)) b;
}

-- the text of an expression, by the texts of its parts
unfoldable pub text_of : Expr → Text
text_of = fold-Expr Text text_step

abbrev pub expr_text : Expr → List ℕ
expr_text x = (text_of x).bytes

-- texts one behind the other
abbrev pub joined : List (List ℕ) → List ℕ
joined [] = []
joined (t ∷ ts) = t ++ joined ts

abbrev pub stmt_step : Stmt-F (List ℕ) → List ℕ
stmt_step (Stmt-F.Assign n x) = n.text ++ codes " = " ++ expr_text x ++ codes ";\n"
stmt_step (Stmt-F.SetElement n i x) = n.text ++ codes "[" ++ expr_text i ++ codes "] = " ++ expr_text x ++ codes ";\n"
stmt_step (Stmt-F.Print x) = codes "print " ++ expr_text x ++ codes ";\n"
stmt_step (Stmt-F.If c ys ns) = codes "if " ++ expr_text c ++ codes " {\n" ++ joined ys ++ codes "} else {\n" ++ joined ns ++ codes "}\n"
stmt_step (Stmt-F.While c ss) = codes "while " ++ expr_text c ++ codes " {\n" ++ joined ss ++ codes "}\n"

-- the text of a statement, by the texts of the statements in it
unfoldable pub stmt_text : Stmt → List ℕ
stmt_text = fold-Stmt (List ℕ) stmt_step

abbrev pub body_text : List Stmt → List ℕ
body_text ss = joined (map stmt_text ss)

abbrev pub decl_text : Decl → List ℕ
decl_text (d.Var n v) = codes "var " ++ n.text ++ codes " = " ++ signed_decimal v ++ codes ";\n"
decl_text (d.Array n v) = codes "array " ++ n.text ++ codes "[" ++ signed_decimal v ++ codes "];\n"

abbrev pub program_text : Program → List ℕ
program_text p = joined (map decl_text p.decls) ++ body_text p.body
