-- The bytes of symbols and reserved words.
use Rattle.std.specs.Prelude.{ℕ, if◌then◌else◌, List, codes}
use Rattle.std.specs.Str.{bytes_eq}
use Rattle.src_lexer.specs.declared.token.Keyword.{Keyword}
use Rattle.src_lexer.specs.declared.token.Keyword.TheVariants as w
use Rattle.src_lexer.specs.declared.token.Symbol.{Symbol}
use Rattle.src_lexer.specs.declared.token.Symbol.TheVariants as y
use Rattle.src_lexer.specs.declared.token.TokenKind.{TokenKind}
use Rattle.src_lexer.specs.declared.token.TokenKind.TheVariants.{Name, Word}

-- how a symbol is written
abbrev pub spelling : Symbol → List ℕ
spelling y.Semi = codes ";"
spelling y.Assign = codes "="
spelling y.LBracket = codes "["
spelling y.RBracket = codes "]"
spelling y.LBrace = codes "{"
spelling y.RBrace = codes "}"
spelling y.LParen = codes "("
spelling y.RParen = codes ")"
spelling y.Or = codes "|"
spelling y.Xor = codes "^"
spelling y.And = codes "&"
spelling y.Eq = codes "=="
spelling y.Ne = codes "!="
spelling y.Lt = codes "<"
spelling y.Le = codes "<="
spelling y.Gt = codes ">"
spelling y.Ge = codes ">="
spelling y.Shl = codes "<<"
spelling y.Shr = codes ">>"
spelling y.Add = codes "+"
spelling y.Sub = codes "-"
spelling y.Mul = codes "*"
spelling y.Div = codes "/"
spelling y.Rem = codes "%"
spelling y.Not = codes "~"

-- how a reserved word is written
abbrev pub keyword : Keyword → List ℕ
keyword w.Var = codes "var"
keyword w.Array = codes "array"
keyword w.Print = codes "print"
keyword w.If = codes "if"
keyword w.Else = codes "else"
keyword w.While = codes "while"

-- what a row of name bytes is: a reserved word, or a name
abbrev pub word_of : List ℕ → TokenKind
word_of bytes =
    if bytes_eq bytes (keyword w.Var) then Word w.Var
    else (if bytes_eq bytes (keyword w.Array) then Word w.Array
    else (if bytes_eq bytes (keyword w.Print) then Word w.Print
    else (if bytes_eq bytes (keyword w.If) then Word w.If
    else (if bytes_eq bytes (keyword w.Else) then Word w.Else
    else (if bytes_eq bytes (keyword w.While) then Word w.While else Name)))))
