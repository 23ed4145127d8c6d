-- The operators of expressions: their symbols, and how tightly they bind.
use Rattle.std.specs.Prelude.{ℕ, Option, Some, None}
use Rattle.bm_base.specs.declared.word.Un.{Un}
use Rattle.bm_base.specs.declared.word.Un.TheVariants as un
use Rattle.bm_base.specs.declared.word.Bin.{Bin}
use Rattle.bm_base.specs.declared.word.Bin.TheVariants as bin
use Rattle.src_lexer.specs.declared.token.Symbol.{Symbol}
use Rattle.src_lexer.specs.declared.token.Symbol.TheVariants as y

-- how tightly a binary operator binds: the loosest is 0
abbrev pub level : Bin → ℕ
level bin.Or = 0
level bin.Xor = 1
level bin.And = 2
level bin.Eq = 3
level bin.Ne = 3
level bin.Lt = 3
level bin.Le = 3
level bin.Gt = 3
level bin.Ge = 3
level bin.Shl = 4
level bin.Shr = 4
level bin.Add = 5
level bin.Sub = 5
level bin.Mul = 6
level bin.Div = 6
level bin.Rem = 6

-- the level of what no binary operator joins
abbrev pub operand : ℕ
operand = 7

-- the operator that a symbol is between two operands
abbrev pub binary : Symbol → Option Bin
binary y.Or = Some bin.Or
binary y.Xor = Some bin.Xor
binary y.And = Some bin.And
binary y.Eq = Some bin.Eq
binary y.Ne = Some bin.Ne
binary y.Lt = Some bin.Lt
binary y.Le = Some bin.Le
binary y.Gt = Some bin.Gt
binary y.Ge = Some bin.Ge
binary y.Shl = Some bin.Shl
binary y.Shr = Some bin.Shr
binary y.Add = Some bin.Add
binary y.Sub = Some bin.Sub
binary y.Mul = Some bin.Mul
binary y.Div = Some bin.Div
binary y.Rem = Some bin.Rem
binary _ = None

-- the operator that a symbol is before its operand
abbrev pub unary : Symbol → Option Un
unary y.Sub = Some un.Neg
unary y.Not = Some un.Not
unary _ = None

-- the symbol of a binary operator
abbrev pub bin_symbol : Bin → Symbol
bin_symbol bin.Or = y.Or
bin_symbol bin.Xor = y.Xor
bin_symbol bin.And = y.And
bin_symbol bin.Eq = y.Eq
bin_symbol bin.Ne = y.Ne
bin_symbol bin.Lt = y.Lt
bin_symbol bin.Le = y.Le
bin_symbol bin.Gt = y.Gt
bin_symbol bin.Ge = y.Ge
bin_symbol bin.Shl = y.Shl
bin_symbol bin.Shr = y.Shr
bin_symbol bin.Add = y.Add
bin_symbol bin.Sub = y.Sub
bin_symbol bin.Mul = y.Mul
bin_symbol bin.Div = y.Div
bin_symbol bin.Rem = y.Rem

-- the symbol of a unary operator
abbrev pub un_symbol : Un → Symbol
un_symbol un.Neg = y.Sub
un_symbol un.Not = y.Not
