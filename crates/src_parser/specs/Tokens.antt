-- What the parser's steps ask of a token.
use Rattle.std.specs.Prelude.{◌≤ℤ◌, pos}
use Rattle.src_lexer.specs.declared.token.TokenKind.{TokenKind}
use Rattle.src_lexer.specs.declared.token.TokenKind.TheVariants.{Number}
use Rattle.src_lexer.specs.declared.token.Token.{Token}

-- a number is 0 or more, as it is read from digits
abbrev pub IsPlainKind : TokenKind → Type 0
IsPlainKind (Number v) = pos 0 ≤ℤ v
IsPlainKind _ = Unit {0}

abbrev pub IsPlain : Token → Type 0
IsPlain t = IsPlainKind t.kind
