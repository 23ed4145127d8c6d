-- The limits on depth and on a statement's nodes, as counts over tokens. They do not know the grammar. A declaration's tokens are
-- counted like a statement's, and are too few to come near a limit.
use Rattle.std.specs.Prelude.{◌≡◌, ℕ, ◌+◌, ◌≤◌, Bool, true, false, List, [], ◌∷◌, ◌++◌, length, if◌then◌else◌}
use Rattle.bm_base.specs.declared.limits.TheConstants.{MOST_NODES, MOST_DEPTH}
use Rattle.src_lexer.specs.declared.token.Symbol.{Symbol}
use Rattle.src_lexer.specs.declared.token.Symbol.TheVariants as y
use Rattle.src_lexer.specs.declared.token.TokenKind.{TokenKind}
use Rattle.src_lexer.specs.declared.token.TokenKind.TheVariants.{Name, Number, Word, Sym}
use Rattle.src_lexer.specs.declared.token.Token.{Token}

-- what is open: a bracket, or a unary operator whose operand is not complete
pub data Mark : Type 0 where
  Bracket : Mark
  Sign : Mark

-- what is open, the innermost first; and whether the last token ends an operand
pub record Open : Type 0 where
  pub marks : List Mark
  pub ended : Bool

abbrev pub without_signs : List Mark → List Mark
without_signs (Sign ∷ ms) = without_signs ms
without_signs ms = ms

abbrev pub outside : List Mark → List Mark
outside [] = []
outside (m ∷ ms) = ms

-- a symbol that opens a bracket, one that closes it, one that may be a unary operator, and any other
abbrev pub opened : Open → Open
opened o = record { marks = Bracket ∷ o.marks; ended = false }

abbrev pub closed : Bool → Open → Open
closed ended o = record { marks = outside (without_signs o.marks); ended = ended }

abbrev pub signed : Open → Open
signed o = if o.ended then record { marks = without_signs o.marks; ended = false } else record { marks = Sign ∷ o.marks; ended = false }

abbrev pub passed : Open → Open
passed o = record { marks = without_signs o.marks; ended = false }

-- A unary operator stays open up to the token behind its operand, since `[` may still follow a name. So at a token that completes
-- an operand the count may be too high, but never higher than at a token before it.
abbrev pub symbol_opens : Symbol → Open → Open
symbol_opens y.LParen o = opened o
symbol_opens y.LBracket o = opened o
symbol_opens y.LBrace o = opened (passed o)
symbol_opens y.RParen o = closed true o
symbol_opens y.RBracket o = closed true o
symbol_opens y.RBrace o = closed false o
symbol_opens y.Sub o = signed o
symbol_opens y.Not o = signed o
symbol_opens _ o = passed o

abbrev pub opens : TokenKind → Open → Open
opens (Sym k) o = symbol_opens k o
opens (Word w) o = record { marks = o.marks; ended = false }
opens Name o = record { marks = o.marks; ended = true }
opens (Number v) o = record { marks = o.marks; ended = true }

abbrev pub open_from : Open → List Token → Open
open_from o [] = o
open_from o (t ∷ ts) = open_from (opens t.kind o) ts

-- The depth at the last of the tokens: the brackets that are open, and the unary operators whose operand is not complete.
abbrev pub depth : List Token → ℕ
depth ts = length (open_from (record { marks = []; ended = false }) ts).marks

abbrev pub is_border : TokenKind → Bool
is_border (Sym y.Semi) = true
is_border (Sym y.LBrace) = true
is_border (Sym y.RBrace) = true
is_border _ = false

abbrev pub current_from : List Token → List Token → List Token
current_from now [] = now
current_from now (t ∷ ts) = current_from (if is_border t.kind then [] else now ++ t ∷ []) ts

-- the tokens of the statement that is read: those behind the last `;`, `{` or `}`
abbrev pub current : List Token → List Token
current ts = current_from [] ts

-- a number, a name and an operator are a node each
abbrev pub node : TokenKind → ℕ
node Name = 1
node (Number v) = 1
node (Sym y.Or) = 1
node (Sym y.Xor) = 1
node (Sym y.And) = 1
node (Sym y.Eq) = 1
node (Sym y.Ne) = 1
node (Sym y.Lt) = 1
node (Sym y.Le) = 1
node (Sym y.Gt) = 1
node (Sym y.Ge) = 1
node (Sym y.Shl) = 1
node (Sym y.Shr) = 1
node (Sym y.Add) = 1
node (Sym y.Sub) = 1
node (Sym y.Mul) = 1
node (Sym y.Div) = 1
node (Sym y.Rem) = 1
node (Sym y.Not) = 1
node _ = 0

abbrev pub nodes_in : List Token → ℕ
nodes_in [] = 0
nodes_in (t ∷ ts) = node t.kind + nodes_in ts

-- The first token of a statement is no node: a name that is assigned, or a word.
abbrev pub behind_first : List Token → ℕ
behind_first [] = 0
behind_first (t ∷ ts) = nodes_in ts

-- the nodes so far of the statement that is read
abbrev pub nodes : List Token → ℕ
nodes ts = behind_first (current ts)

-- the tokens keep the limits: depth 64, and 120 nodes a statement
abbrev pub KeepsLimits : List Token → Type 0
KeepsLimits ts = (front back : List Token) → ts ≡ front ++ back → (depth front ≤ MOST_DEPTH) × (nodes front ≤ MOST_NODES)
