-- Private: the counts that are kept beside the state, of what is open and of the nodes of the statement that is read. No public clause
-- speaks of them.
use Rattle.std.specs.Prelude.{ℕ, ◌+◌, ◌-◌, Bool, true, false, List, [], ◌∷◌, if◌then◌else◌}
use Rattle.src_lexer.specs.declared.token.Symbol.{Symbol}
use Rattle.src_lexer.specs.declared.token.Symbol.TheVariants as y
use Rattle.src_lexer.specs.declared.token.TokenKind.{TokenKind}
use Rattle.src_lexer.specs.declared.token.TokenKind.TheVariants.{Name, Number, Word, Sym}
use Rattle.src_lexer.specs.declared.token.Token.{Token}
use Rattle.src_tree.specs.Limits.{is_border, node}
use Rattle.src_parser.specs.declared.tally.Tally.{Tally}

-- a bracket opens: the unary operators before it stay open outside
abbrev pub opened : Tally → Tally
opened t = record t { outer = t.signs ∷ t.outer; signs = 0; ended = false; depth = t.depth + 1 }

-- the innermost bracket closes
abbrev pub closed_to : List ℕ → Bool → Tally → Tally
closed_to [] ended t = record t { outer = []; signs = 0; ended = ended; depth = t.depth - t.signs }
closed_to (n ∷ ns) ended t = record t { outer = ns; signs = n; ended = ended; depth = (t.depth - t.signs) - 1 }

-- another symbol: the unary operators before it are complete
abbrev pub passed : Tally → Tally
passed t = record t { signs = 0; ended = false; depth = t.depth - t.signs }

-- a symbol that may be a unary operator
abbrev pub signed : Tally → Tally
signed t = if t.ended then passed t else record t { signs = t.signs + 1; ended = false; depth = t.depth + 1 }

abbrev pub symbol_opens : Symbol → Tally → Tally
symbol_opens y.LParen t = opened t
symbol_opens y.LBracket t = opened t
symbol_opens y.LBrace t = opened (passed t)
symbol_opens y.RParen t = closed_to t.outer true t
symbol_opens y.RBracket t = closed_to t.outer true t
symbol_opens y.RBrace t = closed_to t.outer false t
symbol_opens y.Sub t = signed t
symbol_opens y.Not t = signed t
symbol_opens _ t = passed t

abbrev pub opens : TokenKind → Tally → Tally
opens (Sym k) t = symbol_opens k t
opens (Word w) t = record t { ended = false }
opens Name t = record t { ended = true }
opens (Number v) t = record t { ended = true }

-- the first token of a statement is no node
abbrev pub counts : Token → Tally → Tally
counts token t =
    if is_border token.kind then record t { begun = false; first = 0; nodes = 0 }
    else (if t.begun then record t { nodes = t.nodes + node token.kind } else record t { begun = true; first = token.at; nodes = 0 })

-- one token more
abbrev pub tallied : Token → Tally → Tally
tallied token t = counts token (opens token.kind t)

abbrev pub nothing : Tally
nothing = record { outer = []; signs = 0; ended = false; depth = 0; begun = false; first = 0; nodes = 0 }
