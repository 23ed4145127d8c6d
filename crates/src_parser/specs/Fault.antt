-- Which tokens could come, and the first fault. All of it is said by the grammar and the limits alone.
use Rattle.std.specs.Prelude.{◌≡◌, ℕ, ◌<◌, ◌≤◌, pos, List, [], ◌∷◌, ◌++◌, length}
use Rattle.bm_base.specs.declared.limits.TheConstants.{MOST_NODES, MOST_DEPTH}
use Rattle.src_lexer.specs.declared.token.Keyword.TheVariants as w
use Rattle.src_lexer.specs.declared.token.Symbol.{Symbol}
use Rattle.src_lexer.specs.declared.token.Symbol.TheVariants as y
use Rattle.src_lexer.specs.declared.token.TokenKind.{TokenKind}
use Rattle.src_lexer.specs.declared.token.TokenKind.TheVariants.{Name, Number, Word, Sym}
use Rattle.src_lexer.specs.declared.token.Token.{Token}
use Rattle.src_tree.specs.declared.tree.Program.{Program}
use Rattle.src_tree.specs.Grammar.{Is, Derives}
use Rattle.src_tree.specs.Limits.{depth, nodes, current, KeepsLimits}
use Rattle.src_parser.specs.declared.want.Want.{Want}
use Rattle.src_parser.specs.declared.want.Want.TheVariants as v
use Rattle.src_parser.specs.declared.fault.ParseFault.{ParseFault}
use Rattle.src_parser.specs.declared.fault.ParseFault.TheVariants as f

-- Of several symbols that could come, the first is named: ; ) ] { = [
abbrev pub rank : Symbol → ℕ
rank y.Semi = 0
rank y.RParen = 1
rank y.RBracket = 2
rank y.LBrace = 3
rank y.Assign = 4
rank y.LBracket = 5
rank _ = 6

-- the place of the first of the tokens
abbrev pub place_of_first : List Token → ℕ
place_of_first [] = 0
place_of_first (t ∷ ts) = t.at

module _ (src : List ℕ) where
  -- some program begins with these tokens
  pub record Begins (ts : List Token) : Type 0 where
    pub rest : List Token
    pub program : Program
    pub derives : Derives src (ts ++ rest) program

  -- some program goes on with such a token
  pub record GoesOn (ts : List Token) (k : TokenKind) : Type 0 where
    pub token : Token
    pub is : Is token k
    pub begins : Begins (ts ++ token ∷ [])

  -- Where no item could come: a name and a number are an expression; of a name alone, a number alone, or else a symbol.
  abbrev pub WantsPart : List Token → Want → Type 0
  WantsPart ts v.Item = ⊥
  WantsPart ts v.Name = GoesOn ts Name × ¬ GoesOn ts (Number (pos 0))
  WantsPart ts v.Number = GoesOn ts (Number (pos 0)) × ¬ GoesOn ts Name
  WantsPart ts v.Expr = GoesOn ts (Number (pos 0)) × GoesOn ts Name
  WantsPart ts (v.Sym k) =
      GoesOn ts (Sym k) × ¬ GoesOn ts Name × ¬ GoesOn ts (Number (pos 0)) × (rank k < 6)
      × ((j : Symbol) → rank j < rank k → ¬ GoesOn ts (Sym j))

  -- What is said to be wanted, by what could come. An item could come where `print` could.
  abbrev pub Wants : List Token → Want → Type 0
  Wants ts v.Item = GoesOn ts (Word w.Print)
  Wants ts want = ¬ GoesOn ts (Word w.Print) × WantsPart ts want

  -- The fault that stands behind the front: no program ends there; none goes on with the next token; one does, and the token would make
  -- the depth 65; else it would be its statement's 121st node.
  abbrev pub Here : List Token → List Token → ParseFault → Type 0
  Here front [] (f.Expected at what) = (at ≡ length src) × ((p : Program) → Derives src front p → ⊥) × Wants front what
  Here front (t ∷ ts) (f.Expected at what) = (at ≡ t.at) × ¬ Begins (front ++ t ∷ []) × Wants front what
  Here front (t ∷ ts) (f.TooDeep at) = (at ≡ t.at) × Begins (front ++ t ∷ []) × (MOST_DEPTH < depth (front ++ t ∷ []))
  Here front (t ∷ ts) (f.TooManyNodes at first) =
      (at ≡ t.at) × (first ≡ place_of_first (current (front ++ t ∷ []))) × Begins (front ++ t ∷ [])
      × (depth (front ++ t ∷ []) ≤ MOST_DEPTH) × (MOST_NODES < nodes (front ++ t ∷ []))
  Here front _ _ = ⊥

  -- The first fault of the tokens: some program begins with those before it, and they keep the limits.
  pub record Faults (ts : List Token) (fault : ParseFault) : Type 0 where
    pub front : List Token
    pub back : List Token
    pub split : ts ≡ front ++ back
    pub begins : Begins front
    pub limits : KeepsLimits front
    pub here : Here front back fault
