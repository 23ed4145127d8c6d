-- Symbols by their bytes, both ways.
use Rattle.std.proofs.Common.{◌≡◌, ℕ, ◌<◌, ◌≤◌, Bool, true, false, List, [], ◌∷◌, length, get_or, Option, Some, None, refl, ap, sym, ◌∙◌, lit≤, arith}
use Rattle.std.proofs.lemmas.Slice.Eq.{bytes_eq-Decides}
use Rattle.std.specs.Prelude.{if◌then◌else◌}
use Rattle.std.specs.Str.{bytes_eq}
use Rattle.src_lexer.specs.declared.token.TheConstants.{SYMBOLS}
use Rattle.src_lexer.specs.declared.token.Symbol.{Symbol}
use Rattle.src_lexer.specs.declared.token.Symbol.TheVariants as y
use Rattle.src_lexer.specs.Symbols.{spelling}

-- the first of these symbols that is written so, if any
abbrev search : List ℕ → List Symbol → Option Symbol
search bs [] = None
search bs (k ∷ ks) = if bytes_eq bs (spelling k) then Some k else search bs ks

-- the symbol that is written so, if any
abbrev pub symbol_of : List ℕ → Option Symbol
symbol_of bs = search bs SYMBOLS

pub symbol_of-spelling : (k : Symbol) → symbol_of (spelling k) ≡ Some k
symbol_of-spelling y.Semi = refl
symbol_of-spelling y.Assign = refl
symbol_of-spelling y.LBracket = refl
symbol_of-spelling y.RBracket = refl
symbol_of-spelling y.LBrace = refl
symbol_of-spelling y.RBrace = refl
symbol_of-spelling y.LParen = refl
symbol_of-spelling y.RParen = refl
symbol_of-spelling y.Or = refl
symbol_of-spelling y.Xor = refl
symbol_of-spelling y.And = refl
symbol_of-spelling y.Eq = refl
symbol_of-spelling y.Ne = refl
symbol_of-spelling y.Lt = refl
symbol_of-spelling y.Le = refl
symbol_of-spelling y.Gt = refl
symbol_of-spelling y.Ge = refl
symbol_of-spelling y.Shl = refl
symbol_of-spelling y.Shr = refl
symbol_of-spelling y.Add = refl
symbol_of-spelling y.Sub = refl
symbol_of-spelling y.Mul = refl
symbol_of-spelling y.Div = refl
symbol_of-spelling y.Rem = refl
symbol_of-spelling y.Not = refl

pub short : (k : Symbol) → length (spelling k) ≤ 2
short y.Semi = lit≤ tt
short y.Assign = lit≤ tt
short y.LBracket = lit≤ tt
short y.RBracket = lit≤ tt
short y.LBrace = lit≤ tt
short y.RBrace = lit≤ tt
short y.LParen = lit≤ tt
short y.RParen = lit≤ tt
short y.Or = lit≤ tt
short y.Xor = lit≤ tt
short y.And = lit≤ tt
short y.Eq = lit≤ tt
short y.Ne = lit≤ tt
short y.Lt = lit≤ tt
short y.Le = lit≤ tt
short y.Gt = lit≤ tt
short y.Ge = lit≤ tt
short y.Shl = lit≤ tt
short y.Shr = lit≤ tt
short y.Add = lit≤ tt
short y.Sub = lit≤ tt
short y.Mul = lit≤ tt
short y.Div = lit≤ tt
short y.Rem = lit≤ tt
short y.Not = lit≤ tt

-- a symbol's place in the table
pub record Listed (k : Symbol) : Type 0 where
  pub at : ℕ
  pub low : at < 25
  pub is : get_or SYMBOLS at y.Semi ≡ k

pub listed : (k : Symbol) → Listed k
listed y.Semi = record { at = 0; low = omega arith; is = refl }
listed y.Assign = record { at = 1; low = omega arith; is = refl }
listed y.LBracket = record { at = 2; low = omega arith; is = refl }
listed y.RBracket = record { at = 3; low = omega arith; is = refl }
listed y.LBrace = record { at = 4; low = omega arith; is = refl }
listed y.RBrace = record { at = 5; low = omega arith; is = refl }
listed y.LParen = record { at = 6; low = omega arith; is = refl }
listed y.RParen = record { at = 7; low = omega arith; is = refl }
listed y.Or = record { at = 8; low = omega arith; is = refl }
listed y.Xor = record { at = 9; low = omega arith; is = refl }
listed y.And = record { at = 10; low = omega arith; is = refl }
listed y.Eq = record { at = 11; low = omega arith; is = refl }
listed y.Ne = record { at = 12; low = omega arith; is = refl }
listed y.Lt = record { at = 13; low = omega arith; is = refl }
listed y.Le = record { at = 14; low = omega arith; is = refl }
listed y.Gt = record { at = 15; low = omega arith; is = refl }
listed y.Ge = record { at = 16; low = omega arith; is = refl }
listed y.Shl = record { at = 17; low = omega arith; is = refl }
listed y.Shr = record { at = 18; low = omega arith; is = refl }
listed y.Add = record { at = 19; low = omega arith; is = refl }
listed y.Sub = record { at = 20; low = omega arith; is = refl }
listed y.Mul = record { at = 21; low = omega arith; is = refl }
listed y.Div = record { at = 22; low = omega arith; is = refl }
listed y.Rem = record { at = 23; low = omega arith; is = refl }
listed y.Not = record { at = 24; low = omega arith; is = refl }

written : (b : Bool) (k j : Symbol) (bs : List ℕ) (r : Option Symbol) → bytes_eq bs (spelling j) ≡ b → (r ≡ Some k → bs ≡ spelling k) →
    (if b then Some j else r) ≡ Some k → bs ≡ spelling k
written true k j bs r e f h = let x : j ≡ k = cc in (bytes_eq-Decides bs (spelling j)).0 e ∙ ap spelling x
written false k j bs r e f h = f h

searched : (bs : List ℕ) (ks : List Symbol) (k : Symbol) → search bs ks ≡ Some k → bs ≡ spelling k
searched bs [] k e = absurd cc
searched bs (j ∷ js) k e = written (bytes_eq bs (spelling j)) k j bs (search bs js) refl (searched bs js k) e

pub found : (bs : List ℕ) (k : Symbol) → symbol_of bs ≡ Some k → bs ≡ spelling k
found bs k e = searched bs SYMBOLS k e

pub not_found : (bs : List ℕ) → symbol_of bs ≡ None → (k : Symbol) → bs ≡ spelling k → ⊥
not_found bs e k h = let x : None ≡ Some k = sym e ∙ ap symbol_of h ∙ symbol_of-spelling k in cc

pub one_symbol : (bs : List ℕ) (j k : Symbol) → bs ≡ spelling j → bs ≡ spelling k → j ≡ k
one_symbol bs j k g h = let x : Some j ≡ Some k = sym (symbol_of-spelling j) ∙ ap symbol_of (sym g ∙ h) ∙ symbol_of-spelling k in cc

-- where no symbol of the table is written so, none is
pub none_of : (bs : List ℕ) → ((i : ℕ) → i < 25 → bs ≡ spelling (get_or SYMBOLS i y.Semi) → ⊥) → (k : Symbol) → bs ≡ spelling k → ⊥
none_of bs h k e = let l = listed k in h l.at l.low (e ∙ ap spelling (sym l.is))
