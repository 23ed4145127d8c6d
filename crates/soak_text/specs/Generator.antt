-- The program that a seed gives.
use Rattle.std.specs.Prelude.{ℕ, zero, suc, ◌+◌, ◌-◌, pos, List, [], ◌∷◌, ◌++◌, nat_lt, nat_eq, if◌then◌else◌, get_or}
use Rattle.bm_base.specs.declared.word.Un.{Un}
use Rattle.bm_base.specs.declared.word.Un.TheVariants as un
use Rattle.bm_base.specs.declared.word.Bin.{Bin}
use Rattle.bm_base.specs.declared.word.Bin.TheVariants as bin
use Rattle.src_tree.specs.declared.tree.Ident.{Ident}
use Rattle.src_tree.specs.declared.tree.Expr.{Expr}
use Rattle.src_tree.specs.declared.tree.Expr.TheVariants as e
use Rattle.src_tree.specs.declared.tree.Stmt.{Stmt}
use Rattle.src_tree.specs.declared.tree.Stmt.TheVariants as s
use Rattle.src_tree.specs.declared.tree.Decl.{Decl}
use Rattle.src_tree.specs.declared.tree.Decl.TheVariants as d
use Rattle.src_tree.specs.declared.tree.Program.{Program}
use Rattle.soak_text.specs.Draws.{Draw, ◌>>=◌, give, below}

-- `v0` to `v7`, `a0`, `a1`, `l0`, `l1`: the letter is a byte
abbrev pub named : ℕ → ℕ → Ident
named letter k = record { text = letter ∷ (48 + k) ∷ []; at = 0 }

abbrev pub v : ℕ → Ident
v = named 118

abbrev pub a : ℕ → Ident
a = named 97

abbrev pub l : ℕ → Ident
l = named 108

abbrev pub number : ℕ → Expr
number k = e.Number (pos k)

-- a number below n
abbrev pub number_below : ℕ → Draw Expr
number_below n = do
  k ← below n
  give (number k)

-- one of the eight variables
abbrev pub variable : Draw Ident
variable = do
  k ← below 8
  give (v k)

abbrev pub use_of : Draw Ident → Draw Expr
use_of name = do
  n ← name
  give (e.Var n)

-- one of the two arrays
abbrev pub array : Draw Ident
array = do
  k ← below 2
  give (a k)

-- an index: a number, perhaps just behind the array's end, or a variable
unfoldable pub index : Draw Expr
index = do
  kind ← below 2
  if nat_eq kind 0 then number_below 18 else use_of variable

abbrev pub element : Draw Expr
element = do
  n ← array
  i ← index
  give (e.Element n i)

-- an expression without operators, of a kind: a number, a variable or an element
unfoldable pub leaf : ℕ → Draw Expr
leaf kind =
    if nat_eq kind 0 then number_below 100 else (if nat_eq kind 1 then use_of variable else element)

abbrev pub sign : ℕ → Un
sign k = if nat_eq k 0 then un.Neg else un.Not

-- the binary operators, in order
abbrev pub operators : List Bin
operators =
    bin.Or ∷ bin.Xor ∷ bin.And ∷ bin.Eq ∷ bin.Ne ∷ bin.Lt ∷ bin.Le ∷ bin.Gt ∷ bin.Ge ∷
    bin.Shl ∷ bin.Shr ∷ bin.Add ∷ bin.Sub ∷ bin.Mul ∷ bin.Div ∷ bin.Rem ∷ []

unfoldable pub operator : ℕ → Bin
operator k = get_or operators k bin.Or

abbrev pub unary : Draw Expr → Draw Expr
unary operand = do
  k ← below 2
  x ← operand
  give (e.One (sign k) x)

abbrev pub binary : Draw Expr → Draw Expr
binary operand = do
  k ← below 16
  x ← operand
  z ← operand
  give (e.Two (operator k) x z)

-- an expression of at most n operators one in another
unfoldable pub expr : ℕ → Draw Expr
expr zero = do
  kind ← below 3
  leaf kind
expr (suc n) = do
  kind ← below 6
  if nat_lt kind 3 then leaf kind else (if nat_eq kind 3 then unary (expr n) else binary (expr n))

abbrev pub assign : Draw Stmt
assign = do
  n ← variable
  x ← expr 3
  give (s.Assign n x)

abbrev pub set_element : Draw Stmt
set_element = do
  n ← array
  i ← index
  x ← expr 3
  give (s.SetElement n i x)

abbrev pub print : Draw Stmt
print = do
  x ← expr 3
  give (s.Print x)

-- a statement without a body, of a kind
unfoldable pub plain : ℕ → Draw Stmt
plain kind = if nat_lt kind 5 then assign else (if nat_lt kind 7 then set_element else print)

abbrev pub one : Draw Stmt → Draw (List Stmt)
one stmt = do
  x ← stmt
  give (x ∷ [])

-- so many items, one behind the other
unfoldable pub several : ℕ → Draw (List Stmt) → Draw (List Stmt)
several zero item = give []
several (suc n) item = do
  xs ← several n item
  ys ← item
  give (xs ++ ys)

-- one to three items
abbrev pub body : Draw (List Stmt) → Draw (List Stmt)
body item = do
  n ← below 3
  several (1 + n) item

abbrev pub choose : Draw (List Stmt) → Draw Stmt
choose item = do
  c ← expr 2
  xs ← body item
  ys ← body item
  give (s.If c xs ys)

-- `n = 0;`, and a loop of one to four turns, which `n` counts
abbrev pub repeat : Ident → Draw (List Stmt) → Draw (List Stmt)
repeat n item = do
  k ← below 4
  xs ← body item
  give (s.Assign n (number 0) ∷ s.While (e.Two bin.Lt (e.Var n) (number (1 + k)))
      (xs ++ s.Assign n (e.Two bin.Add (e.Var n) (number 1)) ∷ []) ∷ [])

-- An item, which is a statement or a loop behind the statement that begins its count. Bodies may stand in it to this many levels.
unfoldable pub item : ℕ → Draw (List Stmt)
item zero = one do kind ← below 8; plain kind
item (suc levels) = do
  kind ← below 10
  if nat_lt kind 8 then one (plain kind) else (if nat_eq kind 8 then one (choose (item levels)) else repeat (l (1 - levels)) (item levels))

-- `v0` and those behind it, with the initial values from 1 on
abbrev pub variables : ℕ → List Decl
variables zero = []
variables (suc k) = variables k ++ d.Var (v k) (pos (1 + k)) ∷ []

-- `v0` to `v7`, the arrays `a0` and `a1` of 16 elements, and the counts of loops
abbrev pub decls : List Decl
decls = variables 8 ++ d.Array (a 0) (pos 16) ∷ d.Array (a 1) (pos 16) ∷ d.Var (l 0) (pos 0) ∷ d.Var (l 1) (pos 0) ∷ []

-- the program that this seed gives, with so many items
abbrev pub generated : ℕ → ℕ → Program
generated seed statements = record { decls = decls; body = (several statements (item 2) seed).0 }
