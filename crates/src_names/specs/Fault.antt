-- The first fault of a program's declarations and uses.
use Rattle.std.specs.Prelude.{◌≡◌, ◌≢◌, ◌⊎◌, ℕ, ◌+◌, ◌-◌, ◌^◌, ◌<◌, ◌≤◌, min, ℤ, pos, List, [], ◌∷◌, ◌++◌, Some, slice_get, length, map}
use Rattle.bm_base.specs.declared.limits.TheConstants.{MOST_ELEMENTS, MOST_NAMES}
use Rattle.bm_base.specs.declared.names.Kind.TheVariants as k
use Rattle.bm_base.specs.Entry.{Entry}
use Rattle.bm_base.specs.Names.{element_total, AreInRange}
use Rattle.src_tree.specs.declared.tree.Ident.{Ident}
use Rattle.src_tree.specs.declared.tree.Expr.{Expr, Expr-F}
use Rattle.src_tree.specs.declared.tree.Expr.TheFolds.{fold-Expr}
use Rattle.src_tree.specs.declared.tree.Stmt.{Stmt, Stmt-F}
use Rattle.src_tree.specs.declared.tree.Stmt.TheFolds.{fold-Stmt}
use Rattle.src_tree.specs.declared.tree.Decl.{Decl}
use Rattle.src_tree.specs.declared.tree.Decl.TheVariants as d
use Rattle.src_tree.specs.declared.tree.Program.{Program}
use Rattle.src_names.specs.declared.fault.NameFault.{NameFault}
use Rattle.src_names.specs.declared.fault.NameFault.TheVariants as f
use Rattle.src_names.specs.Declarations.{AreDeclared, name_of}

-- a name used as a variable, or as an array
pub data Use : Type 0 where
  Plain : (name : Ident) → Use
  Indexed : (name : Ident) → Use

-- lists one behind the other
abbrev pub joined : List (List Use) → List Use
joined [] = []
joined (us ∷ rest) = us ++ joined rest

abbrev pub uses_step : Expr-F (List Use) → List Use
uses_step (Expr-F.Number v) = []
uses_step (Expr-F.Var n) = Plain n ∷ []
uses_step (Expr-F.Element n i) = Indexed n ∷ i
uses_step (Expr-F.One op a) = a
uses_step (Expr-F.Two op a b) = a ++ b

-- the uses of names in an expression, in the order of the text
unfoldable pub uses : Expr → List Use
uses = fold-Expr (List Use) uses_step

abbrev pub stmt_step : Stmt-F (List Use) → List Use
stmt_step (Stmt-F.Assign n x) = Plain n ∷ uses x
stmt_step (Stmt-F.SetElement n i x) = Indexed n ∷ (uses i ++ uses x)
stmt_step (Stmt-F.Print x) = uses x
stmt_step (Stmt-F.If c ys ns) = uses c ++ (joined ys ++ joined ns)
stmt_step (Stmt-F.While c ss) = uses c ++ joined ss

-- the uses in a statement and in its bodies
unfoldable pub stmt_uses : Stmt → List Use
stmt_uses = fold-Stmt (List Use) stmt_step

abbrev pub body_uses : List Stmt → List Use
body_uses body = joined (map stmt_uses body)

module _ (names : List Entry) where
  -- declared as a variable
  pub record AsVar (n : Ident) : Type 0 where
    pub id : ℕ
    pub initial : ℤ
    pub here : slice_get names id ≡ Some (record { name = n.text; kind = k.Var initial })

  -- declared as an array
  pub record AsArray (n : Ident) : Type 0 where
    pub id : ℕ
    pub len : ℕ
    pub here : slice_get names id ≡ Some (record { name = n.text; kind = k.Array len })

  -- not declared
  pub record IsFree (n : Ident) : Type 0 where
    pub none : (id : ℕ) (x : Entry) → slice_get names id ≡ Some x → x.name ≢ n.text

  -- a use is right: its name is declared, as what it is used as
  abbrev pub IsRightUse : Use → Type 0
  IsRightUse (Plain n) = AsVar n
  IsRightUse (Indexed n) = AsArray n

  abbrev pub AreRightUses : List Use → Type 0
  AreRightUses [] = Unit {0}
  AreRightUses (u ∷ us) = IsRightUse u × AreRightUses us

  -- the fault of a use: its name is not declared, or not as what it is used as
  pub data UseFault : Use → NameFault → Type 0 where
    unknown : {n : Ident} → IsFree n → UseFault (Plain n) (f.Unknown n.at)
    not_variable : {n : Ident} → AsArray n → UseFault (Plain n) (f.NotScalar n.at)
    unknown_array : {n : Ident} → IsFree n → UseFault (Indexed n) (f.Unknown n.at)
    not_array : {n : Ident} → AsVar n → UseFault (Indexed n) (f.NotArray n.at)

  -- the first fault of these uses: those before it are right
  pub record UsesFault (us : List Use) (fault : NameFault) : Type 0 where
    pub front : List Use
    pub here : Use
    pub back : List Use
    pub split : us ≡ front ++ here ∷ back
    pub right : AreRightUses front
    pub wrong : UseFault here fault

-- one of these declarations has the name, and its place is this
pub record DeclaredAt (front : List Decl) (n : Ident) (first : ℕ) : Type 0 where
  pub id : ℕ
  pub decl : Decl
  pub here : slice_get front id ≡ Some decl
  pub same : (name_of decl).text ≡ n.text
  pub place : first ≡ (name_of decl).at

-- The fault of a declaration that stands behind others, which declare these names: its name is declared among them; where it is not,
-- its array has no element or no room.
pub data DeclFault (front : List Decl) (names : List Entry) : Decl → NameFault → Type 0 where
  twice : {x : Decl} {first : ℕ} → DeclaredAt front (name_of x) first → DeclFault front names x (f.Twice (name_of x).at first)
  size : {n : Ident} {len : ℕ} → IsFree names n → (len ≡ 0) ⊎ (MOST_ELEMENTS < element_total names + len) →
      DeclFault front names (d.Array n (pos len)) (f.ArraySize n.at (pos len))

-- the first fault of these declarations: those before it have none
pub record DeclsFault (ds : List Decl) (fault : NameFault) : Type 0 where
  pub front : List Decl
  pub here : Decl
  pub back : List Decl
  pub names : List Entry
  pub split : ds ≡ front ++ here ∷ back
  pub declared : AreDeclared front names
  pub range : AreInRange names
  pub wrong : DeclFault front names here fault

-- The first fault of a program: over 1024 declarations; else that of the declarations; else that of the uses.
pub data Faults (p : Program) : NameFault → Type 0 where
  many : MOST_NAMES < length p.decls → Faults p (f.TooManyNames (min (length p.decls) (2 ^ 32 - 1)))
  decls : {fault : NameFault} → length p.decls ≤ MOST_NAMES → DeclsFault p.decls fault → Faults p fault
  body : {fault : NameFault} (names : List Entry) → length p.decls ≤ MOST_NAMES → AreDeclared p.decls names → AreInRange names →
      UsesFault names (body_uses p.body) fault → Faults p fault
