-- Declarations and the names that they declare.
use Rattle.std.specs.Prelude.{◌≡◌, ℕ, ◌<◌, ◌≤◌, ◌≤ℤ◌, ℤ, pos, List, [], ◌∷◌, Some, slice_get, All}
use Rattle.bm_base.specs.declared.names.Kind.TheVariants as k
use Rattle.bm_base.specs.Entry.{Entry}
use Rattle.bm_base.specs.Names.{element_total}
use Rattle.src_tree.specs.declared.tree.Ident.{Ident}
use Rattle.src_tree.specs.declared.tree.Decl.{Decl}
use Rattle.src_tree.specs.declared.tree.Decl.TheVariants as d
use Rattle.src_tree.specs.Plain.{IsName}

-- the declarations declare these names, in order; an array has an element
pub data AreDeclared : List Decl → List Entry → Type 0 where
  none : AreDeclared [] []
  var : {n : Ident} {v : ℤ} {ds : List Decl} {es : List Entry} → AreDeclared ds es →
      AreDeclared (d.Var n v ∷ ds) (record { name = n.text; kind = k.Var v } ∷ es)
  array : {n : Ident} {len : ℕ} {ds : List Decl} {es : List Entry} → 0 < len → AreDeclared ds es →
      AreDeclared (d.Array n (pos len) ∷ ds) (record { name = n.text; kind = k.Array len } ∷ es)

-- the declared name
abbrev pub name_of : Decl → Ident
name_of (d.Var n v) = n
name_of (d.Array n v) = n

-- a name that is not reserved, of at most 64 bytes, and a length that is 0 or more
abbrev pub IsNamedWell : Decl → Type 0
IsNamedWell (d.Var n v) = IsName n
IsNamedWell (d.Array n v) = IsName n × (pos 0 ≤ℤ v)

abbrev pub AreNamedWell : List Decl → Type 0
AreNamedWell ds = All IsNamedWell ds
