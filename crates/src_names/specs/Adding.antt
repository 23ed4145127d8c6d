-- What a declaration adds to the names.
use Rattle.std.specs.Prelude.{ℕ, ◌-◌, ◌^◌, min, ℤ, pos, negsuc}
use Rattle.bm_base.specs.declared.names.Kind.{Kind}
use Rattle.bm_base.specs.declared.names.Kind.TheVariants as k
use Rattle.src_tree.specs.declared.tree.Decl.{Decl}
use Rattle.src_tree.specs.declared.tree.Decl.TheVariants as d

-- a length as names take it: one that is too large for them is too large for an array too
abbrev pub cut_of : ℤ → ℕ
cut_of (pos len) = min len (2 ^ 32 - 1)
cut_of (negsuc n) = 0

abbrev pub kind_of : Decl → Kind
kind_of (d.Var n v) = k.Var v
kind_of (d.Array n len) = k.Array (cut_of len)

abbrev pub size_of : Decl → ℤ
size_of (d.Var n v) = pos 0
size_of (d.Array n len) = len
