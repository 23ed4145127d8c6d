-- Arrays of fewer and of more than two items.
use Rattle.std.proofs.Common.{◌≡◌, ◌<◌, ◌≤◌, List, [], ◌∷◌, length, None, refl, arith}
use Rattle.toml.specs.Data.{Data, string, integer, float, boolean, datetime, array, table, Items, no_items, item}
use Rattle.toml.specs.View.{view, items_view}
use Rattle.toml.specs.declared.value.Value.{Value, Array}
use Rattle.toml.proofs.Views.{view-Array}
use Rattle.std.proofs.Common.{Vec, Global}
use Rattle.machine_file.specs.MachineFile.{pair_of}

one : (x : Data) → pair_of (array (item x no_items)) ≡ None
one (string a) = refl
one (integer a) = refl
one (float a) = refl
one (boolean a) = refl
one (datetime a) = refl
one (array a) = refl
one (table a) = refl

three : (x y z : Data) (rest : Items) → pair_of (array (item x (item y (item z rest)))) ≡ None
three (string a) y z rest = refl
three (integer a) (string b) z rest = refl
three (integer a) (integer b) z rest = refl
three (integer a) (float b) z rest = refl
three (integer a) (boolean b) z rest = refl
three (integer a) (datetime b) z rest = refl
three (integer a) (array b) z rest = refl
three (integer a) (table b) z rest = refl
three (float a) y z rest = refl
three (boolean a) y z rest = refl
three (datetime a) y z rest = refl
three (array a) y z rest = refl
three (table a) y z rest = refl

pub too_short : (vs : List Value) → length vs < 2 → pair_of (array (items_view vs)) ≡ None
too_short [] h = refl
too_short (v ∷ []) h = one (view v)
too_short (v ∷ w ∷ vs) h = absurd (omega arith)

pub too_long : (vs : List Value) → 3 ≤ length vs → pair_of (array (items_view vs)) ≡ None
too_long [] h = absurd (omega arith)
too_long (v ∷ []) h = absurd (omega arith)
too_long (v ∷ w ∷ []) h = absurd (omega arith)
too_long (v ∷ w ∷ x ∷ vs) h = three (view v) (view w) (view x) (items_view vs)

-- what is no pair as a list is none as a value
pub no_pair : (v : Value) (items : Vec Value Global) → v ≡ Array items → pair_of (array (items_view items.items)) ≡ None → None ≡ pair_of (view v)
no_pair v items is h = rw (is, view-Array items, h)
