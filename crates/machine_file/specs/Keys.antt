-- The keys of a machine file.
use Rattle.std.specs.Prelude.{ℕ, Bool, false, ◌||◌, List, [], ◌∷◌, Option, Some, None, if◌then◌else◌, codes}
use Rattle.std.specs.Ordering.{nat_cmp, match_ordering}
use Rattle.std.specs.Str.{bytes_eq}
use Rattle.std.specs.Cmp.Lexicographic.{slice_cmp}
use Rattle.toml.specs.Data.{Members, no_members, member}

-- the keys at the top
unfoldable pub top_keys : List (List ℕ)
top_keys = codes "processors" ∷ codes "barrier" ∷ codes "times" ∷ []

-- the keys in `times`, in the order of the classes
unfoldable pub class_keys : List (List ℕ)
class_keys =
    codes "const" ∷ codes "load" ∷ codes "store" ∷ codes "loadel" ∷ codes "storeel"
    ∷ codes "alu" ∷ codes "mul" ∷ codes "div" ∷ codes "print" ∷ []

-- the keys of a table
abbrev pub keys_of : Members → List (List ℕ)
keys_of no_members = []
keys_of (member key d ms) = key ∷ keys_of ms

-- the key is one of these
abbrev pub is_among : List (List ℕ) → List ℕ → Bool
is_among [] key = false
is_among (k ∷ ks) key = bytes_eq k key || is_among ks key

-- the one that comes first in byte order
abbrev pub first_of : List ℕ → Option (List ℕ) → List ℕ
first_of key None = key
first_of key (Some other) = match_ordering (slice_cmp nat_cmp key other) key key other

-- of the keys that are not known, the first in byte order
unfoldable pub first_unknown : List (List ℕ) → List (List ℕ) → Option (List ℕ)
first_unknown known [] = None
first_unknown known (key ∷ keys) =
    if is_among known key then first_unknown known keys else Some (first_of key (first_unknown known keys))
