-- Known keys, and the first unknown key of a table whose keys ascend.
use Rattle.std.proofs.Common.{◌≡◌, ℕ, true, false, ◌||◌, List, [], ◌∷◌, Option, Some, None, String, Global, string_bytes, Ordering, Less, Equal, Greater, nat_cmp, Bor, map, refl, ap}
use Rattle.std.specs.Cmp.Lexicographic.{slice_cmp}
use Rattle.std.specs.List.{AllByRecursion, list_any}
use Rattle.std.specs.List.Sorted.{IsStrictlySortedBy}
use Rattle.std.specs.Map as entries
use Rattle.std.specs.Ordering.{match_ordering}
use Rattle.std.specs.Str.{bytes_eq}
use Rattle.std.specs.String.{string_cmp}
use Rattle.toml.specs.View.{members_view}
use Rattle.toml.specs.declared.value.Value.{Value}
use Rattle.machine_file.specs.Keys.{keys_of, is_among, first_of, first_unknown}

-- a key that is the same as one of these is among them
pub among_any : (known : List (Bor (List ℕ))) (key : List ℕ) → list_any (λ k. bytes_eq k.now key) known ≡ is_among (map (λ k. k.now) known) key
among_any [] key = refl
among_any (k ∷ known) key = ap (λ b. bytes_eq k.now key || b) (among_any known key)

-- the keys of the members that a map stands for
pub keys_view : (es : List (String Global × Value)) → keys_of (members_view es) ≡ map string_bytes (entries.keys_of es)
keys_view [] = refl
keys_view (e ∷ es) = ap (λ ks. string_bytes e.0 ∷ ks) (keys_view es)

abbrev After : List ℕ → Option (List ℕ) → Type 0
After key None = Unit {0}
After key (Some other) = slice_cmp nat_cmp key other ≡ Less

pick : (key a b : List ℕ) (o : Ordering) → slice_cmp nat_cmp key a ≡ Less → slice_cmp nat_cmp key b ≡ Less → slice_cmp nat_cmp key (match_ordering o a a b) ≡ Less
pick key a b Less k l = k
pick key a b Equal k l = k
pick key a b Greater k l = l

first_after : (key a : List ℕ) (o : Option (List ℕ)) → slice_cmp nat_cmp key a ≡ Less → After key o → slice_cmp nat_cmp key (first_of a o) ≡ Less
first_after key a None k l = k
first_after key a (Some b) k l = pick key a b (slice_cmp nat_cmp a b) k l

-- the first unknown one of keys that come after a key comes after it
unknown_after : (known : List (List ℕ)) (key : String Global) (ks : List (String Global)) → AllByRecursion (λ y. string_cmp key y ≡ Less) ks
    → After (string_bytes key) (first_unknown known (map string_bytes ks))
unfolding first_unknown
unknown_after known key [] h = tt
unknown_after known key (k ∷ ks) h =
    elim (is_among known (string_bytes k)) as (λ b. After (string_bytes key) (Rattle.std.specs.Prelude.cond b (first_unknown known (map string_bytes ks)) (Some (first_of (string_bytes k) (first_unknown known (map string_bytes ks)))))) [
      | true ↦ unknown_after known key ks h.1
      | false ↦ first_after (string_bytes key) (string_bytes k) (first_unknown known (map string_bytes ks)) h.0 (unknown_after known key ks h.1)
    ]

first_is : (key : List ℕ) (o : Option (List ℕ)) → After key o → first_of key o ≡ key
first_is key None h = refl
first_is key (Some other) h = rw h

-- an unknown key before all others is the first
pub unknown_here : (known : List (List ℕ)) (key : String Global) (ks : List (String Global)) → is_among known (string_bytes key) ≡ false → IsStrictlySortedBy string_cmp (key ∷ ks)
    → first_unknown known (map string_bytes (key ∷ ks)) ≡ Some (string_bytes key)
unfolding first_unknown IsStrictlySortedBy
unknown_here known key ks unknown sorted =
    rw unknown (ap Some (first_is (string_bytes key) (first_unknown known (map string_bytes ks)) (unknown_after known key ks sorted.0)))

-- a known key is passed over
pub known_here : (known : List (List ℕ)) (key : List ℕ) (keys : List (List ℕ)) → is_among known key ≡ true → first_unknown known (key ∷ keys) ≡ first_unknown known keys
unfolding first_unknown
known_here known key keys h = rw h

pub sorted_rest : (key : String Global) (ks : List (String Global)) → IsStrictlySortedBy string_cmp (key ∷ ks) → IsStrictlySortedBy string_cmp ks
unfolding IsStrictlySortedBy
sorted_rest key ks h = h.1

pub unknown_none : (known : List (List ℕ)) → first_unknown known [] ≡ None
unfolding first_unknown
unknown_none known = refl
