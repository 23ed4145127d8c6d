-- Which tuples touch one thing, and the links between them.
use Rattle.std.specs.Prelude.{ℕ, zero, suc, Bool, true, false, nat_eq, if◌then◌else◌, List, map, length, Option, Some, None, slice_get}
use Rattle.std.specs.List.{range_with_len}
use Rattle.tuple_ir.specs.declared.tuple.Tuple.{Tuple}
use Rattle.tuple_ir.specs.declared.tuple.Tuple.TheVariants.{Const, Load, Store, LoadEl, StoreEl, One, Two, Print}

-- what tuples touch: the variable or array of a name, or the output
pub data Thing : Type 0 where
  Name : (x : ℕ) → Thing
  Output : Thing

-- what a tuple touches
abbrev pub touched : Tuple → Option Thing
touched (Const v) = None
touched (Load x) = Some (Name x)
touched (Store x v) = Some (Name x)
touched (LoadEl x i) = Some (Name x)
touched (StoreEl x i v) = Some (Name x)
touched (One op a) = None
touched (Two op a b) = None
touched (Print v) = Some Output

-- both are there, and are one thing
abbrev pub is_one : Option Thing → Option Thing → Bool
is_one (Some (Name x)) (Some (Name y)) = nat_eq x y
is_one (Some Output) (Some Output) = true
is_one _ _ = false

-- what tuple a touches
abbrev pub thing_at : List Tuple → ℕ → Option Thing
thing_at ts a = elim (slice_get ts a) [ Some t ↦ touched t | None ↦ None ]

-- the greatest number below n of a tuple that touches this thing
abbrev pub latest : List Tuple → Option Thing → ℕ → Option ℕ
latest ts thing zero = None
latest ts thing (suc n) = if is_one (thing_at ts n) thing then Some n else latest ts thing n

-- 255 stands for none
abbrev pub link_to : Option ℕ → ℕ
link_to (Some a) = a
link_to None = 255

-- the link of tuple b: the greatest earlier tuple that touches what it touches
abbrev pub link_at : List Tuple → ℕ → ℕ
link_at ts b = link_to (latest ts (thing_at ts b) b)

-- for each tuple its link
abbrev pub links_of : List Tuple → List ℕ
links_of ts = map (link_at ts) (range_with_len 0 (length ts))
