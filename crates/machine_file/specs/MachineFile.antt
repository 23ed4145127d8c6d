-- What a machine file means: a machine, or the first fault.
use Rattle.std.specs.Prelude.{ℕ, ℤ, pos, negsuc, ◌≡◌, ◌⊎◌, nat_le, ◌&&◌, List, [], ◌∷◌, ◌++◌, Option, Some, None, Result, Ok, Err}
use Rattle.std.specs.Prelude.{MatchResult, if◌then◌else◌, codes}
use Rattle.std.specs.Str.{is_utf8}
use Rattle.bm_base.specs.declared.limits.TheConstants.{MOST_PROCESSORS, MOST_DELAY, MOST_TICKS}
use Rattle.bm_base.specs.declared.spec.Interval.{Interval}
use Rattle.bm_base.specs.Machine.{Machine}
use Rattle.toml.specs.Data.{Data, integer, array, no_items, item, Members, get_member, as_integer, as_table}
use Rattle.toml.specs.Parse.{parse_document}
use Rattle.machine_file.specs.declared.fault.MachineFault.{MachineFault}
use Rattle.machine_file.specs.declared.fault.MachineFault.TheVariants.{NotToml, Key, Kind, Range, Memory}
use Rattle.machine_file.specs.Keys.{top_keys, class_keys, keys_of, first_unknown}

abbrev pub Read : Type 0 → Type 0
Read A = Result A MachineFault

-- a step, and the next one where it is not refused
infixl 10 ◌>>=◌
abbrev pub ◌>>=◌ : {A B : Type 0} → Read A → (A → Read B) → Read B
Ok x >>= f = f x
Err e >>= f = Err e

-- what stands at a key, or the key is missing
abbrev pub at_key : List ℕ → Option Data → Read Data
at_key name None = Err (Key name)
at_key name (Some d) = Ok d

-- what it is, or it is of another kind
abbrev pub of_kind : {A : Type 0} → List ℕ → Option A → Read A
of_kind name None = Err (Kind name)
of_kind name (Some x) = Ok x

-- the integer, where it is from low to high
abbrev pub in_range : List ℕ → ℕ → ℕ → ℤ → Read ℕ
in_range name low high (pos n) = if nat_le low n && nat_le n high then Ok n else Err (Range name (pos n))
in_range name low high (negsuc n) = Err (Range name (negsuc n))

-- the two integers of an array of exactly two
abbrev pub pair_of : Data → Option (ℤ × ℤ)
pair_of (array (item (integer a) (item (integer b) no_items))) = Some (a, b)
pair_of _ = None

-- the interval of a time, from what stands at its key
abbrev pub interval_of : List ℕ → Option Data → Read Interval
interval_of name found = do
  d ← at_key name found
  ends ← of_kind name (pair_of d)
  least ← in_range name 1 MOST_TICKS ends.0
  most ← in_range name least MOST_TICKS ends.1
  Ok (record { least = least; most = most })

-- a key in `times` as it is told
abbrev pub in_times : List ℕ → List ℕ
in_times key = codes "times." ++ key

-- the intervals at these keys of `times`
abbrev pub intervals_of : List (List ℕ) → Members → Read (List Interval)
intervals_of [] times = Ok []
intervals_of (key ∷ keys) times = do
  first ← interval_of (in_times key) (get_member key times)
  rest ← intervals_of keys times
  Ok (first ∷ rest)

-- there is no unknown key, or it is told
abbrev pub without : (List ℕ → List ℕ) → Option (List ℕ) → Read (Unit {0})
without told None = Ok tt
without told (Some key) = Err (Key (told key))

-- how many processors
abbrev pub processors_of : Members → Read ℕ
processors_of document = do
  found ← at_key (codes "processors") (get_member (codes "processors") document)
  count ← of_kind (codes "processors") (as_integer found)
  in_range (codes "processors") 1 MOST_PROCESSORS count

-- the delay that stands at its key; none where the key is missing
abbrev pub delay_at : Option Data → Read ℕ
delay_at None = Ok 0
delay_at (Some found) = do
  delay ← of_kind (codes "barrier") (as_integer found)
  in_range (codes "barrier") 0 MOST_DELAY delay

-- how many ticks lie between the firing of a mask and the resuming of its members
abbrev pub delay_of : Members → Read ℕ
delay_of document = delay_at (get_member (codes "barrier") document)

-- the table of times
abbrev pub times_of : Members → Read Members
times_of document = do
  found ← at_key (codes "times") (get_member (codes "times") document)
  of_kind (codes "times") (as_table found)

-- no unknown key at the top, and then none in `times`
abbrev pub no_unknown : Members → Members → Read (Unit {0})
no_unknown document times = do
  _ ← without (λ key. key) (first_unknown top_keys (keys_of document))
  without in_times (first_unknown class_keys (keys_of times))

-- the machine of a document
abbrev pub machine_of_document : Members → Read Machine
machine_of_document document = do
  processors ← processors_of document
  delay ← delay_of document
  times ← times_of document
  intervals ← intervals_of class_keys times
  _ ← no_unknown document times
  Ok (record { processors = processors; delay = delay; times = intervals })

abbrev pub machine_of_text : Option Members → Read Machine
machine_of_text None = Err NotToml
machine_of_text (Some document) = machine_of_document document

-- the meaning of a machine file's bytes
abbrev pub machine_of : List ℕ → Read Machine
machine_of bytes = if is_utf8 bytes then machine_of_text (parse_document bytes) else Err NotToml

-- The result is the meaning, as it is shown, unless memory ran out.
abbrev pub Tells : {A B : Type 0} → (B → A) → Read A → Read B → Type 0
Tells shows meant result = MatchResult result (λ x. meant ≡ Ok (shows x)) (λ e. (meant ≡ Err e) ⊎ (e ≡ Memory))
