-- A row stands behind others, or it has one fault.
use Rattle.std.proofs.Common.{◌≡◌, ℕ, ◌<◌, ◌≤◌, refl, sym, ap, subst, ◌∙◌, arith, Bool, true, false, List, [], length, get_or, Option, Some, None, Result, Ok, Err, cond}
use Rattle.std.specs.Prelude.{nat_le, slice_get, slice_set}
use Rattle.std.proofs.lemmas.Bool.Decides.{nat_tests}
use Rattle.std.proofs.lemmas.List.Quantifiers.{position-Some}
use Rattle.std.proofs.lemmas.Option.{slice_get-get_or}
use Rattle.std.proofs.lemmas.Slice.Eq.{bytes_eq-Decides}
use Rattle.std.specs.Str.{bytes_eq}
use Rattle.bm_base.specs.Entry.{Entry}
use Rattle.bm_base.specs.declared.names.Kind.TheVariants.{Array}
use Rattle.bm_base.specs.Names.{place_of}
use Rattle.bm_base.proofs.StrictTexts.{none_some}
use Rattle.timing_script.specs.Rows.{TextRow}
use Rattle.timing_script.specs.declared.fault.DataFault.{DataFault}
use Rattle.timing_script.specs.declared.fault.DataFault.TheVariants.{DataText, DataName, DataTwice, DataCount, Memory}
use Rattle.timing_script.specs.Data.{Gift, Gives, first_line, room_of, IsDeclared, Stands, IsWrong}
use Rattle.timing_script.specs.DataReading.{State, gift_of, laid_at, room_at, counted, placed, named, given, taken}
use Rattle.timing_script.proofs.Gifts.{gift_of-found, gift_of-only}

-- what a row gives, and the number of its name
pub record Landed : Type 0 where
  pub gift : Gift
  pub id : ℕ

-- ---- the outcome

abbrev by_count : List Entry → ℕ → Gift → ℕ → Bool → Result Landed DataFault
by_count names line gift id true = Ok (record { gift = gift; id = id })
by_count names line gift id false = Err (DataCount line (length gift.values) (room_at (slice_get names id)))

abbrev by_first : List Entry → ℕ → Gift → ℕ → Option ℕ → Result Landed DataFault
by_first names line gift id (Some first) = Err (DataTwice line first)
by_first names line gift id None = by_count names line gift id (nat_le (length gift.values) (room_at (slice_get names id)))

abbrev by_place : List Entry → List TextRow → ℕ → Gift → Option ℕ → Result Landed DataFault
by_place names before line gift None = Err (DataName line)
by_place names before line gift (Some id) = by_first names line gift id (first_line gift.name before)

abbrev by_gift : List Entry → List TextRow → ℕ → Option Gift → Result Landed DataFault
by_gift names before line None = Err (DataText line)
by_gift names before line (Some gift) = by_place names before line gift (place_of gift.name names)

abbrev pub outcome : List Entry → List TextRow → TextRow → Result Landed DataFault
outcome names before row = by_gift names before row.line (gift_of row.fields)

-- ---- the name at a place

some_entry : Entry
some_entry = record { name = []; kind = Array 0 }

pub at_place : (names : List Entry) (name : List ℕ) (id : ℕ) → place_of name names ≡ Some id → (entry : Entry) × ((slice_get names id ≡ Some entry) × (name ≡ entry.name))
at_place names name id e =
    let k = position-Some (λ (x : Entry). bytes_eq name x.name) names id some_entry e in
    (get_or names id some_entry, (slice_get-get_or names id some_entry k.0, (bytes_eq-Decides name (get_or names id some_entry).name).0 k.1))

-- ---- where the outcome is one, the row is so

declared_at : (names : List Entry) (name : List ℕ) (id : ℕ) → place_of name names ≡ Some id → (entry : Entry) × (IsDeclared names name entry × (room_at (slice_get names id) ≡ room_of entry.kind))
declared_at names name id e =
    let k = at_place names name id e in
    (k.0, (record { id = id; place = e; here = k.1.0 }, ap room_at k.1.0))

-- what an outcome says
abbrev pub Says : List Entry → List TextRow → TextRow → Result Landed DataFault → Type 0
Says names before row (Ok l) = Stands names before row l.gift × (place_of l.gift.name names ≡ Some l.id)
Says names before row (Err fault) = IsWrong names before row fault

module _ (names : List Entry) (before : List TextRow) (row : TextRow) (gift : Gift) (gives : Gives row.fields gift) where
  says_count : (id : ℕ) (t : Bool) → place_of gift.name names ≡ Some id → first_line gift.name before ≡ None → nat_le (length gift.values) (room_at (slice_get names id)) ≡ t
      → Says names before row (by_count names row.line gift id t)
  says_count id true p f e =
      let k = declared_at names gift.name id p in
      let fits : length gift.values ≤ room_at (slice_get names id) = grind (arith, nat_tests) in
      (record { gives = gives; entry = k.0; declared = k.1.0; fresh = f; fits = subst (λ n. length gift.values ≤ n) k.1.1 fits }, p)
  says_count id false p f e =
      let k = declared_at names gift.name id p in
      let over : room_at (slice_get names id) < length gift.values = grind (arith, nat_tests) in
      (refl, record { gift = gift; gives = gives; entry = k.0; declared = k.1.0; fresh = f; count = refl; room_is = k.1.1; over = over })

  says_first : (id : ℕ) (o : Option ℕ) → place_of gift.name names ≡ Some id → first_line gift.name before ≡ o → Says names before row (by_first names row.line gift id o)
  says_first id (Some first) p f =
      let k = declared_at names gift.name id p in
      (refl, record { gift = gift; gives = gives; entry = k.0; declared = k.1.0; given = f })
  says_first id None p f = says_count id (nat_le (length gift.values) (room_at (slice_get names id))) p f refl

  says_place : (o : Option ℕ) → place_of gift.name names ≡ o → Says names before row (by_place names before row.line gift o)
  says_place None p = (refl, (gift, (gives, p)))
  says_place (Some id) p = says_first id (first_line gift.name before) p refl

says_gift : (names : List Entry) (before : List TextRow) (row : TextRow) (o : Option Gift) → gift_of row.fields ≡ o → Says names before row (by_gift names before row.line o)
says_gift names before row None e = (refl, λ gift g. none_some (sym e ∙ gift_of-only row.fields gift g))
says_gift names before row (Some gift) e = says_place names before row gift (gift_of-found row.fields gift e) (place_of gift.name names) refl

pub says : (names : List Entry) (before : List TextRow) (row : TextRow) → Says names before row (outcome names before row)
says names before row = says_gift names before row (gift_of row.fields) refl

-- ---- where the row is so, the outcome is this one

placed_gift : (names : List Entry) (before : List TextRow) (row : TextRow) (gift : Gift) → Gives row.fields gift → outcome names before row ≡ by_place names before row.line gift (place_of gift.name names)
placed_gift names before row gift g = ap (by_gift names before row.line) (gift_of-only row.fields gift g)

counted_gift : (names : List Entry) (before : List TextRow) (row : TextRow) (gift : Gift) (entry : Entry) → Gives row.fields gift → (d : IsDeclared names gift.name entry)
    → outcome names before row ≡ by_first names row.line gift d.id (first_line gift.name before)
counted_gift names before row gift entry g d = placed_gift names before row gift g ∙ ap (by_place names before row.line gift) d.place

room_here : (names : List Entry) (name : List ℕ) (entry : Entry) (d : IsDeclared names name entry) → room_at (slice_get names d.id) ≡ room_of entry.kind
room_here names name entry d = ap room_at d.here

pub stands_outcome : (names : List Entry) (before : List TextRow) (row : TextRow) (gift : Gift) (s : Stands names before row gift) → outcome names before row ≡ Ok (record { gift = gift; id = s.declared.id })
stands_outcome names before row gift s =
    let room : room_at (slice_get names s.declared.id) ≡ room_of s.entry.kind = room_here names gift.name s.entry s.declared in
    let fits : length gift.values ≤ room_of s.entry.kind = s.fits in
    let test : nat_le (length gift.values) (room_at (slice_get names s.declared.id)) ≡ true = grind (arith, nat_tests) in
    counted_gift names before row gift s.entry s.gives s.declared
    ∙ ap (by_first names row.line gift s.declared.id) s.fresh
    ∙ ap (by_count names row.line gift s.declared.id) test

pub wrong_outcome : (names : List Entry) (before : List TextRow) (row : TextRow) (fault : DataFault) → IsWrong names before row fault → outcome names before row ≡ Err fault
wrong_outcome names before row (DataText line) w = by (gift_of row.fields) refl
  where
    by : (o : Option Gift) → gift_of row.fields ≡ o → by_gift names before row.line o ≡ Err (DataText line)
    by None e = ap (λ n. Err (DataText n)) w.0
    by (Some gift) e = absurd (w.1 gift (gift_of-found row.fields gift e))
wrong_outcome names before row (DataName line) w =
    let gift : Gift = w.1.0 in
    placed_gift names before row w.1.0 w.1.1.0 ∙ ap (by_place names before row.line w.1.0) w.1.1.1 ∙ ap (λ n. Err (DataName n)) w.0
wrong_outcome names before row (DataTwice line first) w =
    let t = w.1 in
    counted_gift names before row t.gift t.entry t.gives t.declared
    ∙ ap (by_first names row.line t.gift t.declared.id) t.given
    ∙ ap (λ n. Err (DataTwice n first)) w.0
wrong_outcome names before row (DataCount line given room) w =
    let t = w.1 in
    let room_is : room_at (slice_get names t.declared.id) ≡ room_of t.entry.kind = room_here names t.gift.name t.entry t.declared in
    let over : room < given = t.over in
    let count : given ≡ length t.gift.values = t.count in
    let kind : room ≡ room_of t.entry.kind = t.room_is in
    let test : nat_le (length t.gift.values) (room_at (slice_get names t.declared.id)) ≡ false = grind (arith, nat_tests) in
    counted_gift names before row t.gift t.entry t.gives t.declared
    ∙ ap (by_first names row.line t.gift t.declared.id) t.fresh
    ∙ ap (by_count names row.line t.gift t.declared.id) test
    ∙ (λ i. Err (DataCount (w.0 i) (sym t.count i) ((room_is ∙ sym t.room_is) i)))
wrong_outcome names before row Memory w = absurd w

-- ---- what is read of a row is its outcome

-- each name has the line of its row
abbrev pub Firsts : List Entry → List TextRow → List (Option ℕ) → Type 0
Firsts names before firsts = (length firsts ≡ length names) × ((id : ℕ) (entry : Entry) → slice_get names id ≡ Some entry → get_or firsts id None ≡ first_line entry.name before)

abbrev pub next_state : State → ℕ → Landed → State
next_state state line l = record { memory = laid_at state.memory l.id l.gift.values; firsts = slice_set state.firsts l.id (Some line) }

abbrev pub goes_on : State → ℕ → Result Landed DataFault → Result State DataFault
goes_on state line (Ok l) = Ok (next_state state line l)
goes_on state line (Err fault) = Err fault

module _ (names : List Entry) (before : List TextRow) (state : State) (line : ℕ) (firsts : Firsts names before state.firsts) where
  count_read : (gift : Gift) (id : ℕ) → counted names state line gift id ≡ goes_on state line (by_count names line gift id (nat_le (length gift.values) (room_at (slice_get names id))))
  count_read gift id = by (nat_le (length gift.values) (room_at (slice_get names id)))
    where
      by : (t : Bool) → cond t (Ok (next_state state line (record { gift = gift; id = id }))) (Err (DataCount line (length gift.values) (room_at (slice_get names id)))) ≡ goes_on state line (by_count names line gift id t)
      by true = refl
      by false = refl

  first_read : (gift : Gift) (id : ℕ) (o : Option ℕ) → placed names state line gift id o ≡ goes_on state line (by_first names line gift id o)
  first_read gift id (Some first) = refl
  first_read gift id None = count_read gift id

  place_read : (gift : Gift) (o : Option ℕ) → place_of gift.name names ≡ o → named names state line gift o ≡ goes_on state line (by_place names before line gift o)
  place_read gift None e = refl
  place_read gift (Some id) e =
      let k = at_place names gift.name id e in
      let line_is : get_or state.firsts id None ≡ first_line gift.name before = firsts.1 id k.0 k.1.0 ∙ ap (λ n. first_line n before) (sym k.1.1) in
      ap (placed names state line gift id) line_is ∙ first_read gift id (first_line gift.name before)

  gift_read : (o : Option Gift) → given names state line o ≡ goes_on state line (by_gift names before line o)
  gift_read None = refl
  gift_read (Some gift) = place_read gift (place_of gift.name names) refl

pub taken_is : (names : List Entry) (before : List TextRow) (state : State) (row : TextRow) → Firsts names before state.firsts → taken names state row ≡ goes_on state row.line (outcome names before row)
taken_is names before state row firsts = gift_read names before state row.line firsts (gift_of row.fields)
