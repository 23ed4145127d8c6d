-- The memory that a file of data gives.
use Rattle.std.proofs.Common.{◌≡◌, ℕ, ◌<◌, refl, sym, ap, ◌∙◌, arith, Bool, true, false, List, [], ◌∷◌, ◌++◌, length, get_or, Option, Some, None, pos, cond, true≢false}
use Rattle.std.specs.Prelude.{slice_get, slice_set}
use Rattle.std.specs.Option.{option_map}
use Rattle.std.specs.Str.{bytes_eq}
use Rattle.std.proofs.lemmas.Slice.Eq.{bytes_eq-Decides}
use Rattle.std.proofs.lemmas.List.{ext_get_or, length-map, length-set}
use Rattle.std.proofs.lemmas.Option.{slice_get-map, slice_get-get_or, get_or_from_slice_get}
use Rattle.bm_base.specs.Entry.{Entry}
use Rattle.bm_base.specs.declared.names.Kind.TheVariants.{Array}
use Rattle.bm_base.specs.Memory.{Content, Word, Words, declared_content, initial}
use Rattle.bm_base.specs.Names.{place_of, AreNames}
use Rattle.bm_base.proofs.StrictTexts.{none_some, some_same}
use Rattle.timing_script.specs.Rows.{TextRow}
use Rattle.timing_script.specs.Data.{Gift, Gives, is_of, first_line, IsDeclared, StandAll, values_for, laid, memory_of}
use Rattle.timing_script.specs.DataReading.{laid_on, laid_at}
use Rattle.timing_script.proofs.Elements.{get-set, get-set_other}
use Rattle.timing_script.proofs.Outcome.{at_place}

-- a gift is laid where its name stands
abbrev pub laid_where : List Content → Gift → Option ℕ → List Content
laid_where memory g (Some id) = laid_at memory id g.values
laid_where memory g None = memory

abbrev pub laid_gift : List Entry → List Content → Gift → List Content
laid_gift names memory g = laid_where memory g (place_of g.name names)

abbrev pub all_laid : List Entry → List Content → List Gift → List Content
all_laid names memory [] = memory
all_laid names memory (g ∷ gs) = all_laid names (laid_gift names memory g) gs

-- ---- rows of one name

is_of-same : (name : List ℕ) → bytes_eq name name ≡ true
is_of-same name = (bytes_eq-Decides name name).1 refl

-- a row that gives something to this name is its row
pub is_of-gives : (fields : List (List ℕ)) (g : Gift) → Gives fields g → is_of g.name fields ≡ true
is_of-gives fields g h = ap (is_of g.name) h.fields_are ∙ is_of-same g.name

pub is_of-other : (fields : List (List ℕ)) (g : Gift) (name : List ℕ) → Gives fields g → bytes_eq name g.name ≡ false → is_of name fields ≡ false
is_of-other fields g name h e = ap (is_of name) h.fields_are ∙ e

pub first_line-more : (name : List ℕ) (before : List TextRow) (row : TextRow) (n : ℕ) → first_line name before ≡ Some n → first_line name (before ++ row ∷ []) ≡ Some n
first_line-more name [] row n e = absurd (none_some e)
first_line-more name (r ∷ before) row n e = by (is_of name r.fields) e (first_line-more name before row n)
  where
    by : (t : Bool) → cond t (Some r.line) (first_line name before) ≡ Some n → (first_line name before ≡ Some n → first_line name (before ++ row ∷ []) ≡ Some n)
        → cond t (Some r.line) (first_line name (before ++ row ∷ [])) ≡ Some n
    by true e more = e
    by false e more = more e

pub first_line-here : (name : List ℕ) (before : List TextRow) (row : TextRow) → first_line name before ≡ None → is_of name row.fields ≡ true → first_line name (before ++ row ∷ []) ≡ Some row.line
first_line-here name [] row e h = ap (λ t. cond t (Some row.line) None) h
first_line-here name (r ∷ before) row e h = by (is_of name r.fields) e (λ k. first_line-here name before row k h)
  where
    by : (t : Bool) → cond t (Some r.line) (first_line name before) ≡ None → (first_line name before ≡ None → first_line name (before ++ row ∷ []) ≡ Some row.line)
        → cond t (Some r.line) (first_line name (before ++ row ∷ [])) ≡ Some row.line
    by true e more = absurd (none_some (sym e))
    by false e more = more e

pub first_line-other : (name : List ℕ) (before : List TextRow) (row : TextRow) → is_of name row.fields ≡ false → first_line name (before ++ row ∷ []) ≡ first_line name before
first_line-other name [] row h = ap (λ t. cond t (Some row.line) None) h
first_line-other name (r ∷ before) row h = by (is_of name r.fields) (first_line-other name before row h)
  where
    by : (t : Bool) → first_line name (before ++ row ∷ []) ≡ first_line name before → cond t (Some r.line) (first_line name (before ++ row ∷ [])) ≡ cond t (Some r.line) (first_line name before)
    by true more = refl
    by false more = more

-- a name that has its row is given nothing more
given_once : (names : List Entry) (before rows : List TextRow) (gifts : List Gift) (name : List ℕ) (n : ℕ) → StandAll names before rows gifts → first_line name before ≡ Some n → values_for name gifts ≡ []
given_once names before [] [] name n s e = refl
given_once names before [] (g ∷ gs) name n s e = absurd s
given_once names before (r ∷ rows) [] name n s e = absurd s
given_once names before (r ∷ rows) (g ∷ gs) name n s e = by (bytes_eq name g.name) refl (given_once names (before ++ r ∷ []) rows gs name n s.1 (first_line-more name before r n e))
  where
    by : (t : Bool) → bytes_eq name g.name ≡ t → values_for name gs ≡ [] → cond t g.values (values_for name gs) ≡ []
    by true h more =
        let same : name ≡ g.name = (bytes_eq-Decides name g.name).0 h in
        absurd (none_some (sym s.0.fresh ∙ ap (λ m. first_line m before) (sym same) ∙ e))
    by false h more = more

-- ---- what a name holds in the end

laid_none : (c : Content) → laid c [] ≡ c
laid_none (Word w) = refl
laid_none (Words ws) = refl

module _ (names : List Entry) (lawful : AreNames names) where
  -- the place of a name's own entry
  pub own_place : (id : ℕ) (entry other : Entry) (name : List ℕ) (d : IsDeclared names name other) → slice_get names id ≡ Some entry → bytes_eq entry.name name ≡ true → d.id ≡ id
  own_place id entry other name d here e =
      let k = at_place names name d.id d.place in
      let same : entry.name ≡ name = (bytes_eq-Decides entry.name name).0 e in
      lawful.range.once d.id id k.0 entry k.1.0 here (sym k.1.1 ∙ sym same)

  pub other_place : (id : ℕ) (entry other : Entry) (name : List ℕ) (d : IsDeclared names name other) → slice_get names id ≡ Some entry → bytes_eq entry.name name ≡ false → id ≡ d.id → ⊥
  other_place id entry other name d here e same =
      let k = at_place names name d.id d.place in
      let one : entry ≡ k.0 = some_same (sym here ∙ ap (slice_get names) same ∙ k.1.0) in
      true≢false (sym ((bytes_eq-Decides entry.name name).1 (ap (λ (x : Entry). x.name) one ∙ sym k.1.1)) ∙ e)

  held_after : (memory : List Content) (before rows : List TextRow) (gifts : List Gift) (id : ℕ) (entry : Entry) (c : Content) → StandAll names before rows gifts
      → slice_get names id ≡ Some entry → slice_get memory id ≡ Some c → slice_get (all_laid names memory gifts) id ≡ Some (laid c (values_for entry.name gifts))
  held_after memory before [] [] id entry c s here e = e ∙ ap Some (sym (laid_none c))
  held_after memory before [] (g ∷ gs) id entry c s here e = absurd s
  held_after memory before (r ∷ rows) [] id entry c s here e = absurd s
  held_after memory before (r ∷ rows) (g ∷ gs) id entry c s here e = by (bytes_eq entry.name g.name) refl (λ now held k. held_after now (before ++ r ∷ []) rows gs id entry held s.1 here k)
    where
      by : (t : Bool) → bytes_eq entry.name g.name ≡ t
          → ((now : List Content) (held : Content) → slice_get now id ≡ Some held → slice_get (all_laid names now gs) id ≡ Some (laid held (values_for entry.name gs)))
          → slice_get (all_laid names (laid_gift names memory g) gs) id ≡ Some (laid c (cond t g.values (values_for entry.name gs)))
      by true h more =
          let same : entry.name ≡ g.name = (bytes_eq-Decides entry.name g.name).0 h in
          let now : laid_gift names memory g ≡ slice_set memory id (laid c g.values) =
          ap (laid_where memory g) s.0.declared.place
          ∙ ap (λ j. laid_at memory j g.values) (own_place id entry s.0.entry g.name s.0.declared here h)
          ∙ ap (λ o. slice_set memory id (laid_on o g.values)) e in
          let at : slice_get (laid_gift names memory g) id ≡ Some (laid c g.values) = ap (λ l. slice_get l id) now ∙ get-set memory id c (laid c g.values) e in
          let fresh : first_line entry.name before ≡ None = ap (λ n. first_line n before) same ∙ s.0.fresh in
          let mine : is_of entry.name r.fields ≡ true = ap (λ n. is_of n r.fields) same ∙ is_of-gives r.fields g s.0.gives in
          let nothing : values_for entry.name gs ≡ [] = given_once names (before ++ r ∷ []) rows gs entry.name r.line s.1 (first_line-here entry.name before r fresh mine) in
          more (laid_gift names memory g) (laid c g.values) at ∙ ap (λ vs. Some (laid (laid c g.values) vs)) nothing ∙ ap Some (laid_none (laid c g.values))
      by false h more =
          let now : laid_gift names memory g ≡ laid_at memory s.0.declared.id g.values = ap (laid_where memory g) s.0.declared.place in
          let at : slice_get (laid_gift names memory g) id ≡ Some c =
          ap (λ l. slice_get l id) now
          ∙ get-set_other memory s.0.declared.id id (laid_on (slice_get memory s.0.declared.id) g.values) (other_place id entry s.0.entry g.name s.0.declared here h)
          ∙ e in
          more (laid_gift names memory g) c at

  -- ---- the whole memory

  length-laid_where : (memory : List Content) (g : Gift) (o : Option ℕ) → length (laid_where memory g o) ≡ length memory
  length-laid_where memory g None = refl
  length-laid_where memory g (Some id) = length-set memory id (laid_on (slice_get memory id) g.values)

  length-all_laid : (memory : List Content) (gifts : List Gift) → length (all_laid names memory gifts) ≡ length memory
  length-all_laid memory [] = refl
  length-all_laid memory (g ∷ gs) = length-all_laid (laid_gift names memory g) gs ∙ length-laid_where memory g (place_of g.name names)

  some_entry : Entry
  some_entry = record { name = []; kind = Array 0 }

  pub all_laid-is : (rows : List TextRow) (gifts : List Gift) → StandAll names [] rows gifts → all_laid names (initial names) gifts ≡ memory_of names gifts
  all_laid-is rows gifts s =
      let long : length (initial names) ≡ length names = length-map names (λ e. declared_content e.kind) in
      let same : length (all_laid names (initial names) gifts) ≡ length (memory_of names gifts) =
      length-all_laid (initial names) gifts ∙ long ∙ sym (length-map names (λ e. laid (declared_content e.kind) (values_for e.name gifts))) in
      ext_get_or (Word (pos 0)) (all_laid names (initial names) gifts) (memory_of names gifts) same
      (λ i h. (let within : i < length names = omega (arith, length-all_laid (initial names) gifts, long) in each i within))
    where
      each : (i : ℕ) → i < length names → get_or (all_laid names (initial names) gifts) i (Word (pos 0)) ≡ get_or (memory_of names gifts) i (Word (pos 0))
      each i h =
          let entry : Entry = get_or names i (record { name = []; kind = Array 0 }) in
          let here : slice_get names i ≡ Some (get_or names i (record { name = []; kind = Array 0 })) = slice_get-get_or names i (record { name = []; kind = Array 0 }) h in
          let first = slice_get-map (λ (e : Entry). declared_content e.kind) names i ∙ ap (option_map (λ (e : Entry). declared_content e.kind)) here in
          let left = held_after (initial names) [] rows gifts i (get_or names i (record { name = []; kind = Array 0 })) (declared_content (get_or names i (record { name = []; kind = Array 0 })).kind) s here first in
          let right = slice_get-map (λ (e : Entry). laid (declared_content e.kind) (values_for e.name gifts)) names i ∙ ap (option_map (λ (e : Entry). laid (declared_content e.kind) (values_for e.name gifts))) here in
          get_or_from_slice_get (all_laid names (initial names) gifts) i _ (Word (pos 0)) left ∙ sym (get_or_from_slice_get (memory_of names gifts) i _ (Word (pos 0)) right)
