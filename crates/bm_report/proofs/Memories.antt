-- The lines of a memory, name by name and row by row.
use Rattle.std.proofs.Common.{◌≡◌, ◌<◌, ◌≤◌, ◌+◌, ◌/◌, ℕ, zero, suc, List, [], ◌∷◌, ◌++◌, length, drop, Option, Some, None, Result, Ok, Err, refl, sym, ap, subst, ◌∙◌, arith, add-one}
use Rattle.std.specs.Prelude.{slice_get, pos, get_or}
use Rattle.std.proofs.lemmas.List.{drop_all}
use Rattle.bm_io.specs.declared.sinks.SinkFault.{SinkFault}
use Rattle.bm_io.specs.Sink.{Taken, Sent}
use Rattle.bm_io.proofs.Sending.{Sent-nothing, Sent-stop, Sent-more}
use Rattle.std.proofs.lemmas.Option.{slice_get-get_or}
use Rattle.bm_base.specs.Entry.{Entry}
use Rattle.bm_base.specs.declared.names.Kind.TheVariants.{Var}
use Rattle.bm_base.specs.Memory.{Content, Word, Words}
use Rattle.bm_report.specs.Text.{row_lines, memory_lines}
use Rattle.bm_report.specs.Held.{lines_at, row_at, IsArrayOf}

-- so many lines of an array, the first from element i on
abbrev pub rows_at : Option Entry → Option Content → ℕ → ℕ → List (List ℕ)
rows_at (Some e) (Some (Words vs)) i rows = row_lines e.name vs i rows
rows_at _ _ i rows = []

pub rows_next : (e : Entry) (c : Option Content) (len i j rows : ℕ) → IsArrayOf c len → j ≡ i + 8 → rows_at (Some e) c i (suc rows) ≡ row_at (Some e) c i ∷ rows_at (Some e) c j rows
rows_next e (Some (Words vs)) len i j rows h k = ap (λ n. row_at (Some e) (Some (Words vs)) i ∷ row_lines e.name vs n rows) (sym k)
rows_next e (Some (Word v)) len i j rows h k = absurd h
rows_next e None len i j rows h k = absurd h

pub rows_none : (e : Option Entry) (c : Option Content) (i : ℕ) → rows_at e c i 0 ≡ []
rows_none (Some e) (Some (Words vs)) i = refl
rows_none (Some e) (Some (Word v)) i = refl
rows_none (Some e) None i = refl
rows_none None c i = refl

-- all rows of an array
pub rows_all : (e : Entry) (c : Option Content) (len : ℕ) → IsArrayOf c len → rows_at (Some e) c 0 ((len + 7) / 8) ≡ lines_at (Some e) c
rows_all e (Some (Words vs)) len h = ap (λ n. row_lines e.name vs 0 ((n + 7) / 8)) (sym h)
rows_all e (Some (Word v)) len h = absurd h
rows_all e None len h = absurd h

-- the lines of the names from i on
pub memory_lines-cons : (es : List Entry) (m : List Content) (i : ℕ) → length m ≡ length es → i < length es
    → memory_lines (drop i es) (drop i m) ≡ lines_at (slice_get es i) (slice_get m i) ++ memory_lines (drop (suc i) es) (drop (suc i) m)
memory_lines-cons [] m i l h = absurd (omega arith)
memory_lines-cons (e ∷ es) [] i l h = absurd (omega arith)
memory_lines-cons (e ∷ es) (c ∷ m) zero l h = refl
memory_lines-cons (e ∷ es) (c ∷ m) (suc i) l h = memory_lines-cons es m i (omega arith) (omega arith)

module _ (es : List Entry) (m : List Content) (i : ℕ) (l : length m ≡ length es) (h : i < length es) where
  pub name_stops : (mid now : Taken) (e : SinkFault) → Sent {T = Unit {0}} mid now (lines_at (slice_get es i) (slice_get m i)) (Err e) → Sent {T = Unit {0}} mid now (memory_lines (drop i es) (drop i m)) (Err e)
  name_stops mid now e s = rw (memory_lines-cons es m i l h) (Sent-stop mid now (lines_at (slice_get es i) (slice_get m i)) (memory_lines (drop (suc i) es) (drop (suc i) m)) e s)

  pub name_goes_on : (before mid now : Taken) (x : Unit {0}) (r : Result (Unit {0}) SinkFault) → Sent before mid (lines_at (slice_get es i) (slice_get m i)) (Ok x) → Sent mid now (memory_lines (drop (i + 1) es) (drop (i + 1) m)) r
      → Sent before now (memory_lines (drop i es) (drop i m)) r
  name_goes_on before mid now x r s k =
      rw (memory_lines-cons es m i l h) (Sent-more before mid now (lines_at (slice_get es i) (slice_get m i)) (memory_lines (drop (suc i) es) (drop (suc i) m)) r s.ok (rw add-one at k))

pub names_end : (es : List Entry) (m : List Content) (i : ℕ) (before : Taken) → length es ≤ i → Sent {T = Unit {0}} before before (memory_lines (drop i es) (drop i m)) (Ok tt)
names_end es m i before h = rw (drop_all i es h) (Sent-nothing before tt)

module _ (o : Option Entry) (e : Entry) (named : o ≡ Some e) (c : Option Content) (len i j n m : ℕ) (h : IsArrayOf c len) (next : j ≡ i + 8) (left : n ≡ suc m) where
  first_row : rows_at o c i n ≡ row_at o c i ∷ rows_at o c j m
  first_row = subst (λ d. rows_at d c i n ≡ row_at d c i ∷ rows_at d c j m) (sym named) (ap (rows_at (Some e) c i) left ∙ rows_next e c len i j m h next)

  pub row_stops : (mid now : Taken) (f : SinkFault) → Sent {T = Unit {0}} mid now (row_at o c i ∷ []) (Err f) → Sent {T = Unit {0}} mid now (rows_at o c i n) (Err f)
  row_stops mid now f s = subst (λ x. Sent {T = Unit {0}} mid now x (Err f)) (sym first_row) (Sent-stop mid now (row_at o c i ∷ []) (rows_at o c j m) f s)

  pub row_goes_on : (before mid now : Taken) (x : Unit {0}) (r : Result (Unit {0}) SinkFault) → Sent before mid (row_at o c i ∷ []) (Ok x) → Sent mid now (rows_at o c j m) r → Sent before now (rows_at o c i n) r
  row_goes_on before mid now x r s k = subst (λ t. Sent before now t r) (sym first_row) (Sent-more before mid now (row_at o c i ∷ []) (rows_at o c j m) r s.ok k)

-- all rows of an array are its lines
pub rows_are : (o : Option Entry) (e : Entry) (c : Option Content) (len n : ℕ) → o ≡ Some e → IsArrayOf c len → n ≡ (len + 7) / 8 → rows_at o c 0 n ≡ lines_at o c
rows_are o e c len n named h k = subst (λ d. rows_at d c 0 n ≡ lines_at d c) (sym named) (ap (rows_at (Some e) c 0) k ∙ rows_all e c len h)

-- no row is left
pub rows_end : (o : Option Entry) (c : Option Content) (i n : ℕ) (before : Taken) → n ≡ 0 → Sent {T = Unit {0}} before before (rows_at o c i n) (Ok tt)
rows_end o c i n before h = subst (λ x. Sent {T = Unit {0}} before before x (Ok tt)) (sym (ap (rows_at o c i) h ∙ rows_none o c i)) (Sent-nothing before tt)

-- a name is declared
pub an_entry : (names : List Entry) (id : ℕ) → id < length names → (e : Entry) × (slice_get names id ≡ Some e)
an_entry names id h =
    let d : Entry = record { name = []; kind = Var (pos 0) } in
    (get_or names id d, slice_get-get_or names id d h)

-- what was sent of some lines was sent of equal ones
pub Sent-same : (before now : Taken) (xs ys : List (List ℕ)) (r : Result (Unit {0}) SinkFault) → xs ≡ ys → Sent before now xs r → Sent before now ys r
Sent-same before now xs ys r e h = subst (λ x. Sent before now x r) e h
