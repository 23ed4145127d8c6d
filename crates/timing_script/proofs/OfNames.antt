-- What data gives is a memory of the names.
use Rattle.std.proofs.Common.{◌≡◌, ℕ, ◌≤◌, refl, sym, ap, subst, ◌∙◌, arith, Bool, true, false, List, [], ◌∷◌, ◌++◌, length, drop, Some, ℤ, pos, cond, replicate, length-append, length-drop}
use Rattle.std.specs.Prelude.{slice_get}
use Rattle.std.specs.Option.{option_map}
use Rattle.std.specs.Str.{bytes_eq}
use Rattle.std.proofs.lemmas.List.{length-map, length-replicate}
use Rattle.std.proofs.lemmas.Option.{slice_get-map}
use Rattle.bm_base.specs.Entry.{Entry}
use Rattle.bm_base.specs.declared.names.Kind.{Kind}
use Rattle.bm_base.specs.declared.names.Kind.TheVariants.{Var, Array}
use Rattle.bm_base.specs.Memory.{Content, declared_content}
use Rattle.bm_base.specs.Memories.{IsOfKind, IsMemoryOf}
use Rattle.bm_base.specs.Names.{AreNames}
use Rattle.bm_base.proofs.StrictTexts.{some_same}
use Rattle.timing_script.specs.Rows.{TextRow, rows_of}
use Rattle.timing_script.specs.Data.{Gift, room_of, StandAll, values_for, laid, memory_of, IsDataOf}
use Rattle.timing_script.proofs.Laid.{own_place}

-- what is laid over what a kind declares is of the kind, where there is room
laid_kind : (k : Kind) (vs : List ℤ) → length vs ≤ room_of k → IsOfKind k (laid (declared_content k) vs)
laid_kind (Var initial) [] h = tt
laid_kind (Var initial) (v ∷ vs) h = tt
laid_kind (Array len) vs h = omega (arith, length-append vs (drop (length vs) (replicate len (pos 0))), length-drop (length vs) (replicate len (pos 0)), length-replicate {A = ℤ} len (pos 0))

-- a name has room for what it is given
values_fit : (names : List Entry) (lawful : AreNames names) (before rows : List TextRow) (gifts : List Gift) (id : ℕ) (entry : Entry) → StandAll names before rows gifts → slice_get names id ≡ Some entry
    → length (values_for entry.name gifts) ≤ room_of entry.kind
values_fit names lawful before [] [] id entry s here = omega arith
values_fit names lawful before [] (g ∷ gs) id entry s here = absurd s
values_fit names lawful before (r ∷ rows) [] id entry s here = absurd s
values_fit names lawful before (r ∷ rows) (g ∷ gs) id entry s here = by (bytes_eq entry.name g.name) refl (values_fit names lawful (before ++ r ∷ []) rows gs id entry s.1 here)
  where
    by : (t : Bool) → bytes_eq entry.name g.name ≡ t → length (values_for entry.name gs) ≤ room_of entry.kind → length (cond t g.values (values_for entry.name gs)) ≤ room_of entry.kind
    by true e more =
        let place : s.0.declared.id ≡ id = own_place names lawful id entry s.0.entry g.name s.0.declared here e in
        let same : s.0.entry ≡ entry = some_same (sym s.0.declared.here ∙ ap (slice_get names) place ∙ here) in
        subst (λ (x : Entry). length g.values ≤ room_of x.kind) same s.0.fits
    by false e more = more

pub of_names : (names : List Entry) (bytes : List ℕ) (m : List Content) → AreNames names → IsDataOf names bytes m → IsMemoryOf names m
of_names names bytes m lawful d = subst (IsMemoryOf names) (sym d.laid_over) (record { long = length-map names (λ e. laid (declared_content e.kind) (values_for e.name d.gifts)); kinds = kinds })
  where
    kinds : (x : ℕ) (entry : Entry) (content : Content) → slice_get names x ≡ Some entry → slice_get (memory_of names d.gifts) x ≡ Some content → IsOfKind entry.kind content
    kinds x entry content here e =
        let is : laid (declared_content entry.kind) (values_for entry.name d.gifts) ≡ content =
        some_same (sym (slice_get-map (λ (e : Entry). laid (declared_content e.kind) (values_for e.name d.gifts)) names x ∙ ap (option_map (λ (e : Entry). laid (declared_content e.kind) (values_for e.name d.gifts))) here) ∙ e) in
        subst (IsOfKind entry.kind) is (laid_kind entry.kind (values_for entry.name d.gifts) (values_fit names lawful [] (rows_of bytes) d.gifts x entry d.rows here))
