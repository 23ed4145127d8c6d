-- Lines that are written row by row, what is left of them at a time.
use Rattle.std.proofs.Common.{◌≡◌, ℕ, ◌+◌, ◌≤◌, List, [], ◌∷◌, ◌++◌, length, drop, Some, slice_get, Result, Ok, Err, sym, ap, ◌∙◌, subst}
use Rattle.std.proofs.lemmas.List.{drop_more, drop_all}
use Rattle.std.proofs.lemmas.Option.{slice_get_within, get_or_from_slice_get}
use Rattle.bm_io.specs.declared.sinks.SinkFault.{SinkFault}
use Rattle.bm_io.specs.Sink.{Taken, Sent}
use Rattle.bm_io.proofs.Sending.{Sent-stop, Sent-more, Sent-nothing}

module _ (ls : List (List ℕ)) (i : ℕ) (x : List ℕ) (is : slice_get ls i ≡ Some x) where
  first_left : drop i ls ≡ (x ∷ []) ++ drop (i + 1) ls
  first_left = drop_more ls i [] (slice_get_within ls i x is) ∙ ap (λ y. y ∷ drop (i + 1) ls) (get_or_from_slice_get ls i x [] is)

  pub row_stops : (mid now : Taken) (e : SinkFault) → Sent {T = Unit {0}} mid now (x ∷ []) (Err e) → Sent {T = Unit {0}} mid now (drop i ls) (Err e)
  row_stops mid now e s =
      let P : List (List ℕ) → Type 0 = λ xs. Sent {T = Unit {0}} mid now xs (Err e) in
      subst P (sym first_left) (Sent-stop mid now (x ∷ []) (drop (i + 1) ls) e s)

  pub row_goes_on : (before mid now : Taken) (r : Result (Unit {0}) SinkFault) → Sent {T = Unit {0}} before mid (x ∷ []) (Ok tt) → Sent mid now (drop (i + 1) ls) r → Sent before now (drop i ls) r
  row_goes_on before mid now r s k =
      let P : List (List ℕ) → Type 0 = λ xs. Sent before now xs r in
      subst P (sym first_left) (Sent-more before mid now (x ∷ []) (drop (i + 1) ls) r s.ok k)

pub rows_end : (ls : List (List ℕ)) (i : ℕ) (before : Taken) → length ls ≤ i → Sent {T = Unit {0}} before before (drop i ls) (Ok tt)
rows_end ls i before h =
    let P : List (List ℕ) → Type 0 = λ xs. Sent {T = Unit {0}} before before xs (Ok tt) in
    subst P (sym (drop_all i ls h)) (Sent-nothing before tt)
