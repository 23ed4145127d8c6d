-- Lines that are written, what is left of them at a time.
use Rattle.std.proofs.Common.{◌≡◌, ℕ, suc, ◌+◌, ◌≤◌, ◌<◌, List, [], ◌∷◌, ◌++◌, length, map, drop, get_or, Result, Ok, Err, sym, ap, ◌∙◌, subst, arith}
use Rattle.std.proofs.lemmas.List.{drop_more, drop_all}
use Rattle.bm_io.specs.declared.sinks.SinkFault.{SinkFault}
use Rattle.bm_io.specs.Sink.{Taken, Sent}
use Rattle.bm_io.proofs.Sending.{Sent-stop, Sent-more, Sent-nothing}
use Rattle.show_text.specs.declared.shown.ShownBlock.{ShownBlock}
use Rattle.show_text.specs.Listing.{block_lines, listing_from}

-- a line for each of some things, from number i on
module _ {A : Type 0} (f : A → List ℕ) (xs : List A) (i : ℕ) (x d : A) (h : i < length xs) (is : x ≡ get_or xs i d) where
  first_left : map f (drop i xs) ≡ (f x ∷ []) ++ map f (drop (i + 1) xs)
  first_left = ap (map f) (drop_more xs i d h) ∙ ap (λ (y : A). f y ∷ map f (drop (i + 1) xs)) (sym is)

  pub line_stops : (mid now : Taken) (e : SinkFault) → Sent {T = Unit {0}} mid now (f x ∷ []) (Err e) → Sent {T = Unit {0}} mid now (map f (drop i xs)) (Err e)
  line_stops mid now e s =
      let P : List (List ℕ) → Type 0 = λ ls. Sent {T = Unit {0}} mid now ls (Err e) in
      subst P (sym first_left) (Sent-stop mid now (f x ∷ []) (map f (drop (i + 1) xs)) e s)

  pub line_goes_on : (before mid now : Taken) (r : Result (Unit {0}) SinkFault) → Sent {T = Unit {0}} before mid (f x ∷ []) (Ok tt) → Sent mid now (map f (drop (i + 1) xs)) r → Sent before now (map f (drop i xs)) r
  line_goes_on before mid now r s k =
      let P : List (List ℕ) → Type 0 = λ ls. Sent before now ls r in
      subst P (sym first_left) (Sent-more before mid now (f x ∷ []) (map f (drop (i + 1) xs)) r s.ok k)

pub lines_end : {A : Type 0} (f : A → List ℕ) (xs : List A) (i : ℕ) (before : Taken) → length xs ≤ i → Sent {T = Unit {0}} before before (map f (drop i xs)) (Ok tt)
lines_end f xs i before h =
    let P : List (List ℕ) → Type 0 = λ ls. Sent {T = Unit {0}} before before ls (Ok tt) in
    subst P (sym (ap (map f) (drop_all i xs h))) (Sent-nothing before tt)

-- the lines of blocks, from number i on
module _ (xs : List ShownBlock) (i : ℕ) (x : ShownBlock) (h : i < length xs) (is : x ≡ get_or xs i x) where
  block_left : listing_from i (drop i xs) ≡ block_lines i x ++ listing_from (i + 1) (drop (i + 1) xs)
  block_left =
      let n : suc i ≡ i + 1 = omega arith in
      ap (listing_from i) (drop_more xs i x h) ∙ ap (λ (y : ShownBlock). block_lines i y ++ listing_from (suc i) (drop (i + 1) xs)) (sym is) ∙ ap (λ (m : ℕ). block_lines i x ++ listing_from m (drop (i + 1) xs)) n

  pub block_stops : (mid now : Taken) (e : SinkFault) → Sent {T = Unit {0}} mid now (block_lines i x) (Err e) → Sent {T = Unit {0}} mid now (listing_from i (drop i xs)) (Err e)
  block_stops mid now e s =
      let P : List (List ℕ) → Type 0 = λ ls. Sent {T = Unit {0}} mid now ls (Err e) in
      subst P (sym block_left) (Sent-stop mid now (block_lines i x) (listing_from (i + 1) (drop (i + 1) xs)) e s)

  pub block_goes_on : (before mid now : Taken) (r : Result (Unit {0}) SinkFault) → Sent {T = Unit {0}} before mid (block_lines i x) (Ok tt) → Sent mid now (listing_from (i + 1) (drop (i + 1) xs)) r → Sent before now (listing_from i (drop i xs)) r
  block_goes_on before mid now r s k =
      let P : List (List ℕ) → Type 0 = λ ls. Sent before now ls r in
      subst P (sym block_left) (Sent-more before mid now (block_lines i x) (listing_from (i + 1) (drop (i + 1) xs)) r s.ok k)

pub blocks_end : (xs : List ShownBlock) (i : ℕ) (before : Taken) → length xs ≤ i → Sent {T = Unit {0}} before before (listing_from i (drop i xs)) (Ok tt)
blocks_end xs i before h =
    let P : List (List ℕ) → Type 0 = λ ls. Sent {T = Unit {0}} before before ls (Ok tt) in
    subst P (sym (ap (listing_from i) (drop_all i xs h))) (Sent-nothing before tt)
