-- Pairs that are shown, one more at a time.
use Rattle.std.proofs.Common.{◌≡◌, ℕ, ◌+◌, List, [], ◌∷◌, ◌++◌, refl, sym, ap, ◌∙◌, map, take, append_assoc, subst}
use Rattle.std.proofs.lemmas.List.{map_push}
use Rattle.line_model.specs.declared.line.Item.{Item}
use Rattle.time_interval.specs.declared.reference.Reason.{Reason}
use Rattle.time_interval.specs.Bounds.{Pace}
use Rattle.time_interval.specs.Ordered.{IsReason}
use Rattle.compiled_image.specs.Reasons.{Pair, pair, AreReasons}
use Rattle.show_text.specs.declared.shown.ShownPair.{ShownPair}
use Rattle.show_text.specs.Shown.{ArePairs, pair_of}

pub no_pairs : (pace : Pace) (line : List Item) → ArePairs pace line [] []
no_pairs pace line = record { pairs_are = refl; reasons = tt }

reasons_more : (pace : Pace) (line : List Item) (pairs : List Pair) (reasons : List Reason) (x : Pair) (reason : Reason) →
    AreReasons pace line pairs reasons → IsReason pace line x.earlier x.later reason → AreReasons pace line (pairs ++ x ∷ []) (reasons ++ reason ∷ [])
reasons_more pace line [] [] x reason h k = (k, tt)
reasons_more pace line [] (r ∷ rs) x reason h k = absurd h
reasons_more pace line (y ∷ ys) [] x reason h k = absurd h
reasons_more pace line (y ∷ ys) (r ∷ rs) x reason h k = (h.0, reasons_more pace line ys rs x reason h.1 k)

-- one pair more
pub pairs_more : (pace : Pace) (line : List Item) (pairs : List Pair) (shown : List ShownPair) (p : ShownPair) →
    ArePairs pace line pairs shown → IsReason pace line p.a p.b p.reason → ArePairs pace line (pairs ++ pair p.b p.a ∷ []) (shown ++ p ∷ [])
pairs_more pace line pairs shown p h k =
    let R : List Reason → Type 0 = AreReasons pace line (pairs ++ pair p.b p.a ∷ []) in
    record {
      pairs_are = map_push pair_of shown p ∙ ap (λ (xs : List Pair). xs ++ pair_of p ∷ []) h.pairs_are;
      reasons = subst R (sym (map_push (λ (s : ShownPair). s.reason) shown p)) (reasons_more pace line pairs (map (λ (s : ShownPair). s.reason) shown) (pair p.b p.a) p.reason h.reasons k);
    }

-- .. of a row
pub pairs_next : (pace : Pace) (line : List Item) (done : List Pair) (row : List ℕ) (i : ℕ) (shown : List ShownPair) (p : ShownPair) →
    take (i + 1) row ≡ take i row ++ p.a ∷ [] → ArePairs pace line (done ++ map (pair p.b) (take i row)) shown → IsReason pace line p.a p.b p.reason →
    ArePairs pace line (done ++ map (pair p.b) (take (i + 1) row)) (shown ++ p ∷ [])
pairs_next pace line done row i shown p e h k =
    let more : ArePairs pace line ((done ++ map (pair p.b) (take i row)) ++ pair p.b p.a ∷ []) (shown ++ p ∷ []) = pairs_more pace line (done ++ map (pair p.b) (take i row)) shown p h k in
    let same : (done ++ map (pair p.b) (take i row)) ++ pair p.b p.a ∷ [] ≡ done ++ map (pair p.b) (take (i + 1) row) =
    append_assoc done (map (pair p.b) (take i row)) (pair p.b p.a ∷ []) ∙ ap (λ (xs : List Pair). done ++ xs) (sym (map_push (pair p.b) (take i row) p.a) ∙ ap (map (pair p.b)) (sym e)) in
    let P : List Pair → Type 0 = λ xs. ArePairs pace line xs (shown ++ p ∷ []) in
    subst P same more
