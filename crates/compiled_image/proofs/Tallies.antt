-- Counts of pairs by their reasons.
use Rattle.std.proofs.Common.{◌≡◌, Bool, true, false, ℕ, ◌+◌, ◌≤◌, List, [], ◌∷◌, ◌++◌, refl, sym, ap, ◌∙◌, arith, map, take, append_assoc}
use Rattle.std.proofs.lemmas.List.{map_push}
use Rattle.line_model.specs.declared.line.Item.{Item}
use Rattle.time_interval.specs.declared.reference.Reason.{Reason}
use Rattle.time_interval.specs.Bounds.{Pace}
use Rattle.time_interval.specs.declared.reference.Reason.TheVariants.{SameProcessor, ByBarrier, ByTime}
use Rattle.time_interval.specs.Ordered.{IsOrdered, IsReason}
use Rattle.time_interval.specs.Ordered.IsReason.{processor, barrier}
use Rattle.time_interval.proofs.OrderFacts.{on_processor, not_on_processor, by_barriers, not_by_barriers}
use Rattle.bm_base.specs.Mask.{has_bit}
use Rattle.compiled_image.specs.Fronts.{IsFrontOf, IsKind}
use Rattle.compiled_image.proofs.Reasoned.{time_reason}
use Rattle.compiled_image.specs.declared.pairs.Tally.{Tally}
use Rattle.compiled_image.specs.Reasons.{Pair, pair, AreReasons}
use Rattle.compiled_image.specs.Counts.{tally_of, AreUpTo, IsTallyOf}

pub no_pairs : (pace : Pace) (line : List Item) → IsTallyOf pace line [] (tally_of [])
no_pairs pace line = record { reasons = []; are = tt; counts = refl }

reasons_more : (pace : Pace) (line : List Item) (pairs : List Pair) (reasons : List Reason) (x : Pair) (reason : Reason) → AreReasons pace line pairs reasons → IsReason pace line x.earlier x.later reason → AreReasons pace line (pairs ++ x ∷ []) (reasons ++ reason ∷ [])
reasons_more pace line [] [] x reason h k = (k, tt)
reasons_more pace line [] (r ∷ rs) x reason h k = absurd h
reasons_more pace line (y ∷ ys) [] x reason h k = absurd h
reasons_more pace line (y ∷ ys) (r ∷ rs) x reason h k = (h.0, reasons_more pace line ys rs x reason h.1 k)

-- one pair more
pub tally_more : (pace : Pace) (line : List Item) (pairs done : List Pair) (row : List ℕ) (b a : ℕ) (reason : Reason) (t new : Tally) → pairs ≡ done ++ map (pair b) row → IsTallyOf pace line pairs t → IsReason pace line a b reason → ((reasons : List Reason) → t ≡ tally_of reasons → new ≡ tally_of (reasons ++ reason ∷ [])) → IsTallyOf pace line (done ++ map (pair b) (row ++ a ∷ [])) new
tally_more pace line pairs done row b a reason t new e h k f =
    let same : pairs ++ pair b a ∷ [] ≡ done ++ map (pair b) (row ++ a ∷ []) = ap (λ xs. xs ++ pair b a ∷ []) e ∙ append_assoc done (map (pair b) row) (pair b a ∷ []) ∙ ap (λ xs. done ++ xs) (sym (map_push (pair b) row a)) in
    record {
      reasons = h.reasons ++ reason ∷ [];
      are = rw (sym same) (reasons_more pace line pairs h.reasons (pair b a) reason h.are k);
      counts = f h.reasons h.counts;
    }

pub tally_next : (pace : Pace) (line : List Item) (done : List Pair) (row : List ℕ) (i b a : ℕ) (reason : Reason) (t new : Tally) → take (i + 1) row ≡ take i row ++ a ∷ [] → IsTallyOf pace line (done ++ map (pair b) (take i row)) t → IsReason pace line a b reason → ((reasons : List Reason) → t ≡ tally_of reasons → new ≡ tally_of (reasons ++ reason ∷ [])) → IsTallyOf pace line (done ++ map (pair b) (take (i + 1) row)) new
tally_next pace line done row i b a reason t new e h k f = rw e (tally_more pace line (done ++ map (pair b) (take i row)) done (take i row) b a reason t new refl h k f)

pub up_to : (n m : ℕ) (t : Tally) → n ≤ m → AreUpTo n t → AreUpTo m t
up_to n m t l h = record { pairs = omega (arith, l, h.pairs); processor = omega (arith, l, h.processor); barrier = omega (arith, l, h.barrier); time = omega (arith, l, h.time) }

-- the kind of the reason why a tuple is ordered before the one behind a front
pub kind_some : (pace : Pace) (line : List Item) (b a on seen : ℕ) (x y : Bool) → IsFrontOf pace.processors line b on seen → x ≡ has_bit on a → y ≡ has_bit seen a → IsOrdered pace line a b → (reason : Reason) × IsKind x y reason × IsReason pace line a b reason
kind_some pace line b a on seen true y f e g o = (SameProcessor, refl, processor (on_processor line f.front f.p b a f.behind (sym (f.on_is a) ∙ sym e)))
kind_some pace line b a on seen false true f e g o =
    let off = sym (f.on_is a) ∙ sym e in
    (ByBarrier, refl, barrier (not_on_processor line f.front f.p b a f.behind off) (by_barriers pace.processors 128 line f.front f.p b a f.items f.behind off (sym (f.seen_is a) ∙ sym g)))
kind_some pace line b a on seen false false f e g o =
    let off = sym (f.on_is a) ∙ sym e in
    let t = time_reason pace line a b (not_on_processor line f.front f.p b a f.behind off) (not_by_barriers pace.processors 128 line f.front f.p b a f.items f.behind (sym (f.seen_is a) ∙ sym g)) o in
    (ByTime t.0, (t.0, refl), t.1)
