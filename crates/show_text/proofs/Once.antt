-- One thing alone is shown of a program on a machine.
use Rattle.std.proofs.Common.{◌≡◌, suc, ◌≤◌, List, [], ◌∷◌, length, map, refl, sym, ap, ap₂, subst, ◌∙◌}
use Rattle.bm_base.specs.Machine.{Machine, IsMachine}
use Rattle.tuple_ir.specs.declared.block.Block.{Block}
use Rattle.tuple_ir.specs.declared.block.Next.{Next}
use Rattle.line_model.specs.declared.line.Item.{Item}
use Rattle.time_interval.specs.declared.reference.Reason.{Reason}
use Rattle.time_interval.specs.Bounds.{Pace, pace_on}
use Rattle.time_interval.proofs.OneReason.{one_reason}
use Rattle.compiled_image.specs.declared.planned.Plan.{Plan}
use Rattle.compiled_image.proofs.Plans.{one}
use Rattle.tuple_lower.specs.Means.{blocks_of}
use Rattle.tuple_lower.specs.Sound.{LoweredAreSound}
use Rattle.compiled_image.specs.Reasons.{Pair, pairs_of, AreReasons}
use Rattle.compiled_image.proofs.Images.{FewTuples}
use Rattle.show_text.specs.declared.shown.ShownItem.{ShownItem}
use Rattle.show_text.specs.declared.shown.ShownPair.{ShownPair}
use Rattle.show_text.specs.declared.shown.ShownBlock.{ShownBlock}
use Rattle.show_text.specs.Shown.{IsShown, AreShown, ArePairs, pair_of, shown_item}
use Rattle.show_text.specs.Laws.{ProgramsAreShownOnce}

one_reasons : (pace : Pace) (line : List Item) (pairs : List Pair) (reasons other : List Reason) → AreReasons pace line pairs reasons → AreReasons pace line pairs other → reasons ≡ other
one_reasons pace line [] [] [] h k = refl
one_reasons pace line [] [] (r ∷ rs) h k = absurd k
one_reasons pace line [] (r ∷ rs) other h k = absurd h
one_reasons pace line (x ∷ xs) [] other h k = absurd h
one_reasons pace line (x ∷ xs) (r ∷ rs) [] h k = absurd k
one_reasons pace line (x ∷ xs) (r ∷ rs) (s ∷ ss) h k = ap₂ (λ a b. a ∷ b) (one_reason pace line x.earlier x.later r s h.0 k.0) (one_reasons pace line xs rs ss h.1 k.1)

-- the parts of lists whose first parts and rests are told apart
abbrev first_pair : Pair → List Pair → Pair
first_pair d [] = d
first_pair d (x ∷ xs) = x

abbrev rest_pairs : List Pair → List Pair
rest_pairs [] = []
rest_pairs (x ∷ xs) = xs

abbrev first_reason : Reason → List Reason → Reason
first_reason d [] = d
first_reason d (x ∷ xs) = x

abbrev rest_reasons : List Reason → List Reason
rest_reasons [] = []
rest_reasons (x ∷ xs) = xs

abbrev made : Pair → Reason → ShownPair
made x r = record { a = x.earlier; b = x.later; reason = r }

one_shown_pairs : (ps qs : List ShownPair) → map pair_of ps ≡ map pair_of qs → map (λ p. p.reason) ps ≡ map (λ p. p.reason) qs → ps ≡ qs
one_shown_pairs [] [] e f = refl
one_shown_pairs [] (q ∷ qs) e f = absurd cc
one_shown_pairs (p ∷ ps) [] e f = absurd cc
one_shown_pairs (p ∷ ps) (q ∷ qs) e f =
    let same : p ≡ q = ap₂ made (ap (first_pair (pair_of p)) e) (ap (first_reason p.reason) f) in
    ap₂ (λ a b. a ∷ b) same (one_shown_pairs ps qs (ap rest_pairs e) (ap rest_reasons f))

one_pairs : (pace : Pace) (line : List Item) (pairs : List Pair) (ps qs : List ShownPair) → ArePairs pace line pairs ps → ArePairs pace line pairs qs → ps ≡ qs
one_pairs pace line pairs ps qs h k =
    one_shown_pairs ps qs (h.pairs_are ∙ sym k.pairs_are) (one_reasons pace line pairs (map (λ p. p.reason) ps) (map (λ p. p.reason) qs) h.reasons k.reasons)

module _ (machine : Machine) (is_machine : IsMachine machine) where
  one_block : (block : Block) (s t : ShownBlock) → length block.tuples ≤ 128 → IsShown machine block s → IsShown machine block t → s ≡ t
  one_block block s t few h k =
      let p = one machine block.tuples is_machine few in
      let e : h.plan ≡ k.plan = p.2 h.plan h.planned ∙ sym (p.2 k.plan k.planned) in
      let items : s.items ≡ t.items = h.items ∙ ap (λ (plan : Plan). map (shown_item plan) plan.line.items) e ∙ sym k.items in
      let there : ArePairs (pace_on machine block.tuples) h.plan.line.items (pairs_of block.tuples) t.pairs =
      subst (λ (plan : Plan). ArePairs (pace_on machine block.tuples) plan.line.items (pairs_of block.tuples) t.pairs) (sym e) k.pairs in
      let pairs : s.pairs ≡ t.pairs = one_pairs (pace_on machine block.tuples) h.plan.line.items (pairs_of block.tuples) s.pairs t.pairs h.pairs there in
      let next : s.next ≡ t.next = h.next ∙ sym k.next in
      let first : s ≡ record { items = t.items; pairs = t.pairs; next = s.next } = ap₂ (λ (a : List ShownItem) (b : List ShownPair). let x : ShownBlock = record { items = a; pairs = b; next = s.next } in x) items pairs in
      first ∙ ap (λ (n : Next). let x : ShownBlock = record { items = t.items; pairs = t.pairs; next = n } in x) next

  one_listing : (blocks : List Block) (shown other : List ShownBlock) → FewTuples machine is_machine blocks → AreShown machine blocks shown → AreShown machine blocks other → shown ≡ other
  one_listing [] [] [] few h k = refl
  one_listing [] (t ∷ ts) other few h k = absurd h
  one_listing [] [] (u ∷ us) few h k = absurd k
  one_listing (x ∷ xs) [] other few h k = absurd h
  one_listing (x ∷ xs) (t ∷ ts) [] few h k = absurd k
  one_listing (x ∷ xs) (t ∷ ts) (u ∷ us) few h k = ap₂ (λ a b. a ∷ b) (one_block x t u (few 0 x refl) h.0 k.0) (one_listing xs ts us (λ b block e. few (suc b) block e) h.1 k.1)

pub shown_once : LoweredAreSound → ProgramsAreShownOnce
shown_once sound machine p shown other is_machine right few h k =
    one_listing machine is_machine (blocks_of p) shown other (λ b block e. ((sound p right few).each b block e).few) h k
