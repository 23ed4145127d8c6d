-- What a lowered `if` does.
use Rattle.std.proofs.Common.{◌≡◌, ◌<◌, ◌≤◌, ◌+◌, ◌-◌, ℕ, ℤ, pos, Bool, true, false, List, [], ◌∷◌, ◌++◌, length, Some, refl, sym, ap, subst, ◌∙◌, arith, append-nil, length-append}
use Rattle.std.specs.Prelude.{if◌then◌else◌}
use Rattle.std.specs.Ordering.{int_eq}
use Rattle.src_names.specs.declared.resolved.RExpr.{RExpr}
use Rattle.src_names.specs.Sizes.{nodes}
use Rattle.src_meaning.specs.declared.evaluate.End.{End}
use Rattle.src_meaning.specs.declared.evaluate.End.TheVariants.{Done, More}
use Rattle.src_meaning.specs.Meaning.{Outcome, Action, value_of, is_zero}
use Rattle.tuple_ir.specs.declared.block.Block.{Block}
use Rattle.tuple_ir.specs.declared.block.Next.{Next}
use Rattle.tuple_ir.specs.declared.block.Next.TheVariants.{Goto, If}
use Rattle.tuple_ir.specs.declared.tuple.Tuple as t
use Rattle.tuple_ir.specs.World.{World, cell}
use Rattle.tuple_ir.specs.Serial.{block_at, follows}
use Rattle.tuple_lower.specs.Lowered.{Row, last_of, expr_tuples}
use Rattle.tuple_lower.specs.Blocks.{Piece, Lowering, block, put, choice}
use Rattle.tuple_lower.proofs.Serially.{after_all}
use Rattle.tuple_lower.proofs.Gives.{expr_gives}
use Rattle.tuple_lower.proofs.Sizes.{row_length}
use Rattle.tuple_lower.proofs.Count.{Within, within-one, within-more, within-append}
use Rattle.tuple_lower.proofs.Reach.{Reaches, reaches-then, reaches-one, StandFrom, stand-left, stand-right, Holds, Begins}
use Rattle.tuple_lower.proofs.Placed.{comes, Comes, Performs, Tidy, after_room, HasSize, PutRuns, put_runs, put_begins}

pub expr_size : (c : RExpr) → nodes c ≤ 120 → HasSize (expr_tuples c) (nodes c)
expr_size c few = record { size_is = row_length c; few = omega (arith, few) }

-- the tuples of a condition leave memory and output, and a follow goes by its value
pub record Tested (before after : World) (c : RExpr) (at : ℕ) : Type 0 where
  pub same_memory : after.memory ≡ before.memory
  pub same_output : after.output ≡ before.output
  pub many : length after.cells ≡ 128
  pub value : cell after at ≡ value_of c before.memory

pub follow_zero : (v : World) (at one other : ℕ) (value : ℤ) → cell v at ≡ value → is_zero value ≡ true → follows (If at one other) v ≡ Some other
follow_zero v at one other value same z = ap (λ q. if int_eq q (pos 0) then Some other else Some one) same ∙ ap (λ q. if q then Some other else Some one) z

pub follow_some : (v : World) (at one other : ℕ) (value : ℤ) → cell v at ≡ value → is_zero value ≡ false → follows (If at one other) v ≡ Some one
follow_some v at one other value same z = ap (λ q. if int_eq q (pos 0) then Some other else Some one) same ∙ ap (λ q. if q then Some other else Some one) z

-- A body that stands at t ran behind these blocks, and then its last block goes to the join.
module _ (blocks : List Block) (b : ℕ) (e : World) (shown : List ℤ) (all : List Block) (n : ℕ) (oc : Outcome) (front : List ℕ) (at : ℕ) (v : World) (y : Piece) (join : ℕ)
    (reaches : Reaches blocks b e front at v) (within : Within b at front 1) (lower : b ≤ at) (same : v.output ≡ shown) (ends : block_at blocks (at + length y.ended) ≡ block y.current (Goto join)) (upper : at + length y.ended < join)
    (place : b + length all ≡ join) where
  pub body_through : (end : End) → comes end blocks at v v.output y n oc → comes end blocks b e shown (record { ended = all; current = [] }) n oc
  body_through Done x =
      let last = at + length y.ended in
      let u = after_all 0 y.current x.here in
      let step = reaches-one blocks last y.current (Goto join) x.here u join ends refl refl in
      let rest = reaches-then blocks x.trail (last ∷ []) at last join v x.here u x.reaches step in
      let whole = reaches-then blocks front (x.trail ++ last ∷ []) b at join e v u reaches rest in
      let m = n - oc.turns + 1 in
      let l1 = length-append front (x.trail ++ last ∷ []) in
      let l2 = length-append x.trail (last ∷ []) in
      let long = x.long in
      let w1 = within-more b at 1 b at m front (omega arith) (omega arith) (omega arith) within in
      let w2 = within-append at last join m x.trail (last ∷ []) (omega arith) (omega (arith, upper)) x.within (within-one last last join m (omega arith) upper (omega arith)) in
      let w3 = within-append b at join m front (x.trail ++ last ∷ []) lower (omega (arith, upper)) w1 w2 in
      record {
        trail = front ++ (x.trail ++ last ∷ []);
        here = u;
        reaches = subst (λ j. Reaches blocks b e (front ++ (x.trail ++ last ∷ [])) j u) (sym place) whole;
        room = after_room y.current x.here x.room;
        memory = x.memory;
        output = x.output ∙ ap (λ s. s ++ oc.output) same;
        left = x.left;
        within = subst (λ j. Within b j (front ++ (x.trail ++ last ∷ [])) m) (sym place) w3;
        long = omega (arith, long, l1, l2);
      }
  body_through More x =
      let last = at + length y.ended in
      let l1 = length-append front x.trail in
      let long = x.long in
      let w1 = within-more b at 1 b at (n + 1) front (omega arith) (omega arith) (omega arith) within in
      let w2 = within-more at last (n + 1) at join (n + 1) x.trail (omega arith) (omega (arith, upper)) (omega arith) x.within in
      let w3 = within-append b at join (n + 1) front x.trail lower (omega (arith, upper)) w1 w2 in
      record {
        trail = front ++ x.trail;
        place = x.place;
        here = x.here;
        reaches = reaches-then blocks front x.trail b at x.place e v x.here reaches x.reaches;
        output = x.output ∙ ap (λ s. s ++ oc.output) same;
        within = subst (λ j. Within b j (front ++ x.trail) (n + 1)) (sym place) w3;
        long = omega (arith, long, l1);
      }

module _ (c : RExpr) (few : nodes c ≤ 120) (first second : Lowering) (a1 a2 : Action) (f : Performs first a1) (g : Performs second a2) where
  abbrev chosen : Action
  chosen n memory = if is_zero (value_of c memory) then a2 n memory else a1 n memory

  module _ (blocks : List Block) (b : ℕ) (ts : List t.Tuple) (e : World) (n : ℕ) (room : length e.cells ≡ 128) (holds : Holds blocks b (choice (expr_tuples c) first second b ts)) where
    abbrev w : World
    w = after_all 0 ts e

    abbrev cp : Piece
    cp = put (expr_tuples c) b ts

    abbrev test : ℕ
    test = b + length cp.ended

    abbrev y : Piece
    y = first (test + 1) []

    abbrev y_last : ℕ
    y_last = test + 1 + length y.ended

    abbrev z : Piece
    z = second (y_last + 1) []

    abbrev z_last : ℕ
    z_last = y_last + 1 + length z.ended

    abbrev join : ℕ
    join = z_last + 1

    abbrev tail_y : List Block
    tail_y = block y.current (Goto join) ∷ (z.ended ++ block z.current (Goto join) ∷ [])

    abbrev tail : List Block
    tail = block cp.current (If (last_of 0 cp.current) (test + 1) (y_last + 1)) ∷ (y.ended ++ tail_y)

    abbrev all : List Block
    all = cp.ended ++ tail

    at_test : StandFrom blocks test tail
    at_test = stand-right blocks cp.ended tail b holds.ended

    at_y : StandFrom blocks y_last tail_y
    at_y = stand-right blocks y.ended tail_y (test + 1) at_test.1

    at_z : StandFrom blocks z_last (block z.current (Goto join) ∷ [])
    at_z = stand-right blocks z.ended (block z.current (Goto join) ∷ []) (y_last + 1) at_y.1

    holds_y : Holds blocks (test + 1) y
    holds_y = record { ended = stand-left blocks y.ended tail_y (test + 1) at_test.1; more = []; current = ap (λ x. x.tuples) at_y.0 ∙ sym (append-nil y.current) }

    holds_z : Holds blocks (y_last + 1) z
    holds_z = record { ended = stand-left blocks z.ended (block z.current (Goto join) ∷ []) (y_last + 1) at_y.1; more = []; current = ap (λ x. x.tuples) at_z.0 ∙ sym (append-nil z.current) }

    place : b + length all ≡ join
    place =
        let l1 = length-append cp.ended tail in
        let l2 = length-append y.ended tail_y in
        let l3 = length-append z.ended (block z.current (Goto join) ∷ []) in
        omega (arith, l1, l2, l3)

    runs : PutRuns blocks b e ts (expr_tuples c) cp
    runs = put_runs blocks b e ts (expr_tuples c) (nodes c) (expr_size c few) room (stand-left blocks cp.ended tail b holds.ended)

    abbrev v : World
    v = after_all 0 cp.current runs.here

    tested : Tested w v c (last_of 0 cp.current)
    tested =
        let k = runs.from in
        let us = expr_tuples c k in
        let gives = expr_gives c k w (after_room ts e room) runs.fits in
        let whole = runs.whole in
        let some = gives.some in
        let at : last_of 0 cp.current ≡ last_of k us = omega (arith, whole, some) in
        record {
          same_memory = ap (λ x. x.memory) runs.runs ∙ gives.same_memory;
          same_output = ap (λ x. x.output) runs.runs ∙ gives.same_output;
          many = ap (λ x. length x.cells) runs.runs ∙ gives.many;
          value = ap (λ x. cell x (last_of 0 cp.current)) runs.runs ∙ ap (cell (after_all k us w)) at ∙ gives.value;
        }

    abbrev front : List ℕ
    front = runs.trail ++ test ∷ []

    front_reaches : (to : ℕ) → follows (If (last_of 0 cp.current) (test + 1) (y_last + 1)) v ≡ Some to → Reaches blocks b e front to v
    front_reaches to h = reaches-then blocks runs.trail (test ∷ []) b test to e runs.here v runs.reaches (reaches-one blocks test cp.current (If (last_of 0 cp.current) (test + 1) (y_last + 1)) runs.here v to at_test.0 refl h)

    front_within : (to : ℕ) → test < to → Within b to front 1
    front_within to l = within-append b test to 1 runs.trail (test ∷ []) (omega arith) (omega (arith, l)) runs.within (within-one test test to 1 (omega arith) l (omega arith))

    pick : (q : Bool) → is_zero (value_of c w.memory) ≡ q → Comes blocks b e w.output (record { ended = all; current = [] }) n (if q then a2 n w.memory else a1 n w.memory)
    pick true q =
        let here : Comes blocks (y_last + 1) v v.output z n (a2 n v.memory) = g blocks (y_last + 1) [] v n tested.many (omega arith) holds_z in
        let here2 : Comes blocks (y_last + 1) v v.output z n (a2 n w.memory) = subst (λ m. Comes blocks (y_last + 1) v v.output z n (a2 n m)) tested.same_memory here in
        body_through blocks b e w.output all n (a2 n w.memory) front (y_last + 1) v z join (front_reaches (y_last + 1) (follow_zero v (last_of 0 cp.current) (test + 1) (y_last + 1) (value_of c w.memory) tested.value q)) (front_within (y_last + 1) (omega arith)) (omega arith) tested.same_output at_z.0 (omega arith) place (a2 n w.memory).end here2
    pick false q =
        let here : Comes blocks (test + 1) v v.output y n (a1 n v.memory) = f blocks (test + 1) [] v n tested.many (omega arith) holds_y in
        let here2 : Comes blocks (test + 1) v v.output y n (a1 n w.memory) = subst (λ m. Comes blocks (test + 1) v v.output y n (a1 n m)) tested.same_memory here in
        body_through blocks b e w.output all n (a1 n w.memory) front (test + 1) v y join (front_reaches (test + 1) (follow_some v (last_of 0 cp.current) (test + 1) (y_last + 1) (value_of c w.memory) tested.value q)) (front_within (test + 1) (omega arith)) (omega arith) tested.same_output at_y.0 (omega arith) place (a1 n w.memory).end here2

  pub choice_performs : Performs (choice (expr_tuples c) first second) (λ n memory. if is_zero (value_of c memory) then a2 n memory else a1 n memory)
  choice_performs blocks b ts e n room few2 holds = pick blocks b ts e n room holds (is_zero (value_of c (after_all 0 ts e).memory)) refl

choice_first : (x more : List Block) (c current ts : List t.Tuple) (next : Next) → Begins x c ts → Begins (x ++ block c next ∷ more) current ts
choice_first [] more c current ts next h = h
choice_first (x ∷ xs) more c current ts next h = h

pub choice_tidy : (row : Row) (first second : Lowering) → Tidy (choice row first second)
choice_tidy row first second = record {
  fits = λ b ts l. omega arith;
  begins = λ b ts.
      let cp = put row b ts in
      let test = b + length cp.ended in
      let y = first (test + 1) [] in
      let y_last = test + 1 + length y.ended in
      let z = second (y_last + 1) [] in
      let join = y_last + 1 + length z.ended + 1 in
      choice_first cp.ended (y.ended ++ block y.current (Goto join) ∷ (z.ended ++ block z.current (Goto join) ∷ [])) cp.current [] ts (If (last_of 0 cp.current) (test + 1) (y_last + 1)) (put_begins row b ts);
}
