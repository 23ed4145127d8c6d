-- What a lowered `while` does.
use Rattle.std.proofs.Common.{◌≡◌, ◌<◌, ◌≤◌, ◌+◌, ◌-◌, ℕ, zero, suc, Bool, true, false, List, [], ◌∷◌, ◌++◌, length, Some, refl, sym, ap, subst, ◌∙◌, arith, append_assoc, append-nil, length-append, inl, inr}
use Rattle.std.proofs.lemmas.Bool.{cases_eq}
use Rattle.src_names.specs.declared.resolved.RExpr.{RExpr}
use Rattle.src_names.specs.Sizes.{nodes}
use Rattle.src_meaning.specs.declared.evaluate.End.{End}
use Rattle.src_meaning.specs.declared.evaluate.End.TheVariants.{Done, More}
use Rattle.src_meaning.specs.Meaning.{Outcome, Action, done, stopped, behind, continued, and_then, while_loop, value_of, is_zero}
use Rattle.src_meaning.proofs.Turns.{Spends, while-turn, while-done, while-stopped}
use Rattle.tuple_ir.specs.declared.block.Block.{Block}
use Rattle.tuple_ir.specs.declared.block.Next.TheVariants.{Goto, If}
use Rattle.tuple_ir.specs.declared.tuple.Tuple as t
use Rattle.tuple_ir.specs.World.{World}
use Rattle.tuple_ir.specs.Serial.{block_at, follows}
use Rattle.tuple_lower.specs.Lowered.{Row, last_of, expr_tuples}
use Rattle.tuple_lower.specs.Blocks.{Piece, Lowering, block, repetition}
use Rattle.tuple_lower.proofs.Serially.{after_all}
use Rattle.tuple_lower.proofs.Gives.{Gives, expr_gives}
use Rattle.tuple_lower.proofs.Sizes.{row_length}
use Rattle.tuple_lower.proofs.Count.{count, one_same, one_other, count-append, Within}
use Rattle.tuple_lower.proofs.Reach.{Reaches, reaches-then, reaches-one, StandFrom, stand-left, stand-right, Holds}
use Rattle.tuple_lower.proofs.Placed.{Arrives, comes, Comes, Performs, Tidy, after_room}
use Rattle.tuple_lower.proofs.Branches.{follow_zero, follow_some}

-- the trail of a loop: its header stands in it once more than any other block
pub record LoopWithin (header exit : ℕ) (trail : List ℕ) (most : ℕ) : Type 0 where
  pub first : count header trail ≤ most + 1
  pub others : (x : ℕ) → (x ≡ header → ⊥) → count x trail ≤ most
  pub low : (x : ℕ) → x < header → count x trail ≡ 0
  pub high : (x : ℕ) → exit ≤ x → count x trail ≡ 0

header_alone : (h exit most : ℕ) → h < exit → LoopWithin h exit (h ∷ []) most
header_alone h exit most l = record {
  first = let a = one_same h h refl in omega (arith, a);
  others = λ x ne. let a = one_other x h ne in omega (arith, a);
  low = λ x k. let a = one_other x h (λ q. let no : ⊥ = omega (arith, q, k) in no) in omega (arith, a);
  high = λ x k. let a = one_other x h (λ q. let no : ⊥ = omega (arith, q, k, l) in no) in omega (arith, a);
}

-- the header, and a part of the body
header_then : (h exit last most : ℕ) (xs : List ℕ) → h < exit → last < exit → Within (h + 1) last xs most → LoopWithin h exit (h ∷ xs) most
header_then h exit last most xs l k w = record {
  first = let a = one_same h h refl in let b = w.low h (omega arith) in omega (arith, a, b);
  others = λ x ne. let a = one_other x h ne in let b = w.few x in omega (arith, a, b);
  low = λ x j. let a = one_other x h (λ q. let no : ⊥ = omega (arith, q, j) in no) in let b = w.low x (omega (arith, j)) in omega (arith, a, b);
  high = λ x j. let a = one_other x h (λ q. let no : ⊥ = omega (arith, q, j, l) in no) in let b = w.high x (omega (arith, j, k)) in omega (arith, a, b);
}

-- the header, the body, the body's last block, and the loop again
header_again : (h last exit s k most : ℕ) (xs ys : List ℕ) → h < last → last < exit → s + k ≤ most → k + 1 ≤ most → Within (h + 1) last xs s → LoopWithin h exit ys k → LoopWithin h exit (h ∷ (xs ++ last ∷ ys)) most
header_again h last exit s k most xs ys hl le sk km w v = record {
  first =
      let c = count-append h xs (last ∷ ys) in
      let a = one_same h h refl in
      let b = one_other h last (λ q. let no : ⊥ = omega (arith, q, hl) in no) in
      let d = w.low h (omega arith) in
      let f = v.first in
      omega (arith, a, b, c, d, f, km);
  others = λ x ne.
      let c = count-append x xs (last ∷ ys) in
      let a = one_other x h ne in
      let f = v.others x ne in
      elim (cases_eq x last) [
        | inl q ↦ let b = one_same x last q in let d = w.high x (omega (arith, q)) in omega (arith, a, b, c, d, f, km)
        | inr other ↦ let b = one_other x last other in let d = w.few x in omega (arith, a, b, c, d, f, sk)
      ];
  low = λ x j.
      let c = count-append x xs (last ∷ ys) in
      let a = one_other x h (λ q. let no : ⊥ = omega (arith, q, j) in no) in
      let b = one_other x last (λ q. let no : ⊥ = omega (arith, q, j, hl) in no) in
      let d = w.low x (omega (arith, j)) in
      let f = v.low x j in
      omega (arith, a, b, c, d, f);
  high = λ x j.
      let c = count-append x xs (last ∷ ys) in
      let a = one_other x h (λ q. let no : ⊥ = omega (arith, q, j, hl, le) in no) in
      let b = one_other x last (λ q. let no : ⊥ = omega (arith, q, j, le) in no) in
      let d = w.high x (omega (arith, j, le)) in
      let f = v.high x j in
      omega (arith, a, b, c, d, f);
}

-- the block before the header, and the loop
before_header : (b exit most : ℕ) (ys : List ℕ) → b + 1 < exit → LoopWithin (b + 1) exit ys most → Within b exit (b ∷ ys) (most + 1)
before_header b exit most ys l v = record {
  few = λ x. elim (cases_eq x b) [
    | inl q ↦ let a = one_same x b q in let d = v.low x (omega (arith, q)) in omega (arith, a, d)
    | inr other ↦ let a = one_other x b other in elim (cases_eq x (b + 1)) [
      | inl q ↦ let d = v.first in let s : count x ys ≤ most + 1 = subst (λ j. count j ys ≤ most + 1) (sym q) d in omega (arith, a, s)
      | inr ne ↦ let d = v.others x ne in omega (arith, a, d)
    ]
  ];
  low = λ x j. let a = one_other x b (λ q. let no : ⊥ = omega (arith, q, j) in no) in let d = v.low x (omega (arith, j)) in omega (arith, a, d);
  high = λ x j. let a = one_other x b (λ q. let no : ⊥ = omega (arith, q, j, l) in no) in let d = v.high x j in omega (arith, a, d);
}

-- from the header with a world the exit is entered
pub record Leaves (blocks : List Block) (header exit : ℕ) (e : World) (n : ℕ) (o : Outcome) : Type 0 where
  pub trail : List ℕ
  pub here : World
  pub reaches : Reaches blocks header e trail exit here
  pub room : length here.cells ≡ 128
  pub memory : here.memory ≡ o.memory
  pub output : here.output ≡ e.output ++ o.output
  pub left : o.turns ≤ n
  pub within : LoopWithin header exit trail (n - o.turns)
  pub long : n ≤ length trail + o.turns

-- from the header with a world all turns are spent
pub record Stays (blocks : List Block) (header exit : ℕ) (e : World) (n : ℕ) (o : Outcome) : Type 0 where
  pub trail : List ℕ
  pub place : ℕ
  pub here : World
  pub reaches : Reaches blocks header e trail place here
  pub output : here.output ≡ e.output ++ o.output
  pub within : LoopWithin header exit trail n
  pub long : n + 1 ≤ length trail

abbrev loops : End → List Block → ℕ → ℕ → World → ℕ → Outcome → Type 0
loops Done blocks header exit e n o = Leaves blocks header exit e n o
loops More blocks header exit e n o = Stays blocks header exit e n o

abbrev Loops : List Block → ℕ → ℕ → World → ℕ → Outcome → Type 0
Loops blocks header exit e n o = loops o.end blocks header exit e n o

module _ (blocks : List Block) (c : RExpr) (few : nodes c ≤ 120) (body : Lowering) (a : Action) (spends : Spends a) (f : Performs body a) (h : ℕ) where
  abbrev y : Piece
  y = body (h + 1) []

  abbrev last : ℕ
  last = h + 1 + length y.ended

  abbrev exit : ℕ
  exit = last + 1

  abbrev us : List t.Tuple
  us = expr_tuples c 0

  module _ (header : block_at blocks h ≡ block us (If (last_of 0 us) (h + 1) exit)) (stands : StandFrom blocks (h + 1) y.ended) (ends : block_at blocks last ≡ block y.current (Goto h)) where
    holds_y : Holds blocks (h + 1) y
    holds_y = record { ended = stands; more = []; current = ap (λ x. x.tuples) ends ∙ sym (append-nil y.current) }

    tested : (e : World) → length e.cells ≡ 128 → Gives 0 us e (after_all 0 us e) (value_of c e.memory)
    tested e room = expr_gives c 0 e room (let l = row_length c 0 in omega (arith, l, few))

    step_to : (e : World) (to : ℕ) → follows (If (last_of 0 us) (h + 1) exit) (after_all 0 us e) ≡ Some to → Reaches blocks h e (h ∷ []) to (after_all 0 us e)
    step_to e to q = reaches-one blocks h us (If (last_of 0 us) (h + 1) exit) e (after_all 0 us e) to header refl q

    leave : (e : World) (n : ℕ) → length e.cells ≡ 128 → is_zero (value_of c e.memory) ≡ true → Leaves blocks h exit e n (done n e.memory)
    leave e n room q =
        let g = tested e room in
        record {
          trail = h ∷ [];
          here = after_all 0 us e;
          reaches = step_to e exit (follow_zero (after_all 0 us e) (last_of 0 us) (h + 1) exit (value_of c e.memory) g.value q);
          room = g.many;
          memory = g.same_memory;
          output = g.same_output ∙ sym (append-nil e.output);
          left = omega arith;
          within = header_alone h exit (n - n) (omega arith);
          long = omega arith;
        }

    stay : (e : World) → length e.cells ≡ 128 → is_zero (value_of c e.memory) ≡ false → Stays blocks h exit e 0 (stopped 0 e.memory)
    stay e room q =
        let g = tested e room in
        record {
          trail = h ∷ [];
          place = h + 1;
          here = after_all 0 us e;
          reaches = step_to e (h + 1) (follow_some (after_all 0 us e) (last_of 0 us) (h + 1) exit (value_of c e.memory) g.value q);
          output = g.same_output ∙ sym (append-nil e.output);
          within = header_alone h exit 0 (omega arith);
          long = omega arith;
        }

    module _ (e : World) (n : ℕ) (room : length e.cells ≡ 128) (some : is_zero (value_of c e.memory) ≡ false) where
      abbrev v : World
      v = after_all 0 us e

      first_step : Reaches blocks h e (h ∷ []) (h + 1) v
      first_step = step_to e (h + 1) (follow_some v (last_of 0 us) (h + 1) exit (value_of c e.memory) (tested e room).value some)

      shown : v.output ≡ e.output
      shown = (tested e room).same_output

      -- the body is done, and the loop runs again
      again : (o1 o2 : Outcome) (x : Arrives blocks (h + 1) v v.output y n o1) (end : End) → loops end blocks h exit (after_all 0 y.current x.here) o1.turns o2 → loops end blocks h exit e (suc n) (behind o1.output o2)
      again o1 o2 x Done r =
          let u = after_all 0 y.current x.here in
          let back = reaches-one blocks last y.current (Goto h) x.here u h ends refl refl in
          let rest = reaches-then blocks (last ∷ []) r.trail last h exit x.here u r.here back r.reaches in
          let body_rest = reaches-then blocks x.trail (last ∷ r.trail) (h + 1) last exit v x.here r.here x.reaches rest in
          let whole = reaches-then blocks (h ∷ []) (x.trail ++ last ∷ r.trail) h (h + 1) exit e v r.here first_step body_rest in
          let left1 = x.left in
          let left2 = r.left in
          let long1 = x.long in
          let long2 = r.long in
          let l = length-append x.trail (last ∷ r.trail) in
          record {
            trail = h ∷ (x.trail ++ last ∷ r.trail);
            here = r.here;
            reaches = whole;
            room = r.room;
            memory = r.memory;
            output = r.output ∙ ap (λ s. s ++ o2.output) (x.output ∙ ap (λ s. s ++ o1.output) shown) ∙ append_assoc e.output o1.output o2.output;
            left = omega (arith, left1, left2);
            within = header_again h last exit (n - o1.turns + 1) (o1.turns - o2.turns) (suc n - o2.turns) x.trail r.trail (omega arith) (omega arith) (omega (arith, left1, left2)) (omega (arith, left1, left2)) x.within r.within;
            long = omega (arith, long1, long2, l);
          }
      again o1 o2 x More r =
          let u = after_all 0 y.current x.here in
          let back = reaches-one blocks last y.current (Goto h) x.here u h ends refl refl in
          let rest = reaches-then blocks (last ∷ []) r.trail last h r.place x.here u r.here back r.reaches in
          let body_rest = reaches-then blocks x.trail (last ∷ r.trail) (h + 1) last r.place v x.here r.here x.reaches rest in
          let whole = reaches-then blocks (h ∷ []) (x.trail ++ last ∷ r.trail) h (h + 1) r.place e v r.here first_step body_rest in
          let left1 = x.left in
          let long1 = x.long in
          let long2 = r.long in
          let l = length-append x.trail (last ∷ r.trail) in
          record {
            trail = h ∷ (x.trail ++ last ∷ r.trail);
            place = r.place;
            here = r.here;
            reaches = whole;
            output = r.output ∙ ap (λ s. s ++ o2.output) (x.output ∙ ap (λ s. s ++ o1.output) shown) ∙ append_assoc e.output o1.output o2.output;
            within = header_again h last exit (n - o1.turns + 1) o1.turns (suc n) x.trail r.trail (omega arith) (omega arith) (omega (arith, left1)) (omega (arith, left1)) x.within r.within;
            long = omega (arith, long1, long2, l);
          }

      turn_cases : (o1 : Outcome) (next : Action) (end : End) → o1.end ≡ end
          → ((u : World) (k : ℕ) → k ≤ n → length u.cells ≡ 128 → Loops blocks h exit u k (next k u.memory))
          → comes end blocks (h + 1) v v.output y n o1 → Loops blocks h exit e (suc n) (continued end o1 next)
      turn_cases o1 next Done is rest x =
          let u = after_all 0 y.current x.here in
          let r : Loops blocks h exit u o1.turns (next o1.turns u.memory) = rest u o1.turns x.left (after_room y.current x.here x.room) in
          let r2 : Loops blocks h exit u o1.turns (next o1.turns o1.memory) = subst (λ m. Loops blocks h exit u o1.turns (next o1.turns m)) x.memory r in
          again o1 (next o1.turns o1.memory) x (next o1.turns o1.memory).end r2
      turn_cases o1 next More is rest x =
          let long = x.long in
          let here : Stays blocks h exit e (suc n) o1 = record {
            trail = h ∷ x.trail;
            place = x.place;
            here = x.here;
            reaches = reaches-then blocks (h ∷ []) x.trail h (h + 1) x.place e v x.here first_step x.reaches;
            output = x.output ∙ ap (λ s. s ++ o1.output) shown;
            within = let one_more : n + 1 ≡ suc n = omega arith in header_then h exit last (suc n) x.trail (omega arith) (omega arith) (subst (λ j. Within (h + 1) last x.trail j) one_more x.within);
            long = omega (arith, long);
          } in
          subst (λ z. loops z blocks h exit e (suc n) o1) (sym is) here

      turn : (next : Action) → ((u : World) (k : ℕ) → k ≤ n → length u.cells ≡ 128 → Loops blocks h exit u k (next k u.memory)) → Loops blocks h exit e (suc n) (and_then (a n e.memory) next)
      turn next rest =
          let x : Comes blocks (h + 1) v v.output y n (a n v.memory) = f blocks (h + 1) [] v n (tested e room).many (omega arith) holds_y in
          let x2 : Comes blocks (h + 1) v v.output y n (a n e.memory) = subst (λ m. Comes blocks (h + 1) v v.output y n (a n m)) (tested e room).same_memory x in
          turn_cases (a n e.memory) next (a n e.memory).end refl rest x2

    loop_comes : (bound n : ℕ) → n ≤ bound → (e : World) → length e.cells ≡ 128 → (q : Bool) → is_zero (value_of c e.memory) ≡ q → Loops blocks h exit e n (while_loop (value_of c) a n e.memory)
    loop_comes bound n l e room true q = subst (λ o. Loops blocks h exit e n o) (sym (while-done (value_of c) a spends n e.memory q)) (leave e n room q)
    loop_comes bound zero l e room false q = subst (λ o. Loops blocks h exit e zero o) (sym (while-stopped (value_of c) a spends e.memory q)) (stay e room q)
    loop_comes zero (suc n) l e room false q = absurd (omega (arith, l))
    loop_comes (suc bound) (suc n) l e room false q =
        subst (λ o. Loops blocks h exit e (suc n) o) (sym (while-turn (value_of c) a spends n e.memory q))
        (turn e n room q (while_loop (value_of c) a) (λ u k m r. loop_comes bound k (omega (arith, l, m)) u r (is_zero (value_of c u.memory)) refl))

    module _ (b : ℕ) (same_header : b + 1 ≡ h) (all : List Block) (place : b + length all ≡ exit) (e w : World) (n : ℕ) (o : Outcome) (enters : Reaches blocks b e (b ∷ []) h w) where
      whole_loop : (end : End) → loops end blocks h exit w n o → comes end blocks b e w.output (record { ended = all; current = [] }) n o
      whole_loop Done x =
          let long = x.long in
          let loop_within : LoopWithin (b + 1) exit x.trail (n - o.turns) = subst (λ j. LoopWithin j exit x.trail (n - o.turns)) (sym same_header) x.within in
          record {
            trail = b ∷ x.trail;
            here = x.here;
            reaches = subst (λ j. Reaches blocks b e (b ∷ x.trail) j x.here) (sym place) (reaches-then blocks (b ∷ []) x.trail b h exit e w x.here enters x.reaches);
            room = x.room;
            memory = x.memory;
            output = x.output;
            left = x.left;
            within = subst (λ j. Within b j (b ∷ x.trail) (n - o.turns + 1)) (sym place) (before_header b exit (n - o.turns) x.trail (omega (arith, same_header)) loop_within);
            long = omega (arith, long);
          }
      whole_loop More x =
          let long = x.long in
          let loop_within : LoopWithin (b + 1) exit x.trail n = subst (λ j. LoopWithin j exit x.trail n) (sym same_header) x.within in
          record {
            trail = b ∷ x.trail;
            place = x.place;
            here = x.here;
            reaches = reaches-then blocks (b ∷ []) x.trail b h x.place e w x.here enters x.reaches;
            output = x.output;
            within = subst (λ j. Within b j (b ∷ x.trail) (n + 1)) (sym place) (before_header b exit n x.trail (omega (arith, same_header)) loop_within);
            long = omega (arith, long);
          }

pub repetition_performs : (c : RExpr) (body : Lowering) (a : Action) → nodes c ≤ 120 → Spends a → Performs body a → Performs (repetition (expr_tuples c) body) (λ n memory. while_loop (value_of c) a n memory)
repetition_performs c body a few spends f blocks b ts e n room few2 holds =
    let h = b + 1 in
    let y = body (h + 1) [] in
    let last = h + 1 + length y.ended in
    let exit = last + 1 in
    let us = expr_tuples c 0 in
    let tail = block y.current (Goto h) ∷ [] in
    let all = block ts (Goto h) ∷ block us (If (last_of 0 us) (h + 1) exit) ∷ (y.ended ++ tail) in
    let w = after_all 0 ts e in
    let s1 = holds.ended in
    let stands = stand-left blocks y.ended tail (h + 1) s1.1.1 in
    let ends = stand-right blocks y.ended tail (h + 1) s1.1.1 in
    let l = length-append y.ended tail in
    let place : b + length all ≡ exit = omega (arith, l) in
    let enters = reaches-one blocks b ts (Goto h) e w h s1.0 refl refl in
    let o = while_loop (value_of c) a n w.memory in
    let r = loop_comes blocks c few body a spends f h s1.1.0 stands ends.0 n n (omega arith) w (after_room ts e room) (is_zero (value_of c w.memory)) refl in
    whole_loop blocks c few body a spends f h s1.1.0 stands ends.0 b refl all place e w n o enters o.end r

pub repetition_tidy : (row : Row) (body : Lowering) → Tidy (repetition row body)
repetition_tidy row body = record { fits = λ b ts l. omega arith; begins = λ b ts. ([], sym (append-nil ts)) }
