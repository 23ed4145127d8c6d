-- The blocks of a program mean what the program means.
use Rattle.std.proofs.Common.{◌≡◌, ◌<◌, ◌≤◌, ◌+◌, ◌-◌, ◌*◌, inl, inr, ℕ, suc, ℤ, pos, List, [], ◌∷◌, ◌++◌, length, Some, None, refl, sym, ap, subst, ◌∙◌, arith, append-nil, length-append}
use Rattle.std.proofs.lemmas.Bool.{cases_lt}
use Rattle.std.proofs.lemmas.List.{length-replicate}
use Rattle.bm_base.specs.Memory.{Content}
use Rattle.src_names.specs.RProgram.{RProgram}
use Rattle.src_names.specs.Sizes.{AllFewNodes}
use Rattle.src_meaning.specs.declared.evaluate.End.{End}
use Rattle.src_meaning.specs.declared.evaluate.End.TheVariants.{Done, More}
use Rattle.src_meaning.specs.Meaning.{Outcome, meaning}
use Rattle.src_meaning.specs.Laws.{Prints}
use Rattle.tuple_ir.specs.declared.block.Block.{Block}
use Rattle.tuple_ir.specs.declared.block.Next.TheVariants.{Halt}
use Rattle.tuple_ir.specs.World.{at_first}
use Rattle.tuple_ir.specs.Serial.{one_block, outcome}
use Rattle.bm_base.specs.Prefix.{IsPrefixOf}
use Rattle.tuple_ir.proofs.Growth.{outcome_grows, ended_stays}
use Rattle.tuple_ir.proofs.Trails.{trail_grows, trail_stays}
use Rattle.tuple_lower.specs.Blocks.{Piece, block, lower_body}
use Rattle.tuple_lower.specs.Means.{times, HasEndedAs, KeepsPace, BlocksEnd, BlocksKeepUp, BlocksKeepBack, BlocksKeepPace}
use Rattle.tuple_lower.proofs.Serially.{after_all}
use Rattle.tuple_lower.proofs.Count.{count-is, count-append, Within, within-one, within-more, within-append, trail_long}
use Rattle.tuple_lower.proofs.Reach.{runs, leads, Stands, stands-then, StandFrom, stand-left, stand-right, stand-in, Holds}
use Rattle.tuple_lower.proofs.Placed.{Arrives, Remains, comes}
use Rattle.tuple_lower.proofs.Performing.{body_performs}

abbrev Source : Type 0
Source = Outcome

-- after so many blocks the output is the source's, and no block stands too often in their trail
pub record Keeps (blocks : List Block) (memory : List Content) (n : ℕ) (o : Source) (steps : ℕ) : Type 0 where
  pub output : (outcome blocks memory steps).world.output ≡ o.output
  pub few : (b : ℕ) → times b (outcome blocks memory steps).trail ≤ n + 1

-- they have ended as the source
pub record Finishes (blocks : List Block) (memory : List Content) (n : ℕ) (o : Source) : Type 0 where
  pub steps : ℕ
  pub keeps : Keeps blocks memory n o steps
  pub ended : (outcome blocks memory steps).next ≡ None
  pub memory_is : (outcome blocks memory steps).world.memory ≡ o.memory
  pub within : steps ≤ (n + 1) * length blocks

-- more blocks are to come
pub record GoesOn (blocks : List Block) (memory : List Content) (n : ℕ) (o : Source) : Type 0 where
  pub steps : ℕ
  pub keeps : Keeps blocks memory n o steps
  pub place : ℕ
  pub next_is : (outcome blocks memory steps).next ≡ Some place
  pub long : n + 1 ≤ steps

abbrev goes : End → List Block → List Content → ℕ → Source → Type 0
goes Done blocks memory n o = Finishes blocks memory n o
goes More blocks memory n o = GoesOn blocks memory n o

-- ---- the run of all blocks

module _ (p : RProgram) (memory : List Content) (few : AllFewNodes p.body) where
  abbrev piece : Piece
  piece = lower_body p.body 0 []

  abbrev last_block : Block
  last_block = block piece.current Halt

  abbrev bs : List Block
  bs = piece.ended ++ last_block ∷ []

  abbrev last : ℕ
  last = 0 + length piece.ended

  at_last : StandFrom bs last (last_block ∷ [])
  at_last = stand-right bs piece.ended (last_block ∷ []) 0 (stand-in [] bs)

  holds : Holds bs 0 piece
  holds = record { ended = stand-left bs piece.ended (last_block ∷ []) 0 (stand-in [] bs); more = []; current = ap (λ x. x.tuples) at_last.0 ∙ sym (append-nil piece.current) }

  begun : Stands bs memory 0 0 (at_first memory) []
  begun = record { next_is = refl; world_is = refl; trail_is = refl }

  few_times : (b n m : ℕ) (trail other : List ℕ) → other ≡ trail → Within 0 m trail (n + 1) → times b other ≤ n + 1
  few_times b n m trail other is w = let c = count-is b trail in let f = w.few b in let g : times b trail ≤ n + 1 = omega (arith, c, f) in subst (λ l. times b l ≤ n + 1) (sym is) g

  finishes : (n : ℕ) (o : Source) → Arrives bs 0 (at_first memory) [] piece n o → Finishes bs memory n o
  finishes n o x =
      let s = stands-then bs memory x.trail 0 0 last (at_first memory) x.here [] begun x.reaches in
      let k = 0 + length x.trail in
      let before = outcome bs memory k in
      let here : outcome bs memory (suc k) ≡ one_block bs (Some last) x.here x.trail =
      ap (λ q. one_block bs q before.world before.trail) s.next_is ∙ ap (λ v. one_block bs (Some last) v before.trail) s.world_is ∙ ap (one_block bs (Some last) x.here) s.trail_is in
      let ran = runs bs last piece.current Halt x.here at_last.0 in
      let ends = leads bs last piece.current Halt x.here (after_all 0 piece.current x.here) None at_last.0 refl refl in
      let l1 = length-append piece.ended (last_block ∷ []) in
      let l2 = length-append x.trail (last ∷ []) in
      let left = x.left in
      let count_of_all : last + 1 ≡ length bs = omega (arith, l1) in
      let w1 = within-more 0 last (n - o.turns + 1) 0 last (n + 1) x.trail (omega arith) (omega arith) (omega arith) x.within in
      let w2 = within-append 0 last (length bs) (n + 1) x.trail (last ∷ []) (omega arith) (omega (arith, count_of_all)) w1 (within-one last last (length bs) (n + 1) (omega arith) (omega (arith, count_of_all)) (omega arith)) in
      let long = trail_long (length bs) (n + 1) (x.trail ++ last ∷ []) w2 in
      let turned : length bs * (n + 1) ≡ (n + 1) * length bs = grind arith in
      record {
        steps = suc k;
        keeps = record { output = ap (λ q. q.world.output) here ∙ ap (λ v. v.output) ran ∙ x.output; few = λ b. few_times b n (length bs) (x.trail ++ last ∷ []) (outcome bs memory (suc k)).trail (ap (λ q. q.trail) here) w2 };
        ended = ap (λ q. q.next) here ∙ ends;
        memory_is = ap (λ q. q.world.memory) here ∙ ap (λ v. v.memory) ran ∙ x.memory;
        within = omega (arith, long, turned, l2);
      }

  goes_on : (n : ℕ) (o : Source) → Remains bs 0 (at_first memory) [] piece n o → GoesOn bs memory n o
  goes_on n o x =
      let s = stands-then bs memory x.trail 0 0 x.place (at_first memory) x.here [] begun x.reaches in
      let k = 0 + length x.trail in
      let long = x.long in
      record {
        steps = k;
        keeps = record { output = ap (λ v. v.output) s.world_is ∙ x.output; few = λ b. few_times b n last x.trail (outcome bs memory k).trail s.trail_is x.within };
        place = x.place;
        next_is = s.next_is;
        long = omega (arith, long);
      }

  pick : (n : ℕ) (o : Source) (end : End) → comes end bs 0 (at_first memory) [] piece n o → goes end bs memory n o
  pick n o Done x = finishes n o x
  pick n o More x = goes_on n o x

  run_of : (n : ℕ) → goes (meaning p memory n).end bs memory n (meaning p memory n)
  run_of n = pick n (meaning p memory n) (meaning p memory n).end (body_performs few bs 0 [] (at_first memory) n (length-replicate 128 (pos 0)) (omega arith) holds)

  keeps_some : (n : ℕ) (end : End) → goes end bs memory n (meaning p memory n) → (steps : ℕ) × Keeps bs memory n (meaning p memory n) steps
  keeps_some n Done x = (x.steps, x.keeps)
  keeps_some n More x = (x.steps, x.keeps)

  as_prints : (xs ys : List ℤ) → IsPrefixOf xs ys → Prints xs ys
  as_prints xs ys (rest, e) = record { rest = rest; whole_is = sym e }

  grown : (j k : ℕ) → j ≤ k → IsPrefixOf (outcome bs memory j).world.output (outcome bs memory k).world.output
  grown j k l = let e : j + (k - j) ≡ k = omega (arith, l) in subst (λ i. IsPrefixOf (outcome bs memory j).world.output (outcome bs memory i).world.output) e (outcome_grows bs memory j (k - j))

  stayed : (j k : ℕ) → j ≤ k → (outcome bs memory j).next ≡ None → ((outcome bs memory k).next ≡ None) × ((outcome bs memory k).world ≡ (outcome bs memory j).world)
  stayed j k l h = let e : j + (k - j) ≡ k = omega (arith, l) in subst (λ i. ((outcome bs memory i).next ≡ None) × ((outcome bs memory i).world ≡ (outcome bs memory j).world)) e (ended_stays bs memory j (k - j) h)

  trail_stayed : (j k : ℕ) → j ≤ k → (outcome bs memory j).next ≡ None → (outcome bs memory k).trail ≡ (outcome bs memory j).trail
  trail_stayed j k l h = let e : j + (k - j) ≡ k = omega (arith, l) in subst (λ i. (outcome bs memory i).trail ≡ (outcome bs memory j).trail) e (trail_stays bs memory j (k - j) h)

  times_grown : (b j k : ℕ) → j ≤ k → times b (outcome bs memory j).trail ≤ times b (outcome bs memory k).trail
  times_grown b j k l =
      let e : j + (k - j) ≡ k = omega (arith, l) in
      let g = trail_grows bs memory j (k - j) in
      let front = (outcome bs memory j).trail in
      let c1 = count-is b front in
      let c2 = count-is b (front ++ g.0) in
      let c3 = count-append b front g.0 in
      let here : times b front ≤ times b (front ++ g.0) = omega (arith, c1, c2, c3) in
      subst (λ i. times b front ≤ times b (outcome bs memory i).trail) e (subst (λ x. times b front ≤ times b x) g.1 here)

  -- ---- the three laws

  pub ends : (n : ℕ) → (meaning p memory n).end ≡ Done → HasEndedAs (outcome bs memory ((n + 1) * length bs)) (meaning p memory n) × ((b : ℕ) → times b (outcome bs memory ((n + 1) * length bs)).trail ≤ n + 1)
  ends n d =
      let x : Finishes bs memory n (meaning p memory n) = subst (λ q. goes q bs memory n (meaning p memory n)) d (run_of n) in
      let k = (n + 1) * length bs in
      let s = stayed x.steps k x.within x.ended in
      let tr = trail_stayed x.steps k x.within x.ended in (
        record { ended = s.0; same_memory = ap (λ w. w.memory) s.1 ∙ x.memory_is; same_output = ap (λ w. w.output) s.1 ∙ x.keeps.output },
        λ b. subst (λ l. times b l ≤ n + 1) (sym tr) (x.keeps.few b),
      )

  pub keeps_up : (n k b : ℕ) → n + 1 < times b (outcome bs memory (k + 1)).trail → Prints (meaning p memory n).output (outcome bs memory k).world.output
  keeps_up n k b h =
      let x = keeps_some n (meaning p memory n).end (run_of n) in
      let few = x.1.few b in
      let enough : x.0 ≤ k = elim (cases_lt k x.0) [
        | inl l ↦ let g = times_grown b (k + 1) x.0 (omega (arith, l)) in absurd (omega (arith, g, few, h))
        | inr l ↦ l
      ] in
      subst (λ xs. Prints xs (outcome bs memory k).world.output) x.1.output (as_prints (outcome bs memory x.0).world.output (outcome bs memory k).world.output (grown x.0 k enough))

  pub keeps_pace : (n : ℕ) → KeepsPace bs memory n (meaning p memory n)
  keeps_pace n = let x = keeps_some n (meaning p memory n).end (run_of n) in record { count = x.0; same_output = x.1.output; few = x.1.few }

  abbrev KeepsBack : ℕ → Type 0
  KeepsBack k = Prints (outcome bs memory (k + 1)).world.output (meaning p memory k).output × ((outcome bs memory (k + 1)).next ≡ None → ((meaning p memory k).end ≡ Done) × HasEndedAs (outcome bs memory (k + 1)) (meaning p memory k))

  back_front : (k steps : ℕ) → Keeps bs memory k (meaning p memory k) steps → k + 1 ≤ steps → Prints (outcome bs memory (k + 1)).world.output (meaning p memory k).output
  back_front k steps keeps l = subst (λ ys. Prints (outcome bs memory (k + 1)).world.output ys) keeps.output (as_prints (outcome bs memory (k + 1)).world.output (outcome bs memory steps).world.output (grown (k + 1) steps l))

  back_cases : (k : ℕ) (end : End) → (meaning p memory k).end ≡ end → goes end bs memory k (meaning p memory k) → KeepsBack k
  back_cases k Done d x = elim (cases_lt x.steps (k + 1)) [
    | inl l ↦
        let s = stayed x.steps (k + 1) (omega (arith, l)) x.ended in
        let output = ap (λ w. w.output) s.1 ∙ x.keeps.output in (
          record { rest = []; whole_is = sym output ∙ sym (append-nil (outcome bs memory (k + 1)).world.output) },
          λ h. (d, record { ended = h; same_memory = ap (λ w. w.memory) s.1 ∙ x.memory_is; same_output = output }),
        )
    | inr l ↦ (
      back_front k x.steps x.keeps l,
      λ h. let s = stayed (k + 1) x.steps l h in (d, record { ended = h; same_memory = sym (ap (λ w. w.memory) s.1) ∙ x.memory_is; same_output = sym (ap (λ w. w.output) s.1) ∙ x.keeps.output }),
    )
  ]
  back_cases k More d x = (
    back_front k x.steps x.keeps x.long,
    λ h. let s = stayed (k + 1) x.steps x.long h in let no : None ≡ Some x.place = sym s.0 ∙ x.next_is in absurd (cc),
  )

  pub keeps_back : (k : ℕ) → KeepsBack k
  keeps_back k = back_cases k (meaning p memory k).end refl (run_of k)

pub blocks_end : BlocksEnd
blocks_end p memory n few d = ends p memory few n d

pub blocks_keep_up : BlocksKeepUp
blocks_keep_up p memory n k b few h = keeps_up p memory few n k b h

pub blocks_keep_back : BlocksKeepBack
blocks_keep_back p memory k few = keeps_back p memory few k

pub blocks_keep_pace : BlocksKeepPace
blocks_keep_pace p memory n few = keeps_pace p memory few n
