-- The loop over the tokens.
use Rattle.std.proofs.Common.{◌≡◌, ◌≢◌, ℕ, ◌≤◌, List, [], ◌∷◌, ◌++◌, length, Option, Some, None, false, refl, ap, sym, subst, ◌∙◌, arith, Result, Ok, Err, IfOk, IfErr, MatchResult, ◌⊎◌, inl, inr}
use Rattle.std.proofs.lemmas.List.{append-nil}
use Rattle.src_lexer.specs.declared.token.Token.{Token}
use Rattle.src_tree.specs.declared.tree.Program.{Program}
use Rattle.src_tree.specs.Grammar.{Derives}
use Rattle.src_tree.specs.Limits.{KeepsLimits}
use Rattle.src_parser.specs.declared.fault.ParseFault.{ParseFault}
use Rattle.src_parser.specs.declared.fault.ParseFault.TheVariants as f
use Rattle.src_parser.specs.declared.machine.State.{State}
use Rattle.src_parser.specs.declared.tally.Tally.{Tally}
use Rattle.src_parser.specs.Fault.{Begins, Here, Wants, Faults}
use Rattle.src_parser.specs.Machine.{step, run, run_from, start, whole, want_of}
use Rattle.src_parser.specs.Tally.{tallied}
use Rattle.src_parser.specs.Turn.{Goes, GoesOn, Stops, Finishes}
use Rattle.src_parser.proofs.Steps.{append_from}
use Rattle.src_parser.proofs.Holds.{Keeps}
use Rattle.src_parser.proofs.Whole.{goes_on, goes_on_only, derived, holds, read_derives}
use Rattle.src_parser.specs.Statements.{statements}
use Rattle.src_parser.proofs.Few.{few}
use Rattle.src_parser.proofs.Wants.{wants}
use Rattle.src_parser.proofs.Unique.{keeps_more, keeps_nothing, one_fault, no_fault}
use Rattle.src_parser.proofs.Tallies.{IsTally, tally_more, tally_of_none, depth_of, nodes_of, first_of, marks, brackets, signs_length}

-- What is known behind the first tokens: the machine has read them, they are counted, and keep the limits.
pub record Read (src : List ℕ) (front : List Token) (st : State) (t : Tally) : Type 0 where
  pub runs : run src start front ≡ Some st
  pub counts : IsTally t front
  pub limits : KeepsLimits front

pub read_none : (src : List ℕ) (t : Tally) (st : State) → t ≡ record { outer = []; signs = 0; ended = false; depth = 0; begun = false; first = 0; nodes = 0 } →
    st ≡ start → Read src [] st t
read_none src t st e g =
    let P : Tally → Type 0 = λ z. IsTally z [] in
    record { runs = ap (λ (z : State). Some z) (sym g); counts = subst P (sym e) tally_of_none; limits = keeps_nothing }

module _ {src : List ℕ} {front : List Token} {st : State} {t : Tally} (here : Read src front st t) where
  stepped : (token : Token) → run src start (front ++ token ∷ []) ≡ run_from src (step src st token) []
  stepped token = append_from src (Some start) front (token ∷ []) ∙ ap (λ o. run_from src o (token ∷ [])) here.runs

  runs_more : (token : Token) (next : State) → step src st token ≡ Some next → run src start (front ++ token ∷ []) ≡ Some next
  runs_more token next e = stepped token ∙ ap (λ o. run_from src o []) e

  counted : (token : Token) → IsTally (tallied token t) (front ++ token ∷ [])
  counted token = tally_more t front token here.counts

  pub read_more : (token : Token) (next : State) (more : Tally) → Goes src st t token next more → Read src (front ++ token ∷ []) next more
  read_more token next more g =
      let P : Tally → Type 0 = λ z. IsTally z (front ++ token ∷ []) in
      let c : IsTally more (front ++ token ∷ []) = subst P (sym g.counts) (counted token) in
      record {
        runs = runs_more token next g.steps;
        counts = c;
        limits = keeps_more front token here.limits (omega (arith, depth_of more (front ++ token ∷ []) c, g.depth)) (omega (arith, nodes_of more (front ++ token ∷ []) c, g.nodes));
      }

  begins : Begins src front
  begins = goes_on src st front here.runs

  begins_more : (token : Token) → GoesOn src st token → Begins src (front ++ token ∷ [])
  begins_more token g = goes_on src g.next (front ++ token ∷ []) (runs_more token g.next g.steps)

  not_more : (token : Token) → step src st token ≡ None → Begins src (front ++ token ∷ []) → ⊥
  not_more token e b =
      let (last, r) = goes_on_only src (front ++ token ∷ []) b in
      let x : Some last ≡ None = sym r ∙ stepped token ∙ ap (λ o. run_from src o []) e in cc

  wants_here : (w : _) → w ≡ want_of st.mode → Wants src front w
  wants_here w e = let P : _ → Type 0 = Wants src front in subst P (sym e) (wants src front st here.runs)

  fault_here : (token : Token) (more : List Token) (e : ParseFault) → Stops src st t token e → (e ≢ f.Memory) → Here src front (token ∷ more) e
  fault_here token more (f.Expected at what) (p, q, r) n = (p, not_more token r, wants_here what q)
  fault_here token more (f.TooDeep at) (p, g, d) n = (p, begins_more token g, omega (arith, d, depth_of (tallied token t) (front ++ token ∷ []) (counted token)))
  fault_here token more (f.TooManyNodes at first) (p, q, g, d, m) n = (
    p,
    q ∙ sym (first_of (tallied token t) (front ++ token ∷ []) (counted token)),
    begins_more token g,
    omega (arith, d, depth_of (tallied token t) (front ++ token ∷ []) (counted token)),
    omega (arith, m, nodes_of (tallied token t) (front ++ token ∷ []) (counted token)),
  )
  fault_here token more f.Memory h n = absurd (n refl)

  pub read_stops : (ts : List Token) (token : Token) (more : List Token) (e : ParseFault) → ts ≡ front ++ (token ∷ more) → Stops src st t token e → (e ≢ f.Memory) →
      Faults src ts e
  read_stops ts token more e s h n = record { front = front; back = token ∷ more; split = s; begins = begins; limits = here.limits; here = fault_here token more e h n }

  pub low_depth : t.depth ≤ 64
  low_depth = let d = here.limits front [] (sym (append-nil front)) in omega (arith, d.0, depth_of t front here.counts)

  pub low_nodes : t.nodes ≤ 120
  low_nodes = let d = here.limits front [] (sym (append-nil front)) in omega (arith, d.1, nodes_of t front here.counts)

  pub low_signs : t.signs ≤ 64
  low_signs =
      let deep : t.depth ≡ length (marks t) = here.counts.opens.depth ∙ ap (λ (z : _). length z.marks) (sym here.counts.opens.agree) in
      omega (arith, low_depth, deep, signs_length t.signs (brackets t.outer))

-- what `parse` answers
pub record Answers (src : List ℕ) (ts : List Token) (r : Result Program ParseFault) : Type 0 where
  pub found : IfOk r (λ p. Derives src ts p × KeepsLimits ts)
  pub few : IfOk r (λ p. statements p.body ≤ length ts)
  pub only : (p : Program) → Derives src ts p → KeepsLimits ts → MatchResult r (λ q. q ≡ p) (λ e. e ≡ f.Memory)
  pub fault : IfErr r (λ e. (e ≢ f.Memory) → Faults src ts e)
  pub only_fault : (e : ParseFault) → Faults src ts e → MatchResult r (λ _. ⊥) (λ x. (x ≡ e) ⊎ (x ≡ f.Memory))

module _ (src : List ℕ) (ts : List Token) where
  memory_or : (x : ParseFault) → (x ≡ f.Memory) ⊎ (x ≢ f.Memory)
  memory_or f.Memory = inl refl
  memory_or (f.Expected at what) = inr (λ e. cc)
  memory_or (f.TooDeep at) = inr (λ e. cc)
  memory_or (f.TooManyNodes at first) = inr (λ e. cc)

  told : (x e : ParseFault) → ((x ≢ f.Memory) → Faults src ts x) → Faults src ts e → (x ≡ f.Memory) ⊎ (x ≢ f.Memory) → (x ≡ e) ⊎ (x ≡ f.Memory)
  told x e h k (inl m) = inr m
  told x e h k (inr n) = inl (one_fault src ts x e (h n) k)

  none_but : (x : ParseFault) (p : Program) → ((x ≢ f.Memory) → Faults src ts x) → Derives src ts p → KeepsLimits ts → (x ≡ f.Memory) ⊎ (x ≢ f.Memory) → x ≡ f.Memory
  none_but x p h d k (inl m) = m
  none_but x p h d k (inr n) = absurd (no_fault src ts x p (h n) d k)

  -- a refusal
  pub refuses : (x : ParseFault) → ((x ≢ f.Memory) → Faults src ts x) → Answers src ts (Err x)
  refuses x h = record {
    found = tt;
    few = tt;
    only = λ p d k. none_but x p h d k (memory_or x);
    fault = h;
    only_fault = λ e k. told x e h k (memory_or x);
  }

  one_program : (st : State) → run src start ts ≡ Some st → (p : Program) → Derives src ts p → whole st ≡ Some p
  one_program st here p d =
      let r = derived src d in
      let e : Some st ≡ Some r.last = sym here ∙ r.run in
      let same : st ≡ r.last = cc in
      ap whole same ∙ r.whole

  -- a program
  pub accepts : (st : State) → run src start ts ≡ Some st → KeepsLimits ts → (p : Program) → whole st ≡ Some p → Answers src ts (Ok p)
  accepts st here k p w =
      let P : Option State → Type 0 = Keeps src ts in
      let d : Derives src ts p = read_derives src (subst P here (holds src ts)) w in
      record {
        found = (d, k);
        few = few src ts p d;
        only = λ q e l. let x : Some p ≡ Some q = sym w ∙ one_program st here q e in cc;
        fault = tt;
        only_fault = λ e x. no_fault src ts e p x d k;
      }

  at_end : (st : State) → run src start ts ≡ Some st → KeepsLimits ts → whole st ≡ None → Faults src ts (f.Expected (length src) (want_of st.mode))
  at_end st here k w = record {
    front = ts;
    back = [];
    split = sym (append-nil ts);
    begins = goes_on src st ts here;
    limits = k;
    here = (refl, λ p d. let x : Some p ≡ None = sym (one_program st here p d) ∙ w in cc, wants src ts st here);
  }

  ended : (st : State) → run src start ts ≡ Some st → KeepsLimits ts → (e : ParseFault) → (e ≢ f.Memory) →
      (e ≡ f.Memory) ⊎ ((e ≡ f.Expected (length src) (want_of st.mode)) × (whole st ≡ None)) → Faults src ts e
  ended st here k e n (inl m) = absurd (n m)
  ended st here k e n (inr (q, w)) = let P : ParseFault → Type 0 = Faults src ts in subst P (sym q) (at_end st here k w)

  pub finishes : (st : State) → run src start ts ≡ Some st → KeepsLimits ts → (r : Result Program ParseFault) → Finishes src st r → Answers src ts r
  finishes st here k (Ok p) h = accepts st here k p h
  finishes st here k (Err e) h = refuses e (λ n. ended st here k e n h)
