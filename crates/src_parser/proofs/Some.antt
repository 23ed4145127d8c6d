-- Tokens derive a tree within the limits, or they have a first fault.
use Rattle.std.proofs.Common.{◌≡◌, ◌⊎◌, inl, inr, ℕ, ◌≤◌, ◌<◌, List, [], ◌∷◌, ◌++◌, length, Option, Some, None, Err, refl, sym, ◌∙◌, subst, append_assoc}
use Rattle.std.proofs.lemmas.List.{append-nil}
use Rattle.std.proofs.lemmas.Bool.Decides.{leb_tells}
use Rattle.src_lexer.specs.declared.token.Token.{Token}
use Rattle.src_tree.specs.declared.tree.Program.{Program}
use Rattle.src_tree.specs.Limits.{KeepsLimits}
use Rattle.src_parser.specs.declared.fault.ParseFault.{ParseFault}
use Rattle.src_parser.specs.declared.fault.ParseFault.TheVariants as f
use Rattle.src_parser.specs.declared.machine.State.{State}
use Rattle.src_parser.specs.declared.tally.Tally.{Tally}
use Rattle.src_parser.specs.Machine.{step, run, start, whole, want_of}
use Rattle.src_parser.specs.Tally.{tallied, nothing}
use Rattle.src_parser.specs.Laws.{Answer, tree, fault}
use Rattle.src_parser.proofs.Whole_runs.{Read, read_none, read_more, read_stops, accepts, finishes}

at_most : (m n : ℕ) → (m ≤ n) ⊎ (n < m)
at_most m n = elim (leb_tells m n) [ inl h ↦ inl h.1 | inr h ↦ inr h.1 ]

module _ (src : List ℕ) (ts : List Token) where
  at_end : (st : State) → run src start ts ≡ Some st → KeepsLimits ts → (o : Option Program) → whole st ≡ o → Answer src ts
  at_end st h k (Some p) w = let d = (accepts src ts st h k p w).found in tree d.0 d.1
  at_end st h k None w =
      let e : ParseFault = f.Expected (length src) (want_of st.mode) in
      fault ((finishes src ts st h k (Err e) (inr (refl, w))).fault (λ x. cc))

  turn : (front back : List Token) (st : State) (t : Tally) (token : Token) → Read src front st t → ts ≡ front ++ (token ∷ back) →
      ((next : State) (more : Tally) → Read src (front ++ token ∷ []) next more → Answer src ts) → (o : Option State) → step src st token ≡ o → Answer src ts
  turn front back st t token r e rest None s = fault (read_stops r ts token back (f.Expected token.at (want_of st.mode)) e (refl, refl, s) (λ x. cc))
  turn front back st t token r e rest (Some next) s =
      elim (at_most (tallied token t).depth 64) [
        | inr deep ↦ fault (read_stops r ts token back (f.TooDeep token.at) e (refl, record { next = next; steps = s }, deep) (λ x. cc))
        | inl low ↦ elim (at_most (tallied token t).nodes 120) [
          | inr many ↦ fault (read_stops r ts token back (f.TooManyNodes token.at (tallied token t).first) e (refl, refl, record { next = next; steps = s }, low, many) (λ x. cc))
          | inl few ↦ rest next (tallied token t) (read_more r token next (tallied token t) (record { steps = s; counts = refl; depth = low; nodes = few }))
        ]
      ]

  walk : (back front : List Token) (st : State) (t : Tally) → Read src front st t → ts ≡ front ++ back → Answer src ts
  walk [] front st t r e =
      let same : front ≡ ts = sym (e ∙ append-nil front) in
      let P : List Token → Type 0 = λ l. run src start l ≡ Some st in
      let Q : List Token → Type 0 = KeepsLimits in
      at_end st (subst P same r.runs) (subst Q same r.limits) (whole st) refl
  walk (token ∷ back) front st t r e =
      turn front back st t token r e
      (λ next more q. walk back (front ++ token ∷ []) next more q (e ∙ sym (append_assoc front (token ∷ []) back)))
      (step src st token) refl

  pub some : Answer src ts
  some = walk ts [] start nothing (read_none src nothing start refl refl) refl
