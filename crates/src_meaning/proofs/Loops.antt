-- A loop is its test, its body with a turn less, and the same loop again.
use Rattle.std.proofs.Common.{◌≡◌, ℕ, ◌+◌, List, true, false, sym, ap, ◌∙◌, add-one}
use Rattle.bm_base.specs.Memory.{Content}
use Rattle.src_names.specs.declared.resolved.RExpr.{RExpr}
use Rattle.src_names.specs.declared.resolved.RStmt.{RStmt}
use Rattle.src_names.specs.declared.resolved.RStmt.TheVariants.{While}
use Rattle.src_meaning.specs.Meaning.{Action, done, stopped, and_then, is_zero, value_of, while_loop, statement, statements}
use Rattle.src_meaning.specs.Laws.{LoopsGoRound}
use Rattle.src_meaning.proofs.Equations.{statement-while}
use Rattle.src_meaning.proofs.Turns.{Spends, while-turn, while-done, while-stopped}
use Rattle.src_meaning.proofs.Lawful.{lawful}

module _ (c : RExpr) (body : List RStmt) where
  abbrev again : Action
  again = while_loop (value_of c) (statements body)

  is_again : statement (While c body) ≡ again
  is_again = statement-while c body

  spends : Spends (statements body)
  spends = (lawful body).spends

  ends : (turns : ℕ) (memory : List Content) → is_zero (value_of c memory) ≡ true → statement (While c body) turns memory ≡ done turns memory
  ends turns memory h = ap (λ a. a turns memory) is_again ∙ while-done (value_of c) (statements body) spends turns memory h

  stops : (memory : List Content) → is_zero (value_of c memory) ≡ false → statement (While c body) 0 memory ≡ stopped 0 memory
  stops memory h = ap (λ a. a 0 memory) is_again ∙ while-stopped (value_of c) (statements body) spends memory h

  goes_on : (turns : ℕ) (memory : List Content) → is_zero (value_of c memory) ≡ false → statement (While c body) (turns + 1) memory ≡ and_then (statements body turns memory) (statement (While c body))
  goes_on turns memory h =
      ap (λ a. a (turns + 1) memory) is_again ∙ ap (λ n. again n memory) (add-one turns) ∙ while-turn (value_of c) (statements body) spends turns memory h
      ∙ ap (λ a. and_then (statements body turns memory) a) (sym is_again)

pub loops_go_round : LoopsGoRound
loops_go_round = record { ends = ends; stops = stops; goes_on = goes_on }
