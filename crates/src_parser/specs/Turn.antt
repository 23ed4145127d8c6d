-- Private: what one token does to the state and the counts, and why it may be refused. No public clause speaks of it.
use Rattle.std.specs.Prelude.{◌≡◌, ℕ, ◌<◌, ◌≤◌, ◌⊎◌, List, Some, None, length, Result, MatchResult}
use Rattle.bm_base.specs.declared.limits.TheConstants.{MOST_NODES, MOST_DEPTH}
use Rattle.src_lexer.specs.declared.token.Token.{Token}
use Rattle.src_tree.specs.declared.tree.Program.{Program}
use Rattle.src_parser.specs.declared.machine.State.{State}
use Rattle.src_parser.specs.declared.tally.Tally.{Tally}
use Rattle.src_parser.specs.declared.fault.ParseFault.{ParseFault}
use Rattle.src_parser.specs.declared.fault.ParseFault.TheVariants as f
use Rattle.src_parser.specs.Machine.{step, want_of, whole}
use Rattle.src_parser.specs.Tally.{tallied}

-- the state goes on, and the counts keep the limits
pub record Goes (src : List ℕ) (st : State) (t : Tally) (token : Token) (next : State) (more : Tally) : Type 0 where
  pub steps : step src st token ≡ Some next
  pub counts : more ≡ tallied token t
  pub depth : more.depth ≤ MOST_DEPTH
  pub nodes : more.nodes ≤ MOST_NODES

-- the state goes on, whichever it is
pub record GoesOn (src : List ℕ) (st : State) (token : Token) : Type 0 where
  pub next : State
  pub steps : step src st token ≡ Some next

-- the token is refused
abbrev pub Stops : List ℕ → State → Tally → Token → ParseFault → Type 0
Stops src st t token (f.Expected at what) = (at ≡ token.at) × (what ≡ want_of st.mode) × (step src st token ≡ None)
Stops src st t token (f.TooDeep at) = (at ≡ token.at) × GoesOn src st token × (MOST_DEPTH < (tallied token t).depth)
Stops src st t token (f.TooManyNodes at first) =
    (at ≡ token.at) × (first ≡ (tallied token t).first) × GoesOn src st token × ((tallied token t).depth ≤ MOST_DEPTH)
    × (MOST_NODES < (tallied token t).nodes)
Stops src st t token f.Memory = Unit {0}

-- what the end of the tokens answers
abbrev pub Finishes : List ℕ → State → Result Program ParseFault → Type 0
Finishes src st r = MatchResult r (λ p. whole st ≡ Some p) (λ e. (e ≡ f.Memory)
    ⊎ ((e ≡ f.Expected (length src) (want_of st.mode)) × (whole st ≡ None)))
