use Rattle.std.proofs.Common.{◌≡◌, ◌∙◌, ap, List, ℕ, ◌<◌, ◌≤◌, Some, None, cond, Bool, refl, arith}
use Rattle.src_lexer.specs.declared.token.Token.{Token}
use Rattle.src_parser.specs.declared.machine.State.{State}
use Rattle.src_parser.specs.declared.tally.Tally.{Tally}
use Rattle.src_parser.specs.declared.fault.ParseFault.TheVariants as f
use Rattle.src_parser.specs.Machine.{step}
use Rattle.src_parser.specs.Tally.{tallied}
use Rattle.src_parser.specs.Turn.{Stops}
use Rattle.src_parser.proofs.program.turn.Goals as goal

too_deep : (src : List ℕ) (st next : State) (t more : Tally) (token : Token) → step src st token ≡ Some next → more ≡ tallied token t → 64 < more.depth →
    Stops src st t token (f.TooDeep token.at)
too_deep src st next t more token s m d = (refl, record { next = next; steps = s }, omega (arith, d, ap (λ (z : Tally). z.depth) m))

too_many : (src : List ℕ) (st next : State) (t more : Tally) (token : Token) → step src st token ≡ Some next → more ≡ tallied token t → more.depth ≤ 64 →
    120 < more.nodes → Stops src st t token (f.TooManyNodes token.at more.first)
too_many src st next t more token s m d n = (
  refl,
  ap (λ (z : Tally). z.first) m,
  record { next = next; steps = s },
  omega (arith, d, ap (λ (z : Tally). z.depth) m),
  omega (arith, n, ap (λ (z : Tally). z.nodes) m),
)

-- src/program.rt:63:9
pub returns-then-counted-gt-MOST_DEPTH-clause-stops : goal.returns-then-counted-gt-MOST_DEPTH-clause-stops
returns-then-counted-gt-MOST_DEPTH-clause-stops c =
    too_deep c.args.src.now c.args.state.now c.step.new.state c.args.counted.now c.take.new.tally c.args.token
    (c.in_ok-step.ensures ∙ ap (λ (b : Bool). cond b (Some c.step.new.state) None) c.if-not-branch.false) c.in_ok-take.ensures (omega (arith, c.if-counted-gt-MOST_DEPTH.true))

-- src/program.rt:66:9
pub returns-then-counted-gt-MOST_NODES-clause-stops : goal.returns-then-counted-gt-MOST_NODES-clause-stops
returns-then-counted-gt-MOST_NODES-clause-stops c =
    too_many c.args.src.now c.args.state.now c.step.new.state c.args.counted.now c.take.new.tally c.args.token
    (c.in_ok-step.ensures ∙ ap (λ (b : Bool). cond b (Some c.step.new.state) None) c.if-not-branch.false) c.in_ok-take.ensures
    (omega (arith, c.if-counted-gt-MOST_DEPTH.false)) (omega (arith, c.if-counted-gt-MOST_NODES.true))
