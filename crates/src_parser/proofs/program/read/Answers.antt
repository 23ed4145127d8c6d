use Rattle.std.proofs.Common.{◌≡◌, ◌∙◌, [], sym, ap, subst, List, ℕ, ◌∷◌, ◌++◌, ◌+◌, suc, length, ◌<◌, take, drop, get_or, Some, Err, drop-cons, arith}
use Rattle.std.proofs.lemmas.List.{take_more, take-append-drop, take_all}
use Rattle.src_lexer.specs.declared.token.Token.{Token}
use Rattle.src_lexer.specs.declared.token.TokenKind.TheVariants.{Name}
use Rattle.src_tree.specs.Limits.{KeepsLimits}
use Rattle.src_parser.specs.declared.machine.State.{State}
use Rattle.src_parser.specs.declared.tally.Tally.{Tally}
use Rattle.src_parser.specs.Machine.{run, start}
use Rattle.src_parser.specs.Turn.{Goes}
use Rattle.src_parser.proofs.Tallies.{IsTally}
use Rattle.src_parser.proofs.Whole_runs.{Read, read_none, read_more, read_stops, low_depth, low_signs, low_nodes}
use Rattle.bm_base.specs.Passed.{err_is}
use Rattle.src_parser.proofs.program.read.Goals as goal

abbrev Known : List ℕ → List Token → State → Tally → Type 0
Known src front st t = (run src start front ≡ Some st) × IsTally t front × KeepsLimits front

known : {src : List ℕ} {front : List Token} {st : State} {t : Tally} → Known src front st t → Read src front st t
known h = record { runs = h.0; counts = h.1; limits = h.2 }

abbrev no_token : Token
no_token = record { kind = Name; at = 0; end = 0 }

split : (ts : List Token) (i : ℕ) → i < length ts → ts ≡ take i ts ++ (get_or ts i no_token ∷ drop (suc i) ts)
split ts i h = sym (take-append-drop i ts) ∙ ap (λ z. take i ts ++ z) (drop-cons ts i _ h)

more : {src : List ℕ} (ts : List Token) (i : ℕ) {st next : State} {t counted : Tally} → i < length ts → Known src (take i ts) st t →
    Goes src st t (get_or ts i no_token) next counted → Known src (take (i + 1) ts) next counted
more {src} ts i {next = next} {counted = counted} low h g =
    let r = read_more (known h) (get_or ts i no_token) next counted g in
    let P : List Token → Type 0 = λ z. Known src z next counted in
    let e : take (i + 1) ts ≡ take i ts ++ get_or ts i no_token ∷ [] = take_more ts i no_token low in
    subst P (sym e) (r.runs, r.counts, r.limits)

pub loop-token-init : goal.loop-token-init
loop-token-init c = let r = read_none c.args.src.now c.nothing-counted.result c.args.state.now c.nothing-counted.ensures c.requires.start in (r.runs, r.counts, r.limits)

pub turn-requires-clause-depth : goal.turn-requires-clause-depth
turn-requires-clause-depth c = low_depth (known c.loop-token.invariant)

pub turn-requires-clause-signs : goal.turn-requires-clause-signs
turn-requires-clause-signs c = low_signs (known c.loop-token.invariant)

pub turn-requires-clause-nodes : goal.turn-requires-clause-nodes
turn-requires-clause-nodes c = low_nodes (known c.loop-token.invariant)

pub returns-in_err-turn-clause-fault : goal.returns-in_err-turn-clause-fault
returns-in_err-turn-clause-fault c =
    let ts = c.args.tokens.now in
    let i = c.loop-token.token-index in
    let e = c.in_err-turn.field-0.0 in
    let told : c.from_residual.result ≡ Err e = err_is c.from_residual.result e c.from_residual.ensures.0 c.from_residual.ensures.1 in
    rw told (read_stops (known c.loop-token.invariant) ts (get_or ts i no_token) (drop (suc i) ts) e (split ts i c.loop-token-test.true) c.in_err-turn.ensures.stops)

pub loop-token-preserved : goal.loop-token-preserved
loop-token-preserved c = more c.args.tokens.now c.loop-token.token-index c.loop-token-test.true c.loop-token.invariant c.in_ok-turn.ensures.goes

pub returns-clause-ok : goal.returns-clause-ok
returns-clause-ok c =
    let e : take c.loop-token.token-index c.args.tokens.now ≡ c.args.tokens.now = take_all c.loop-token.token-index c.args.tokens.now (omega (arith, c.loop-token-test.false)) in
    ap (λ z. run c.args.src.now start z) (sym e) ∙ (c.loop-token.invariant).0
