use Rattle.std.proofs.Common.{◌≡◌, ℕ, List, Some, None, Result, Err, MatchResult, ◌⊎◌, length, subst}
use Rattle.src_tree.specs.declared.tree.Program.{Program}
use Rattle.src_parser.specs.declared.fault.ParseFault.{ParseFault}
use Rattle.src_parser.specs.declared.fault.ParseFault.TheVariants as f
use Rattle.src_parser.specs.declared.machine.State.{State}
use Rattle.src_parser.specs.Machine.{whole, want_of}
use Rattle.src_parser.specs.Turn.{Finishes}
use Rattle.src_parser.proofs.Fit.{tokens_fit}
use Rattle.src_parser.proofs.Whole_runs.{finishes, refuses}
use Rattle.src_parser.proofs.program.parse.Goals as goal

abbrev Told : State → ParseFault → Result Program ParseFault → Type 0
Told st z r = MatchResult r (λ p. whole st ≡ Some p) (λ e. (e ≡ f.Memory) ⊎ ((e ≡ z) × (whole st ≡ None)))

told : (src : List ℕ) (st : State) (z : ParseFault) (r : Result Program ParseFault) → z ≡ f.Expected (length src) (want_of st.mode) → Told st z r → Finishes src st r
told src st z r e h = let P : ParseFault → Type 0 = λ x. Told st x r in subst P e h

pub read-requires-clause-tokens : goal.read-requires-clause-tokens
read-requires-clause-tokens c = tokens_fit c.args.src.now c.args.tokens.now (c.spelled_tokens_are_in_order.ensures c.args.src.now c.args.tokens.now c.requires.spelled)

pub returns-in-Ok-clause-found : goal.returns-in-Ok-clause-found
returns-in-Ok-clause-found c =
    (finishes c.args.src.now c.args.tokens.now c.read.new.state c.in-Ok.ensures.ok c.in-Ok.ensures.limits c.finish.result
    (told c.args.src.now c.read.new.state c.unfinished-fault.result c.finish.result c.unfinished-fault.ensures c.finish.ensures)).found

pub returns-in-Ok-clause-only : goal.returns-in-Ok-clause-only
returns-in-Ok-clause-only c =
    (finishes c.args.src.now c.args.tokens.now c.read.new.state c.in-Ok.ensures.ok c.in-Ok.ensures.limits c.finish.result
    (told c.args.src.now c.read.new.state c.unfinished-fault.result c.finish.result c.unfinished-fault.ensures c.finish.ensures)).only

pub returns-in-Ok-clause-fault : goal.returns-in-Ok-clause-fault
returns-in-Ok-clause-fault c =
    (finishes c.args.src.now c.args.tokens.now c.read.new.state c.in-Ok.ensures.ok c.in-Ok.ensures.limits c.finish.result
    (told c.args.src.now c.read.new.state c.unfinished-fault.result c.finish.result c.unfinished-fault.ensures c.finish.ensures)).fault

pub returns-in-Ok-clause-only_fault : goal.returns-in-Ok-clause-only_fault
returns-in-Ok-clause-only_fault c =
    (finishes c.args.src.now c.args.tokens.now c.read.new.state c.in-Ok.ensures.ok c.in-Ok.ensures.limits c.finish.result
    (told c.args.src.now c.read.new.state c.unfinished-fault.result c.finish.result c.unfinished-fault.ensures c.finish.ensures)).only_fault

pub returns-in-Err-clause-only : goal.returns-in-Err-clause-only
returns-in-Err-clause-only c = (refuses c.args.src.now c.args.tokens.now c.in-Err.fault c.in-Err.ensures.fault).only

pub returns-in-Err-clause-fault : goal.returns-in-Err-clause-fault
returns-in-Err-clause-fault c = c.in-Err.ensures.fault

pub returns-in-Err-clause-only_fault : goal.returns-in-Err-clause-only_fault
returns-in-Err-clause-only_fault c = (refuses c.args.src.now c.args.tokens.now c.in-Err.fault c.in-Err.ensures.fault).only_fault

pub returns-in-Ok-clause-few : goal.returns-in-Ok-clause-few
returns-in-Ok-clause-few c =
    (finishes c.args.src.now c.args.tokens.now c.read.new.state c.in-Ok.ensures.ok c.in-Ok.ensures.limits c.finish.result
    (told c.args.src.now c.read.new.state c.unfinished-fault.result c.finish.result c.unfinished-fault.ensures c.finish.ensures)).few
