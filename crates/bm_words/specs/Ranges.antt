-- The numbers of what words ask for are in their ranges.
use Rattle.std.specs.Prelude.{ℕ, ◌≤◌, List, IfSome}
use Rattle.bm_base.specs.declared.limits.TheConstants.{MOST_TURNS, MOST_BUDGET, MOST_STATEMENTS}
use Rattle.bm_words.specs.Table.{Request, EvalOf, GoOf, CompileOf, ShowOf, RunOf, TraceOf, CheckOf, SoakOf, request_of}

abbrev pub IsInRange : Request → Type 0
IsInRange (EvalOf program given turns) = turns ≤ MOST_TURNS
IsInRange (GoOf program machine run) = run.budget ≤ MOST_BUDGET
IsInRange (CompileOf program machine out) = Unit {0}
IsInRange (ShowOf program machine) = Unit {0}
IsInRange (RunOf image run) = run.budget ≤ MOST_BUDGET
IsInRange (TraceOf image run) = run.budget ≤ MOST_BUDGET
IsInRange (CheckOf image) = Unit {0}
IsInRange (SoakOf seed statements) = statements ≤ MOST_STATEMENTS

abbrev pub RequestsAreInRange : Type 0
RequestsAreInRange = (words : List (List ℕ)) → IfSome (request_of words) IsInRange
