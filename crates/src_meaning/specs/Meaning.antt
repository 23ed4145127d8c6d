-- What a resolved program means: its outcome within a number of turns. No blocks, no ticks.
use Rattle.std.specs.Prelude.{ℕ, zero, suc, ℤ, pos, List, [], ◌∷◌, ◌++◌, map, Bool, if◌then◌else◌}
use Rattle.std.specs.Ordering.{int_eq}
use Rattle.bm_base.specs.Word.{unary_value, binary_value}
use Rattle.bm_base.specs.Memory.{Content, variable, element, set_variable, set_element}
use Rattle.src_names.specs.RProgram.{RProgram}
use Rattle.src_names.specs.declared.resolved.RExpr.{RExpr, RExpr-F}
use Rattle.src_names.specs.declared.resolved.RExpr.TheFolds.{fold-RExpr}
use Rattle.src_names.specs.declared.resolved.RStmt.{RStmt, RStmt-F}
use Rattle.src_names.specs.declared.resolved.RStmt.TheFolds.{fold-RStmt}
use Rattle.src_meaning.specs.declared.evaluate.End.{End}
use Rattle.src_meaning.specs.declared.evaluate.End.TheVariants.{Done, More}

abbrev pub value_step : RExpr-F (List Content → ℤ) → List Content → ℤ
value_step (RExpr-F.Number v) memory = v
value_step (RExpr-F.Var x) memory = variable memory x
value_step (RExpr-F.Element x i) memory = element memory x (i memory)
value_step (RExpr-F.One op a) memory = unary_value op (a memory)
value_step (RExpr-F.Two op a b) memory = binary_value op (a memory) (b memory)

-- the value of an expression in a memory
unfoldable pub value_of : RExpr → List Content → ℤ
value_of = fold-RExpr (List Content → ℤ) value_step

-- How statements came out: done, or more is to come; the turns that are left, the memory, and the words printed.
pub record Outcome : Type 0 where
  pub end : End
  pub turns : ℕ
  pub memory : List Content
  pub output : List ℤ

-- what statements do with a number of turns and a memory
abbrev pub Action : Type 0
Action = ℕ → List Content → Outcome

-- done, with nothing printed
abbrev pub done : Action
done turns memory = record { end = Done; turns = turns; memory = memory; output = [] }

-- more is to come, with nothing printed
abbrev pub stopped : Action
stopped turns memory = record { end = More; turns = turns; memory = memory; output = [] }

abbrev pub behind : List ℤ → Outcome → Outcome
behind words o = record { end = o.end; turns = o.turns; memory = o.memory; output = words ++ o.output }

-- Where statements were done, others run behind them. After More nothing further runs.
abbrev pub continued : End → Outcome → Action → Outcome
continued Done o next = behind o.output (next o.turns o.memory)
continued More o next = o

abbrev pub and_then : Outcome → Action → Outcome
and_then o next = continued o.end o next

-- one after another
abbrev pub in_order : List Action → Action
in_order [] turns memory = done turns memory
in_order (a ∷ more) turns memory = and_then (a turns memory) (in_order more)

abbrev pub is_zero : ℤ → Bool
is_zero v = int_eq v (pos 0)

-- A loop. Where its test is 0 it is done. Where the test is not 0 and no turn is left, more is to come; otherwise one turn is spent,
-- the body runs, and then the loop again with the turns that are left. The first number bounds how often it goes round.
abbrev pub loop : ℕ → (List Content → ℤ) → Action → Action
loop zero test body turns memory = if is_zero (test memory) then done turns memory else stopped turns memory
loop (suc often) test body zero memory = if is_zero (test memory) then done zero memory else stopped zero memory
loop (suc often) test body (suc turns) memory = if is_zero (test memory)
    then done (suc turns) memory else and_then (body turns memory) (loop often test body)

-- It never goes round more often than there are turns.
abbrev pub while_loop : (List Content → ℤ) → Action → Action
while_loop test body turns memory = loop turns test body turns memory

-- An element assignment takes its index, then its value. `if` runs one body.
abbrev pub statement_step : RStmt-F Action → Action
statement_step (RStmt-F.Assign x e) turns memory = done turns (set_variable memory x (value_of e memory))
statement_step (RStmt-F.SetElement x i e) turns memory = done turns (set_element memory x (value_of i memory) (value_of e memory))
statement_step (RStmt-F.Print e) turns memory = behind (value_of e memory ∷ []) (done turns memory)
statement_step (RStmt-F.If c ones others) turns memory = if is_zero (value_of c memory)
    then in_order others turns memory else in_order ones turns memory
statement_step (RStmt-F.While c body) turns memory = while_loop (value_of c) (in_order body) turns memory

-- what a statement does
unfoldable pub statement : RStmt → Action
statement = fold-RStmt Action statement_step

-- what statements do, in order
abbrev pub statements : List RStmt → Action
statements body = in_order (map statement body)

-- the outcome of a program from a memory, with so many turns
abbrev pub meaning : RProgram → List Content → ℕ → Outcome
meaning p memory turns = statements p.body turns memory
