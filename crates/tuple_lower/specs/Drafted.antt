-- Private: a piece that is built, and the condition under which more is put behind it. No public clause speaks of it.
use Rattle.std.specs.Prelude.{[], ◌∷◌, ℕ, ◌+◌, ◌*◌, ◌≤◌, ◌<◌, List, ◌++◌, length, set}
use Rattle.bm_base.specs.declared.limits.TheConstants.{MOST_TUPLES}
use Rattle.src_names.specs.declared.resolved.RExpr.{RExpr}
use Rattle.src_names.specs.declared.resolved.RStmt.{RStmt}
use Rattle.src_names.specs.Sizes.{FewNodes, AllFewNodes, count_of, statements}
use Rattle.tuple_ir.specs.declared.block.Next.{Next}
use Rattle.tuple_ir.specs.declared.block.Next.TheVariants.{Halt, Goto, If}
use Rattle.tuple_ir.specs.Serial.{block_at}
use Rattle.tuple_lower.specs.Lowered.{expr_tuples}
use Rattle.tuple_lower.specs.Blocks.{Piece, Lowering, block, with_row, put}

-- what comes behind a piece of which the first block is block 0
abbrev pub continued : Piece → Lowering → Piece
continued d next = let q = next (length d.ended) d.current in record { ended = d.ended ++ q.ended; current = q.current }

-- each statement has few nodes, and the numbers of the blocks have room: a statement opens at most four
pub record StmtFits (z : RStmt) (d : Piece) : Type 0 where
  pub few : FewNodes z
  pub numbers : length d.ended + 4 * count_of z < 4294967296
  pub cells : length d.current ≤ MOST_TUPLES

pub record BodyFits (body : List RStmt) (d : Piece) : Type 0 where
  pub few : AllFewNodes body
  pub numbers : length d.ended + 4 * statements body < 4294967296
  pub cells : length d.current ≤ MOST_TUPLES

-- the block of this number is followed by something else
abbrev pub with_next : ℕ → Next → Piece → Piece
with_next b next d = record { ended = set d.ended b (block (block_at d.ended b).tuples next); current = d.current }

-- its current block is ended, and a new one is current
abbrev pub ended_by : Piece → Next → Piece
ended_by d next = record { ended = d.ended ++ block d.current next ∷ []; current = [] }

-- An `if` whose condition is put, before its bodies; what follows the condition's block is not known yet.
abbrev pub opened_choice : RExpr → Piece → Piece
opened_choice c d = ended_by (continued d (put (expr_tuples c))) Halt

-- both bodies of an `if` stand: the join is opened, and all three blocks lead where they should
abbrev pub closed_choice : ℕ → ℕ → ℕ → Piece → Piece
closed_choice test cell end d = with_next test (If cell (test + 1) (end
    + 1)) (with_next end (Goto (length d.ended + 1)) (ended_by d (Goto (length d.ended + 1))))

-- a `while` whose header stands, before its body; what follows the header is not known yet
abbrev pub opened_loop : RExpr → Piece → Piece
opened_loop c d = ended_by (with_row (expr_tuples c) (ended_by d (Goto (length d.ended + 1)))) Halt

-- the body of a `while` stands: the exit is opened, and the body and the header lead where they should
abbrev pub closed_loop : ℕ → ℕ → Piece → Piece
closed_loop test cell d = with_next test (If cell (test + 1) (length d.ended + 1)) (ended_by d (Goto test))
