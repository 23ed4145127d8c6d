-- The lowered blocks of a program. A block takes the next unused number when it is opened, and the current block is always the one that
-- was opened last. So what has been lowered is the row of the blocks that are ended, and the tuples of the current block behind them.
use Rattle.std.specs.Prelude.{ℕ, ◌+◌, List, [], ◌∷◌, ◌++◌, length, map, if◌then◌else◌, nat_le}
use Rattle.bm_base.specs.declared.limits.TheConstants.{MOST_TUPLES}
use Rattle.src_names.specs.RProgram.{RProgram}
use Rattle.src_names.specs.declared.resolved.RStmt.{RStmt, RStmt-F}
use Rattle.src_names.specs.declared.resolved.RStmt.TheFolds.{fold-RStmt}
use Rattle.tuple_ir.specs.declared.block.Block.{Block}
use Rattle.tuple_ir.specs.declared.block.Blocks.{Blocks}
use Rattle.tuple_ir.specs.declared.block.Next.{Next}
use Rattle.tuple_ir.specs.declared.block.Next.TheVariants.{Halt, Goto, If}
use Rattle.tuple_ir.specs.declared.tuple.Tuple as t
use Rattle.tuple_lower.specs.Lowered.{Row, last_of, expr_tuples, stmt_step}

-- blocks that are ended, and the tuples of the current block behind them
pub record Piece : Type 0 where
  pub ended : List Block
  pub current : List t.Tuple

-- What is lowered behind these tuples of the current block, which has this number. It is a piece of which this block is the first.
abbrev pub Lowering : Type 0
Lowering = ℕ → List t.Tuple → Piece

-- the number of the current block of a piece whose first block has this number
abbrev pub current_of : ℕ → Piece → ℕ
current_of first p = first + length p.ended

abbrev pub block : List t.Tuple → Next → Block
block tuples next = record { tuples = tuples; next = next }

-- Where so many tuples more would make the current block pass 128, a new block is opened, the current one ends by a goto it, and the new
-- one is current.
abbrev pub cut : ℕ → Lowering
cut more b ts = if nat_le (length ts + more) MOST_TUPLES
    then record { ended = []; current = ts } else record { ended = block ts (Goto (b + 1)) ∷ []; current = [] }

-- the tuples of a row behind those of the current block
abbrev pub with_row : Row → Piece → Piece
with_row row p = record { ended = p.ended; current = p.current ++ row (length p.current) }

-- The tuples of a row are put behind those of the current block, or into a new one where the current one would pass 128.
abbrev pub put : Row → Lowering
put row b ts = with_row row (cut (length (row (length ts))) b ts)

-- a piece, and what is lowered behind its current block
abbrev pub then_lower : ℕ → Piece → Lowering → Piece
then_lower b p next = let q = next (current_of b p) p.current in record { ended = p.ended ++ q.ended; current = q.current }

-- one after another
abbrev pub in_turn : List Lowering → Lowering
in_turn [] b ts = record { ended = []; current = ts }
in_turn (l ∷ more) b ts = then_lower b (l b ts) (in_turn more)

-- The condition is put. The then-block is opened and its body lowered, the else-block is opened and its body lowered, and the join block is
-- opened, which is current. The condition's block ends by an `if` of both, the last blocks of both bodies by a goto the join.
abbrev pub choice : Row → Lowering → Lowering → Lowering
choice condition first second b ts =
    let c = put condition b ts in
    let then_block = current_of b c + 1 in
    let y = first then_block [] in
    let else_block = current_of then_block y + 1 in
    let n = second else_block [] in
    let join = current_of else_block n + 1 in
    record {
      ended = c.ended ++ block c.current (If (last_of 0 c.current) then_block else_block)
          ∷ (y.ended ++ block y.current (Goto join) ∷ (n.ended ++ block n.current (Goto join) ∷ []));
      current = [];
    }

-- The header block is opened, and the current one ends by a goto it. The condition is put there. The body block is opened and the body
-- lowered; its last block ends by a goto the header. The exit block is opened, which is current. The header ends by an `if` of both.
abbrev pub repetition : Row → Lowering → Lowering
repetition condition body b ts =
    let header = b + 1 in
    let y = body (header + 1) [] in
    let exit = current_of (header + 1) y + 1 in
    record {
      ended = block ts (Goto header) ∷ block (condition 0) (If (last_of 0 (condition 0)) (header + 1) exit)
          ∷ (y.ended ++ block y.current (Goto header) ∷ []);
      current = [];
    }

abbrev pub lower_step : RStmt-F Lowering → Lowering
lower_step (RStmt-F.Assign x e) = put (stmt_step (RStmt-F.Assign x e))
lower_step (RStmt-F.SetElement x i e) = put (stmt_step (RStmt-F.SetElement x i e))
lower_step (RStmt-F.Print e) = put (stmt_step (RStmt-F.Print e))
lower_step (RStmt-F.If c ones others) = choice (expr_tuples c) (in_turn ones) (in_turn others)
lower_step (RStmt-F.While c body) = repetition (expr_tuples c) (in_turn body)

-- a statement is lowered
unfoldable pub lower_stmt : RStmt → Lowering
lower_stmt = fold-RStmt Lowering lower_step

-- statements are lowered, in order
abbrev pub lower_body : List RStmt → Lowering
lower_body body = in_turn (map lower_stmt body)

-- at the end the current block ends by a halt
abbrev pub halted : Piece → List Block
halted p = p.ended ++ block p.current Halt ∷ []

-- block 0 is opened first
abbrev pub lowered_blocks : RProgram → Blocks
lowered_blocks p = record { names = p.names; blocks = halted (lower_body p.body 0 []) }
