-- The first line of a text that cannot stand at its place after the lines before it.
use Rattle.std.specs.Prelude.{ℕ, ◌+◌, ◌-◌, ◌≤◌, List, length, take}
use Rattle.bm_base.specs.Lines.{whole_lines}
use Rattle.stream_file.specs.Fields.{Fields, IsTextOf, CanStand}

-- The bytes are no text. Some text begins with the whole lines before this one. This one is cut or missing, or no text begins with
-- the lines up to it.
pub record IsFirstWrong (bytes : List ℕ) (line : ℕ) : Type 0 where
  pub no_text : (f : Fields) → IsTextOf bytes f → ⊥
  pub low : 1 ≤ line
  pub high : line ≤ length (whole_lines bytes) + 1
  pub before : CanStand (take (line - 1) (whole_lines bytes))
  pub wrong : line ≤ length (whole_lines bytes) → CanStand (take line (whole_lines bytes)) → ⊥
