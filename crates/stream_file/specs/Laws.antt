-- What holds of all bytes.
use Rattle.std.specs.Prelude.{ℕ, ◌≡◌, List}
use Rattle.stream_file.specs.Fields.{Fields, IsTextOf}
use Rattle.stream_file.specs.First.{IsFirstWrong}

-- what bytes are
pub data Answer (bytes : List ℕ) : Type 0 where
  text : (f : Fields) → IsTextOf bytes f → Answer bytes
  wrong : (line : ℕ) → IsFirstWrong bytes line → Answer bytes

-- Each text is that of one image's fields, and each image's fields have one text. Bytes that are no text have one first line that
-- cannot stand.
pub record TextsHaveOneAnswer : Type 0 where
  pub some : (bytes : List ℕ) → Answer bytes
  pub one_image : (bytes : List ℕ) (f g : Fields) → IsTextOf bytes f → IsTextOf bytes g → f ≡ g
  pub one_text : (f : Fields) (a b : List ℕ) → IsTextOf a f → IsTextOf b f → a ≡ b
  pub one_line : (bytes : List ℕ) (m n : ℕ) → IsFirstWrong bytes m → IsFirstWrong bytes n → m ≡ n
  pub not_both : (bytes : List ℕ) (f : Fields) (n : ℕ) → IsTextOf bytes f → IsFirstWrong bytes n → ⊥
