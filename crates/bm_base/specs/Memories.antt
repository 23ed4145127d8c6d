-- The memories of declared names.
use Rattle.std.specs.Prelude.{◌≡◌, ℕ, List, length, Some, slice_get}
use Rattle.bm_base.specs.declared.names.Kind.{Kind}
use Rattle.bm_base.specs.declared.names.Kind.TheVariants.{Var, Array}
use Rattle.bm_base.specs.Entry.{Entry}
use Rattle.bm_base.specs.Memory.{Content, Word, Words}

-- a variable holds a word, an array a list of its length
abbrev pub IsOfKind : Kind → Content → Type 0
IsOfKind (Var initial) (Word v) = Unit {0}
IsOfKind (Array len) (Words vs) = length vs ≡ len
IsOfKind (Var initial) (Words vs) = ⊥
IsOfKind (Array len) (Word v) = ⊥

-- one content for each name, of its kind
pub record IsMemoryOf (names : List Entry) (memory : List Content) : Type 0 where
  pub long : length memory ≡ length names
  pub kinds : (x : ℕ) (entry : Entry) (content : Content) → slice_get names x ≡ Some entry → slice_get memory x ≡ Some content
      → IsOfKind entry.kind content
