-- What a memory of some names holds under one of them.
use Rattle.std.proofs.Common.{◌≡◌, ◌<◌, ℕ, List, [], length, Some, refl, arith, get_or}
use Rattle.std.specs.Prelude.{slice_get, ℤ, pos}
use Rattle.std.proofs.lemmas.Option.{slice_get-get_or}
use Rattle.bm_base.specs.Entry.{Entry}
use Rattle.bm_base.specs.declared.names.Kind.TheVariants.{Var, Array}
use Rattle.bm_base.specs.Memory.{Content, Word, Words}
use Rattle.bm_base.specs.Memories.{IsOfKind, IsMemoryOf}
use Rattle.bm_report.specs.Held.{IsArrayOf}

-- a name and what it holds
pub record Named (names : List Entry) (memory : List Content) (x : ℕ) : Type 0 where
  pub entry : Entry
  pub content : Content
  pub entry_is : slice_get names x ≡ Some entry
  pub content_is : slice_get memory x ≡ Some content
  pub kind : IsOfKind entry.kind content

pub named : (names : List Entry) (memory : List Content) (x : ℕ) → IsMemoryOf names memory → x < length names → Named names memory x
named names memory x m h =
    let d : Entry = record { name = []; kind = Var (pos 0) } in
    let e : slice_get names x ≡ Some (get_or names x d) = slice_get-get_or names x d h in
    let l : x < length memory = omega (arith, m.long) in
    let c : slice_get memory x ≡ Some (get_or memory x (Word (pos 0))) = slice_get-get_or memory x (Word (pos 0)) l in
    record { entry = get_or names x d; content = get_or memory x (Word (pos 0)); entry_is = e; content_is = c; kind = m.kinds x (get_or names x d) (get_or memory x (Word (pos 0))) e c }

-- a variable holds a word
pub a_word : (initial : ℤ) (c : Content) → IsOfKind (Var initial) c → (v : ℤ) × (c ≡ Word v)
a_word initial (Word v) h = (v, refl)
a_word initial (Words vs) h = absurd h

-- an array holds a list of its length
pub some_words : (len : ℕ) (c : Content) → IsOfKind (Array len) c → IsArrayOf (Some c) len
some_words len (Word v) h = absurd h
some_words len (Words vs) h = h
