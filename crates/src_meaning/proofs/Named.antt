-- What a memory of the names holds for a name of a program.
use Rattle.std.proofs.Common.{ℕ, List, refl}
use Rattle.bm_base.specs.Entry.{Entry}
use Rattle.bm_base.specs.Memory.{Content, IsVariable, IsArray}
use Rattle.bm_base.specs.Memories.{IsMemoryOf}
use Rattle.bm_base.proofs.Kept.{IsVariable-at, IsArray-at}
use Rattle.bm_base.specs.Names.{IsVariableOf, IsArrayOf}

pub IsVariable-named : (names : List Entry) (memory : List Content) (x : ℕ) → IsVariableOf names x → IsMemoryOf names memory → IsVariable memory x
IsVariable-named names memory x d m = IsVariable-at names memory x _ d.initial d.here refl m

pub IsArray-named : (names : List Entry) (memory : List Content) (x : ℕ) → IsArrayOf names x → IsMemoryOf names memory → IsArray memory x
IsArray-named names memory x d m = IsArray-at names memory x _ d.len d.here refl m
