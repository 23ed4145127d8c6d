-- Files that are held name by name.
use Rattle.std.proofs.Common.{◌≡◌, List, ℕ, Option, Some, None, take, ◌+◌, refl, ap, ◌∙◌, sym, unwrap_or, []}
use Rattle.bm_io.specs.Files.{Held, Keeps, Reads}

pub Keeps-same : (told : Option Held) → Keeps told told
Keeps-same None = tt
Keeps-same (Some held) = λ name. refl

pub Keeps-on : (before mid now : Option Held) → Keeps before mid → Keeps mid now → Keeps before now
Keeps-on None None None h k = tt
Keeps-on (Some a) (Some b) (Some c) h k = λ name. k name ∙ h name
Keeps-on None None (Some c) h k = absurd k
Keeps-on None (Some b) now h k = absurd h
Keeps-on (Some a) None now h k = absurd h
Keeps-on (Some a) (Some b) None h k = absurd k

pub Keeps-back : (before now : Option Held) → Keeps before now → Keeps now before
Keeps-back None None h = tt
Keeps-back (Some a) (Some b) h = λ name. sym (h name)
Keeps-back None (Some b) h = absurd h
Keeps-back (Some a) None h = absurd h

-- what is read of files that are kept, was held before
pub Reads-before : (before now : Option Held) (name : List ℕ) (most : ℕ) (bytes : List ℕ) → Keeps before now → Reads now name most bytes → Reads before name most bytes
Reads-before None None name most bytes h k = tt
Reads-before (Some a) (Some b) name most bytes h k = k ∙ ap (λ o. take (most + 1) (unwrap_or o [])) (h name)
Reads-before None (Some b) name most bytes h k = absurd h
Reads-before (Some a) None name most bytes h k = absurd h
