-- Names that were asked and files that are held, one call after another.
use Rattle.std.proofs.Common.{◌≡◌, ◌≤◌, Bool, cond, ℕ, List, [], ◌++◌, Option, Some, None, refl, sym, ap, ◌∙◌, arith}
use Rattle.std.specs.Str.{bytes_eq}
use Rattle.bm_io.specs.Causes.{Rose}
use Rattle.bm_io.specs.Files.{Held, asking, Keeps}
use Rattle.bm_io.proofs.Asking.{asking-nothing, asking-asking}
use Rattle.bm_io.proofs.Holding.{Keeps-same, Keeps-on}
use Rattle.bm_course.specs.Course.{NewFile}
use Rattle.bm_course.specs.Seen.{FilesSeen, SinkSeen, Asked, holding, file_names, Stands, Untouched}

pub Asked-then : (before mid now : FilesSeen) (names more : List (List ℕ)) → Asked before mid names → Asked mid now more → Asked before now (names ++ more)
Asked-then before mid now names more a b = b ∙ ap (λ n. asking n more) a ∙ asking-asking before.asked names more

pub Asked-nothing : (f : FilesSeen) → Asked f f []
Asked-nothing f = sym (asking-nothing f.asked)

-- a count that rose later rose
pub rises : (a b c : ℕ) → a ≤ b → Rose b c → Rose a c
rises a b c l h = omega arith

same_put : (b : Bool) (bytes : List ℕ) (old new : Option (List ℕ)) → new ≡ old → cond b (Some bytes) new ≡ cond b (Some bytes) old
same_put b bytes old new e = ap (cond b (Some bytes)) e

-- a file that is put to files that are kept
put-keeps : (before mid : Option Held) (file : NewFile) → Keeps before mid → Keeps (holding before (Some file)) (holding mid (Some file))
put-keeps None None file h = tt
put-keeps (Some a) (Some b) file h = λ name. same_put (bytes_eq file.name name) file.bytes (a name) (b name) (h name)
put-keeps None (Some b) file h = absurd h
put-keeps (Some a) None file h = absurd h

pub holding-keeps : (before mid : Option Held) (file : Option NewFile) → Keeps before mid → Keeps (holding before file) (holding mid file)
holding-keeps before mid None h = h
holding-keeps before mid (Some file) h = put-keeps before mid file h

pub Stands-then : (before mid now : FilesSeen) (names : List (List ℕ)) (file : Option NewFile) → Asked before mid names → Keeps before.held mid.held → Stands mid now [] file → Stands before now names file
Stands-then before mid now names file a k h = record {
  asked = Asked-then before mid now names (file_names file) a h.asked;
  held = Keeps-on (holding before.held file) (holding mid.held file) now.held (holding-keeps before.held mid.held file k) h.held;
}

-- no file is written
pub Stands-nothing : (f : FilesSeen) → Stands f f [] None
Stands-nothing f = record { asked = Asked-nothing f; held = Keeps-same f.held }

pub Untouched-same : (f : FilesSeen) (o : SinkSeen) → Untouched f f o o
Untouched-same f o = record { held = Keeps-same f.held; out = refl }

pub Untouched-then : (before mid now : FilesSeen) (o p : SinkSeen) → Keeps before.held mid.held → Untouched mid now o p → Untouched before now o p
Untouched-then before mid now o p k h = record { held = Keeps-on before.held mid.held now.held k h.held; out = h.out }
