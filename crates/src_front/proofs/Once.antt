-- A text reads as at most one program.
use Rattle.std.proofs.Common.{◌≡◌, ℕ, List, subst}
use Rattle.src_lexer.specs.declared.token.Token.{Token}
use Rattle.src_lexer.specs.Laws.{HasOneSpelling}
use Rattle.src_tree.specs.declared.tree.Program.{Program}
use Rattle.src_tree.specs.Grammar.{Derives}
use Rattle.src_parser.specs.Laws.{HaveOneTree}
use Rattle.src_names.specs.RProgram.{RProgram}
use Rattle.src_names.specs.Named.{IsNamed}
use Rattle.src_names.specs.Laws.{HaveOneProgram}
use Rattle.src_front.specs.Reads.{Reads}

pub read_once : HasOneSpelling → HaveOneTree → HaveOneProgram → (src : List ℕ) (r q : RProgram) → Reads src r → Reads src q → r ≡ q
read_once s t n src r q a b =
    let tokens : a.tokens ≡ b.tokens = s src a.tokens b.tokens a.is_tree.text.spells b.is_tree.text.spells in
    let P : List Token → Type 0 = λ ts. Derives src ts a.tree in
    let tree : a.tree ≡ b.tree = t src b.tokens a.tree b.tree (subst P tokens a.is_tree.derives) b.is_tree.derives in
    let Q : Program → Type 0 = λ p. IsNamed p r in
    n b.tree r q (subst Q tree a.named) b.named
