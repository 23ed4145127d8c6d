-- Tokens derive at most one program, and the text of a plain tree is parsed as the same tree.
use Rattle.std.proofs.Common.{◌≡◌, Some, sym, ap, ◌∙◌}
use Rattle.src_lexer.specs.Laws.{HasOneSpelling}
use Rattle.src_tree.specs.Text.{program_text}
use Rattle.src_tree.specs.Laws.{AreReadAgain}
use Rattle.src_parser.specs.Machine.{whole}
use Rattle.src_parser.specs.Laws.{HaveOneTree, AreParsedAgain}
use Rattle.src_parser.proofs.Whole.{derived}

pub one_tree : HaveOneTree
one_tree src ts p q d e =
    let r = derived src d in
    let s = derived src e in
    let states : Some r.last ≡ Some s.last = sym r.run ∙ s.run in
    let same : r.last ≡ s.last = cc in
    let both : Some p ≡ Some q = sym r.whole ∙ ap whole same ∙ s.whole in
    cc

pub parsed_again : HasOneSpelling → AreReadAgain → AreParsedAgain
parsed_again one again p plain =
    let r = again p plain in
    record {
      tokens = r.tokens;
      tree = r.tree;
      spells = r.spells;
      spells_only = λ ts s. one (program_text p) ts r.tokens s r.spells;
      allowed = r.allowed;
      limits = r.limits;
      derives = r.derives;
      derives_only = λ q d. one_tree (program_text p) r.tokens q r.tree d r.derives;
      same = r.same;
    }
