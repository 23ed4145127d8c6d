use Rattle.std.proofs.Common.{◌≡◌, ap, sym, ◌∙◌, List, arith}
use Rattle.std.specs.Prelude.{slice_range}
use Rattle.src_lexer.specs.declared.token.Token.{Token}
use Rattle.src_lexer.specs.declared.token.TokenKind.TheVariants.{Name}
use Rattle.src_lexer.specs.Symbols.{word_of}
use Rattle.src_lexer.specs.Spell.{IsPiece, word, token}
use Rattle.src_lexer.proofs.Unique.{moves}
use Rattle.src_lexer.proofs.pieces.word.Goals as goal

pub returns-else-to-from-gt-MOST_NAME_BYTES : goal.returns-else-to-from-gt-MOST_NAME_BYTES
returns-else-to-from-gt-MOST_NAME_BYTES c =
    let src = c.args.src.now in
    let from = c.args.from in
    let to = c.name_end-to.result in
    let ts : List Token = token Name from to in
    let kind : Name ≡ word_of (slice_range src from to) = sym c.in-Name.is ∙ c.word_or_name.ensures in
    let piece : IsPiece src from to ts = word c.requires.begins c.name_end-to.ensures (ap (λ k. token k from to) kind) in
    (c.name_end-to.ensures.within, moves src from to ts piece, piece, (omega arith, tt))
