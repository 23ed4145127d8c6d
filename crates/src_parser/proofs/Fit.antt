-- The tokens of a text stand within it, and their numbers are 0 or more.
use Rattle.std.proofs.Common.{◌≡◌, ℕ, ◌≤◌, ◌≤ℤ◌, ℤ, pos, negsuc, List, [], ◌∷◌, length, All, arith}
use Rattle.std.proofs.lemmas.List.Elements.{All-cons, All-nil}
use Rattle.src_lexer.specs.declared.token.TokenKind.{TokenKind}
use Rattle.src_lexer.specs.declared.token.TokenKind.TheVariants.{Name, Number, Word, Sym}
use Rattle.src_lexer.specs.declared.token.Token.{Token}
use Rattle.src_lexer.specs.Spell.{value_of}
use Rattle.src_lexer.specs.Laws.{InOrder, IsTextOf, AreSlices, Ordered}
use lib.Dec.{le→leb}
use Rattle.src_parser.specs.Tokens.{IsPlain, IsPlainKind}

abbrev pub Fits : List ℕ → Token → Type 0
Fits src t = (t.at ≤ t.end) × (t.end ≤ length src) × IsPlain t

in_order : (from to : ℕ) (ts : List Token) → InOrder from to ts → from ≤ to
in_order from to [] h = h
in_order from to (t ∷ ts) h = let r = in_order t.end to ts h.2 in omega (arith, h.0, h.1, r)

plain_number : (bs : List ℕ) (v : ℤ) → v ≡ pos (value_of bs) → pos 0 ≤ℤ v
plain_number bs (pos n) e = record { le = le→leb 0 n (omega arith) }
plain_number bs (negsuc n) e = cc

plain : (k : TokenKind) (bs : List ℕ) → IsTextOf k bs → IsPlainKind k
plain Name bs h = tt
plain (Number v) bs h = plain_number bs v h.value
plain (Word w) bs h = tt
plain (Sym s) bs h = tt

all_fit : (src : List ℕ) (from : ℕ) (ts : List Token) → InOrder from (length src) ts → AreSlices src ts → All (Fits src) ts
all_fit src from [] h s = All-nil (Fits src)
all_fit src from (t ∷ ts) h s =
    All-cons (Fits src) t ts (omega (arith, h.1), in_order t.end (length src) ts h.2, plain t.kind _ s.0) (all_fit src t.end ts h.2 s.1)

pub tokens_fit : (src : List ℕ) (ts : List Token) → Ordered src ts → All (Fits src) ts
tokens_fit src ts h = all_fit src 0 ts h.in_order h.slices
