-- Each text has one answer: it reads as a program, or has a first fault.
use Rattle.std.proofs.Common.{◌≡◌, ℕ, List, ap, subst}
use Rattle.src_lexer.specs.declared.token.Token.{Token}
use Rattle.src_lexer.specs.declared.fault.LexFault.{LexFault}
use Rattle.src_lexer.specs.Spell.{Faults as FaultsOfBytes}
use Rattle.src_lexer.specs.Laws.{HasOneSpelling, HaveOneAnswer as LexerAnswers, Answer as OfBytes, tokens, fault as bad_bytes}
use Rattle.src_tree.specs.declared.tree.Program.{Program}
use Rattle.src_tree.specs.Grammar.{Derives}
use Rattle.src_tree.specs.Laws.{DerivedArePlain}
use Rattle.src_parser.specs.declared.fault.ParseFault.{ParseFault}
use Rattle.src_parser.specs.Fault.{Faults as FaultsOfTokens}
use Rattle.src_parser.specs.Laws.{HaveOneTree, HaveOneAnswer as ParserAnswers, Answer as OfTokens, tree, fault as bad_tokens}
use Rattle.src_names.specs.declared.fault.NameFault.{NameFault}
use Rattle.src_names.specs.RProgram.{RProgram}
use Rattle.src_names.specs.Fault.{Faults as FaultsOfNames}
use Rattle.src_names.specs.Laws.{HaveOneAnswer as NamesAnswers, Answer as OfNames, program as named, fault as bad_names}
use Rattle.src_front.specs.declared.fault.SourceFault.{SourceFault}
use Rattle.src_front.specs.declared.fault.SourceFault.TheVariants.{Lex, Parse, Names}
use Rattle.src_front.specs.Reads.{IsText, IsTree, Reads, FirstFault}
use Rattle.src_front.specs.Reads as r
use Rattle.src_front.specs.Laws.{Answer, HaveOneAnswer, program, fault}

-- the laws of the layers
pub record Layers : Type 0 where
  pub spelling : HasOneSpelling
  pub tree : HaveOneTree
  pub plain : DerivedArePlain
  pub lexer : LexerAnswers
  pub parser : ParserAnswers
  pub names : NamesAnswers

module _ (laws : Layers) (src : List ℕ) where
  of_names : {ts : List Token} {t : Program} → IsTree src ts t → OfNames t → Answer src
  of_names {ts = ts} {t = t} w (named h) = program (record { tokens = ts; tree = t; is_tree = w; named = h })
  of_names w (bad_names h) = fault (r.of_names w h)

  of_tokens : {ts : List Token} → IsText src ts → OfTokens src ts → Answer src
  of_tokens {ts = ts} w (tree {p = t} d k) =
      of_names (record { text = w; derives = d; limits = k }) (laws.names.some t (laws.plain src ts t w.spells w.allowed d))
  of_tokens w (bad_tokens h) = fault (r.of_tokens w h)

  of_bytes : OfBytes src → Answer src
  of_bytes (tokens {ts = ts} s a) = of_tokens (record { spells = s; allowed = a }) (laws.parser.some src ts)
  of_bytes (bad_bytes h) = fault (r.of_bytes h)

  same_text : {ts us : List Token} → IsText src ts → IsText src us → ts ≡ us
  same_text {ts = ts} {us = us} a b = laws.spelling src ts us a.spells b.spells

  text_or_fault : {ts : List Token} {e : LexFault} → IsText src ts → FaultsOfBytes src 0 e → ⊥
  text_or_fault {ts = ts} {e = e} w f = laws.lexer.not_both src ts e w.spells w.allowed f

  moved_fault : {ts us : List Token} {e : ParseFault} → IsText src ts → IsText src us → FaultsOfTokens src ts e → FaultsOfTokens src us e
  moved_fault {e = e} a b f = let P : List Token → Type 0 = λ l. FaultsOfTokens src l e in subst P (same_text a b) f

  tree_or_fault : {ts us : List Token} {t : Program} {e : ParseFault} → IsTree src ts t → IsText src us → FaultsOfTokens src us e → ⊥
  tree_or_fault {ts = ts} {t = t} {e = e} w v f = laws.parser.not_both src ts t e w.derives w.limits (moved_fault v w.text f)

  same_tree : {ts us : List Token} {t u : Program} → IsTree src ts t → IsTree src us u → t ≡ u
  same_tree {us = us} {t = t} {u = u} a b =
      let P : List Token → Type 0 = λ l. Derives src l t in
      laws.tree src us t u (subst P (same_text a.text b.text) a.derives) b.derives

  moved_name : {ts us : List Token} {t u : Program} {e : NameFault} → IsTree src ts t → IsTree src us u → FaultsOfNames t e → FaultsOfNames u e
  moved_name {e = e} a b f = let P : Program → Type 0 = λ z. FaultsOfNames z e in subst P (same_tree a b) f

  not_both : (a : RProgram) (e : SourceFault) → Reads src a → FirstFault src e → ⊥
  not_both a e q (r.of_bytes f) = text_or_fault q.is_tree.text f
  not_both a e q (r.of_tokens w f) = tree_or_fault q.is_tree w f
  not_both a e q (r.of_names {e = x} w f) = laws.names.not_both q.tree a x q.named (moved_name w q.is_tree f)

  when_bytes : {d : LexFault} {e : SourceFault} → FaultsOfBytes src 0 d → FirstFault src e → Lex d ≡ e
  when_bytes {d = d} h (r.of_bytes {e = x} f) = ap Lex (laws.lexer.one_fault src d x h f)
  when_bytes h (r.of_tokens w f) = absurd (text_or_fault w h)
  when_bytes h (r.of_names w f) = absurd (text_or_fault w.text h)

  when_tokens : {ts : List Token} {d : ParseFault} {e : SourceFault} → IsText src ts → FaultsOfTokens src ts d → FirstFault src e → Parse d ≡ e
  when_tokens v h (r.of_bytes f) = absurd (text_or_fault v f)
  when_tokens {d = d} v h (r.of_tokens {tokens = us} {e = x} w f) = ap Parse (laws.parser.one_fault src us d x (moved_fault v w h) f)
  when_tokens v h (r.of_names w f) = absurd (tree_or_fault w v h)

  when_names : {ts : List Token} {t : Program} {d : NameFault} {e : SourceFault} → IsTree src ts t → FaultsOfNames t d → FirstFault src e → Names d ≡ e
  when_names v h (r.of_bytes f) = absurd (text_or_fault v.text f)
  when_names v h (r.of_tokens w f) = absurd (tree_or_fault v w f)
  when_names {d = d} v h (r.of_names {tree = u} {e = x} w f) = ap Names (laws.names.one_fault u d x (moved_name v w h) f)

  one_fault : (d e : SourceFault) → FirstFault src d → FirstFault src e → d ≡ e
  one_fault d e (r.of_bytes f) g = when_bytes f g
  one_fault d e (r.of_tokens w f) g = when_tokens w f g
  one_fault d e (r.of_names w f) g = when_names w f g

  answer : Answer src
  answer = of_bytes (laws.lexer.some src)

pub have_one_answer : Layers → HaveOneAnswer
have_one_answer laws = record { some = answer laws; not_both = not_both laws; one_fault = one_fault laws }
