-- What the layers' answers say of a text.
use Rattle.std.proofs.Common.{◌≡◌, ◌≢◌, ◌⊎◌, inl, inr, ℕ, List, [], ◌∷◌, Result, Ok, Err, refl, ap, sym, ◌∙◌, subst}
use Rattle.std.specs.Prelude.{IsErr, IsErrAnd}
use Rattle.bm_base.specs.Entry.{Entry}
use Rattle.src_lexer.specs.declared.token.Token.{Token}
use Rattle.src_lexer.specs.declared.fault.LexFault.{LexFault}
use Rattle.src_lexer.specs.declared.fault.LexFault.TheVariants as l
use Rattle.src_lexer.specs.Spell.{Spells, AreAllowed, Faults as FaultsOfBytes}
use Rattle.src_tree.specs.declared.tree.Decl.{Decl}
use Rattle.src_tree.specs.declared.tree.Program.{Program}
use Rattle.src_tree.specs.Grammar.{Derives}
use Rattle.src_tree.specs.Limits.{KeepsLimits}
use Rattle.src_parser.specs.declared.fault.ParseFault.{ParseFault}
use Rattle.src_parser.specs.declared.fault.ParseFault.TheVariants as p
use Rattle.src_parser.specs.Fault.{Here, Faults as FaultsOfTokens}
use Rattle.src_names.specs.declared.fault.NameFault.{NameFault}
use Rattle.src_names.specs.declared.fault.NameFault.TheVariants as n
use Rattle.src_names.specs.RProgram.{RProgram}
use Rattle.src_names.specs.Named.{IsNamed}
use Rattle.src_names.specs.Fault.{UseFault, DeclFault, Faults as FaultsOfNames}
use Rattle.src_names.specs.Fault as t
use Rattle.src_front.specs.declared.fault.SourceFault.{SourceFault}
use Rattle.src_front.specs.declared.fault.SourceFault.TheVariants.{Parse, Names, Memory}
use Rattle.src_front.specs.Lifted.{of_lexer, of_parser, of_names}
use Rattle.src_front.specs.Reads.{IsText, IsTree, Reads, FirstFault}
use Rattle.src_front.specs.Reads as r

-- the error of a result
pub err_is : {A : Type 0} (x : Result A SourceFault) (e : SourceFault) → IsErr x → IsErrAnd x (λ y. y ≡ e) → x ≡ Err e
err_is (Ok v) e a b = cc
err_is (Err y) e a b = ap Err b

module _ (src : List ℕ) where
  pub lex_fault : (x : LexFault) → ((x ≢ l.Memory) → FaultsOfBytes src 0 x) → (of_lexer x ≢ Memory) → FirstFault src (of_lexer x)
  lex_fault (l.BadByte at) h m = r.of_bytes (h (λ e. cc))
  lex_fault (l.LongNumber at) h m = r.of_bytes (h (λ e. cc))
  lex_fault (l.LongName at len) h m = r.of_bytes (h (λ e. cc))
  lex_fault l.Memory h m = absurd (m refl)

  -- the text spells these tokens alone, and has no fault of its bytes
  pub record IsOneText (v : List Token) : Type 0 where
    pub text : IsText src v
    pub one : (ts : List Token) → Spells src 0 ts → AreAllowed src ts → v ≡ ts
    pub none : (e : LexFault) → FaultsOfBytes src 0 e → ⊥

  -- the tokens derive this tree alone, and have no fault
  pub record IsOneTree (v : List Token) (tree : Program) : Type 0 where
    pub derives : Derives src v tree
    pub limits : KeepsLimits v
    pub one : (q : Program) → Derives src v q → KeepsLimits v → tree ≡ q
    pub none : (e : ParseFault) → FaultsOfTokens src v e → ⊥

  module _ (v : List Token) (lexed : IsOneText v) where
    same_text : {ts : List Token} → IsText src ts → ts ≡ v
    same_text {ts = ts} h = sym (lexed.one ts h.spells h.allowed)

    -- the tree of any reading is derived from these tokens
    derives_of : {ts : List Token} {tree : Program} → IsTree src ts tree → Derives src v tree
    derives_of {tree = tree} h = let P : List Token → Type 0 = λ w. Derives src w tree in subst P (same_text h.text) h.derives

    limits_of : {ts : List Token} {tree : Program} → IsTree src ts tree → KeepsLimits v
    limits_of h = let P : List Token → Type 0 = KeepsLimits in subst P (same_text h.text) h.limits

    pub parse_only : (x : ParseFault) → ((q : Program) → Derives src v q → KeepsLimits v → x ≡ p.Memory) → (a : RProgram) → Reads src a → of_parser x ≡ Memory
    parse_only x h a q = ap of_parser (h q.tree (derives_of q.is_tree) (limits_of q.is_tree))

    pub parse_fault : (x : ParseFault) → ((x ≢ p.Memory) → FaultsOfTokens src v x) → (of_parser x ≢ Memory) → FirstFault src (of_parser x)
    parse_fault (p.Expected at what) h m = r.of_tokens lexed.text (h (λ e. cc))
    parse_fault (p.TooDeep at) h m = r.of_tokens lexed.text (h (λ e. cc))
    parse_fault (p.TooManyNodes at first) h m = r.of_tokens lexed.text (h (λ e. cc))
    parse_fault p.Memory h m = absurd (m refl)

    no_memory_here : (front back : List Token) → Here src front back p.Memory → ⊥
    no_memory_here front [] h = h
    no_memory_here front (w ∷ ws) h = h

    lifted_parse : (e : ParseFault) → FaultsOfTokens src v e → of_parser e ≡ Parse e
    lifted_parse (p.Expected at what) f = refl
    lifted_parse (p.TooDeep at) f = refl
    lifted_parse (p.TooManyNodes at first) f = refl
    lifted_parse p.Memory f = absurd (no_memory_here f.front f.back f.here)

    faults_of : {ts : List Token} {e : ParseFault} → IsText src ts → FaultsOfTokens src ts e → FaultsOfTokens src v e
    faults_of {e = e} h f = let P : List Token → Type 0 = λ w. FaultsOfTokens src w e in subst P (same_text h) f

    -- the parser's fault is the first of the text
    parse_told : (x e : ParseFault) → FaultsOfTokens src v e → (x ≡ e) ⊎ (x ≡ p.Memory) → (of_parser x ≡ Parse e) ⊎ (of_parser x ≡ Memory)
    parse_told x e f (inl h) = inl (ap of_parser h ∙ lifted_parse e f)
    parse_told x e f (inr h) = inr (ap of_parser h)

    pub parse_only_fault : (x : ParseFault) → ((q : Program) → Derives src v q → KeepsLimits v → x ≡ p.Memory) → ((e : ParseFault) → FaultsOfTokens src v e → (x ≡ e) ⊎ (x ≡ p.Memory)) →
        (e : SourceFault) → FirstFault src e → (of_parser x ≡ e) ⊎ (of_parser x ≡ Memory)
    parse_only_fault x h k e (r.of_bytes {e = y} f) = absurd (lexed.none y f)
    parse_only_fault x h k e (r.of_tokens {e = y} w f) = parse_told x y (faults_of w f) (k y (faults_of w f))
    parse_only_fault x h k e (r.of_names {tree = q} w f) = inr (ap of_parser (h q (derives_of w) (limits_of w)))

    module _ (tree : Program) (parsed : IsOneTree v tree) where
      pub is_tree : IsTree src v tree
      is_tree = record { text = lexed.text; derives = parsed.derives; limits = parsed.limits }

      same_tree : {ts : List Token} {q : Program} → IsTree src ts q → q ≡ tree
      same_tree {q = q} w = sym (parsed.one q (derives_of w) (limits_of w))

      named_of : {a : RProgram} → Reads src a → IsNamed tree a
      named_of {a = a} q = let P : Program → Type 0 = λ w. IsNamed w a in subst P (same_tree q.is_tree) q.named

      pub names_fault : (x : NameFault) → ((x ≢ n.Memory) → FaultsOfNames tree x) → (of_names x ≢ Memory) → FirstFault src (of_names x)
      names_fault (n.Unknown at) h m = r.of_names is_tree (h (λ e. cc))
      names_fault (n.Twice at first) h m = r.of_names is_tree (h (λ e. cc))
      names_fault (n.NotArray at) h m = r.of_names is_tree (h (λ e. cc))
      names_fault (n.NotScalar at) h m = r.of_names is_tree (h (λ e. cc))
      names_fault (n.TooManyNames count) h m = r.of_names is_tree (h (λ e. cc))
      names_fault (n.ArraySize at size) h m = r.of_names is_tree (h (λ e. cc))
      names_fault n.Memory h m = absurd (m refl)

      pub names_only : (x : NameFault) → ((a : RProgram) → IsNamed tree a → x ≡ n.Memory) → (a : RProgram) → Reads src a → of_names x ≡ Memory
      names_only x h a q = ap of_names (h a (named_of q))

      pub program_only : (x : RProgram) → ((a : RProgram) → IsNamed tree a → x ≡ a) → (a : RProgram) → Reads src a → x ≡ a
      program_only x h a q = h a (named_of q)

      faults_of_names : {ts : List Token} {q : Program} {e : NameFault} → IsTree src ts q → FaultsOfNames q e → FaultsOfNames tree e
      faults_of_names {e = e} w f = let P : Program → Type 0 = λ z. FaultsOfNames z e in subst P (same_tree w) f

      told_use : {es : List Entry} {u : t.Use} {e : NameFault} → UseFault es u e → of_names e ≡ Names e
      told_use (t.unknown h) = refl
      told_use (t.not_variable h) = refl
      told_use (t.unknown_array h) = refl
      told_use (t.not_array h) = refl

      told_decl : {front : List Decl} {es : List Entry} {x : Decl} {e : NameFault} → DeclFault front es x e → of_names e ≡ Names e
      told_decl (t.twice h) = refl
      told_decl (t.size h k) = refl

      lifted_names : {q : Program} {e : NameFault} → FaultsOfNames q e → of_names e ≡ Names e
      lifted_names (t.many h) = refl
      lifted_names (t.decls few w) = told_decl w.wrong
      lifted_names (t.body es few a g w) = told_use w.wrong

      names_told : (x e : NameFault) → FaultsOfNames tree e → (x ≡ e) ⊎ (x ≡ n.Memory) → (of_names x ≡ Names e) ⊎ (of_names x ≡ Memory)
      names_told x e f (inl h) = inl (ap of_names h ∙ lifted_names f)
      names_told x e f (inr h) = inr (ap of_names h)

      pub names_only_fault : (x : NameFault) → ((e : NameFault) → FaultsOfNames tree e → (x ≡ e) ⊎ (x ≡ n.Memory)) → (e : SourceFault) → FirstFault src e → (of_names x ≡ e) ⊎ (of_names x ≡ Memory)
      names_only_fault x k e (r.of_bytes {e = y} f) = absurd (lexed.none y f)
      names_only_fault x k e (r.of_tokens {e = y} w f) = absurd (parsed.none y (faults_of w f))
      names_only_fault x k e (r.of_names {e = y} w f) = names_told x y (faults_of_names w f) (k y (faults_of_names w f))

      pub no_fault : ((e : NameFault) → FaultsOfNames tree e → ⊥) → (e : SourceFault) → FirstFault src e → ⊥
      no_fault k e (r.of_bytes {e = y} f) = lexed.none y f
      no_fault k e (r.of_tokens {e = y} w f) = parsed.none y (faults_of w f)
      no_fault k e (r.of_names {e = y} w f) = k y (faults_of_names w f)
