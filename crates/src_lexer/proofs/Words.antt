-- What is a name, and what is a reserved word.
use Rattle.std.proofs.Common.{◌≡◌, ℕ, Bool, true, false, ◌||◌, List, refl}
use Rattle.std.specs.Prelude.{if◌then◌else◌}
use Rattle.std.specs.Str.{bytes_eq}
use Rattle.bm_base.specs.Names.{is_reserved}
use Rattle.src_lexer.specs.declared.token.Keyword.TheVariants as w
use Rattle.src_lexer.specs.declared.token.TokenKind.{TokenKind}
use Rattle.src_lexer.specs.declared.token.TokenKind.TheVariants.{Name, Word}
use Rattle.src_lexer.specs.Symbols.{keyword, word_of}

abbrev chosen : Bool → Bool → Bool → Bool → Bool → Bool → TokenKind
chosen p q r s t u =
    if p then Word w.Var else (if q then Word w.Array else (if r then Word w.Print else (if s then Word w.If else (if t then Word w.Else else (if u then Word w.While else Name)))))

free_of : (p q r s t u : Bool) → chosen p q r s t u ≡ Name → (p || (q || (r || (s || (t || (u || false)))))) ≡ false
free_of true q r s t u h = absurd cc
free_of false true r s t u h = absurd cc
free_of false false true s t u h = absurd cc
free_of false false false true t u h = absurd cc
free_of false false false false true u h = absurd cc
free_of false false false false false true h = absurd cc
free_of false false false false false false h = refl

name_of : (p q r s t u : Bool) → (p || (q || (r || (s || (t || (u || false)))))) ≡ false → chosen p q r s t u ≡ Name
name_of true q r s t u h = absurd cc
name_of false true r s t u h = absurd cc
name_of false false true s t u h = absurd cc
name_of false false false true t u h = absurd cc
name_of false false false false true u h = absurd cc
name_of false false false false false true h = absurd cc
name_of false false false false false false h = refl

module _ (bs : List ℕ) where
  pub not_reserved : word_of bs ≡ Name → is_reserved bs ≡ false
  not_reserved h =
      free_of (bytes_eq bs (keyword w.Var)) (bytes_eq bs (keyword w.Array)) (bytes_eq bs (keyword w.Print)) (bytes_eq bs (keyword w.If)) (bytes_eq bs (keyword w.Else)) (bytes_eq bs (keyword w.While)) h

  pub is_name : is_reserved bs ≡ false → word_of bs ≡ Name
  is_name h =
      name_of (bytes_eq bs (keyword w.Var)) (bytes_eq bs (keyword w.Array)) (bytes_eq bs (keyword w.Print)) (bytes_eq bs (keyword w.If)) (bytes_eq bs (keyword w.Else)) (bytes_eq bs (keyword w.While)) h
