-- Bytes and the kinds of the tokens that they spell, wherever they stand.
use Rattle.std.proofs.Common.{◌≡◌, ℕ, ◌<◌, ◌^◌, pos, true, List, [], ◌∷◌, ◌++◌, length, refl, ap, subst, ◌∙◌, append_assoc}
use Rattle.std.proofs.lemmas.List.{append-nil}
use Rattle.std.specs.Prelude.{codes}
use Rattle.std.specs.Fmt.{signed_decimal}
use Rattle.bm_base.specs.Names.{goes_on_name}
use Rattle.bm_base.specs.declared.word.Un.{Un}
use Rattle.bm_base.specs.declared.word.Un.TheVariants as un
use Rattle.bm_base.specs.declared.word.Bin.{Bin}
use Rattle.bm_base.specs.declared.word.Bin.TheVariants as bin
use Rattle.src_lexer.specs.declared.token.Keyword.{Keyword}
use Rattle.src_lexer.specs.declared.token.Keyword.TheVariants as w
use Rattle.src_lexer.specs.declared.token.Symbol.{Symbol}
use Rattle.src_lexer.specs.declared.token.Symbol.TheVariants as y
use Rattle.src_lexer.specs.declared.token.TokenKind.{TokenKind}
use Rattle.src_lexer.specs.declared.token.TokenKind.TheVariants.{Name, Number, Word, Sym}
use Rattle.src_lexer.specs.declared.token.Token.{Token}
use Rattle.src_lexer.specs.Symbols.{spelling, keyword, word_of}
use Rattle.src_lexer.specs.Laws.{BeginsName}
use Rattle.src_lexer.specs.Spell.{Spells, is_white}
use Rattle.src_tree.specs.declared.tree.Ident.{Ident}
use Rattle.src_tree.specs.Operators.{bin_symbol, un_symbol}
use Rattle.src_tree.specs.Text.{spaced}
use Rattle.src_tree.specs.Plain.{IsName}
use Rattle.src_tree.proofs.Way.{Way, follows, blank, one_word, one_number, Each, all_of, Stops, Quiet}
use Rattle.src_tree.proofs.Again.{move, Over, over_symbol, over_spaced, Named, named, quiet, no_digit}

abbrev pub kinds : List Token → List TokenKind
kinds [] = []
kinds (t ∷ ts) = t.kind ∷ kinds ts

pub kinds-append : (ts us : List Token) → kinds (ts ++ us) ≡ kinds ts ++ kinds us
kinds-append [] us = refl
kinds-append (t ∷ ts) us = ap (λ (ks : List TokenKind). t.kind ∷ ks) (kinds-append ts us)

-- the bytes behind the front are spelled by tokens of these kinds
pub record Spelled (src front bs : List ℕ) (ks : List TokenKind) : Type 0 where
  pub tokens : List Token
  pub way : Way src front bs tokens
  pub are : kinds tokens ≡ ks

-- wherever they stand
abbrev pub Free : List ℕ → List TokenKind → Type 0
Free bs ks = (src front rest : List ℕ) → src ≡ front ++ (bs ++ rest) → Spelled src front bs ks

-- where no name byte stands behind them
abbrev pub Runs : List ℕ → List TokenKind → Type 0
Runs bs ks = (src front rest : List ℕ) → src ≡ front ++ (bs ++ rest) → Stops goes_on_name rest → Spelled src front bs ks

-- bytes that end a name before them
abbrev pub Parts : List ℕ → Type 0
Parts cs = (rest : List ℕ) → Stops goes_on_name (cs ++ rest)

both : {src front bs cs : List ℕ} {ks js : List TokenKind} → Spelled src front bs ks → Spelled src (front ++ bs) cs js → Spelled src front (bs ++ cs) (ks ++ js)
both {ks = ks} a b = record {
  tokens = a.tokens ++ b.tokens;
  way = follows a.way b.way;
  are = kinds-append a.tokens b.tokens ∙ ap (λ (k : List TokenKind). k ++ kinds b.tokens) a.are ∙ ap (λ (j : List TokenKind). ks ++ j) b.are;
}

opened : (src front bs cs rest : List ℕ) → src ≡ front ++ ((bs ++ cs) ++ rest) → src ≡ front ++ (bs ++ (cs ++ rest))
opened src front bs cs rest e = e ∙ ap (λ (x : List ℕ). front ++ x) (append_assoc bs cs rest)

-- one behind the other
pub free_free : (bs cs : List ℕ) (ks js : List TokenKind) → Free bs ks → Free cs js → Free (bs ++ cs) (ks ++ js)
free_free bs cs ks js a b src front rest e =
    let e0 : src ≡ front ++ (bs ++ (cs ++ rest)) = opened src front bs cs rest e in
    both (a src front (cs ++ rest) e0) (b src (front ++ bs) rest (move src front bs (cs ++ rest) e0))

pub free_runs : (bs cs : List ℕ) (ks js : List TokenKind) → Free bs ks → Runs cs js → Runs (bs ++ cs) (ks ++ js)
free_runs bs cs ks js a b src front rest e s =
    let e0 : src ≡ front ++ (bs ++ (cs ++ rest)) = opened src front bs cs rest e in
    both (a src front (cs ++ rest) e0) (b src (front ++ bs) rest (move src front bs (cs ++ rest) e0) s)

pub runs_free : (bs cs : List ℕ) (ks js : List TokenKind) → Runs bs ks → Parts cs → Free cs js → Free (bs ++ cs) (ks ++ js)
runs_free bs cs ks js a p b src front rest e =
    let e0 : src ≡ front ++ (bs ++ (cs ++ rest)) = opened src front bs cs rest e in
    both (a src front (cs ++ rest) e0 (p rest)) (b src (front ++ bs) rest (move src front bs (cs ++ rest) e0))

pub runs_runs : (bs cs : List ℕ) (ks js : List TokenKind) → Runs bs ks → Parts cs → Runs cs js → Runs (bs ++ cs) (ks ++ js)
runs_runs bs cs ks js a p b src front rest e s =
    let e0 : src ≡ front ++ (bs ++ (cs ++ rest)) = opened src front bs cs rest e in
    both (a src front (cs ++ rest) e0 (p rest)) (b src (front ++ bs) rest (move src front bs (cs ++ rest) e0) s)

pub as_runs : (bs : List ℕ) (ks : List TokenKind) → Free bs ks → Runs bs ks
as_runs bs ks a src front rest e s = a src front rest e

pub nothing : Free [] []
nothing src front rest e = record {
  tokens = [];
  way = record { leads = λ us t. let P : List ℕ → Type 0 = λ v. Spells src (length v) us in subst P (append-nil front) t; allowed = tt };
  are = refl;
}

over : {src front bs : List ℕ} {k : TokenKind} → Over src front bs k → Spelled src front bs (k ∷ [])
over o = record { tokens = o.token ∷ []; way = o.way; are = ap (λ k. k ∷ []) o.is.kind }

pub white : (b : ℕ) → is_white b ≡ true → Free (b ∷ []) []
white b w src front rest e = record { tokens = []; way = blank src front b rest e w; are = refl }

-- a symbol that no symbol goes on
pub alone : (k : Symbol) → ((rest : List ℕ) → Quiet (spelling k) rest) → Free (spelling k) (Sym k ∷ [])
alone k q src front rest e = over (over_symbol src front k rest e (q rest))

pub between : (k : Symbol) → ((rest : List ℕ) → Quiet (spelling k) (32 ∷ rest)) → Free (spaced k) (Sym k ∷ [])
between k q src front rest e = over (over_spaced src front k rest e (q rest))

pub a_name : (n : Ident) → IsName n → Runs n.text (Name ∷ [])
a_name n h src front rest e s =
    let o : Named src n front = named src n h front rest e s in
    record { tokens = o.token ∷ []; way = o.way; are = ap (λ k. k ∷ []) o.is.kind }

pub a_number : (n : ℕ) → n < 2 ^ 63 → Runs (signed_decimal (pos n)) (Number (pos n) ∷ [])
a_number n small src front rest e s = record { tokens = _; way = one_number src front n rest e small (no_digit rest s); are = refl }

bin_quiet : (op : Bin) (rest : List ℕ) → Quiet (spelling (bin_symbol op)) (32 ∷ rest)
bin_quiet bin.Or rest = refl
bin_quiet bin.Xor rest = refl
bin_quiet bin.And rest = refl
bin_quiet bin.Eq rest = tt
bin_quiet bin.Ne rest = tt
bin_quiet bin.Lt rest = refl
bin_quiet bin.Le rest = tt
bin_quiet bin.Gt rest = refl
bin_quiet bin.Ge rest = tt
bin_quiet bin.Shl rest = tt
bin_quiet bin.Shr rest = tt
bin_quiet bin.Add rest = refl
bin_quiet bin.Sub rest = refl
bin_quiet bin.Mul rest = refl
bin_quiet bin.Div rest = refl
bin_quiet bin.Rem rest = refl

un_quiet : (op : Un) (rest : List ℕ) → Quiet (spelling (un_symbol op)) rest
un_quiet un.Neg rest = quiet 45 rest (λ r. refl)
un_quiet un.Not rest = quiet 126 rest (λ r. refl)

pub a_binary : (op : Bin) → Free (spaced (bin_symbol op)) (Sym (bin_symbol op) ∷ [])
a_binary op = between (bin_symbol op) (bin_quiet op)

pub binary_parts : (op : Bin) → Parts (spaced (bin_symbol op))
binary_parts op rest = refl

pub a_unary : (op : Un) → Free (spelling (un_symbol op)) (Sym (un_symbol op) ∷ [])
a_unary op = alone (un_symbol op) (un_quiet op)

pub lparen : Free (codes "(") (Sym y.LParen ∷ [])
lparen = alone y.LParen (λ rest. quiet 40 rest (λ r. refl))

pub rparen : Free (codes ")") (Sym y.RParen ∷ [])
rparen = alone y.RParen (λ rest. quiet 41 rest (λ r. refl))

pub lbracket : Free (codes "[") (Sym y.LBracket ∷ [])
lbracket = alone y.LBracket (λ rest. quiet 91 rest (λ r. refl))

pub rbracket : Free (codes "]") (Sym y.RBracket ∷ [])
rbracket = alone y.RBracket (λ rest. quiet 93 rest (λ r. refl))

pub assigns : Free (codes " = ") (Sym y.Assign ∷ [])
assigns = between y.Assign (λ rest. refl)

pub set_assigns : Free (codes "] = ") (Sym y.RBracket ∷ Sym y.Assign ∷ [])
set_assigns = free_free (codes "]") (codes " = ") (Sym y.RBracket ∷ []) (Sym y.Assign ∷ []) rbracket assigns

line_end : Free (10 ∷ []) []
line_end = white 10 refl

space : Free (32 ∷ []) []
space = white 32 refl

pub semi : Free (codes ";\n") (Sym y.Semi ∷ [])
semi = free_free (59 ∷ []) (10 ∷ []) (Sym y.Semi ∷ []) [] (alone y.Semi (λ rest. quiet 59 rest (λ r. refl))) line_end

pub array_ends : Free (codes "];\n") (Sym y.RBracket ∷ Sym y.Semi ∷ [])
array_ends = free_free (codes "]") (codes ";\n") (Sym y.RBracket ∷ []) (Sym y.Semi ∷ []) rbracket semi

pub opens_body : Free (codes " {\n") (Sym y.LBrace ∷ [])
opens_body = free_free (32 ∷ 123 ∷ []) (10 ∷ []) (Sym y.LBrace ∷ []) []
    (free_free (32 ∷ []) (123 ∷ []) [] (Sym y.LBrace ∷ []) space (alone y.LBrace (λ rest. quiet 123 rest (λ r. refl)))) line_end

pub closes_body : Free (codes "}\n") (Sym y.RBrace ∷ [])
closes_body = free_free (125 ∷ []) (10 ∷ []) (Sym y.RBrace ∷ []) [] (alone y.RBrace (λ rest. quiet 125 rest (λ r. refl))) line_end

keyword_begins : (k : Keyword) → BeginsName (keyword k)
keyword_begins w.Var = refl
keyword_begins w.Array = refl
keyword_begins w.Print = refl
keyword_begins w.If = refl
keyword_begins w.Else = refl
keyword_begins w.While = refl

keyword_each : (k : Keyword) → Each goes_on_name (keyword k)
keyword_each w.Var = (refl, (refl, (refl, tt)))
keyword_each w.Array = (refl, (refl, (refl, (refl, (refl, tt)))))
keyword_each w.Print = (refl, (refl, (refl, (refl, (refl, tt)))))
keyword_each w.If = (refl, (refl, tt))
keyword_each w.Else = (refl, (refl, (refl, (refl, tt))))
keyword_each w.While = (refl, (refl, (refl, (refl, (refl, tt)))))

keyword_is : (k : Keyword) → word_of (keyword k) ≡ Word k
keyword_is w.Var = refl
keyword_is w.Array = refl
keyword_is w.Print = refl
keyword_is w.If = refl
keyword_is w.Else = refl
keyword_is w.While = refl

a_word : (k : Keyword) → Runs (keyword k) (Word k ∷ [])
a_word k src front rest e s = record {
  tokens = _;
  way = one_word src front (keyword k) rest e (keyword_begins k) (all_of goes_on_name (keyword k) (keyword_each k)) s (Word k) (keyword_is k) tt;
  are = refl;
}

-- a reserved word and a blank
pub word : (k : Keyword) → Free (keyword k ++ 32 ∷ []) (Word k ∷ [])
word k = runs_free (keyword k) (32 ∷ []) (Word k ∷ []) [] (a_word k) (λ rest. refl) space

pub otherwise : Free (codes "} else {\n") (Sym y.RBrace ∷ Word w.Else ∷ Sym y.LBrace ∷ [])
otherwise =
    let brace : Free (125 ∷ 32 ∷ []) (Sym y.RBrace ∷ []) = free_free (125 ∷ []) (32 ∷ []) (Sym y.RBrace ∷ []) [] (alone y.RBrace (λ rest. quiet 125 rest (λ r. refl))) space in
    runs_free (125 ∷ 32 ∷ 101 ∷ 108 ∷ 115 ∷ 101 ∷ []) (codes " {\n") (Sym y.RBrace ∷ Word w.Else ∷ []) (Sym y.LBrace ∷ [])
    (free_runs (125 ∷ 32 ∷ []) (keyword w.Else) (Sym y.RBrace ∷ []) (Word w.Else ∷ []) brace (a_word w.Else)) (λ rest. refl) opens_body
