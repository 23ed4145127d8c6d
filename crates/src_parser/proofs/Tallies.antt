-- The counts are those of the limits.
use Rattle.std.proofs.Common.{◌≡◌, ℕ, zero, suc, ◌+◌, Bool, true, false, cond, List, [], ◌∷◌, ◌++◌, length, refl, ap, sym, subst, ◌∙◌, arith, if◌then◌else◌}
use Rattle.src_lexer.specs.declared.token.Symbol.{Symbol}
use Rattle.src_lexer.specs.declared.token.Symbol.TheVariants as y
use Rattle.src_lexer.specs.declared.token.TokenKind.{TokenKind}
use Rattle.src_lexer.specs.declared.token.TokenKind.TheVariants.{Name, Number, Word, Sym}
use Rattle.src_lexer.specs.declared.token.Token.{Token}
use Rattle.src_tree.specs.Limits as l
use Rattle.src_tree.specs.Limits.{Mark, Bracket, Sign, Open, without_signs, outside, open_from, depth, nodes, node, nodes_in, behind_first, current, current_from, is_border}
use Rattle.src_parser.specs.declared.tally.Tally.{Tally}
use Rattle.src_parser.specs.Tally as k
use Rattle.src_parser.specs.Fault.{place_of_first}

-- so many unary operators before these marks
abbrev pub signs : ℕ → List Mark → List Mark
signs zero ms = ms
signs (suc n) ms = Sign ∷ signs n ms

-- the marks of brackets, each with the unary operators before it
abbrev pub brackets : List ℕ → List Mark
brackets [] = []
brackets (n ∷ ns) = Bracket ∷ signs n (brackets ns)

abbrev pub marks : Tally → List Mark
marks t = signs t.signs (brackets t.outer)

abbrev pub open_of : Tally → Open
open_of t = record { marks = marks t; ended = t.ended }

bare : (n : ℕ) (ns : List ℕ) → without_signs (signs n (brackets ns)) ≡ brackets ns
bare zero [] = refl
bare zero (n ∷ ns) = refl
bare (suc n) ns = bare n ns

pub signs_length : (n : ℕ) (ms : List Mark) → length (signs n ms) ≡ n + length ms
signs_length zero ms = omega arith
signs_length (suc n) ms = let r = signs_length n ms in omega (arith, r)

signs_more : (n : ℕ) (ms : List Mark) → signs (n + 1) ms ≡ Sign ∷ signs n ms
signs_more n ms = let e : n + 1 ≡ suc n = omega arith in ap (λ z. signs z ms) e

-- the tally's fields say what the limits count
pub record Opens (t : Tally) (o : Open) : Type 0 where
  pub agree : open_of t ≡ o
  pub depth : t.depth ≡ length o.marks

module _ (t : Tally) (deep : t.depth ≡ length (marks t)) where
  opened_opens : Opens (k.opened t) (l.opened (open_of t))
  opened_opens = record { agree = refl; depth = omega (arith, deep) }

  passed_opens : Opens (k.passed t) (l.passed (open_of t))
  passed_opens = record {
    agree = ap (λ (z : List Mark). record { marks = z; ended = false }) (sym (bare t.signs t.outer));
    depth = omega (arith, deep, signs_length t.signs (brackets t.outer), ap (λ (z : List Mark). length z) (bare t.signs t.outer));
  }

  closed_opens : (ended : Bool) (ns : List ℕ) → t.outer ≡ ns → Opens (k.closed_to ns ended t) (l.closed ended (open_of t))
  closed_opens ended [] e =
      let b : without_signs (marks t) ≡ [] = bare t.signs t.outer ∙ ap brackets e in
      let n : length (brackets t.outer) ≡ 0 = ap (λ z. length (brackets z)) e in
      record {
        agree = ap (λ (z : List Mark). record { marks = outside z; ended = ended }) (sym b);
        depth = omega (arith, deep, signs_length t.signs (brackets t.outer), n, ap (λ (z : List Mark). length (outside z)) b);
      }
  closed_opens ended (n ∷ ns) e =
      let b : without_signs (marks t) ≡ Bracket ∷ signs n (brackets ns) = bare t.signs t.outer ∙ ap brackets e in
      let m : length (brackets t.outer) ≡ suc (length (signs n (brackets ns))) = ap (λ z. length (brackets z)) e in
      record {
        agree = ap (λ (z : List Mark). record { marks = outside z; ended = ended }) (sym b);
        depth = omega (arith, deep, signs_length t.signs (brackets t.outer), m, ap (λ (z : List Mark). length (outside z)) b);
      }

  sign_opens : (b : Bool) → t.ended ≡ b → Opens (cond b (k.passed t) (record t { signs = t.signs + 1; ended = false; depth = t.depth + 1 }))
      (cond b (record { marks = without_signs (marks t); ended = false }) (record { marks = Sign ∷ marks t; ended = false }))
  sign_opens true e = passed_opens
  sign_opens false e = record {
    agree = ap (λ (z : List Mark). record { marks = z; ended = false }) (signs_more t.signs (brackets t.outer));
    depth = omega (arith, deep);
  }

module _ (t : Tally) (deep : t.depth ≡ length (marks t)) where
  brace_opens : Opens (k.opened (k.passed t)) (l.opened (l.passed (open_of t)))
  brace_opens =
      let r = passed_opens t deep in
      let s = opened_opens (k.passed t) (r.depth ∙ ap (λ (z : Open). length z.marks) (sym r.agree)) in
      record { agree = s.agree ∙ ap l.opened r.agree; depth = s.depth ∙ ap (λ (z : Open). suc (length z.marks)) r.agree }

  symbol_opens : (j : Symbol) → Opens (k.symbol_opens j t) (l.symbol_opens j (open_of t))
  symbol_opens y.LParen = opened_opens t deep
  symbol_opens y.LBracket = opened_opens t deep
  symbol_opens y.LBrace = brace_opens
  symbol_opens y.RParen = closed_opens t deep true t.outer refl
  symbol_opens y.RBracket = closed_opens t deep true t.outer refl
  symbol_opens y.RBrace = closed_opens t deep false t.outer refl
  symbol_opens y.Sub = sign_opens t deep t.ended refl
  symbol_opens y.Not = sign_opens t deep t.ended refl
  symbol_opens _ = passed_opens t deep

  kind_opens : (j : TokenKind) → Opens (k.opens j t) (l.opens j (open_of t))
  kind_opens (Sym j) = symbol_opens j
  kind_opens (Word w) = record { agree = refl; depth = deep }
  kind_opens Name = record { agree = refl; depth = deep }
  kind_opens (Number v) = record { agree = refl; depth = deep }

-- the statement's tokens so far, and what is counted of them
pub data Counts (t : Tally) : List Token → Type 0 where
  none : t.begun ≡ false → t.first ≡ 0 → t.nodes ≡ 0 → Counts t []
  some : (x : Token) (xs : List Token) → t.begun ≡ true → t.first ≡ x.at → t.nodes ≡ nodes_in xs → Counts t (x ∷ xs)

-- the tally is that of these tokens
pub record IsTally (t : Tally) (ts : List Token) : Type 0 where
  pub opens : Opens t (open_from (record { marks = []; ended = false }) ts)
  pub counts : Counts t (current ts)

pub tally_of_none : IsTally k.nothing []
tally_of_none = record { opens = record { agree = refl; depth = refl }; counts = none refl refl refl }

open_more : (o : Open) (ts : List Token) (t : Token) → open_from o (ts ++ t ∷ []) ≡ l.opens t.kind (open_from o ts)
open_more o [] t = refl
open_more o (x ∷ ts) t = open_more (l.opens x.kind o) ts t

abbrev pub one_more : List Token → Token → List Token
one_more now t = if is_border t.kind then [] else now ++ t ∷ []

current_more : (now ts : List Token) (t : Token) → current_from now (ts ++ t ∷ []) ≡ one_more (current_from now ts) t
current_more now [] t = refl
current_more now (x ∷ ts) t = current_more (if is_border x.kind then [] else now ++ x ∷ []) ts t

nodes_append : (xs : List Token) (t : Token) → nodes_in (xs ++ t ∷ []) ≡ nodes_in xs + node t.kind
nodes_append [] t = omega arith
nodes_append (x ∷ xs) t = let r = nodes_append xs t in omega (arith, r)

counts_kept : (t : Tally) (o : Open) (ts : List Token) (token : Token) (b : Bool) → Counts t ts →
    Counts (cond b (record t { begun = false; first = 0; nodes = 0 })
    (cond t.begun (record t { nodes = t.nodes + node token.kind }) (record t { begun = true; first = token.at; nodes = 0 })))
    (cond b [] (ts ++ token ∷ []))
counts_kept t o ts token true h = none refl refl refl
counts_kept t o ts token false (none p q r) =
    let P : Bool → Type 0 = λ z. Counts (cond z (record t { nodes = t.nodes + node token.kind }) (record t { begun = true; first = token.at; nodes = 0 })) (token ∷ []) in
    subst P (sym p) (some token [] refl refl refl)
counts_kept t o ts token false (some x xs p q r) =
    let P : Bool → Type 0 = λ z. Counts (cond z (record t { nodes = t.nodes + node token.kind }) (record t { begun = true; first = token.at; nodes = 0 })) (x ∷ (xs ++ token ∷ [])) in
    subst P (sym p) (some x (xs ++ token ∷ []) p q (ap (λ z. z + node token.kind) r ∙ sym (nodes_append xs token)))

-- what `opens` leaves alone
pub record Same (s t : Tally) : Type 0 where
  pub begun : s.begun ≡ t.begun
  pub first : s.first ≡ t.first
  pub nodes : s.nodes ≡ t.nodes

same_closed : (ns : List ℕ) (b : Bool) (t : Tally) → Same (k.closed_to ns b t) t
same_closed [] b t = record { begun = refl; first = refl; nodes = refl }
same_closed (n ∷ ns) b t = record { begun = refl; first = refl; nodes = refl }

same_signed : (b : Bool) (t : Tally) → Same (cond b (k.passed t) (record t { signs = t.signs + 1; ended = false; depth = t.depth + 1 })) t
same_signed true t = record { begun = refl; first = refl; nodes = refl }
same_signed false t = record { begun = refl; first = refl; nodes = refl }

same_symbol : (j : Symbol) (t : Tally) → Same (k.symbol_opens j t) t
same_symbol y.RParen t = same_closed t.outer true t
same_symbol y.RBracket t = same_closed t.outer true t
same_symbol y.RBrace t = same_closed t.outer false t
same_symbol y.Sub t = same_signed t.ended t
same_symbol y.Not t = same_signed t.ended t
same_symbol _ t = record { begun = refl; first = refl; nodes = refl }

same_opens : (j : TokenKind) (t : Tally) → Same (k.opens j t) t
same_opens (Sym j) t = same_symbol j t
same_opens (Word w) t = record { begun = refl; first = refl; nodes = refl }
same_opens Name t = record { begun = refl; first = refl; nodes = refl }
same_opens (Number v) t = record { begun = refl; first = refl; nodes = refl }

moved : (s t : Tally) (ts : List Token) → Same s t → Counts t ts → Counts s ts
moved s t ts h (none p q r) = none (h.begun ∙ p) (h.first ∙ q) (h.nodes ∙ r)
moved s t ts h (some x xs p q r) = some x xs (h.begun ∙ p) (h.first ∙ q) (h.nodes ∙ r)

-- `counts` leaves alone what is open
opens_kept : (t : Tally) (o : Open) (token : Token) (b c : Bool) → Opens t o →
    Opens (cond b (record t { begun = false; first = 0; nodes = 0 })
    (cond c (record t { nodes = t.nodes + node token.kind }) (record t { begun = true; first = token.at; nodes = 0 }))) o
opens_kept t o token true c h = record { agree = h.agree; depth = h.depth }
opens_kept t o token false true h = record { agree = h.agree; depth = h.depth }
opens_kept t o token false false h = record { agree = h.agree; depth = h.depth }

pub tally_more : (t : Tally) (ts : List Token) (token : Token) → IsTally t ts → IsTally (k.tallied token t) (ts ++ token ∷ [])
tally_more t ts token h =
    let from : Open = record { marks = []; ended = false } in
    let s : Tally = k.opens token.kind t in
    let deep : t.depth ≡ length (marks t) = h.opens.depth ∙ ap (λ (z : Open). length z.marks) (sym h.opens.agree) in
    let r = kind_opens t deep token.kind in
    let e : l.opens token.kind (open_of t) ≡ open_from from (ts ++ token ∷ []) = ap (l.opens token.kind) h.opens.agree ∙ sym (open_more from ts token) in
    let P : Open → Type 0 = Opens s in
    let Q : List Token → Type 0 = Counts (k.tallied token t) in
    record {
      opens = opens_kept s (open_from from (ts ++ token ∷ [])) token (is_border token.kind) s.begun (subst P e r);
      counts = subst Q (sym (current_more [] ts token)) (counts_kept s (open_of s) (current ts) token (is_border token.kind) (moved s t (current ts) (same_opens token.kind t) h.counts));
    }

nodes_counted : (t : Tally) (ts : List Token) → Counts t ts → (behind_first ts ≡ t.nodes) × (place_of_first ts ≡ t.first)
nodes_counted t ts (none p q r) = (sym r, sym q)
nodes_counted t ts (some x xs p q r) = (sym r, sym q)

pub depth_of : (t : Tally) (ts : List Token) → IsTally t ts → depth ts ≡ t.depth
depth_of t ts h = sym h.opens.depth

pub nodes_of : (t : Tally) (ts : List Token) → IsTally t ts → nodes ts ≡ t.nodes
nodes_of t ts h = (nodes_counted t (current ts) h.counts).0

pub first_of : (t : Tally) (ts : List Token) → IsTally t ts → place_of_first (current ts) ≡ t.first
first_of t ts h = (nodes_counted t (current ts) h.counts).1
