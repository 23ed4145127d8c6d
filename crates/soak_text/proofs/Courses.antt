-- The limits on depth and nodes, counted over the kinds of tokens. The nodes of a statement are no more than its tokens.
use Rattle.std.proofs.Common.{◌≡◌, ℕ, suc, ◌+◌, ◌*◌, ◌^◌, ◌<◌, ◌≤◌, pos, Bool, true, false, cond, List, [], ◌∷◌, ◌++◌, length, nat_lt, refl, ap, sym, subst, ◌∙◌, if◌then◌else◌, arith}
use Rattle.std.specs.Prelude.{codes}
use Rattle.std.specs.Fmt.{signed_decimal}
use Rattle.bm_base.specs.declared.word.Un.{Un}
use Rattle.bm_base.specs.declared.word.Un.TheVariants as un
use Rattle.bm_base.specs.declared.word.Bin.{Bin}
use Rattle.bm_base.specs.declared.word.Bin.TheVariants as bin
use Rattle.src_lexer.specs.declared.token.Symbol.TheVariants as y
use Rattle.src_lexer.specs.declared.token.TokenKind.{TokenKind}
use Rattle.src_lexer.specs.declared.token.TokenKind.TheVariants.{Name, Number, Sym}
use Rattle.src_lexer.specs.Symbols.{spelling}
use Rattle.src_tree.specs.declared.tree.Ident.{Ident}
use Rattle.src_tree.specs.Operators.{level, operand, bin_symbol, un_symbol}
use Rattle.src_tree.specs.Limits.{Mark, Bracket, Sign, Open, opens, is_border, without_signs, outside}
use Rattle.src_tree.specs.Plain.{IsName}
use Rattle.src_tree.specs.Text.{Text, tight, spaced}
use Rattle.soak_text.proofs.GeneratedRows.{Runs, free_runs, runs_free, as_runs, a_name, a_number, a_binary, binary_parts, a_unary, lparen, rparen, lbracket, rbracket}

-- what is open behind some tokens, and how many there are behind the last `;`, `{` or `}`
pub record At : Type 0 where
  pub now : Open
  pub count : ℕ

abbrev pub at : List Mark → Bool → ℕ → At
at ms ended n = record { now = record { marks = ms; ended = ended }; count = n }

abbrev pub step : TokenKind → At → At
step k a = record { now = opens k a.now; count = if is_border k then 0 else suc a.count }

abbrev pub walk : At → List TokenKind → At
walk a [] = a
walk a (k ∷ ks) = walk (step k a) ks

abbrev pub Fine : At → Type 0
Fine a = (length a.now.marks ≤ 64) × (a.count ≤ 120)

abbrev pub Within : At → List TokenKind → Type 0
Within a [] = Fine a
Within a (k ∷ ks) = Fine a × Within (step k a) ks

-- the tokens lead from here to there, within the limits
pub record Leads (a : At) (ks : List TokenKind) (b : At) : Type 0 where
  pub within : Within a ks
  pub ends : walk a ks ≡ b

walk-append : (a : At) (ks js : List TokenKind) → walk a (ks ++ js) ≡ walk (walk a ks) js
walk-append a [] js = refl
walk-append a (k ∷ ks) js = walk-append (step k a) ks js

within-append : (a : At) (ks js : List TokenKind) → Within a ks → Within (walk a ks) js → Within a (ks ++ js)
within-append a [] js h j = j
within-append a (k ∷ ks) js h j = (h.0, within-append (step k a) ks js h.1 j)

pub onward : {a b c : At} {ks js : List TokenKind} → Leads a ks b → Leads b js c → Leads a (ks ++ js) c
onward {a} {b} {c} {ks} {js} h j =
    let P : At → Type 0 = λ x. Within x js in
    record {
      within = within-append a ks js h.within (subst P (sym h.ends) j.within);
      ends = walk-append a ks js ∙ ap (λ (x : At). walk x js) h.ends ∙ j.ends;
    }

within_end : (a : At) (ks : List TokenKind) → Within a ks → Fine (walk a ks)
within_end a [] h = h
within_end a (k ∷ ks) h = within_end (step k a) ks h.1

pub end_fine : {a b : At} {ks : List TokenKind} → Leads a ks b → Fine b
end_fine {a} {ks = ks} h = subst Fine h.ends (within_end a ks h.within)

pub one : (k : TokenKind) (a b : At) → step k a ≡ b → Fine a → Fine b → Leads a (k ∷ []) b
one k a b q f g = record { within = (f, subst Fine (sym q) g); ends = q }

pub signs_short : (ms : List Mark) → length (without_signs ms) ≤ length ms
signs_short [] = omega arith
signs_short (Sign ∷ ms) = omega (arith, signs_short ms)
signs_short (Bracket ∷ ms) = omega arith

signs_once : (ms : List Mark) → without_signs (without_signs ms) ≡ without_signs ms
signs_once [] = refl
signs_once (Sign ∷ ms) = signs_once ms
signs_once (Bracket ∷ ms) = refl

-- an operand's tokens leave no bracket open, but perhaps signs
pub record Walks (t : ℕ) (ks : List TokenKind) (ms : List Mark) (n : ℕ) : Type 0 where
  pub marks : List Mark
  pub count : ℕ
  pub same : without_signs marks ≡ without_signs ms
  pub few : count ≤ n + t
  pub leads : Leads (at ms false n) ks (at marks true count)

-- bytes of an operand that opens at most d, of at most t tokens
pub record Fits (d t : ℕ) (bs : List ℕ) : Type 0 where
  pub kinds : List TokenKind
  pub runs : Runs bs kinds
  pub walks : (ms : List Mark) (n : ℕ) → length ms + d ≤ 64 → n + t ≤ 120 → Walks t kinds ms n

pub fits_as : {d t : ℕ} {bs cs : List ℕ} → bs ≡ cs → Fits d t bs → Fits d t cs
fits_as {d} {t} q f = subst (Fits d t) q f

pub fits_number : (d t k : ℕ) → k < 2 ^ 63 → 1 ≤ t → Fits d t (signed_decimal (pos k))
fits_number d t k h some = record {
  kinds = Number (pos k) ∷ [];
  runs = a_number k h;
  walks = λ ms n a b. record {
    marks = ms;
    count = suc n;
    same = refl;
    few = omega (arith, some);
    leads = one (Number (pos k)) (at ms false n) (at ms true (suc n)) refl (omega (arith, a), omega (arith, b)) (omega (arith, a), omega (arith, b, some));
  };
}

pub fits_name : (d t : ℕ) (i : Ident) → IsName i → 1 ≤ t → Fits d t i.text
fits_name d t i h some = record {
  kinds = Name ∷ [];
  runs = a_name i h;
  walks = λ ms n a b. record {
    marks = ms;
    count = suc n;
    same = refl;
    few = omega (arith, some);
    leads = one Name (at ms false n) (at ms true (suc n)) refl (omega (arith, a), omega (arith, b)) (omega (arith, a), omega (arith, b, some));
  };
}

-- between a bracket and the one that closes it, of an operand
closes : (k : TokenKind) (ms marks : List Mark) (c : ℕ) → step k (at marks true c) ≡ at (outside (without_signs marks)) true (suc c) → without_signs marks ≡ Bracket ∷ ms →
    Fine (at marks true c) → length ms ≤ 64 → suc c ≤ 120 → Leads (at marks true c) (k ∷ []) (at ms true (suc c))
closes k ms marks c q e f a b = one k (at marks true c) (at ms true (suc c)) (q ∙ ap (λ (x : List Mark). at (outside x) true (suc c)) e) f (a, b)

fits_paren : (d t : ℕ) (bs : List ℕ) → Fits d t bs → Fits (d + 1) (t + 2) (codes "(" ++ bs ++ codes ")")
fits_paren d t bs f = record {
  kinds = (Sym y.LParen ∷ []) ++ f.kinds ++ (Sym y.RParen ∷ []);
  runs = as_runs (codes "(" ++ bs ++ codes ")") ((Sym y.LParen ∷ []) ++ f.kinds ++ (Sym y.RParen ∷ []))
      (runs_free (codes "(" ++ bs) (codes ")") ((Sym y.LParen ∷ []) ++ f.kinds) (Sym y.RParen ∷ [])
      (free_runs (codes "(") bs (Sym y.LParen ∷ []) f.kinds lparen f.runs) (λ rest. refl) rparen);
  walks = λ ms n a b.
      let v : Walks t f.kinds (Bracket ∷ ms) (suc n) = f.walks (Bracket ∷ ms) (suc n) (omega (arith, a)) (omega (arith, b)) in
      record {
        marks = ms;
        count = suc v.count;
        same = refl;
        few = omega (arith, v.few);
        leads = onward (onward (one (Sym y.LParen) (at ms false n) (at (Bracket ∷ ms) false (suc n)) refl (omega (arith, a), omega (arith, b)) (omega (arith, a), omega (arith, b))) v.leads)
            (closes (Sym y.RParen) ms v.marks v.count refl v.same (end_fine v.leads) (omega (arith, a)) (omega (arith, b, v.few)));
      };
}

fits_more : (d t : ℕ) (bs : List ℕ) → Fits d t bs → Fits (d + 1) (t + 2) bs
fits_more d t bs f = record {
  kinds = f.kinds;
  runs = f.runs;
  walks = λ ms n a b.
      let v : Walks t f.kinds ms n = f.walks ms n (omega (arith, a)) (omega (arith, b)) in
      record { marks = v.marks; count = v.count; same = v.same; few = omega (arith, v.few); leads = v.leads };
}

pub fits_tight : (d t least : ℕ) (x : Text) → Fits d t x.bytes → Fits (d + 1) (t + 2) (tight least x)
fits_tight d t least x f = by (nat_lt x.level least)
  where
    by : (b : Bool) → Fits (d + 1) (t + 2) (cond b (codes "(" ++ x.bytes ++ codes ")") x.bytes)
    by true = fits_paren d t x.bytes f
    by false = fits_more d t x.bytes f

pub fits_element : (d t : ℕ) (i : Ident) (bs : List ℕ) → IsName i → Fits d t bs → Fits (d + 1) (t + 3) (i.text ++ codes "[" ++ bs ++ codes "]")
fits_element d t i bs h f = record {
  kinds = (Name ∷ []) ++ (Sym y.LBracket ∷ []) ++ f.kinds ++ (Sym y.RBracket ∷ []);
  runs = as_runs (i.text ++ codes "[" ++ bs ++ codes "]") ((Name ∷ []) ++ (Sym y.LBracket ∷ []) ++ f.kinds ++ (Sym y.RBracket ∷ []))
      (runs_free (i.text ++ codes "[" ++ bs) (codes "]") ((Name ∷ []) ++ (Sym y.LBracket ∷ []) ++ f.kinds) (Sym y.RBracket ∷ [])
      (free_runs (i.text ++ codes "[") bs ((Name ∷ []) ++ (Sym y.LBracket ∷ [])) f.kinds
      (runs_free i.text (codes "[") (Name ∷ []) (Sym y.LBracket ∷ []) (a_name i h) (λ rest. refl) lbracket) f.runs) (λ rest. refl) rbracket);
  walks = λ ms n a b.
      let v : Walks t f.kinds (Bracket ∷ ms) (suc (suc n)) = f.walks (Bracket ∷ ms) (suc (suc n)) (omega (arith, a)) (omega (arith, b)) in
      record {
        marks = ms;
        count = suc v.count;
        same = refl;
        few = omega (arith, v.few);
        leads = onward (onward (onward
            (one Name (at ms false n) (at ms true (suc n)) refl (omega (arith, a), omega (arith, b)) (omega (arith, a), omega (arith, b)))
            (one (Sym y.LBracket) (at ms true (suc n)) (at (Bracket ∷ ms) false (suc (suc n))) refl (omega (arith, a), omega (arith, b)) (omega (arith, a), omega (arith, b))))
            v.leads)
            (closes (Sym y.RBracket) ms v.marks v.count refl v.same (end_fine v.leads) (omega (arith, a)) (omega (arith, b, v.few)));
      };
}

un_step : (op : Un) (ms : List Mark) (n : ℕ) → step (Sym (un_symbol op)) (at ms false n) ≡ at (Sign ∷ ms) false (suc n)
un_step un.Neg ms n = refl
un_step un.Not ms n = refl

pub fits_one : (d t : ℕ) (op : Un) (x : Text) → Fits d t x.bytes → Fits (d + 2) (t * 2 + 5) (spelling (un_symbol op) ++ tight operand x)
fits_one d t op x f =
    let g : Fits (d + 1) (t + 2) (tight operand x) = fits_tight d t operand x f in
    record {
      kinds = (Sym (un_symbol op) ∷ []) ++ g.kinds;
      runs = free_runs (spelling (un_symbol op)) (tight operand x) (Sym (un_symbol op) ∷ []) g.kinds (a_unary op) g.runs;
      walks = λ ms n a b.
          let v : Walks (t + 2) g.kinds (Sign ∷ ms) (suc n) = g.walks (Sign ∷ ms) (suc n) (omega (arith, a)) (omega (arith, b)) in
          record {
            marks = v.marks;
            count = v.count;
            same = v.same;
            few = omega (arith, v.few);
            leads = onward (one (Sym (un_symbol op)) (at ms false n) (at (Sign ∷ ms) false (suc n)) (un_step op ms n) (omega (arith, a), omega (arith, b)) (omega (arith, a), omega (arith, b))) v.leads;
          };
    }

bin_step : (op : Bin) (ms : List Mark) (n : ℕ) → step (Sym (bin_symbol op)) (at ms true n) ≡ at (without_signs ms) false (suc n)
bin_step bin.Or ms n = refl
bin_step bin.Xor ms n = refl
bin_step bin.And ms n = refl
bin_step bin.Eq ms n = refl
bin_step bin.Ne ms n = refl
bin_step bin.Lt ms n = refl
bin_step bin.Le ms n = refl
bin_step bin.Gt ms n = refl
bin_step bin.Ge ms n = refl
bin_step bin.Shl ms n = refl
bin_step bin.Shr ms n = refl
bin_step bin.Add ms n = refl
bin_step bin.Sub ms n = refl
bin_step bin.Mul ms n = refl
bin_step bin.Div ms n = refl
bin_step bin.Rem ms n = refl

pub fits_two : (d t : ℕ) (op : Bin) (x z : Text) → Fits d t x.bytes → Fits d t z.bytes →
    Fits (d + 2) (t * 2 + 5) (tight (level op) x ++ spaced (bin_symbol op) ++ tight (suc (level op)) z)
fits_two d t op x z f e =
    let g : Fits (d + 1) (t + 2) (tight (level op) x) = fits_tight d t (level op) x f in
    let h : Fits (d + 1) (t + 2) (tight (suc (level op)) z) = fits_tight d t (suc (level op)) z e in
    record {
      kinds = g.kinds ++ (Sym (bin_symbol op) ∷ []) ++ h.kinds;
      runs = free_runs (tight (level op) x ++ spaced (bin_symbol op)) (tight (suc (level op)) z) (g.kinds ++ (Sym (bin_symbol op) ∷ [])) h.kinds
          (runs_free (tight (level op) x) (spaced (bin_symbol op)) g.kinds (Sym (bin_symbol op) ∷ []) g.runs (binary_parts op) (a_binary op)) h.runs;
      walks = λ ms n a b.
          let v : Walks (t + 2) g.kinds ms n = g.walks ms n (omega (arith, a)) (omega (arith, b)) in
          let q : length (without_signs v.marks) ≡ length (without_signs ms) = ap length v.same in
          let c : length (without_signs v.marks) + (d + 1) ≤ 64 = omega (arith, a, q, signs_short ms) in
          let u : Walks (t + 2) h.kinds (without_signs v.marks) (suc v.count) = h.walks (without_signs v.marks) (suc v.count) c (omega (arith, b, v.few)) in
          record {
            marks = u.marks;
            count = u.count;
            same = u.same ∙ signs_once v.marks ∙ v.same;
            few = omega (arith, u.few, v.few);
            leads = onward (onward v.leads
                (one (Sym (bin_symbol op)) (at v.marks true v.count) (at (without_signs v.marks) false (suc v.count)) (bin_step op v.marks v.count) (end_fine v.leads) (omega (arith, c), omega (arith, b, v.few))))
                u.leads;
          };
    }
