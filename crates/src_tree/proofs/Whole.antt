-- The text of a plain tree is read as the same tree: statements, declarations and the program.
use Rattle.std.proofs.Common.{◌≡◌, ℕ, suc, ◌^◌, ◌<◌, ℤ, pos, negsuc, List, [], ◌∷◌, ◌++◌, length, refl, ap, sym, subst, ◌∙◌, arith, append_assoc, map}
use Rattle.std.proofs.lemmas.List.{append-nil}
use Rattle.std.specs.Prelude.{codes, neg_ℤ}
use Rattle.std.specs.Fmt.{decimal}
use Rattle.std.specs.Char.{is_ascii_digit}
use Rattle.src_lexer.specs.declared.token.Keyword.{Keyword}
use Rattle.src_lexer.specs.declared.token.Keyword.TheVariants as w
use Rattle.src_lexer.specs.declared.token.Symbol.TheVariants as y
use Rattle.src_lexer.specs.declared.token.TokenKind.TheVariants.{Number, Word, Sym}
use Rattle.src_lexer.specs.declared.token.Token.{Token}
use Rattle.src_lexer.specs.Symbols.{keyword, word_of}
use Rattle.src_lexer.specs.Laws.{BeginsName}
use Rattle.src_lexer.specs.Spell.{Spells, done}
use Rattle.bm_base.specs.Names.{goes_on_name}
use Rattle.src_tree.specs.declared.tree.Ident.{Ident}
use Rattle.src_tree.specs.declared.tree.Expr.{Expr}
use Rattle.src_tree.specs.declared.tree.Stmt.{Stmt, Stmt-F}
use Rattle.src_tree.specs.declared.tree.Stmt.TheVariants as s
use Rattle.src_tree.specs.declared.tree.Decl.{Decl}
use Rattle.src_tree.specs.declared.tree.Decl.TheVariants as d
use Rattle.src_tree.specs.declared.tree.Program.{Program}
use Rattle.src_tree.specs.Text.{text_of, expr_text, joined, stmt_step, stmt_text, body_text, decl_text, program_text}
use Rattle.src_tree.specs.Grammar.{IsExpr, IsStmt, IsBody, IsDecl, AreDecls, ident}
use Rattle.src_tree.specs.Grammar as g
use Rattle.src_tree.specs.Plain.{IsName, IsCount, IsInitial, IsPlainExpr, IsPlainStmt, IsPlainBody, IsPlainDecl, ArePlainDecls, IsPlain}
use Rattle.src_tree.specs.Plain as l
use Rattle.src_tree.specs.Same.{SameExpr, SameStmt, SameBody, SameDecl, SameDecls}
use Rattle.src_tree.specs.Same as z
use Rattle.src_tree.specs.Laws.{IsReadAgain}
use Rattle.src_tree.proofs.Equations.{text-assign, text-set, text-print, text-if, text-while}
use Rattle.src_tree.proofs.Way.{Way, follows, blank, one_word, one_number, Each, all_of, Stops}
use Rattle.src_tree.proofs.Again.{move, rewritten, retold, Over, over_symbol, over_spaced, Named, named, loosen, level_small, Read, Readable, read_expr, open3, open4, quiet}

open5 : (a b c d f r : List ℕ) → a ++ b ++ c ++ d ++ f ++ r ≡ a ++ (b ++ (c ++ (d ++ (f ++ r))))
open5 a b c d f r = simp append_assoc refl

open6 : (a b c d f h r : List ℕ) → a ++ b ++ c ++ d ++ f ++ h ++ r ≡ a ++ (b ++ (c ++ (d ++ (f ++ (h ++ r)))))
open6 a b c d f h r = simp append_assoc refl

open7 : (a b c d f h i r : List ℕ) → a ++ b ++ c ++ d ++ f ++ h ++ i ++ r ≡ a ++ (b ++ (c ++ (d ++ (f ++ (h ++ (i ++ r))))))
open7 a b c d f h i r = simp append_assoc refl

keyword_begins : (k : Keyword) → BeginsName (keyword k)
keyword_begins w.Var = refl
keyword_begins w.Array = refl
keyword_begins w.Print = refl
keyword_begins w.If = refl
keyword_begins w.Else = refl
keyword_begins w.While = refl

keyword_each : (k : Keyword) → Each goes_on_name (keyword k)
keyword_each w.Var = (refl, (refl, (refl, tt)))
keyword_each w.Array = (refl, (refl, (refl, (refl, (refl, tt)))))
keyword_each w.Print = (refl, (refl, (refl, (refl, (refl, tt)))))
keyword_each w.If = (refl, (refl, tt))
keyword_each w.Else = (refl, (refl, (refl, (refl, tt))))
keyword_each w.While = (refl, (refl, (refl, (refl, (refl, tt)))))

keyword_is : (k : Keyword) → word_of (keyword k) ≡ Word k
keyword_is w.Var = refl
keyword_is w.Array = refl
keyword_is w.Print = refl
keyword_is w.If = refl
keyword_is w.Else = refl
keyword_is w.While = refl

module _ (src : List ℕ) where
  -- `;` and the line's end
  semi : (front rest : List ℕ) → src ≡ front ++ ((59 ∷ 10 ∷ []) ++ rest) → Over src front (59 ∷ 10 ∷ []) (Sym y.Semi)
  semi front rest f =
      let o : Over src front (59 ∷ []) (Sym y.Semi) = over_symbol src front y.Semi (10 ∷ rest) f refl in
      record { token = o.token; is = o.is; way = follows o.way (blank src (front ++ 59 ∷ []) 10 rest (move src front (59 ∷ []) (10 ∷ rest) f) refl) }

  -- ` {` and the line's end
  opens : (front rest : List ℕ) → src ≡ front ++ ((32 ∷ 123 ∷ 10 ∷ []) ++ rest) → Over src front (32 ∷ 123 ∷ 10 ∷ []) (Sym y.LBrace)
  opens front rest f =
      let f1 : src ≡ (front ++ 32 ∷ []) ++ (123 ∷ 10 ∷ rest) = move src front (32 ∷ []) (123 ∷ 10 ∷ rest) f in
      let o : Over src (front ++ 32 ∷ []) (123 ∷ []) (Sym y.LBrace) = over_symbol src (front ++ 32 ∷ []) y.LBrace (10 ∷ rest) f1 refl in
      record {
        token = o.token;
        is = o.is;
        way = follows (blank src front 32 (123 ∷ 10 ∷ rest) f refl) (follows o.way (blank src ((front ++ 32 ∷ []) ++ 123 ∷ []) 10 rest (move src (front ++ 32 ∷ []) (123 ∷ []) (10 ∷ rest) f1) refl));
      }

  -- `}` and the line's end
  closes : (front rest : List ℕ) → src ≡ front ++ ((125 ∷ 10 ∷ []) ++ rest) → Over src front (125 ∷ 10 ∷ []) (Sym y.RBrace)
  closes front rest f =
      let o : Over src front (125 ∷ []) (Sym y.RBrace) = over_symbol src front y.RBrace (10 ∷ rest) f refl in
      record { token = o.token; is = o.is; way = follows o.way (blank src (front ++ 125 ∷ []) 10 rest (move src front (125 ∷ []) (10 ∷ rest) f) refl) }

  -- a reserved word
  only_word : (front : List ℕ) (k : Keyword) (rest : List ℕ) → src ≡ front ++ (keyword k ++ rest) → Stops goes_on_name rest → Over src front (keyword k) (Word k)
  only_word front k rest f stops = record {
    token = record { kind = Word k; at = length front; end = length (front ++ keyword k) };
    is = record { kind = refl };
    way = one_word src front (keyword k) rest f (keyword_begins k) (all_of goes_on_name (keyword k) (keyword_each k)) stops (Word k) (keyword_is k) tt;
  }

  -- a reserved word and a blank
  word_of_blank : (front : List ℕ) (k : Keyword) (rest : List ℕ) → src ≡ front ++ ((keyword k ++ 32 ∷ []) ++ rest) → Over src front (keyword k ++ 32 ∷ []) (Word k)
  word_of_blank front k rest f =
      let f0 : src ≡ front ++ (keyword k ++ ((32 ∷ []) ++ rest)) = f ∙ ap (λ (v : List ℕ). front ++ v) (append_assoc (keyword k) (32 ∷ []) rest) in
      let o : Over src front (keyword k) (Word k) = only_word front k _ f0 refl in
      record { token = o.token; is = o.is; way = follows o.way (blank src (front ++ keyword k) 32 rest (move src front (keyword k) _ f0) refl) }

  -- an expression, where what follows is no name byte
  pub record Whole (x : Expr) (front : List ℕ) : Type 0 where
    pub tokens : List Token
    pub tree : Expr
    pub way : Way src front (expr_text x) tokens
    pub is : IsExpr src 0 tokens tree
    pub same : SameExpr x tree

  whole : (x : Expr) → IsPlainExpr x → (front rest : List ℕ) → src ≡ front ++ (expr_text x ++ rest) → Stops goes_on_name rest → Whole x front
  unfolding Readable
  whole x h front rest f t =
      let v : Read src x front (expr_text x) (text_of x).level = read_expr src h front rest f t in
      record { tokens = v.tokens; tree = v.tree; way = v.way; is = loosen src (text_of x).level {m = 0} {n = (text_of x).level} (omega arith) (level_small src v.is) v.is; same = v.same }

  pub record ReadStmt (x : Stmt) (front bs : List ℕ) : Type 0 where
    pub tokens : List Token
    pub tree : Stmt
    pub way : Way src front bs tokens
    pub is : IsStmt src tokens tree
    pub same : SameStmt x tree

  pub record ReadBody (xs : List Stmt) (front bs : List ℕ) : Type 0 where
    pub tokens : List Token
    pub tree : List Stmt
    pub way : Way src front bs tokens
    pub is : IsBody src tokens tree
    pub same : SameBody xs tree

  StmtReadable : Stmt → List ℕ → Type 0
  StmtReadable x bs = (front rest : List ℕ) → src ≡ front ++ (bs ++ rest) → ReadStmt x front bs

  BodyReadable : List Stmt → List ℕ → Type 0
  BodyReadable xs bs = (front rest : List ℕ) → src ≡ front ++ (bs ++ rest) → ReadBody xs front bs

  read_assign : (n : Ident) (x : Expr) → IsName n → IsPlainExpr x → StmtReadable (s.Assign n x) (stmt_step (Stmt-F.Assign n x))
  unfolding StmtReadable
  read_assign n x h k front rest f =
      let e0 : src ≡ front ++ (n.text ++ ((32 ∷ 61 ∷ 32 ∷ []) ++ (expr_text x ++ ((59 ∷ 10 ∷ []) ++ rest)))) = f ∙ ap (λ (v : List ℕ). front ++ v) (open4 n.text (32 ∷ 61 ∷ 32 ∷ []) (expr_text x) (59 ∷ 10 ∷ []) rest) in
      let e1 = move src front n.text _ e0 in
      let e2 = move src (front ++ n.text) (32 ∷ 61 ∷ 32 ∷ []) _ e1 in
      let e3 = move src ((front ++ n.text) ++ 32 ∷ 61 ∷ 32 ∷ []) (expr_text x) _ e2 in
      let a : Named src n front = named src n h front _ e0 refl in
      let o : Over src (front ++ n.text) (32 ∷ 61 ∷ 32 ∷ []) (Sym y.Assign) = over_spaced src (front ++ n.text) y.Assign _ e1 refl in
      let v : Whole x ((front ++ n.text) ++ 32 ∷ 61 ∷ 32 ∷ []) = whole x k ((front ++ n.text) ++ 32 ∷ 61 ∷ 32 ∷ []) _ e2 refl in
      let c : Over src (((front ++ n.text) ++ 32 ∷ 61 ∷ 32 ∷ []) ++ expr_text x) (59 ∷ 10 ∷ []) (Sym y.Semi) = semi _ rest e3 in
      record {
        tokens = a.token ∷ o.token ∷ (v.tokens ++ c.token ∷ []);
        tree = s.Assign (ident src a.token) v.tree;
        way = rewritten src (sym (open3 n.text (32 ∷ 61 ∷ 32 ∷ []) (expr_text x) (59 ∷ 10 ∷ []))) (follows a.way (follows o.way (follows v.way c.way)));
        is = g.assign a.is o.is v.is c.is;
        same = z.assign a.same v.same;
      }

  read_set : (n : Ident) (i x : Expr) → IsName n → IsPlainExpr i → IsPlainExpr x → StmtReadable (s.SetElement n i x) (stmt_step (Stmt-F.SetElement n i x))
  unfolding StmtReadable
  read_set n i x h j k front rest f =
      let e0 : src ≡ front ++ (n.text ++ ((91 ∷ []) ++ (expr_text i ++ ((93 ∷ 32 ∷ 61 ∷ 32 ∷ []) ++ (expr_text x ++ ((59 ∷ 10 ∷ []) ++ rest)))))) =
      f ∙ ap (λ (v : List ℕ). front ++ v) (open6 n.text (91 ∷ []) (expr_text i) (93 ∷ 32 ∷ 61 ∷ 32 ∷ []) (expr_text x) (59 ∷ 10 ∷ []) rest) in
      let p1 : List ℕ = front ++ n.text in
      let e1 = move src front n.text _ e0 in
      let p2 : List ℕ = p1 ++ 91 ∷ [] in
      let e2 = move src p1 (91 ∷ []) _ e1 in
      let p3 : List ℕ = p2 ++ expr_text i in
      let e3 = move src p2 (expr_text i) _ e2 in
      let p4 : List ℕ = p3 ++ 93 ∷ [] in
      let e4 : src ≡ p4 ++ ((32 ∷ 61 ∷ 32 ∷ []) ++ (expr_text x ++ ((59 ∷ 10 ∷ []) ++ rest))) = move src p3 (93 ∷ []) _ e3 in
      let p5 : List ℕ = p4 ++ 32 ∷ 61 ∷ 32 ∷ [] in
      let e5 = move src p4 (32 ∷ 61 ∷ 32 ∷ []) _ e4 in
      let p6 : List ℕ = p5 ++ expr_text x in
      let e6 = move src p5 (expr_text x) _ e5 in
      let a : Named src n front = named src n h front _ e0 refl in
      let o : Over src p1 (91 ∷ []) (Sym y.LBracket) = over_symbol src p1 y.LBracket _ e1 (quiet 91 _ (λ r. refl)) in
      let u : Whole i p2 = whole i j p2 _ e2 refl in
      let c : Over src p3 (93 ∷ []) (Sym y.RBracket) = over_symbol src p3 y.RBracket _ e3 refl in
      let m : Over src p4 (32 ∷ 61 ∷ 32 ∷ []) (Sym y.Assign) = over_spaced src p4 y.Assign _ e4 refl in
      let v : Whole x p5 = whole x k p5 _ e5 refl in
      let q : Over src p6 (59 ∷ 10 ∷ []) (Sym y.Semi) = semi p6 rest e6 in
      record {
        tokens = a.token ∷ o.token ∷ (u.tokens ++ (c.token ∷ m.token ∷ (v.tokens ++ q.token ∷ [])));
        tree = s.SetElement (ident src a.token) u.tree v.tree;
        way = rewritten src (sym (open5 n.text (91 ∷ []) (expr_text i) (93 ∷ 32 ∷ 61 ∷ 32 ∷ []) (expr_text x) (59 ∷ 10 ∷ [])))
            (follows a.way (follows o.way (follows u.way (follows c.way (follows m.way (follows v.way q.way))))));
        is = g.set a.is o.is u.is c.is m.is v.is q.is;
        same = z.set a.same u.same v.same;
      }

  read_print : (x : Expr) → IsPlainExpr x → StmtReadable (s.Print x) (stmt_step (Stmt-F.Print x))
  unfolding StmtReadable
  read_print x k front rest f =
      let word : List ℕ = keyword w.Print ++ 32 ∷ [] in
      let e0 : src ≡ front ++ (word ++ (expr_text x ++ ((59 ∷ 10 ∷ []) ++ rest))) = f ∙ ap (λ (v : List ℕ). front ++ v) (open3 word (expr_text x) (59 ∷ 10 ∷ []) rest) in
      let p1 : List ℕ = front ++ word in
      let e1 = move src front word _ e0 in
      let p2 : List ℕ = p1 ++ expr_text x in
      let e2 = move src p1 (expr_text x) _ e1 in
      let a : Over src front word (Word w.Print) = word_of_blank front w.Print _ e0 in
      let v : Whole x p1 = whole x k p1 _ e1 refl in
      let q : Over src p2 (59 ∷ 10 ∷ []) (Sym y.Semi) = semi p2 rest e2 in
      record {
        tokens = a.token ∷ (v.tokens ++ q.token ∷ []);
        tree = s.Print v.tree;
        way = rewritten src (sym (append_assoc word (expr_text x) (59 ∷ 10 ∷ []))) (follows a.way (follows v.way q.way));
        is = g.print a.is v.is q.is;
        same = z.print v.same;
      }

  read_while : (x : Expr) (body : List Stmt) (bs : List ℕ) → IsPlainExpr x → BodyReadable body bs →
      StmtReadable (s.While x body) (codes "while " ++ expr_text x ++ codes " {\n" ++ bs ++ codes "}\n")
  unfolding StmtReadable BodyReadable
  read_while x body bs k r front rest f =
      let word : List ℕ = keyword w.While ++ 32 ∷ [] in
      let e0 : src ≡ front ++ (word ++ (expr_text x ++ ((32 ∷ 123 ∷ 10 ∷ []) ++ (bs ++ ((125 ∷ 10 ∷ []) ++ rest))))) =
      f ∙ ap (λ (v : List ℕ). front ++ v) (open5 word (expr_text x) (32 ∷ 123 ∷ 10 ∷ []) bs (125 ∷ 10 ∷ []) rest) in
      let p1 : List ℕ = front ++ word in
      let e1 = move src front word _ e0 in
      let p2 : List ℕ = p1 ++ expr_text x in
      let e2 = move src p1 (expr_text x) _ e1 in
      let p3 : List ℕ = p2 ++ 32 ∷ 123 ∷ 10 ∷ [] in
      let e3 = move src p2 (32 ∷ 123 ∷ 10 ∷ []) _ e2 in
      let p4 : List ℕ = p3 ++ bs in
      let e4 = move src p3 bs _ e3 in
      let a : Over src front word (Word w.While) = word_of_blank front w.While _ e0 in
      let v : Whole x p1 = whole x k p1 _ e1 refl in
      let o : Over src p2 (32 ∷ 123 ∷ 10 ∷ []) (Sym y.LBrace) = opens p2 _ e2 in
      let u : ReadBody body p3 bs = r p3 _ e3 in
      let c : Over src p4 (125 ∷ 10 ∷ []) (Sym y.RBrace) = closes p4 rest e4 in
      record {
        tokens = a.token ∷ (v.tokens ++ (o.token ∷ (u.tokens ++ c.token ∷ [])));
        tree = s.While v.tree u.tree;
        way = rewritten src (sym (open4 word (expr_text x) (32 ∷ 123 ∷ 10 ∷ []) bs (125 ∷ 10 ∷ [])))
            (follows a.way (follows v.way (follows o.way (follows u.way c.way))));
        is = g.repeat a.is v.is (g.braces o.is u.is c.is);
        same = z.repeat v.same u.same;
      }

  read_if : (x : Expr) (ys ns : List Stmt) (as' bs : List ℕ) → IsPlainExpr x → BodyReadable ys as' → BodyReadable ns bs →
      StmtReadable (s.If x ys ns) (codes "if " ++ expr_text x ++ codes " {\n" ++ as' ++ codes "} else {\n" ++ bs ++ codes "}\n")
  unfolding StmtReadable BodyReadable
  read_if x ys ns as' bs k r q front rest f =
      let word : List ℕ = keyword w.If ++ 32 ∷ [] in
      let between : List ℕ = 125 ∷ 32 ∷ ((keyword w.Else) ++ 32 ∷ 123 ∷ 10 ∷ []) in
      let e0 : src ≡ front ++ (word ++ (expr_text x ++ ((32 ∷ 123 ∷ 10 ∷ []) ++ (as' ++ (between ++ (bs ++ ((125 ∷ 10 ∷ []) ++ rest))))))) =
      f ∙ ap (λ (v : List ℕ). front ++ v) (open7 word (expr_text x) (32 ∷ 123 ∷ 10 ∷ []) as' between bs (125 ∷ 10 ∷ []) rest) in
      let p1 : List ℕ = front ++ word in
      let e1 = move src front word _ e0 in
      let p2 : List ℕ = p1 ++ expr_text x in
      let e2 = move src p1 (expr_text x) _ e1 in
      let p3 : List ℕ = p2 ++ 32 ∷ 123 ∷ 10 ∷ [] in
      let e3 = move src p2 (32 ∷ 123 ∷ 10 ∷ []) _ e2 in
      let p4 : List ℕ = p3 ++ as' in
      let e4 : src ≡ p4 ++ ((125 ∷ []) ++ ((32 ∷ []) ++ (keyword w.Else ++ ((32 ∷ 123 ∷ 10 ∷ []) ++ (bs ++ ((125 ∷ 10 ∷ []) ++ rest)))))) = move src p3 as' _ e3 in
      let p5 : List ℕ = p4 ++ 125 ∷ [] in
      let e5 = move src p4 (125 ∷ []) _ e4 in
      let p6 : List ℕ = p5 ++ 32 ∷ [] in
      let e6 = move src p5 (32 ∷ []) _ e5 in
      let p7 : List ℕ = p6 ++ keyword w.Else in
      let e7 = move src p6 (keyword w.Else) _ e6 in
      let p8 : List ℕ = p7 ++ 32 ∷ 123 ∷ 10 ∷ [] in
      let e8 = move src p7 (32 ∷ 123 ∷ 10 ∷ []) _ e7 in
      let p9 : List ℕ = p8 ++ bs in
      let e9 = move src p8 bs _ e8 in
      let a : Over src front word (Word w.If) = word_of_blank front w.If _ e0 in
      let v : Whole x p1 = whole x k p1 _ e1 refl in
      let o : Over src p2 (32 ∷ 123 ∷ 10 ∷ []) (Sym y.LBrace) = opens p2 _ e2 in
      let u : ReadBody ys p3 as' = r p3 _ e3 in
      let c : Over src p4 (125 ∷ []) (Sym y.RBrace) = over_symbol src p4 y.RBrace _ e4 refl in
      let b : Way src p5 (32 ∷ []) [] = blank src p5 32 _ e5 refl in
      let l : Over src p6 (keyword w.Else) (Word w.Else) = only_word p6 w.Else _ e6 refl in
      let o2 : Over src p7 (32 ∷ 123 ∷ 10 ∷ []) (Sym y.LBrace) = opens p7 _ e7 in
      let u2 : ReadBody ns p8 bs = q p8 _ e8 in
      let c2 : Over src p9 (125 ∷ 10 ∷ []) (Sym y.RBrace) = closes p9 rest e9 in
      let tail : List Token = l.token ∷ (o2.token ∷ (u2.tokens ++ c2.token ∷ [])) in
      record {
        tokens = a.token ∷ (v.tokens ++ ((o.token ∷ (u.tokens ++ c.token ∷ [])) ++ tail));
        tree = s.If v.tree u.tree u2.tree;
        way = retold src (ap (λ (ts : List Token). a.token ∷ (v.tokens ++ (o.token ∷ ts))) (sym (append_assoc u.tokens (c.token ∷ []) tail)))
            (rewritten src (sym (open6 word (expr_text x) (32 ∷ 123 ∷ 10 ∷ []) as' between bs (125 ∷ 10 ∷ [])))
            (follows a.way (follows v.way (follows o.way (follows u.way (follows c.way (follows b (follows l.way (follows o2.way (follows u2.way c2.way))))))))));
        is = g.choose a.is v.is (g.braces o.is u.is c.is) (g.otherwise l.is (g.braces o2.is u2.is c2.is));
        same = z.choose v.same u.same u2.same;
      }

  nothing : (front : List ℕ) → Way src front [] []
  nothing front = record { leads = λ us t. let P : List ℕ → Type 0 = λ v. Spells src (length v) us in subst P (append-nil front) t; allowed = tt }

  mutual
    unfolding StmtReadable BodyReadable

    read_stmt : {x : Stmt} → IsPlainStmt x → StmtReadable x (stmt_text x)
    read_stmt (l.assign {n = n} {x = x} h k) = let P : List ℕ → Type 0 = StmtReadable (s.Assign n x) in subst P (sym (text-assign n x)) (read_assign n x h k)
    read_stmt (l.set {n = n} {i = i} {x = x} h j k) = let P : List ℕ → Type 0 = StmtReadable (s.SetElement n i x) in subst P (sym (text-set n i x)) (read_set n i x h j k)
    read_stmt (l.print {x = x} k) = let P : List ℕ → Type 0 = StmtReadable (s.Print x) in subst P (sym (text-print x)) (read_print x k)
    read_stmt (l.choose {c = x} {ys = ys} {ns = ns} k a b) =
        let P : List ℕ → Type 0 = StmtReadable (s.If x ys ns) in
        subst P (sym (text-if x ys ns)) (read_if x ys ns (body_text ys) (body_text ns) k (read_body a) (read_body b))
    read_stmt (l.repeat {c = x} {body = body} k a) =
        let P : List ℕ → Type 0 = StmtReadable (s.While x body) in
        subst P (sym (text-while x body)) (read_while x body (body_text body) k (read_body a))

    read_body : {xs : List Stmt} → IsPlainBody xs → BodyReadable xs (body_text xs)
    read_body l.none = λ front rest f. record { tokens = []; tree = []; way = nothing front; is = g.none; same = z.none }
    read_body (l.more {st = x} {body = xs} h k) = λ front rest f.
        let f0 : src ≡ front ++ (stmt_text x ++ (body_text xs ++ rest)) = f ∙ ap (λ (v : List ℕ). front ++ v) (append_assoc (stmt_text x) (body_text xs) rest) in
        let a : ReadStmt x front (stmt_text x) = read_stmt h front _ f0 in
        let b : ReadBody xs (front ++ stmt_text x) (body_text xs) = read_body k (front ++ stmt_text x) rest (move src front (stmt_text x) _ f0) in
        record { tokens = a.tokens ++ b.tokens; tree = a.tree ∷ b.tree; way = follows a.way b.way; is = g.more a.is b.is; same = z.more a.same b.same }

  pub record ReadDecl (x : Decl) (front bs : List ℕ) : Type 0 where
    pub tokens : List Token
    pub tree : Decl
    pub way : Way src front bs tokens
    pub is : IsDecl src tokens tree
    pub same : SameDecl x tree

  pub record ReadDecls (xs : List Decl) (front bs : List ℕ) : Type 0 where
    pub tokens : List Token
    pub tree : List Decl
    pub way : Way src front bs tokens
    pub are : AreDecls src tokens tree
    pub same : SameDecls xs tree

  -- a number that is 0 or more
  over_number : (front : List ℕ) (n : ℕ) (rest : List ℕ) → src ≡ front ++ (decimal n ++ rest) → n < 2 ^ 63 → Stops is_ascii_digit rest → Over src front (decimal n) (Number (pos n))
  over_number front n rest f h stops = record { token = _; is = record { kind = refl }; way = one_number src front n rest f h stops }

  read_var : (n : Ident) (v : ℤ) → IsName n → IsInitial v → (front rest : List ℕ) → src ≡ front ++ (decl_text (d.Var n v) ++ rest) → ReadDecl (d.Var n v) front (decl_text (d.Var n v))
  read_var n (pos m) h k front rest f =
      let word : List ℕ = keyword w.Var ++ 32 ∷ [] in
      let e0 : src ≡ front ++ (word ++ (n.text ++ ((32 ∷ 61 ∷ 32 ∷ []) ++ (decimal m ++ ((59 ∷ 10 ∷ []) ++ rest))))) =
      f ∙ ap (λ (v : List ℕ). front ++ v) (open5 word n.text (32 ∷ 61 ∷ 32 ∷ []) (decimal m) (59 ∷ 10 ∷ []) rest) in
      let p1 : List ℕ = front ++ word in
      let e1 = move src front word _ e0 in
      let p2 : List ℕ = p1 ++ n.text in
      let e2 = move src p1 n.text _ e1 in
      let p3 : List ℕ = p2 ++ 32 ∷ 61 ∷ 32 ∷ [] in
      let e3 = move src p2 (32 ∷ 61 ∷ 32 ∷ []) _ e2 in
      let p4 : List ℕ = p3 ++ decimal m in
      let e4 = move src p3 (decimal m) _ e3 in
      let t : Over src front word (Word w.Var) = word_of_blank front w.Var _ e0 in
      let a : Named src n p1 = named src n h p1 _ e1 refl in
      let o : Over src p2 (32 ∷ 61 ∷ 32 ∷ []) (Sym y.Assign) = over_spaced src p2 y.Assign _ e2 refl in
      let u : Over src p3 (decimal m) (Number (pos m)) = over_number p3 m _ e3 k refl in
      let q : Over src p4 (59 ∷ 10 ∷ []) (Sym y.Semi) = semi p4 rest e4 in
      record {
        tokens = t.token ∷ a.token ∷ o.token ∷ u.token ∷ q.token ∷ [];
        tree = d.Var (ident src a.token) (pos m);
        way = rewritten src (sym (open4 word n.text (32 ∷ 61 ∷ 32 ∷ []) (decimal m) (59 ∷ 10 ∷ [])))
            (follows t.way (follows a.way (follows o.way (follows u.way q.way))));
        is = g.initial t.is a.is o.is u.is q.is;
        same = (a.same, refl);
      }
  read_var n (negsuc m) h k front rest f =
      let word : List ℕ = keyword w.Var ++ 32 ∷ [] in
      let e0 : src ≡ front ++ (word ++ (n.text ++ ((32 ∷ 61 ∷ 32 ∷ []) ++ ((45 ∷ []) ++ (decimal (suc m) ++ ((59 ∷ 10 ∷ []) ++ rest)))))) =
      f ∙ ap (λ (v : List ℕ). front ++ v) (open5 word n.text (32 ∷ 61 ∷ 32 ∷ []) (45 ∷ decimal (suc m)) (59 ∷ 10 ∷ []) rest) in
      let p1 : List ℕ = front ++ word in
      let e1 = move src front word _ e0 in
      let p2 : List ℕ = p1 ++ n.text in
      let e2 = move src p1 n.text _ e1 in
      let p3 : List ℕ = p2 ++ 32 ∷ 61 ∷ 32 ∷ [] in
      let e3 = move src p2 (32 ∷ 61 ∷ 32 ∷ []) _ e2 in
      let p4 : List ℕ = p3 ++ 45 ∷ [] in
      let e4 = move src p3 (45 ∷ []) _ e3 in
      let p5 : List ℕ = p4 ++ decimal (suc m) in
      let e5 = move src p4 (decimal (suc m)) _ e4 in
      let t : Over src front word (Word w.Var) = word_of_blank front w.Var _ e0 in
      let a : Named src n p1 = named src n h p1 _ e1 refl in
      let o : Over src p2 (32 ∷ 61 ∷ 32 ∷ []) (Sym y.Assign) = over_spaced src p2 y.Assign _ e2 refl in
      let c : Over src p3 (45 ∷ []) (Sym y.Sub) = over_symbol src p3 y.Sub _ e3 (quiet 45 _ (λ r. refl)) in
      let u : Over src p4 (decimal (suc m)) (Number (pos (suc m))) = over_number p4 (suc m) _ e4 (omega (arith, k)) refl in
      let q : Over src p5 (59 ∷ 10 ∷ []) (Sym y.Semi) = semi p5 rest e5 in
      record {
        tokens = t.token ∷ a.token ∷ o.token ∷ c.token ∷ u.token ∷ q.token ∷ [];
        tree = d.Var (ident src a.token) (neg_ℤ (pos (suc m)));
        way = rewritten src (sym (open4 word n.text (32 ∷ 61 ∷ 32 ∷ []) (45 ∷ decimal (suc m)) (59 ∷ 10 ∷ [])))
            (follows t.way (follows a.way (follows o.way (follows c.way (follows u.way q.way)))));
        is = g.minus t.is a.is o.is c.is u.is q.is;
        same = (a.same, refl);
      }

  read_array : (n : Ident) (v : ℤ) → IsName n → IsCount v → (front rest : List ℕ) → src ≡ front ++ (decl_text (d.Array n v) ++ rest) → ReadDecl (d.Array n v) front (decl_text (d.Array n v))
  read_array n (negsuc m) h k front rest f = absurd k
  read_array n (pos m) h k front rest f =
      let word : List ℕ = keyword w.Array ++ 32 ∷ [] in
      let e0 : src ≡ front ++ (word ++ (n.text ++ ((91 ∷ []) ++ (decimal m ++ ((93 ∷ []) ++ ((59 ∷ 10 ∷ []) ++ rest)))))) =
      f ∙ ap (λ (v : List ℕ). front ++ v) (open5 word n.text (91 ∷ []) (decimal m) (93 ∷ 59 ∷ 10 ∷ []) rest) in
      let p1 : List ℕ = front ++ word in
      let e1 = move src front word _ e0 in
      let p2 : List ℕ = p1 ++ n.text in
      let e2 = move src p1 n.text _ e1 in
      let p3 : List ℕ = p2 ++ 91 ∷ [] in
      let e3 = move src p2 (91 ∷ []) _ e2 in
      let p4 : List ℕ = p3 ++ decimal m in
      let e4 = move src p3 (decimal m) _ e3 in
      let p5 : List ℕ = p4 ++ 93 ∷ [] in
      let e5 = move src p4 (93 ∷ []) _ e4 in
      let t : Over src front word (Word w.Array) = word_of_blank front w.Array _ e0 in
      let a : Named src n p1 = named src n h p1 _ e1 refl in
      let o : Over src p2 (91 ∷ []) (Sym y.LBracket) = over_symbol src p2 y.LBracket _ e2 (quiet 91 _ (λ r. refl)) in
      let u : Over src p3 (decimal m) (Number (pos m)) = over_number p3 m _ e3 k refl in
      let c : Over src p4 (93 ∷ []) (Sym y.RBracket) = over_symbol src p4 y.RBracket _ e4 refl in
      let q : Over src p5 (59 ∷ 10 ∷ []) (Sym y.Semi) = semi p5 rest e5 in
      record {
        tokens = t.token ∷ a.token ∷ o.token ∷ u.token ∷ c.token ∷ q.token ∷ [];
        tree = d.Array (ident src a.token) (pos m);
        way = rewritten src (sym (open4 word n.text (91 ∷ []) (decimal m) (93 ∷ 59 ∷ 10 ∷ [])))
            (follows t.way (follows a.way (follows o.way (follows u.way (follows c.way q.way)))));
        is = g.array t.is a.is o.is u.is c.is q.is;
        same = (a.same, refl);
      }

  read_decl : (x : Decl) → IsPlainDecl x → (front rest : List ℕ) → src ≡ front ++ (decl_text x ++ rest) → ReadDecl x front (decl_text x)
  read_decl (d.Var n v) h front rest f = read_var n v h.0 h.1 front rest f
  read_decl (d.Array n v) h front rest f = read_array n v h.0 h.1 front rest f

  read_decls : (xs : List Decl) → ArePlainDecls xs → (front rest : List ℕ) → src ≡ front ++ (joined (map decl_text xs) ++ rest) → ReadDecls xs front (joined (map decl_text xs))
  read_decls [] h front rest f = record { tokens = []; tree = []; way = nothing front; are = g.none; same = tt }
  read_decls (x ∷ xs) h front rest f =
      let f0 : src ≡ front ++ (decl_text x ++ (joined (map decl_text xs) ++ rest)) = f ∙ ap (λ (v : List ℕ). front ++ v) (append_assoc (decl_text x) (joined (map decl_text xs)) rest) in
      let a : ReadDecl x front (decl_text x) = read_decl x h.0 front _ f0 in
      let b : ReadDecls xs (front ++ decl_text x) (joined (map decl_text xs)) = read_decls xs h.1 (front ++ decl_text x) rest (move src front (decl_text x) _ f0) in
      record { tokens = a.tokens ++ b.tokens; tree = a.tree ∷ b.tree; way = follows a.way b.way; are = g.more a.is b.are; same = (a.same, b.same) }

-- the text of a plain tree is read as the same tree
pub read_again : (p : Program) → IsPlain p → IsReadAgain p
unfolding BodyReadable
read_again p h =
    let src : List ℕ = program_text p in
    let ds : List ℕ = joined (map decl_text p.decls) in
    let bs : List ℕ = body_text p.body in
    let a : ReadDecls src p.decls [] ds = read_decls src p.decls h.decls [] bs refl in
    let b : ReadBody src p.body ds bs = read_body src h.body ds [] (ap (λ (v : List ℕ). ds ++ v) (sym (append-nil bs))) in
    let whole : Way src [] (ds ++ bs) (a.tokens ++ b.tokens) = follows a.way b.way in
    let P : List Token → Type 0 = Spells src 0 in
    let spells : Spells src 0 (a.tokens ++ b.tokens) = subst P (append-nil (a.tokens ++ b.tokens)) (whole.leads [] done) in
    record {
      tokens = a.tokens ++ b.tokens;
      tree = record { decls = a.tree; body = b.tree };
      spells = spells;
      allowed = whole.allowed;
      limits = h.limits (a.tokens ++ b.tokens) spells;
      derives = record { front = a.tokens; back = b.tokens; split = refl; decls = a.are; body = b.is };
      same = record { decls = a.same; body = b.same };
    }
