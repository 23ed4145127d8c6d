-- Generated programs are named.
use Rattle.std.proofs.Common.{◌≡◌, ℕ, zero, suc, ◌+◌, ◌-◌, ◌<◌, pos, List, [], ◌∷◌, ◌++◌, nat_eq, Option, Some, None, refl, ap, sym, ◌∙◌, if◌then◌else◌, arith}
use Rattle.std.specs.Prelude.{slice_get}
use Rattle.bm_base.specs.Entry.{Entry}
use Rattle.bm_base.specs.Names.{AreInRange}
use Rattle.bm_base.specs.declared.names.Kind.TheVariants as kind
use Rattle.src_tree.specs.declared.tree.Expr.{Expr}
use Rattle.src_tree.specs.declared.tree.Stmt.{Stmt}
use Rattle.src_names.specs.declared.resolved.RExpr.{RExpr}
use Rattle.src_names.specs.declared.resolved.RExpr.TheVariants as re
use Rattle.src_names.specs.declared.resolved.RStmt.{RStmt}
use Rattle.src_names.specs.declared.resolved.RStmt.TheVariants as rs
use Rattle.src_names.specs.Declarations.{AreDeclared}
use Rattle.src_names.specs.Declarations as a
use Rattle.src_names.specs.Named.{IsVar, IsArray, NamedExpr, NamedBody}
use Rattle.src_names.specs.Named as n
use Rattle.soak_text.specs.Generator as g
use Rattle.soak_text.specs.GeneratorLaws.{HasProgram}
use Rattle.soak_text.proofs.Shapes.{IsIndex, IsDrawn, IsItem, AreItems, body_drawn, test_of, next_of}
use Rattle.soak_text.proofs.Shapes as h

abbrev variable : ℕ → ℕ → Entry
variable k v = record { name = (g.v k).text; kind = kind.Var (pos v) }

abbrev array : ℕ → Entry
array k = record { name = (g.a k).text; kind = kind.Array 16 }

abbrev count : ℕ → Entry
count k = record { name = (g.l k).text; kind = kind.Var (pos 0) }

abbrev names : List Entry
names =
    variable 0 1 ∷ variable 1 2 ∷ variable 2 3 ∷ variable 3 4 ∷ variable 4 5 ∷ variable 5 6 ∷ variable 6 7 ∷ variable 7 8 ∷
    array 0 ∷ array 1 ∷ count 0 ∷ count 1 ∷ []

declared : AreDeclared g.decls names
declared = a.var (a.var (a.var (a.var (a.var (a.var (a.var (a.var (a.array (omega arith) (a.array (omega arith) (a.var (a.var a.none)))))))))))

-- the number of a name, by its bytes
abbrev number_of : List ℕ → ℕ
number_of (c ∷ k ∷ []) = if nat_eq c 118 then k - 48 else (if nat_eq c 97 then k - 40 else k - 38)
number_of _ = 0

abbrev number_at : Option Entry → ℕ
number_at (Some x) = number_of x.name
number_at None = 0

is_number : (i : ℕ) (x : Entry) → slice_get names i ≡ Some x → number_of x.name ≡ i
is_number zero x q = sym (ap number_at q)
is_number (suc zero) x q = sym (ap number_at q)
is_number (suc (suc zero)) x q = sym (ap number_at q)
is_number (suc (suc (suc zero))) x q = sym (ap number_at q)
is_number (suc (suc (suc (suc zero)))) x q = sym (ap number_at q)
is_number (suc (suc (suc (suc (suc zero))))) x q = sym (ap number_at q)
is_number (suc (suc (suc (suc (suc (suc zero)))))) x q = sym (ap number_at q)
is_number (suc (suc (suc (suc (suc (suc (suc zero))))))) x q = sym (ap number_at q)
is_number (suc (suc (suc (suc (suc (suc (suc (suc zero)))))))) x q = sym (ap number_at q)
is_number (suc (suc (suc (suc (suc (suc (suc (suc (suc zero))))))))) x q = sym (ap number_at q)
is_number (suc (suc (suc (suc (suc (suc (suc (suc (suc (suc zero)))))))))) x q = sym (ap number_at q)
is_number (suc (suc (suc (suc (suc (suc (suc (suc (suc (suc (suc zero))))))))))) x q = sym (ap number_at q)
is_number (suc (suc (suc (suc (suc (suc (suc (suc (suc (suc (suc (suc i)))))))))))) x q = let no : ⊥ = cc in absurd no

range : AreInRange names
range = record { room = omega arith; once = λ i j x y q r e. sym (is_number i x q) ∙ ap number_of e ∙ is_number j y r }

is_var : (k : ℕ) → k < 8 → IsVar names (g.v k) k
is_var zero b = record { initial = pos 1; here = refl }
is_var (suc zero) b = record { initial = pos 2; here = refl }
is_var (suc (suc zero)) b = record { initial = pos 3; here = refl }
is_var (suc (suc (suc zero))) b = record { initial = pos 4; here = refl }
is_var (suc (suc (suc (suc zero)))) b = record { initial = pos 5; here = refl }
is_var (suc (suc (suc (suc (suc zero))))) b = record { initial = pos 6; here = refl }
is_var (suc (suc (suc (suc (suc (suc zero)))))) b = record { initial = pos 7; here = refl }
is_var (suc (suc (suc (suc (suc (suc (suc zero))))))) b = record { initial = pos 8; here = refl }
is_var (suc (suc (suc (suc (suc (suc (suc (suc k)))))))) b = absurd (omega (arith, b))

is_array : (k : ℕ) → k < 2 → IsArray names (g.a k) (8 + k)
is_array zero b = record { len = 16; here = refl }
is_array (suc zero) b = record { len = 16; here = refl }
is_array (suc (suc k)) b = absurd (omega (arith, b))

is_count : (k : ℕ) → k < 2 → IsVar names (g.l k) (10 + k)
is_count zero b = record { initial = pos 0; here = refl }
is_count (suc zero) b = record { initial = pos 0; here = refl }
is_count (suc (suc k)) b = absurd (omega (arith, b))

record NamesExpr (x : Expr) : Type 0 where
  named : RExpr
  is : NamedExpr names x named

names_index : {x : Expr} → IsIndex x → NamesExpr x
names_index (h.number {k = k} b) = record { named = re.Number (pos k); is = n.number }
names_index (h.var {k = k} b) = record { named = re.Var k; is = n.var (is_var k b) }

names_expr : {m : ℕ} {x : Expr} → IsDrawn m x → NamesExpr x
names_expr (h.number {k = k} b) = record { named = re.Number (pos k); is = n.number }
names_expr (h.var {k = k} b) = record { named = re.Var k; is = n.var (is_var k b) }
names_expr (h.element {k = k} b i) = let j = names_index i in record { named = re.Element (8 + k) j.named; is = n.element (is_array k b) j.is }
names_expr (h.one {op = op} x) = let r = names_expr x in record { named = re.One op r.named; is = n.one r.is }
names_expr (h.two {op = op} x z) =
    let r = names_expr x in
    let q = names_expr z in
    record { named = re.Two op r.named q.named; is = n.two r.is q.is }

record NamesBody (xs : List Stmt) : Type 0 where
  named : List RStmt
  is : NamedBody names xs named

append : {us vs : List Stmt} {zs ws : List RStmt} → NamedBody names us zs → NamedBody names vs ws → NamedBody names (us ++ vs) (zs ++ ws)
append n.none w = w
append (n.more s b) w = n.more s (append b w)

mutual
  names_item : {m : ℕ} {xs : List Stmt} → IsItem m xs → NamesBody xs
  names_item (h.assign {k = k} b x) = let r = names_expr x in record { named = rs.Assign k r.named ∷ []; is = n.more (n.assign (is_var k b) r.is) n.none }
  names_item (h.set {k = k} b i x) =
      let j = names_index i in
      let r = names_expr x in
      record { named = rs.SetElement (8 + k) j.named r.named ∷ []; is = n.more (n.set (is_array k b) j.is r.is) n.none }
  names_item (h.print x) = let r = names_expr x in record { named = rs.Print r.named ∷ []; is = n.more (n.print r.is) n.none }
  names_item (h.choose c a us b vs) =
      let r = names_expr c in
      let u = names_items us in
      let v = names_items vs in
      record { named = rs.If r.named u.named v.named ∷ []; is = n.more (n.choose r.is u.is v.is) n.none }
  names_item (h.repeat {j = j} {k = k} b a c us) =
      let u = names_items us in
      let i = is_count k b in
      record {
        named = rs.Assign (10 + k) (re.Number (pos 0)) ∷ rs.While _ (u.named ++ rs.Assign (10 + k) _ ∷ []) ∷ [];
        is = n.more (n.assign i n.number)
            (n.more (n.repeat (n.two (n.var i) n.number) (append u.is (n.more (n.assign i (n.two (n.var i) n.number)) n.none))) n.none);
      }

  names_items : {m k : ℕ} {xs : List Stmt} → AreItems m k xs → NamesBody xs
  names_items h.none = record { named = []; is = n.none }
  names_items (h.more us x) =
      let u = names_items us in
      let r = names_item x in
      record { named = u.named ++ r.named; is = append u.is r.is }

pub named : (seed statements : ℕ) → HasProgram (g.generated seed statements)
named seed statements =
    let b = names_items (body_drawn seed statements) in
    record { program = record { names = names; body = b.named }; is = record { few = omega arith; declared = declared; range = range; body = b.is } }
