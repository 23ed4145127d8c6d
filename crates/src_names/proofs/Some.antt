-- A plain tree is named by a program, or it has a first fault.
use Rattle.std.proofs.Common.{◌≡◌, ◌≢◌, ◌⊎◌, inl, inr, ℕ, ◌+◌, ◌-◌, ◌<◌, ◌≤◌, pos, negsuc, Bool, true, false, List, [], ◌∷◌, ◌++◌, length, Option, Some, None, refl, ap, sym, ◌∙◌, subst, arith, append_assoc}
use Rattle.std.specs.Prelude.{slice_get}
use Rattle.std.proofs.lemmas.List.{append-nil}
use Rattle.std.proofs.lemmas.Bool.Decides.{leb_tells}
use Rattle.std.proofs.lemmas.Int.{ints}
use Rattle.bm_base.specs.declared.names.Kind.{Kind}
use Rattle.bm_base.specs.declared.names.Kind.TheVariants as k
use Rattle.bm_base.specs.Entry.{Entry}
use Rattle.bm_base.specs.Names.{place_of, has_room, AreInRange}
use Rattle.src_tree.specs.declared.tree.Ident.{Ident}
use Rattle.src_tree.specs.declared.tree.Expr.{Expr}
use Rattle.src_tree.specs.declared.tree.Expr.TheVariants as e
use Rattle.src_tree.specs.declared.tree.Stmt.{Stmt}
use Rattle.src_tree.specs.declared.tree.Decl.{Decl}
use Rattle.src_tree.specs.declared.tree.Decl.TheVariants as d
use Rattle.src_tree.specs.declared.tree.Program.{Program}
use Rattle.src_tree.specs.Plain.{IsPlainExpr, IsPlainStmt, IsPlainBody, IsPlainDecl, ArePlainDecls}
use Rattle.src_tree.specs.Plain as p
use Rattle.src_tree.specs.Laws.{HasPlainParts}
use Rattle.src_names.specs.declared.resolved.RExpr.{RExpr}
use Rattle.src_names.specs.declared.resolved.RExpr.TheVariants as re
use Rattle.src_names.specs.declared.resolved.RStmt.{RStmt}
use Rattle.src_names.specs.declared.resolved.RStmt.TheVariants as rs
use Rattle.src_names.specs.declared.fault.NameFault.{NameFault}
use Rattle.src_names.specs.declared.fault.NameFault.TheVariants as f
use Rattle.src_names.specs.Declarations.{AreDeclared, IsNamedWell, name_of}
use Rattle.src_names.specs.Declarations as a
use Rattle.src_names.specs.Named.{IsVar, IsArray, NamedExpr, NamedStmt, NamedBody}
use Rattle.src_names.specs.Named as n
use Rattle.src_names.specs.Fault.{Use, Plain, Indexed, uses, stmt_uses, body_uses, UseFault, DeclFault, DeclsFault}
use Rattle.src_names.specs.Fault as t
use Rattle.src_names.specs.Stops.{Stops}
use Rattle.src_names.specs.Stops as w
use Rattle.src_names.specs.Adding.{kind_of, size_of}
use Rattle.src_names.specs.Laws.{Answer, program, fault}
use Rattle.src_names.proofs.Find.{placed, absent}
use Rattle.src_names.proofs.Declaring.{decl_at, added, range_more, size_fault, declared_at, nothing}
use Rattle.src_names.proofs.Wrong.{var_name, element_name, element_index, one_operand, two_left, two_right, assign_name, assign_value, set_name, set_index, set_value, print_value, if_cond, if_yes, if_no, while_cond, while_body, body_first, body_rest}
use Rattle.src_names.proofs.Whole.{body_fault, is_named}

module _ (es : List Entry) where
  -- how a name is declared
  data Looked (m : Ident) : Type 0 where
    free : t.IsFree es m → Looked m
    as_var : (id : ℕ) → IsVar es m id → Looked m
    as_array : (id : ℕ) → IsArray es m id → Looked m

  looked_kind : (m : Ident) (id : ℕ) (kind : Kind) → slice_get es id ≡ Some (record { name = m.text; kind = kind }) → Looked m
  looked_kind m id (k.Var v) h = as_var id (record { initial = v; here = h })
  looked_kind m id (k.Array len) h = as_array id (record { len = len; here = h })

  looked_at : (m : Ident) (o : Option ℕ) → place_of m.text es ≡ o → Looked m
  looked_at m None h = free (absent m es h)
  looked_at m (Some id) h =
      let x = placed m.text es id h in
      let entry : x.entry ≡ record { name = m.text; kind = x.entry.kind } = ap (λ z. record { name = z; kind = x.entry.kind }) (sym x.same) in
      looked_kind m id x.entry.kind (x.here ∙ ap (λ z. Some z) entry)

  looked : (m : Ident) → Looked m
  looked m = looked_at m (place_of m.text es) refl

  -- the number of a name as it is used, or the fault of the use
  data Number (m : Ident) (u : Use) (Is : ℕ → Type 0) : Type 0 where
    number : (id : ℕ) → Is id → Number m u Is
    wrong : (x : NameFault) → UseFault es u x → (x ≢ f.Memory) → Number m u Is

  variable : (m : Ident) → Looked m → Number m (Plain m) (IsVar es m)
  variable m (free h) = wrong (f.Unknown m.at) (t.unknown h) (λ z. cc)
  variable m (as_var id h) = number id h
  variable m (as_array id h) = wrong (f.NotScalar m.at) (t.not_variable (record { id = id; len = h.len; here = h.here })) (λ z. cc)

  array : (m : Ident) → Looked m → Number m (Indexed m) (IsArray es m)
  array m (free h) = wrong (f.Unknown m.at) (t.unknown_array h) (λ z. cc)
  array m (as_var id h) = wrong (f.NotArray m.at) (t.not_array (record { id = id; initial = h.initial; here = h.here })) (λ z. cc)
  array m (as_array id h) = number id h

  data Out (us : List Use) (A : Type 0) (Is : A → Type 0) : Type 0 where
    named : (x : A) → Is x → Out us A Is
    stops : (x : NameFault) → Stops es us x → (x ≢ f.Memory) → Out us A Is

  -- a part stops the whole; a part that is named goes on
  then : {A B : Type 0} {Is : A → Type 0} {Js : B → Type 0} {us vs : List Use} → Out us A Is → ((x : NameFault) → Stops es us x → Stops es vs x) → ((x : A) → Is x → Out vs B Js) → Out vs B Js
  then (named x h) left right = right x h
  then (stops x h n) left right = stops x (left x h) n

  after : {B : Type 0} {Js : B → Type 0} {m : Ident} {u : Use} {Is : ℕ → Type 0} {vs : List Use} → Number m u Is → ((x : NameFault) → UseFault es u x → Stops es vs x) → ((id : ℕ) → Is id → Out vs B Js) → Out vs B Js
  after (number id h) left right = right id h
  after (wrong x h n) left right = stops x (left x h) n

  name_expr : {x : Expr} → IsPlainExpr x → Out (uses x) RExpr (NamedExpr es x)
  name_expr (p.number {v = v} h) = named (re.Number v) n.number
  name_expr (p.var {n = m} h) = after (variable m (looked m)) (var_name es m) (λ id v. named (re.Var id) (n.var v))
  name_expr (p.element {n = m} {i = i} h g) =
      after (array m (looked m)) (element_name es m i) (λ id v.
      then (name_expr g) (λ x z. element_index es m id i x v z) (λ y q. named (re.Element id y) (n.element v q)))
  name_expr (p.one {op = op} {a = x} g) = then (name_expr g) (one_operand es op x) (λ y q. named (re.One op y) (n.one q))
  name_expr (p.two {op = op} {a = x} {b = z} g h) =
      then (name_expr g) (two_left es op x z) (λ y q.
      then (name_expr h) (λ v o. two_right es op x z y v q o) (λ u r. named (re.Two op y u) (n.two q r)))

  mutual
    name_stmt : {x : Stmt} → IsPlainStmt x → Out (stmt_uses x) RStmt (NamedStmt es x)
    name_stmt (p.assign {n = m} {x = x} h g) =
        after (variable m (looked m)) (assign_name es m x) (λ id v.
        then (name_expr g) (λ y z. assign_value es m id x y v z) (λ y q. named (rs.Assign id y) (n.assign v q)))
    name_stmt (p.set {n = m} {i = i} {x = x} h g o) =
        after (array m (looked m)) (set_name es m i x) (λ id v.
        then (name_expr g) (λ y z. set_index es m id i x y v z) (λ j q.
        then (name_expr o) (λ y z. set_value es m id i x j y v q z) (λ y r. named (rs.SetElement id j y) (n.set v q r))))
    name_stmt (p.print {x = x} g) = then (name_expr g) (print_value es x) (λ y q. named (rs.Print y) (n.print q))
    name_stmt (p.choose {c = x} {ys = us} {ns = vs} g h o) =
        then (name_expr g) (if_cond es x us vs) (λ y q.
        then (name_body h) (λ z i. if_yes es x us vs y z q i) (λ ks r.
        then (name_body o) (λ z i. if_no es x us vs y ks z q r i) (λ ls l. named (rs.If y ks ls) (n.choose q r l))))
    name_stmt (p.repeat {c = x} {body = us} g h) =
        then (name_expr g) (while_cond es x us) (λ y q.
        then (name_body h) (λ z i. while_body es x us y z q i) (λ ks r. named (rs.While y ks) (n.repeat q r)))

    name_body : {us : List Stmt} → IsPlainBody us → Out (body_uses us) (List RStmt) (NamedBody es us)
    name_body p.none = named [] n.none
    name_body (p.more {st = u} {body = us} g h) =
        then (name_stmt g) (body_first es u us) (λ z q.
        then (name_body h) (λ x i. body_rest es u z us x q i) (λ zs r. named (z ∷ zs) (n.more q r)))

-- the names of declarations, or their first fault
data Names (ds : List Decl) : Type 0 where
  names : (es : List Entry) → AreDeclared ds es → AreInRange es → Names ds
  bad : {x : NameFault} → DeclsFault ds x → Names ds

pub named_well : (x : Decl) → IsPlainDecl x → IsNamedWell x
named_well (d.Var m v) h = h.0
named_well (d.Array m (pos len)) h = (h.0, omega (arith, ints))
named_well (d.Array m (negsuc len)) h = absurd (h.1)

module _ (ds : List Decl) where
  fault_at : (front back : List Decl) (x : Decl) (es : List Entry) (e : NameFault) → ds ≡ front ++ (x ∷ back) → AreDeclared front es → AreInRange es → DeclFault front es x e → Names ds
  fault_at front back x es e split g range h = bad (record { front = front; here = x; back = back; names = es; split = split; declared = g; range = range; wrong = h })

  twice_at : (front back : List Decl) (x : Decl) (es : List Entry) (id : ℕ) → ds ≡ front ++ (x ∷ back) → AreDeclared front es → AreInRange es → place_of (name_of x).text es ≡ Some id → Names ds
  twice_at front back x es id split g range h =
      let y = placed (name_of x).text es id h in
      let z = decl_at g id y.entry y.here in
      let at = declared_at g (name_of x) id (name_of z.decl).at z.decl h z.here refl in
      fault_at front back x es (f.Twice (name_of x).at (name_of z.decl).at) split g range (t.twice at)

  room_at : (front back : List Decl) (x : Decl) (es : List Entry) → ds ≡ front ++ (x ∷ back) → AreDeclared front es → AreInRange es → IsNamedWell x → place_of (name_of x).text es ≡ None →
      ((fs : List Entry) → AreDeclared (front ++ x ∷ []) fs → AreInRange fs → Names ds) → (b : Bool) → has_room (kind_of x) es ≡ b → Names ds
  room_at front back x es split g range w h rest false q = fault_at front back x es (f.ArraySize (name_of x).at (size_of x)) split g range (size_fault front es x w h q)
  room_at front back x es split g range w h rest true q =
      rest (es ++ record { name = (name_of x).text; kind = kind_of x } ∷ []) (added g x w q refl) (range_more es (name_of x) (kind_of x) range h q)

  place_at : (front back : List Decl) (x : Decl) (es : List Entry) → ds ≡ front ++ (x ∷ back) → AreDeclared front es → AreInRange es → IsNamedWell x →
      ((fs : List Entry) → AreDeclared (front ++ x ∷ []) fs → AreInRange fs → Names ds) → (o : Option ℕ) → place_of (name_of x).text es ≡ o → Names ds
  place_at front back x es split g range w rest (Some id) h = twice_at front back x es id split g range h
  place_at front back x es split g range w rest None h = room_at front back x es split g range w h rest (has_room (kind_of x) es) refl

  walk : (back front : List Decl) (es : List Entry) → ds ≡ front ++ back → ArePlainDecls back → AreDeclared front es → AreInRange es → Names ds
  walk [] front es split w g range = let P : List Decl → Type 0 = λ l. AreDeclared l es in names es (subst P (sym (split ∙ append-nil front)) g) range
  walk (x ∷ back) front es split w g range =
      place_at front back x es split g range (named_well x w.0)
      (λ fs h r. walk back (front ++ x ∷ []) fs (split ∙ sym (append_assoc front (x ∷ []) back)) w.1 h r)
      (place_of (name_of x).text es) refl

module _ (q : Program) where
  body_of : (es : List Entry) → length q.decls ≤ 1024 → AreDeclared q.decls es → AreInRange es → Out es (body_uses q.body) (List RStmt) (NamedBody es q.body) → Answer q
  body_of es few g range (named zs h) = program (is_named q es zs few g range h)
  body_of es few g range (stops x h m) = fault (body_fault q es x few g range h m)

  names_of : length q.decls ≤ 1024 → IsPlainBody q.body → Names q.decls → Answer q
  names_of few w (names es g range) = body_of es few g range (name_body es w)
  names_of few w (bad h) = fault (t.decls few h)

  at_most : (i j : ℕ) → (i ≤ j) ⊎ (j < i)
  at_most i j = elim (leb_tells i j) [ inl h ↦ inl h.1 | inr h ↦ inr h.1 ]

  pub some : HasPlainParts q → Answer q
  some w = elim (at_most (length q.decls) 1024) [
    | inl few ↦ names_of few w.body (walk q.decls q.decls [] [] refl w.decls a.none nothing)
    | inr many ↦ fault (t.many many)
  ]
