-- A tree has at most one first fault, and one that is named has none.
use Rattle.std.proofs.Common.{◌≡◌, ◌⊎◌, ℕ, zero, suc, ◌+◌, ◌-◌, ◌^◌, ◌<◌, ◌≤◌, min, pos, negsuc, List, [], ◌∷◌, ◌++◌, length, Some, refl, ap, sym, subst, ◌∙◌, arith, inl, inr}
use Rattle.std.specs.Prelude.{slice_get, sum_by}
use Rattle.std.proofs.lemmas.Option.{slice_get_within}
use Rattle.std.proofs.lemmas.List.Sums.{sum_by-append, sum_by-cons}
use Rattle.bm_base.specs.declared.names.Kind.TheVariants as k
use Rattle.bm_base.specs.Entry.{Entry}
use Rattle.bm_base.specs.Names.{element_total, elements_of, AreInRange}
use Rattle.src_tree.specs.declared.tree.Ident.{Ident}
use Rattle.src_tree.specs.declared.tree.Decl.{Decl}
use Rattle.src_tree.specs.declared.tree.Decl.TheVariants as d
use Rattle.src_tree.specs.declared.tree.Program.{Program}
use Rattle.src_names.specs.declared.fault.NameFault.{NameFault}
use Rattle.src_names.specs.declared.fault.NameFault.TheVariants as f
use Rattle.src_names.specs.RProgram.{RProgram}
use Rattle.src_names.specs.Declarations.{AreDeclared, name_of}
use Rattle.src_names.specs.Declarations as a
use Rattle.src_names.specs.Named.{IsNamed}
use Rattle.src_names.specs.Fault.{Use, Plain, Indexed, body_uses, AsVar, AsArray, IsFree, IsRightUse, AreRightUses, UseFault, UsesFault, DeclaredAt, DeclFault, DeclsFault, Faults}
use Rattle.src_names.specs.Fault as t
use Rattle.src_names.proofs.Declaring.{length_declared}
use Rattle.src_names.proofs.Uses.{right_body}
use Rattle.src_names.proofs.Unique.{Declared, declared, one_declared}

-- two ways to split one list
data Aligned {A : Type 0} (b c g h : List A) : Type 0 where
  same : b ≡ g → c ≡ h → Aligned b c g h
  shorter : (x : A) (xs : List A) → g ≡ b ++ (x ∷ xs) → c ≡ x ∷ (xs ++ h) → Aligned b c g h
  longer : (x : A) (xs : List A) → b ≡ g ++ (x ∷ xs) → h ≡ x ∷ (xs ++ c) → Aligned b c g h

aligned_more : {A : Type 0} {b c g h : List A} (x z : A) → x ≡ z → Aligned b c g h → Aligned (x ∷ b) c (z ∷ g) h
aligned_more {b = b} {g = g} x z e (same p q) = let r : x ∷ b ≡ z ∷ g = cc in same r q
aligned_more {b = b} {g = g} x z e (shorter y ys p q) = let r : z ∷ g ≡ (x ∷ b) ++ (y ∷ ys) = ap (λ w. w ∷ g) (sym e) ∙ ap (λ w. x ∷ w) p in shorter y ys r q
aligned_more {b = b} {g = g} x z e (longer y ys p q) = let r : x ∷ b ≡ (z ∷ g) ++ (y ∷ ys) = ap (λ w. w ∷ b) e ∙ ap (λ w. z ∷ w) p in longer y ys r q

align : {A : Type 0} (b c g h : List A) → b ++ c ≡ g ++ h → Aligned b c g h
align [] c [] h e = same refl e
align [] c (x ∷ g) h e = shorter x g refl e
align (x ∷ b) c [] h e = longer x b refl (sym e)
align (x ∷ b) c (z ∷ g) h e = let first : x ≡ z = cc in let rest : b ++ c ≡ g ++ h = cc in aligned_more x z first (align b c g h rest)

module _ (es : List Entry) (range : AreInRange es) where
  free_var : (m : Ident) → IsFree es m → AsVar es m → ⊥
  free_var m g v = g.none v.id (record { name = m.text; kind = k.Var v.initial }) v.here refl

  free_array : (m : Ident) → IsFree es m → AsArray es m → ⊥
  free_array m g v = g.none v.id (record { name = m.text; kind = k.Array v.len }) v.here refl

  var_array : (m : Ident) → AsVar es m → AsArray es m → ⊥
  var_array m v w =
      let one : v.id ≡ w.id = range.once v.id w.id (record { name = m.text; kind = k.Var v.initial }) (record { name = m.text; kind = k.Array w.len }) v.here w.here refl in
      let v_entry : Entry = record { name = m.text; kind = k.Var v.initial } in
      let w_entry : Entry = record { name = m.text; kind = k.Array w.len } in
      let both : Some v_entry ≡ Some w_entry = sym v.here ∙ ap (slice_get es) one ∙ w.here in
      let entries : v_entry ≡ w_entry = cc in
      let kinds : k.Var v.initial ≡ k.Array w.len = ap (λ (x : Entry). x.kind) entries in
      cc

  right_or_wrong : {u : Use} {x : NameFault} → UseFault es u x → IsRightUse es u → ⊥
  right_or_wrong (t.unknown {n = m} g) r = free_var m g r
  right_or_wrong (t.not_variable {n = m} g) r = var_array m r g
  right_or_wrong (t.unknown_array {n = m} g) r = free_array m g r
  right_or_wrong (t.not_array {n = m} g) r = var_array m g r

  -- the fault of a use, by how its name is declared
  abbrev Known : Use → NameFault → Type 0
  Known (Plain m) x = (IsFree es m × (x ≡ f.Unknown m.at)) ⊎ (AsArray es m × (x ≡ f.NotScalar m.at))
  Known (Indexed m) x = (IsFree es m × (x ≡ f.Unknown m.at)) ⊎ (AsVar es m × (x ≡ f.NotArray m.at))

  known : {u : Use} {x : NameFault} → UseFault es u x → Known u x
  known (t.unknown g) = inl (g, refl)
  known (t.not_variable g) = inr (g, refl)
  known (t.unknown_array g) = inl (g, refl)
  known (t.not_array g) = inr (g, refl)

  one_known : (u : Use) (x z : NameFault) → Known u x → Known u z → x ≡ z
  one_known (Plain m) x z (inl v) (inl w) = v.1 ∙ sym w.1
  one_known (Plain m) x z (inl v) (inr w) = absurd (free_array m v.0 w.0)
  one_known (Plain m) x z (inr v) (inl w) = absurd (free_array m w.0 v.0)
  one_known (Plain m) x z (inr v) (inr w) = v.1 ∙ sym w.1
  one_known (Indexed m) x z (inl v) (inl w) = v.1 ∙ sym w.1
  one_known (Indexed m) x z (inl v) (inr w) = absurd (free_var m v.0 w.0)
  one_known (Indexed m) x z (inr v) (inl w) = absurd (free_var m w.0 v.0)
  one_known (Indexed m) x z (inr v) (inr w) = v.1 ∙ sym w.1

  right_back : (us vs : List Use) → AreRightUses es (us ++ vs) → AreRightUses es vs
  right_back [] vs r = r
  right_back (u ∷ us) vs r = right_back us vs r.1

  no_wrong : (us : List Use) (x : NameFault) → AreRightUses es us → UsesFault es us x → ⊥
  no_wrong us x r w =
      let P : List Use → Type 0 = AreRightUses es in
      let q = right_back w.front (w.here ∷ w.back) (subst P w.split r) in
      right_or_wrong w.wrong q.0

  -- the front of a list of uses whose next is wrong is not right and longer
  one_aligned : {us : List Use} {x z : NameFault} (v : UsesFault es us x) (w : UsesFault es us z) → Aligned v.front (v.here ∷ v.back) w.front (w.here ∷ w.back) → x ≡ z
  one_aligned {x = x} {z = z} v w (same p q) =
      let here : v.here ≡ w.here = cc in
      one_known w.here x z (let P : Use → Type 0 = λ u. Known u x in subst P here (known v.wrong)) (known w.wrong)
  one_aligned v w (shorter u us p q) =
      let here : v.here ≡ u = cc in
      let P : List Use → Type 0 = AreRightUses es in
      let r = right_back v.front (u ∷ us) (subst P p w.right) in
      let Q : Use → Type 0 = IsRightUse es in
      absurd (right_or_wrong v.wrong (subst Q (sym here) r.0))
  one_aligned v w (longer u us p q) =
      let here : w.here ≡ u = cc in
      let P : List Use → Type 0 = AreRightUses es in
      let r = right_back w.front (u ∷ us) (subst P p v.right) in
      let Q : Use → Type 0 = IsRightUse es in
      absurd (right_or_wrong w.wrong (subst Q (sym here) r.0))

  one_wrong : {us : List Use} {x z : NameFault} → UsesFault es us x → UsesFault es us z → x ≡ z
  one_wrong v w = one_aligned v w (align v.front (v.here ∷ v.back) w.front (w.here ∷ w.back) (sym v.split ∙ w.split))

-- the entry that one declaration declares
abbrev EntryOf : Decl → Entry → Type 0
EntryOf (d.Var m v) e = e ≡ record { name = m.text; kind = k.Var v }
EntryOf (d.Array m (pos len)) e = (e ≡ record { name = m.text; kind = k.Array len }) × (0 < len)
EntryOf (d.Array m (negsuc len)) e = ⊥

entry_name : (x : Decl) (e : Entry) → EntryOf x e → e.name ≡ (name_of x).text
entry_name (d.Var m v) e h = ap (λ z. z.name) h
entry_name (d.Array m (pos len)) e h = ap (λ z. z.name) h.0
entry_name (d.Array m (negsuc len)) e h = absurd h

-- the names of declarations, in three parts
record Parts (front : List Decl) (x : Decl) (es : List Entry) : Type 0 where
  pub before : List Entry
  pub entry : Entry
  pub behind : List Entry
  pub split : es ≡ before ++ entry ∷ behind
  pub declared : AreDeclared front before
  pub here : EntryOf x entry

parts_first : (x : Decl) (back : List Decl) (es : List Entry) → Declared (x ∷ back) es → Parts [] x es
parts_first (d.Var m v) back es h = record { before = []; entry = record { name = m.text; kind = k.Var v }; behind = h.0; split = h.2; declared = a.none; here = refl }
parts_first (d.Array m (pos len)) back es h = record { before = []; entry = record { name = m.text; kind = k.Array len }; behind = h.0; split = h.2; declared = a.none; here = (refl, h.3) }
parts_first (d.Array m (negsuc len)) back es h = absurd h

parts : (front : List Decl) (x : Decl) (back : List Decl) (es : List Entry) → AreDeclared (front ++ x ∷ back) es → Parts front x es
parts [] x back es h = parts_first x back es (declared h)
parts (d.Var m v ∷ front) x back es h =
    let o : Declared (d.Var m v ∷ (front ++ x ∷ back)) es = declared h in
    let p = parts front x back o.0 o.1 in
    record {
      before = record { name = m.text; kind = k.Var v } ∷ p.before;
      entry = p.entry;
      behind = p.behind;
      split = o.2 ∙ ap (λ l. record { name = m.text; kind = k.Var v } ∷ l) p.split;
      declared = a.var p.declared;
      here = p.here;
    }
parts (d.Array m (pos len) ∷ front) x back es h =
    let o : Declared (d.Array m (pos len) ∷ (front ++ x ∷ back)) es = declared h in
    let p = parts front x back o.0 o.1 in
    record {
      before = record { name = m.text; kind = k.Array len } ∷ p.before;
      entry = p.entry;
      behind = p.behind;
      split = o.2 ∙ ap (λ l. record { name = m.text; kind = k.Array len } ∷ l) p.split;
      declared = a.array o.3 p.declared;
      here = p.here;
    }
parts (d.Array m (negsuc len) ∷ front) x back es h =
    let o : Declared (d.Array m (negsuc len) ∷ (front ++ x ∷ back)) es = declared h in
    absurd o

-- the entry of a declaration at a place
record EntryAt (es : List Entry) (id : ℕ) (x : Decl) : Type 0 where
  pub entry : Entry
  pub here : slice_get es id ≡ Some entry
  pub same : entry.name ≡ (name_of x).text

entry_at : {ds : List Decl} {es : List Entry} → AreDeclared ds es → (id : ℕ) (x : Decl) → slice_get ds id ≡ Some x → EntryAt es id x
entry_at a.none id x h = absurd (cc)
entry_at (a.var {n = m} {v = v} g) zero x h = let e : d.Var m v ≡ x = cc in record { entry = record { name = m.text; kind = k.Var v }; here = refl; same = ap (λ z. (name_of z).text) e }
entry_at (a.var g) (suc id) x h = let r = entry_at g id x h in record { entry = r.entry; here = r.here; same = r.same }
entry_at (a.array {n = m} {len = len} p g) zero x h = let e : d.Array m (pos len) ≡ x = cc in record { entry = record { name = m.text; kind = k.Array len }; here = refl; same = ap (λ z. (name_of z).text) e }
entry_at (a.array p g) (suc id) x h = let r = entry_at g id x h in record { entry = r.entry; here = r.here; same = r.same }

get_front : (xs ys : List Entry) (i : ℕ) (e : Entry) → slice_get xs i ≡ Some e → slice_get (xs ++ ys) i ≡ Some e
get_front [] ys i e h = absurd (cc)
get_front (x ∷ xs) ys zero e h = h
get_front (x ∷ xs) ys (suc i) e h = get_front xs ys i e h

get_here : (xs ys : List Entry) (e : Entry) → slice_get (xs ++ e ∷ ys) (length xs) ≡ Some e
get_here [] ys e = refl
get_here (x ∷ xs) ys e = get_here xs ys e

-- a declaration of names that are in range has no fault
no_twice : (front : List Decl) (x : Decl) (es : List Entry) (first : ℕ) → AreInRange es → Parts front x es → DeclaredAt front (name_of x) first → ⊥
no_twice front x es first range p h =
    let r = entry_at p.declared h.id h.decl h.here in
    let P : ℕ → Type 0 = λ i. (z : Entry) → slice_get (p.before ++ p.entry ∷ p.behind) i ≡ Some z → slice_get es i ≡ Some z in
    let here : slice_get es h.id ≡ Some r.entry = ap (λ l. slice_get l h.id) p.split ∙ get_front p.before (p.entry ∷ p.behind) h.id r.entry r.here in
    let there : slice_get es (length p.before) ≡ Some p.entry = ap (λ l. slice_get l (length p.before)) p.split ∙ get_here p.before p.behind p.entry in
    let names : r.entry.name ≡ p.entry.name = r.same ∙ h.same ∙ sym (entry_name x p.entry p.here) in
    let equal : h.id ≡ length p.before = range.once h.id (length p.before) r.entry p.entry here there names in
    let long : length front ≡ length p.before = length_declared p.declared in
    let within : h.id < length front = slice_get_within front h.id h.decl h.here in
    omega arith

total_of : (es before behind : List Entry) (m : Ident) (len : ℕ) → es ≡ before ++ record { name = m.text; kind = k.Array len } ∷ behind → element_total before + len ≤ element_total es
total_of es before behind m len e =
    let entry : Entry = record { name = m.text; kind = k.Array len } in
    let f : Entry → ℕ = λ z. elements_of z.kind in
    let step : sum_by f (entry ∷ behind) ≡ len + sum_by f behind = sum_by-cons f entry behind in
    rw (e, sum_by-append f before (entry ∷ behind)) (omega arith)

no_size : (front : List Decl) (m : Ident) (len : ℕ) (es : List Entry) (names : List Entry) → AreInRange es → Parts front (d.Array m (pos len)) es → AreDeclared front names → (len ≡ 0) ⊎ (1048576 < element_total names + len) → ⊥
no_size front m len es names range p g (inl e) = let q = p.here in omega (arith, q.1)
no_size front m len es names range p g (inr o) =
    let one : names ≡ p.before = one_declared g p.declared in
    let q = p.here in
    let split : es ≡ p.before ++ record { name = m.text; kind = k.Array len } ∷ p.behind = p.split ∙ ap (λ z. p.before ++ z ∷ p.behind) q.0 in
    let total = total_of es p.before p.behind m len split in
    let P : List Entry → Type 0 = λ l. 1048576 < element_total l + len in
    let over : 1048576 < element_total p.before + len = subst P one o in
    let room = range.room in
    omega arith

no_fault_at : {front : List Decl} {names : List Entry} {x : Decl} {z : NameFault} → DeclFault front names x z → (es : List Entry) → AreInRange es → AreDeclared front names → Parts front x es → ⊥
no_fault_at {front = front} (t.twice {x = x} {first = first} h) es range g p = no_twice front x es first range p h
no_fault_at {front = front} {names = names} (t.size {n = m} {len = len} n o) es range g p = no_size front m len es names range p g o

no_decls_fault : {ds : List Decl} {es : List Entry} {x : NameFault} → AreDeclared ds es → AreInRange es → DeclsFault ds x → ⊥
no_decls_fault {es = es} g range w =
    let P : List Decl → Type 0 = λ l. AreDeclared l es in
    no_fault_at w.wrong es range w.declared (parts w.front w.here w.back es (subst P w.split g))

-- what the fault of a declaration is
abbrev Told : List Decl → List Entry → Decl → NameFault → Type 0
Told front names x z = ((first : ℕ) × DeclaredAt front (name_of x) first × (z ≡ f.Twice (name_of x).at first)) ⊎ ((len : ℕ) × (m : Ident) × IsFree names m × (x ≡ d.Array m (pos len)) × (z ≡ f.ArraySize m.at (pos len)))

told : {front : List Decl} {names : List Entry} {x : Decl} {z : NameFault} → DeclFault front names x z → Told front names x z
told (t.twice {first = first} h) = inl (first, h, refl)
told (t.size {n = m} {len = len} n o) = inr (len, m, n, refl, refl)

module _ (front : List Decl) (names : List Entry) (g : AreDeclared front names) (range : AreInRange names) where
  one_first : (m : Ident) (i j : ℕ) → DeclaredAt front m i → DeclaredAt front m j → i ≡ j
  one_first m i j v w =
      let p = entry_at g v.id v.decl v.here in
      let q = entry_at g w.id w.decl w.here in
      let id : v.id ≡ w.id = range.once v.id w.id p.entry q.entry p.here q.here (p.same ∙ v.same ∙ sym (q.same ∙ w.same)) in
      let both : Some v.decl ≡ Some w.decl = sym v.here ∙ ap (slice_get front) id ∙ w.here in
      let decl : v.decl ≡ w.decl = cc in
      v.place ∙ ap (λ z. (name_of z).at) decl ∙ sym w.place

  free_declared : (m : Ident) (i : ℕ) → IsFree names m → DeclaredAt front m i → ⊥
  free_declared m i n v =
      let p = entry_at g v.id v.decl v.here in
      n.none v.id p.entry p.here (p.same ∙ v.same)

  one_told : (x : Decl) (y z : NameFault) → Told front names x y → Told front names x z → y ≡ z
  one_told x y z (inl v) (inl w) = v.2 ∙ ap (f.Twice (name_of x).at) (one_first (name_of x) v.0 w.0 v.1 w.1) ∙ sym w.2
  one_told x y z (inl v) (inr w) = absurd (let P : Decl → Type 0 = λ u. DeclaredAt front (name_of u) v.0 in free_declared w.1 v.0 w.2 (subst P w.3 v.1))
  one_told x y z (inr v) (inl w) = absurd (let P : Decl → Type 0 = λ u. DeclaredAt front (name_of u) w.0 in free_declared v.1 w.0 v.2 (subst P v.3 w.1))
  one_told x y z (inr v) (inr w) =
      let e : d.Array v.1 (pos v.0) ≡ d.Array w.1 (pos w.0) = sym v.3 ∙ w.3 in
      let m : v.1 ≡ w.1 = cc in
      let len : v.0 ≡ w.0 = cc in
      v.4 ∙ ap (λ u. f.ArraySize u.at (pos v.0)) m ∙ ap (λ u. f.ArraySize (w.1).at (pos u)) len ∙ sym w.4

moved : (b c : List Decl) (es fs : List Entry) (x z : Decl) (u : NameFault) → b ≡ c → es ≡ fs → x ≡ z → Told b es x u → Told c fs z u
moved b c es fs x z u p q r h =
    let P : List Decl → Type 0 = λ l. Told l es x u in
    let Q : List Entry → Type 0 = λ l. Told c l x u in
    let R : Decl → Type 0 = λ l. Told c fs l u in
    subst R r (subst Q q (subst P p h))

-- the front before a fault is not in range and longer
no_longer : {ds : List Decl} {x z : NameFault} (v : DeclsFault ds x) (w : DeclsFault ds z) (u : Decl) (us : List Decl) → w.front ≡ v.front ++ (u ∷ us) → v.here ≡ u → ⊥
no_longer {x = x} v w u us p e =
    let P : List Decl → Type 0 = λ l. AreDeclared l w.names in
    let Q : Decl → Type 0 = λ l. DeclFault v.front v.names l x in
    no_fault_at (subst Q e v.wrong) w.names w.range v.declared (parts v.front u us w.names (subst P p w.declared))

one_aligned_decl : {ds : List Decl} {x z : NameFault} (v : DeclsFault ds x) (w : DeclsFault ds z) → Aligned v.front (v.here ∷ v.back) w.front (w.here ∷ w.back) → x ≡ z
one_aligned_decl {x = x} {z = z} v w (same p q) =
    let here : v.here ≡ w.here = cc in
    let P : List Decl → Type 0 = λ l. AreDeclared l v.names in
    let names : v.names ≡ w.names = one_declared (subst P p v.declared) w.declared in
    one_told w.front w.names w.declared w.range w.here x z (moved v.front w.front v.names w.names v.here w.here x p names here (told v.wrong)) (told w.wrong)
one_aligned_decl v w (shorter u us p q) = absurd (no_longer v w u us p (cc))
one_aligned_decl v w (longer u us p q) = absurd (no_longer w v u us p (cc))

one_decls_fault : {ds : List Decl} {x z : NameFault} → DeclsFault ds x → DeclsFault ds z → x ≡ z
one_decls_fault v w = one_aligned_decl v w (align v.front (v.here ∷ v.back) w.front (w.here ∷ w.back) (sym v.split ∙ w.split))

-- what is named has no fault
pub no_fault : {p : Program} {x : NameFault} → Faults p x → (r : RProgram) → IsNamed p r → ⊥
no_fault (t.many h) r n = let long = length_declared n.declared in let few = n.few in omega arith
no_fault (t.decls few w) r n = no_decls_fault n.declared n.range w
no_fault {p = p} {x = x} (t.body names few g range w) r n =
    let one : names ≡ r.names = one_declared g n.declared in
    let P : List Entry → Type 0 = λ l. UsesFault l (body_uses p.body) x in
    no_wrong r.names n.range (body_uses p.body) x (right_body r.names n.body) (subst P one w)

when_many : {p : Program} {x : NameFault} → Faults p x → 1024 < length p.decls → f.TooManyNames (min (length p.decls) (2 ^ 32 - 1)) ≡ x
when_many (t.many g) h = refl
when_many (t.decls few w) h = absurd (omega arith)
when_many (t.body names few g range w) h = absurd (omega arith)

when_decls : {p : Program} {x z : NameFault} → Faults p x → length p.decls ≤ 1024 → DeclsFault p.decls z → z ≡ x
when_decls (t.many g) few h = absurd (omega arith)
when_decls (t.decls l w) few h = one_decls_fault h w
when_decls (t.body names l g range w) few h = absurd (no_decls_fault g range h)

when_body : {p : Program} {x z : NameFault} → Faults p x → (names : List Entry) → length p.decls ≤ 1024 → AreDeclared p.decls names → AreInRange names → UsesFault names (body_uses p.body) z → z ≡ x
when_body (t.many g) names few b range h = absurd (omega arith)
when_body (t.decls l w) names few b range h = absurd (no_decls_fault b range w)
when_body {p = p} {x = x} (t.body es l g r w) names few b range h =
    let one : es ≡ names = one_declared g b in
    let P : List Entry → Type 0 = λ v. UsesFault v (body_uses p.body) x in
    one_wrong names range h (subst P one w)

-- a tree has one first fault
pub one_fault : {p : Program} {x z : NameFault} → Faults p x → Faults p z → x ≡ z
one_fault (t.many h) w = when_many w h
one_fault (t.decls few h) w = when_decls w few h
one_fault (t.body names few g range h) w = when_body w names few g range h
