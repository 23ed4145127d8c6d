-- One declaration more.
use Rattle.std.proofs.Common.{◌≡◌, ◌⊎◌, ℕ, zero, suc, ◌+◌, ◌-◌, ◌^◌, ◌<◌, ◌≤◌, ℤ, pos, negsuc, Bool, true, false, min, List, [], ◌∷◌, ◌++◌, length, Option, Some, None, Result, Ok, Err, refl, sym, ap, ◌∙◌, arith, inl, inr, take, drop}
use Rattle.std.specs.Prelude.{slice_get, get_or, nat_le, ◌&&◌, if◌then◌else◌}
use Rattle.std.specs.List.{list_all}
use Rattle.std.proofs.lemmas.Option.{slice_get_within}
use Rattle.std.proofs.lemmas.List.Sums.{sum_by_push, list_all-from_AllPass}
use Rattle.std.proofs.lemmas.List.{take_more, take-append-drop}
use Rattle.std.proofs.Math.Seq.{drop-cons}
use Rattle.std.proofs.Math.Dec.{leb}
use Rattle.std.proofs.lemmas.Bool.{leb-true, leb-false, le-leb}
use Rattle.std.proofs.lemmas.Bool.Decides.{leb_tells, nat_tests}
use Rattle.bm_base.specs.declared.names.Kind.{Kind}
use Rattle.bm_base.specs.declared.names.Kind.TheVariants as k
use Rattle.bm_base.specs.declared.names.NamesFault.{NamesFault}
use Rattle.bm_base.specs.declared.names.NamesFault.TheVariants as b
use Rattle.bm_base.specs.Entry.{Entry}
use Rattle.bm_base.specs.declared.limits.TheConstants.{MOST_NAME_BYTES}
use Rattle.bm_base.specs.Names.{place_of, is_name, goes_on_name, has_element, has_room, adding, adding_at, element_total, elements_of, AreNames, AreInRange}
use Rattle.src_lexer.specs.Laws.{IsNameText}
use Rattle.src_tree.specs.declared.tree.Ident.{Ident}
use Rattle.src_tree.specs.declared.tree.Decl.{Decl}
use Rattle.src_tree.specs.declared.tree.Decl.TheVariants as d
use Rattle.src_names.specs.declared.fault.NameFault.{NameFault}
use Rattle.src_names.specs.declared.fault.NameFault.TheVariants as f
use Rattle.src_names.specs.Declarations.{AreDeclared, IsNamedWell, AreNamedWell, name_of}
use Rattle.src_names.specs.Declarations as n
use Rattle.src_names.specs.Fault as t
use Rattle.src_names.specs.Fault.{DeclaredAt, DeclFault, DeclsFault}
use Rattle.src_names.specs.Adding.{kind_of, size_of}
use Rattle.src_names.proofs.Find.{placed, absent}

-- a name of the text is a name that can be declared
named_at : (bs : List ℕ) → IsNameText bs → length bs ≤ MOST_NAME_BYTES → is_name bs ≡ true
named_at [] h s = absurd h.begins
named_at (b ∷ bs) h s =
    let short : nat_le (length (b ∷ bs)) MOST_NAME_BYTES ≡ true = le-leb (length (b ∷ bs)) MOST_NAME_BYTES s in
    rw (h.begins, h.free, short) (list_all-from_AllPass goes_on_name bs (λ i d lt. h.goes_on (suc i) d (omega arith)))

named_of : (x : Decl) → IsNamedWell x → is_name (name_of x).text ≡ true
named_of (d.Var m v) w = named_at m.text w.text w.short
named_of (d.Array m v) w = named_at m.text (w.0).text (w.0).short

-- what an answer of `add` says of the name
abbrev pub Means : List ℕ → Kind → List Entry → Result ℕ NamesFault → Type 0
Means name kind es (Ok id) = (place_of name es ≡ None) × (has_room kind es ≡ true)
Means name kind es (Err (b.Twice first)) = place_of name es ≡ Some first
Means name kind es (Err b.Size) = (place_of name es ≡ None) × (has_room kind es ≡ false)
Means name kind es (Err b.Memory) = Unit {0}
Means name kind es (Err b.BadName) = ⊥
Means name kind es (Err b.TooMany) = ⊥

means_room : (name : List ℕ) (kind : Kind) (es : List Entry) → place_of name es ≡ None → (room : Bool) → has_room kind es ≡ room → Means name kind es (if room then Ok (length es) else Err b.Size)
means_room name kind es p true e = (p, e)
means_room name kind es p false e = (p, e)

means_at : (name : List ℕ) (kind : Kind) (es : List Entry) (place : Option ℕ) → place_of name es ≡ place → Means name kind es (adding_at place kind es)
means_at name kind es (Some first) e = e
means_at name kind es None e = means_room name kind es e (has_room kind es) refl

adding_is : (name : List ℕ) (kind : Kind) (es : List Entry) → is_name name ≡ true → length es < 1024 → adding name kind es ≡ adding_at (place_of name es) kind es
adding_is name kind es named few =
    rw named (full_or_not (leb_tells 1024 (length es)))
  where
    full_or_not : ((leb 1024 (length es) ≡ true) × (1024 ≤ length es)) ⊎ ((leb 1024 (length es) ≡ false) × (length es < 1024)) → (if nat_le 1024 (length es) then Err b.TooMany else adding_at (place_of name es) kind es) ≡ adding_at (place_of name es) kind es
    full_or_not (inl h) = absurd (omega (arith, h.1))
    full_or_not (inr h) = rw h.0 refl

pub means : (name : List ℕ) (kind : Kind) (es : List Entry) (r : Result ℕ NamesFault) → is_name name ≡ true → length es < 1024 →
    (r ≡ adding name kind es) ⊎ (r ≡ Err b.Memory) → Means name kind es r
means name kind es r named few (inl e) = rw (e, adding_is name kind es named few) (means_at name kind es (place_of name es) refl)
means name kind es r named few (inr e) = rw e tt

-- the same of a declaration
pub means_of : (x : Decl) (es : List Entry) (r : Result ℕ NamesFault) → IsNamedWell x → length es < 1024 →
    (r ≡ adding (name_of x).text (kind_of x) es) ⊎ (r ≡ Err b.Memory) → Means (name_of x).text (kind_of x) es r
means_of x es r w few h = means (name_of x).text (kind_of x) es r (named_of x w) few h

pub length_declared : {ds : List Decl} {es : List Entry} → AreDeclared ds es → length ds ≡ length es
length_declared n.none = refl
length_declared (n.var h) = ap suc (length_declared h)
length_declared (n.array p h) = ap suc (length_declared h)

-- the declaration of a name
pub record DeclAt (ds : List Decl) (id : ℕ) (e : Entry) : Type 0 where
  pub decl : Decl
  pub here : slice_get ds id ≡ Some decl
  pub same : (name_of decl).text ≡ e.name

pub decl_at : {ds : List Decl} {es : List Entry} → AreDeclared ds es → (id : ℕ) (e : Entry) → slice_get es id ≡ Some e → DeclAt ds id e
decl_at n.none id e h = absurd (cc)
decl_at (n.var {n = m} {v = v} a) zero e h = record { decl = d.Var m v; here = refl; same = cc }
decl_at (n.var a) (suc id) e h = let r = decl_at a id e h in record { decl = r.decl; here = r.here; same = r.same }
decl_at (n.array {n = m} {len = len} p a) zero e h = record { decl = d.Array m (pos len); here = refl; same = cc }
decl_at (n.array p a) (suc id) e h = let r = decl_at a id e h in record { decl = r.decl; here = r.here; same = r.same }

more_var : {ds : List Decl} {es : List Entry} → AreDeclared ds es → (m : Ident) (v : ℤ) → AreDeclared (ds ++ d.Var m v ∷ []) (es ++ record { name = m.text; kind = k.Var v } ∷ [])
more_var n.none m v = n.var n.none
more_var (n.var a) m v = n.var (more_var a m v)
more_var (n.array p a) m v = n.array p (more_var a m v)

more_array : {ds : List Decl} {es : List Entry} → AreDeclared ds es → (m : Ident) (len : ℕ) → 0 < len → AreDeclared (ds ++ d.Array m (pos len) ∷ []) (es ++ record { name = m.text; kind = k.Array len } ∷ [])
more_array n.none m len q = n.array q n.none
more_array (n.var a) m len q = n.var (more_array a m len q)
more_array (n.array p a) m len q = n.array p (more_array a m len q)

both_true : {p q : Bool} → (p && q) ≡ true → (p ≡ true) × (q ≡ true)
both_true {p = true} {q = true} h = (refl, refl)
both_true {p = true} {q = false} h = cc
both_true {p = false} h = cc

one_false : (p q : Bool) → (p && q) ≡ false → (p ≡ false) ⊎ (q ≡ false)
one_false true true h = cc
one_false true false h = inr refl
one_false false q h = inl refl

-- there is an element, and room for all
room_of : (len : ℕ) (es : List Entry) → has_room (k.Array len) es ≡ true → (1 ≤ len) × (element_total es + len ≤ 1048576)
room_of len es h =
    let t = both_true h in
    (leb-true 1 len t.0, leb-true (element_total es + len) 1048576 t.1)

no_room_of : (len : ℕ) (es : List Entry) → has_room (k.Array len) es ≡ false → (len ≡ 0) ⊎ (1048576 < element_total es + len)
no_room_of len es h = elim (one_false (nat_le 1 len) (nat_le (element_total es + len) 1048576) h) [ inl e ↦ inl (omega (arith, leb-false 1 len e)) | inr e ↦ inr (leb-false (element_total es + len) 1048576 e) ]

-- a declaration that is added
pub added : {ds : List Decl} {es fs : List Entry} → AreDeclared ds es → (x : Decl) → IsNamedWell x → has_room (kind_of x) es ≡ true →
    fs ≡ es ++ record { name = (name_of x).text; kind = kind_of x } ∷ [] → AreDeclared (ds ++ x ∷ []) fs
added a (d.Var m v) w h e = rw e (more_var a m v)
added {es = es} a (d.Array m (pos len)) w h e =
    let r = room_of (min len (2 ^ 32 - 1)) es h in
    let whole : min len (2 ^ 32 - 1) ≡ len = omega arith in
    rw (e, whole) (more_array a m len (omega arith))
added a (d.Array m (negsuc len)) w h e = absurd (omega arith)

no_room : (len : ℕ) (es : List Entry) → has_room (k.Array (min len (2 ^ 32 - 1))) es ≡ false → (len ≡ 0) ⊎ (1048576 < element_total es + len)
no_room len es h = elim (no_room_of (min len (2 ^ 32 - 1)) es h) [ inl e ↦ inl (omega arith) | inr e ↦ inr (omega arith) ]

-- the fault of a size
pub size_fault : (ds : List Decl) (es : List Entry) (x : Decl) → IsNamedWell x → place_of (name_of x).text es ≡ None → has_room (kind_of x) es ≡ false →
    DeclFault ds es x (f.ArraySize (name_of x).at (size_of x))
size_fault ds es (d.Var m v) w n h = absurd (let u : true ≡ false = h in cc)
size_fault ds es (d.Array m (pos len)) w n h = t.size (absent m es n) (no_room len es h)
size_fault ds es (d.Array m (negsuc len)) w n h = absurd (omega arith)

-- the place of the first declaration of a name
pub declared_at : {ds : List Decl} {es : List Entry} → AreDeclared ds es → (m : Ident) (id first : ℕ) (z : Decl) →
    place_of m.text es ≡ Some id → slice_get ds id ≡ Some z → first ≡ (name_of z).at → DeclaredAt ds m first
declared_at {ds = ds} {es = es} a m id first z p h at =
    let e = placed m.text es id p in
    let r = decl_at a id e.entry e.here in
    let one : z ≡ r.decl = cc in
    record { id = id; decl = z; here = h; same = ap (λ x. (name_of x).text) one ∙ r.same ∙ sym e.same; place = at }

-- the fault of the declaration at a place is the first of all
pub first_fault : (ds : List Decl) (i : ℕ) (z : Decl) (es : List Entry) (fault : NameFault) → i < length ds → z ≡ get_or ds i z →
    AreDeclared (take i ds) es → AreInRange es → DeclFault (take i ds) es z fault → DeclsFault ds fault
first_fault ds i z es fault below at a range w = record {
  front = take i ds;
  here = z;
  back = drop (suc i) ds;
  names = es;
  split = sym (take-append-drop i ds) ∙ ap (λ l. take i ds ++ l) (drop-cons ds i z below ∙ ap (λ x. x ∷ drop (suc i) ds) (sym at));
  declared = a;
  range = range;
  wrong = w;
}

-- one declaration more
pub one_more : (ds : List Decl) (i : ℕ) (z : Decl) (es : List Entry) → i < length ds → z ≡ get_or ds i z → AreDeclared (take i ds ++ z ∷ []) es → AreDeclared (take (i + 1) ds) es
one_more ds i z es below at a = rw (take_more ds i z below, ← at) a

-- a name that is declared twice
pub twice_fault : (ds : List Decl) (es : List Entry) (x : Decl) (at first : ℕ) → at ≡ (name_of x).at → DeclaredAt ds (name_of x) first → DeclFault ds es x (f.Twice at first)
twice_fault ds es x at first e h = rw e (t.twice h)

-- an entry of a list with one more
one_of : (es : List Entry) (e x : Entry) (i : ℕ) → slice_get (es ++ e ∷ []) i ≡ Some x → (slice_get es i ≡ Some x) ⊎ ((i ≡ length es) × (e ≡ x))
one_of [] e x zero h = inr (refl, cc)
one_of [] e x (suc i) h = absurd (omega (arith, slice_get_within (e ∷ []) (suc i) x h))
one_of (z ∷ zs) e x zero h = inl h
one_of (z ∷ zs) e x (suc i) h = elim (one_of zs e x i h) [ inl p ↦ inl p | inr p ↦ inr (ap suc p.0, p.1) ]

module _ (es : List Entry) (m : Ident) (kind : Kind) (range : AreInRange es) (new : place_of m.text es ≡ None) where
  entry : Entry
  entry = record { name = m.text; kind = kind }

  once_at : (i j : ℕ) (x z : Entry) → (slice_get es i ≡ Some x) ⊎ ((i ≡ length es) × (entry ≡ x)) → (slice_get es j ≡ Some z) ⊎ ((j ≡ length es) × (entry ≡ z)) → x.name ≡ z.name → i ≡ j
  unfolding entry
  once_at i j x z (inl p) (inl q) e = range.once i j x z p q e
  once_at i j x z (inl p) (inr q) e = absurd ((absent m es new).none i x p (e ∙ sym (ap (λ w. w.name) q.1)))
  once_at i j x z (inr p) (inl q) e = absurd ((absent m es new).none j z q (sym e ∙ sym (ap (λ w. w.name) p.1)))
  once_at i j x z (inr p) (inr q) e = p.0 ∙ sym q.0

  pub range_more : has_room kind es ≡ true → AreInRange (es ++ record { name = m.text; kind = kind } ∷ [])
  unfolding entry
  range_more h = record {
    once = λ i j x z p q e. once_at i j x z (one_of es entry x i p) (one_of es entry z j q) e;
    room = rw (sum_by_push (λ (x : Entry). elements_of x.kind) es entry) (room_more kind h);
  }
    where
      room_more : (kind : Kind) → has_room kind es ≡ true → element_total es + elements_of kind ≤ 1048576
      room_more (k.Var v) h = let r = range.room in omega arith
      room_more (k.Array len) h = let r = room_of len es h in omega arith

-- declared names are names
each_named : {ds : List Decl} {es : List Entry} → AreDeclared ds es → AreNamedWell ds → list_all (λ (e : Entry). is_name e.name) es ≡ true
each_named n.none w = refl
each_named (n.var {n = m} {v = v} {ds = ds} a) w =
    let first : IsNamedWell (d.Var m v) = w 0 (d.Var m v) (omega arith) in
    let rest : AreNamedWell ds = λ i x lt. w (suc i) x (omega arith) in
    rw (named_of (d.Var m v) first, each_named a rest) refl
each_named (n.array {n = m} {len = len} {ds = ds} p a) w =
    let first : IsNamedWell (d.Array m (pos len)) = w 0 (d.Array m (pos len)) (omega arith) in
    let rest : AreNamedWell ds = λ i x lt. w (suc i) x (omega arith) in
    rw (named_of (d.Array m (pos len)) first, each_named a rest) refl

-- a declared array has an element
each_filled : {ds : List Decl} {es : List Entry} → AreDeclared ds es → list_all (λ (e : Entry). has_element e.kind) es ≡ true
each_filled n.none = refl
each_filled (n.var a) = each_filled a
each_filled (n.array {len = len} p a) =
    let first : nat_le 1 len ≡ true = grind (arith, nat_tests) in
    rw (first, each_filled a) refl

pub are_names : {ds : List Decl} {es : List Entry} → AreDeclared ds es → AreNamedWell ds → AreInRange es → length ds ≤ 1024 → AreNames es
are_names a w range few = record { few = (let long = length_declared a in omega arith); range = range; each = each_named a w; filled = each_filled a }

-- no names
pub nothing : AreInRange []
nothing = record { once = λ i j x z p q e. absurd (omega (arith, slice_get_within [] i x p)); room = omega arith }
