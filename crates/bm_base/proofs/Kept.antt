-- Memories of names, begun, read and written.
use Rattle.std.proofs.Common.{◌≡◌, ℕ, zero, suc, ℤ, pos, negsuc, List, [], ◌∷◌, Some, length, refl, ap, sym, ◌∙◌, subst, arith, ◌⊎◌, inl, inr}
use Rattle.std.specs.Prelude.{slice_get, slice_set}
use Rattle.std.proofs.lemmas.List.{length-set, length-map, length-replicate}
use Rattle.bm_base.specs.declared.names.Kind.{Kind}
use Rattle.bm_base.specs.declared.names.Kind.TheVariants.{Var, Array}
use Rattle.bm_base.specs.Entry.{Entry}
use Rattle.bm_base.specs.Memory.{Content, Word, Words, IsVariable, IsArray, with_word, with_element, set_variable, set_element, initial, declared_content}
use Rattle.bm_base.specs.Memories.{IsOfKind, IsMemoryOf}

-- a memory holds something for each name
pub held_at : (names : List Entry) (memory : List Content) (x : ℕ) (e : Entry) → length memory ≡ length names → slice_get names x ≡ Some e → (c : Content) × (slice_get memory x ≡ Some c)
held_at [] memory x e l h = let no : ⊥ = cc in absurd no
held_at (n ∷ ns) [] x e l h = absurd (omega arith)
held_at (n ∷ ns) (c ∷ cs) zero e l h = (c, refl)
held_at (n ∷ ns) (c ∷ cs) (suc x) e l h = held_at ns cs x e (omega arith) h

word_of_kind : (v : ℤ) (c : Content) → IsOfKind (Var v) c → (w : ℤ) × (c ≡ Word w)
word_of_kind v (Word w) k = (w, refl)
word_of_kind v (Words ws) k = absurd k

words_of_kind : (len : ℕ) (c : Content) → IsOfKind (Array len) c → (ws : List ℤ) × (c ≡ Words ws)
words_of_kind len (Word w) k = absurd k
words_of_kind len (Words ws) k = (ws, refl)

pub IsVariable-at : (names : List Entry) (memory : List Content) (x : ℕ) (e : Entry) (v : ℤ) → slice_get names x ≡ Some e → e.kind ≡ Var v → IsMemoryOf names memory → IsVariable memory x
IsVariable-at names memory x e v at is m =
    let c = held_at names memory x e m.long at in
    let w = word_of_kind v c.0 (subst (λ k. IsOfKind k c.0) is (m.kinds x e c.0 at c.1)) in
    (w.0, c.1 ∙ ap Some w.1)

pub IsArray-at : (names : List Entry) (memory : List Content) (x : ℕ) (e : Entry) (len : ℕ) → slice_get names x ≡ Some e → e.kind ≡ Array len → IsMemoryOf names memory → IsArray memory x
IsArray-at names memory x e len at is m =
    let c = held_at names memory x e m.long at in
    let w = words_of_kind len c.0 (subst (λ k. IsOfKind k c.0) is (m.kinds x e c.0 at c.1)) in
    (w.0, c.1 ∙ ap Some w.1)

-- what stands at a place after a write: what was written, where it is that place, else what stood there
after_write : (memory : List Content) (x y : ℕ) (c d : Content) → slice_get (slice_set memory x c) y ≡ Some d → ((b : Content) × (slice_get memory x ≡ Some b) × (y ≡ x) × (d ≡ c)) ⊎ (slice_get memory y ≡ Some d)
after_write [] x y c d h = let no : ⊥ = cc in absurd no
after_write (m ∷ ms) zero zero c d h = let same : d ≡ c = cc in inl (m, refl, refl, same)
after_write (m ∷ ms) zero (suc y) c d h = inr h
after_write (m ∷ ms) (suc x) zero c d h = inr h
after_write (m ∷ ms) (suc x) (suc y) c d h = elim (after_write ms x y c d h) [ inl p ↦ inl (p.0, p.1, ap suc p.2, p.3) | inr p ↦ inr p ]

-- a write of what has the kind of what stood there
kept : (names : List Entry) (memory : List Content) (x : ℕ) (c : Content) → IsMemoryOf names memory → ((k : Kind) (b : Content) → slice_get memory x ≡ Some b → IsOfKind k b → IsOfKind k c) → IsMemoryOf names (slice_set memory x c)
kept names memory x c m k = record {
  long = length-set memory x c ∙ m.long;
  kinds = λ y e d n h. elim (after_write memory x y c d h) [
    | inl p ↦
        let at : slice_get names x ≡ Some e = subst (λ z. slice_get names z ≡ Some e) p.2 n in
        subst (λ z. IsOfKind e.kind z) (sym p.3) (k e.kind p.0 p.1 (m.kinds x e p.0 at p.1))
    | inr p ↦ m.kinds y e d n p
  ];
}

word_kind : (k : Kind) (b : Content) (v : ℤ) → IsOfKind k b → IsOfKind k (with_word (Some b) v)
word_kind (Var i) (Word w) v h = tt
word_kind (Var i) (Words ws) v h = absurd h
word_kind (Array n) (Word w) v h = absurd h
word_kind (Array n) (Words ws) v h = h

element_kind : (k : Kind) (b : Content) (i v : ℤ) → IsOfKind k b → IsOfKind k (with_element (Some b) i v)
element_kind (Var n) (Word w) i v h = tt
element_kind (Var n) (Words ws) i v h = absurd h
element_kind (Array n) (Word w) i v h = absurd h
element_kind (Array n) (Words ws) (pos i) v h = length-set ws i v ∙ h
element_kind (Array n) (Words ws) (negsuc i) v h = h

pub IsMemoryOf-set_variable : (names : List Entry) (memory : List Content) (x : ℕ) (v : ℤ) → IsMemoryOf names memory → IsMemoryOf names (set_variable memory x v)
IsMemoryOf-set_variable names memory x v m =
    kept names memory x (with_word (slice_get memory x) v) m (λ k b e h. subst (λ o. IsOfKind k (with_word o v)) (sym e) (word_kind k b v h))

pub IsMemoryOf-set_element : (names : List Entry) (memory : List Content) (x : ℕ) (i v : ℤ) → IsMemoryOf names memory → IsMemoryOf names (set_element memory x i v)
IsMemoryOf-set_element names memory x i v m =
    kept names memory x (with_element (slice_get memory x) i v) m (λ k b e h. subst (λ o. IsOfKind k (with_element o i v)) (sym e) (element_kind k b i v h))

of_declared : (k : Kind) → IsOfKind k (declared_content k)
of_declared (Var i) = tt
of_declared (Array n) = length-replicate n (pos 0)

initial_at : (names : List Entry) (x : ℕ) (e : Entry) (c : Content) → slice_get names x ≡ Some e → slice_get (initial names) x ≡ Some c → IsOfKind e.kind c
initial_at [] x e c h k = let no : ⊥ = cc in absurd no
initial_at (n ∷ ns) zero e c h k =
    let same : n ≡ e = cc in
    let held : declared_content n.kind ≡ c = cc in
    subst (λ d. IsOfKind e.kind d) (ap (λ y. declared_content y.kind) (sym same) ∙ held) (of_declared e.kind)
initial_at (n ∷ ns) (suc x) e c h k = initial_at ns x e c h k

-- the declared values are a memory of the names
pub IsMemoryOf-initial : (names : List Entry) → IsMemoryOf names (initial names)
IsMemoryOf-initial names = record { long = length-map names (λ e. declared_content e.kind); kinds = initial_at names }
