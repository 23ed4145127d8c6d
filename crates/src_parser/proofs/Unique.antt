-- Tokens have at most one first fault, and those that derive a program within the limits have none.
use Rattle.std.proofs.Common.{◌≡◌, ℕ, zero, suc, ◌<◌, ◌≤◌, List, [], ◌∷◌, ◌++◌, refl, ap, sym, subst, ◌∙◌, arith, append_assoc, ◌⊎◌, inl, inr}
use Rattle.std.proofs.lemmas.List.{append-nil}
use Rattle.src_lexer.specs.declared.token.Symbol.{Symbol}
use Rattle.src_lexer.specs.declared.token.Symbol.TheVariants as y
use Rattle.src_lexer.specs.declared.token.Token.{Token}
use Rattle.src_tree.specs.declared.tree.Program.{Program}
use Rattle.src_tree.specs.Grammar.{Derives}
use Rattle.src_tree.specs.Limits.{depth, nodes, KeepsLimits}
use Rattle.src_parser.specs.declared.want.Want.{Want}
use Rattle.src_parser.specs.declared.want.Want.TheVariants as v
use Rattle.src_parser.specs.declared.fault.ParseFault.{ParseFault}
use Rattle.src_parser.specs.declared.fault.ParseFault.TheVariants as f
use Rattle.src_parser.specs.Fault.{rank, Begins, Wants, Here, Faults}

-- two ways to split one list
pub data Aligned (a b c d : List Token) : Type 0 where
  same : a ≡ c → b ≡ d → Aligned a b c d
  shorter : (t : Token) (ts : List Token) → c ≡ a ++ (t ∷ ts) → b ≡ t ∷ (ts ++ d) → Aligned a b c d
  longer : (t : Token) (ts : List Token) → a ≡ c ++ (t ∷ ts) → d ≡ t ∷ (ts ++ b) → Aligned a b c d

aligned_more : {a b c d : List Token} (t u : Token) → t ≡ u → Aligned a b c d → Aligned (t ∷ a) b (u ∷ c) d
aligned_more {a = a} {c = c} t u e (same p q) = let r : t ∷ a ≡ u ∷ c = cc in same r q
aligned_more {a = a} {c = c} t u e (shorter x xs p q) = let r : u ∷ c ≡ (t ∷ a) ++ (x ∷ xs) = ap (λ z. z ∷ c) (sym e) ∙ ap (λ z. t ∷ z) p in shorter x xs r q
aligned_more {a = a} {c = c} t u e (longer x xs p q) = let r : t ∷ a ≡ (u ∷ c) ++ (x ∷ xs) = ap (λ z. z ∷ a) e ∙ ap (λ z. u ∷ z) p in longer x xs r q

pub align : (a b c d : List Token) → a ++ b ≡ c ++ d → Aligned a b c d
align [] b [] d e = same refl e
align [] b (t ∷ c) d e = shorter t c refl e
align (t ∷ a) b [] d e = longer t a refl (sym e)
align (t ∷ a) b (u ∷ c) d e = let first : t ≡ u = cc in let rest : a ++ b ≡ c ++ d = cc in aligned_more t u first (align a b c d rest)

not_empty : (t : Token) (ts us : List Token) → ts ++ (t ∷ us) ≡ [] → ⊥
not_empty t [] us e = cc
not_empty t (x ∷ ts) us e = cc

-- one more token keeps the limits
keeps_at : (front : List Token) (t : Token) → KeepsLimits front → depth (front ++ t ∷ []) ≤ 64 → nodes (front ++ t ∷ []) ≤ 120 →
    (f b : List Token) → Aligned front (t ∷ []) f b → (depth f ≤ 64) × (nodes f ≤ 120)
keeps_at front t k d n f b (same p q) = let r = k front [] (sym (append-nil front)) in let e : front ≡ f = p in
    let P : List Token → Type 0 = λ z. (depth z ≤ 64) × (nodes z ≤ 120) in subst P e r
keeps_at front t k d n f b (shorter x [] p q) =
    let e : x ≡ t = cc in
    let same : front ++ t ∷ [] ≡ f = ap (λ z. front ++ z ∷ []) (sym e) ∙ sym p in
    let P : List Token → Type 0 = λ z. (depth z ≤ 64) × (nodes z ≤ 120) in subst P same (d, n)
keeps_at front t k d n f b (shorter x (z ∷ xs) p q) = cc
keeps_at front t k d n f b (longer x xs p q) = k f (x ∷ xs) p

pub keeps_more : (front : List Token) (t : Token) → KeepsLimits front → depth (front ++ t ∷ []) ≤ 64 → nodes (front ++ t ∷ []) ≤ 120 →
    KeepsLimits (front ++ t ∷ [])
keeps_more front t k d n f b e = keeps_at front t k d n f b (align front (t ∷ []) f b e)

keeps_none : (f b : List Token) → Aligned [] [] f b → (depth f ≤ 64) × (nodes f ≤ 120)
keeps_none f b (same p q) = let P : List Token → Type 0 = λ z. (depth z ≤ 64) × (nodes z ≤ 120) in subst P p (omega arith, omega arith)
keeps_none f b (shorter t ts p q) = cc
keeps_none f b (longer t ts p q) = absurd (not_empty t f ts (sym p))

pub keeps_nothing : KeepsLimits []
keeps_nothing f b e = keeps_none f b (align [] [] f b e)

-- a symbol of a rank below 6 is told by its rank
same_rank : (j k : Symbol) → rank k < 6 → rank j ≡ rank k → j ≡ k
same_rank y.Semi y.Semi h e = refl
same_rank y.RParen y.RParen h e = refl
same_rank y.RBracket y.RBracket h e = refl
same_rank y.LBrace y.LBrace h e = refl
same_rank y.Assign y.Assign h e = refl
same_rank y.LBracket y.LBracket h e = refl
same_rank _ _ h e = absurd (omega (arith, h, e))

three_more : (a b : ℕ) → (a < b) ⊎ ((a ≡ b) ⊎ (b < a)) → (suc a < suc b) ⊎ ((suc a ≡ suc b) ⊎ (suc b < suc a))
three_more a b (inl h) = inl (omega (arith, h))
three_more a b (inr (inl h)) = inr (inl (ap suc h))
three_more a b (inr (inr h)) = inr (inr (omega (arith, h)))

three : (a b : ℕ) → (a < b) ⊎ ((a ≡ b) ⊎ (b < a))
three zero zero = inr (inl refl)
three zero (suc b) = inl (omega arith)
three (suc a) zero = inr (inr (omega arith))
three (suc a) (suc b) = three_more a b (three a b)

module _ (src : List ℕ) where
  symbols_agree : (ts : List Token) (j k : Symbol) → Wants src ts (v.Sym j) → Wants src ts (v.Sym k) → (rank j < rank k) ⊎ ((rank j ≡ rank k) ⊎ (rank k < rank j)) →
      j ≡ k
  symbols_agree ts j k (p, (g, n, m, low, first)) (q, (r, o, l, small, least)) (inl h) = absurd (least j h g)
  symbols_agree ts j k (p, (g, n, m, low, first)) (q, (r, o, l, small, least)) (inr (inl h)) = same_rank j k small h
  symbols_agree ts j k (p, (g, n, m, low, first)) (q, (r, o, l, small, least)) (inr (inr h)) = absurd (first k h r)

  pub one_want : (ts : List Token) (a b : Want) → Wants src ts a → Wants src ts b → a ≡ b
  one_want ts v.Item v.Item h k = refl
  one_want ts v.Item v.Name h (p, k) = absurd (p h)
  one_want ts v.Item v.Number h (p, k) = absurd (p h)
  one_want ts v.Item v.Expr h (p, k) = absurd (p h)
  one_want ts v.Item (v.Sym j) h (p, k) = absurd (p h)
  one_want ts v.Name v.Item (p, h) k = absurd (p k)
  one_want ts v.Number v.Item (p, h) k = absurd (p k)
  one_want ts v.Expr v.Item (p, h) k = absurd (p k)
  one_want ts (v.Sym j) v.Item (p, h) k = absurd (p k)
  one_want ts v.Name v.Name h k = refl
  one_want ts v.Number v.Number h k = refl
  one_want ts v.Expr v.Expr h k = refl
  one_want ts v.Name v.Number (p, (n, x)) (q, (m, z)) = absurd (z n)
  one_want ts v.Name v.Expr (p, (n, x)) (q, (m, z)) = absurd (x m)
  one_want ts v.Name (v.Sym k) (p, (n, x)) (q, (g, z, w, u, o)) = absurd (z n)
  one_want ts v.Number v.Name (p, (n, x)) (q, (m, z)) = absurd (x m)
  one_want ts v.Number v.Expr (p, (n, x)) (q, (m, z)) = absurd (x z)
  one_want ts v.Number (v.Sym k) (p, (n, x)) (q, (g, z, w, u, o)) = absurd (w n)
  one_want ts v.Expr v.Name (p, (n, x)) (q, (m, z)) = absurd (z n)
  one_want ts v.Expr v.Number (p, (n, x)) (q, (m, z)) = absurd (z x)
  one_want ts v.Expr (v.Sym k) (p, (n, x)) (q, (g, z, w, u, o)) = absurd (z x)
  one_want ts (v.Sym k) v.Name (q, (g, z, w, u, o)) (p, (n, x)) = absurd (z n)
  one_want ts (v.Sym k) v.Number (q, (g, z, w, u, o)) (p, (n, x)) = absurd (w n)
  one_want ts (v.Sym k) v.Expr (q, (g, z, w, u, o)) (p, (n, x)) = absurd (z x)
  one_want ts (v.Sym j) (v.Sym k) h e = ap v.Sym (symbols_agree ts j k h e (three (rank j) (rank k)))

  -- what begins a program, each front of it does
  begins_front : (front ts : List Token) (t : Token) → Begins src (front ++ (t ∷ ts)) → Begins src (front ++ t ∷ [])
  begins_front front ts t b =
      let P : List Token → Type 0 = λ z. Derives src z b.program in
      let e : (front ++ (t ∷ ts)) ++ b.rest ≡ (front ++ t ∷ []) ++ (ts ++ b.rest) = simp append_assoc in
      record { rest = ts ++ b.rest; program = b.program; derives = subst P e b.derives }

  -- a fault ends what may go on
  blocked : (front back ts : List Token) (t : Token) (x : ParseFault) → Here src front (t ∷ back) x → Begins src (front ++ (t ∷ ts)) →
      KeepsLimits (front ++ (t ∷ ts)) → ⊥
  blocked front back ts t (f.Expected at what) (e, none, w) b k = none (begins_front front ts t b)
  blocked front back ts t (f.TooDeep at) (e, g, deep) b k = let r = k (front ++ t ∷ []) ts (sym (append_assoc front (t ∷ []) ts)) in omega (arith, deep, r.0)
  blocked front back ts t (f.TooManyNodes at first) (e, i, g, d, many) b k =
      let r = k (front ++ t ∷ []) ts (sym (append_assoc front (t ∷ []) ts)) in omega (arith, many, r.1)
  blocked front back ts t f.Memory h b k = absurd h

  one_expected : (at place : ℕ) (what want : Want) → at ≡ place → what ≡ want → f.Expected at what ≡ f.Expected place want
  one_expected at place what want p q = cc

  one_here : (front back : List Token) (x z : ParseFault) → Here src front back x → Here src front back z → x ≡ z
  one_here front [] (f.Expected at what) (f.Expected place want) (p, q, r) (s, t, u) = one_expected at place what want (p ∙ sym s) (one_want front what want r u)
  one_here front (t ∷ back) (f.Expected at what) (f.Expected place want) (p, q, r) (s, i, u) = one_expected at place what want (p ∙ sym s) (one_want front what want r u)
  one_here front (t ∷ back) (f.Expected at what) (f.TooDeep place) (p, q, r) (s, i, u) = absurd (q i)
  one_here front (t ∷ back) (f.Expected at what) (f.TooManyNodes place first) (p, q, r) (s, o, i, u, n) = absurd (q i)
  one_here front (t ∷ back) (f.TooDeep at) (f.Expected place want) (s, i, u) (p, q, r) = absurd (q i)
  one_here front (t ∷ back) (f.TooDeep at) (f.TooDeep place) (p, q, d) (s, u, m) = ap f.TooDeep (p ∙ sym s)
  one_here front (t ∷ back) (f.TooDeep at) (f.TooManyNodes place first) (p, q, r) (s, o, i, u, n) = absurd (omega (arith, r, u))
  one_here front (t ∷ back) (f.TooManyNodes at first) (f.Expected place want) (s, o, i, u, n) (p, q, r) = absurd (q i)
  one_here front (t ∷ back) (f.TooManyNodes at first) (f.TooDeep place) (s, o, i, u, n) (p, q, r) = absurd (omega (arith, r, u))
  one_here front (t ∷ back) (f.TooManyNodes at first) (f.TooManyNodes place begin) (p, q, r, d, m) (s, o, i, u, n) = let e : at ≡ place = p ∙ sym s in let g : first ≡ begin = q ∙ sym o in cc
  one_here front _ f.Memory z h k = absurd h
  one_here front _ x f.Memory h k = absurd k
  one_here front [] (f.TooDeep at) z h k = absurd h
  one_here front [] (f.TooManyNodes at first) z h k = absurd h
  one_here front [] x (f.TooDeep at) h k = absurd k
  one_here front [] x (f.TooManyNodes at first) h k = absurd k

  one_aligned : (a b c d : List Token) (x z : ParseFault) → Here src a b x → Here src c d z → Begins src a → Begins src c → KeepsLimits a → KeepsLimits c →
      Aligned a b c d → x ≡ z
  one_aligned a b c d x z h k i j l n (same p q) =
      let P : List Token → Type 0 = λ u. Here src u d z in
      let Q : List Token → Type 0 = λ u. Here src a u z in
      one_here a b x z h (subst Q (sym q) (subst P (sym p) k))
  one_aligned a b c d x z h k i j l n (shorter t ts p q) =
      let P : List Token → Type 0 = λ u. Here src a u x in
      let Q : List Token → Type 0 = λ u. Begins src u in
      let R : List Token → Type 0 = KeepsLimits in
      absurd (blocked a (ts ++ d) ts t x (subst P q h) (subst Q p j) (subst R p n))
  one_aligned a b c d x z h k i j l n (longer t ts p q) =
      let P : List Token → Type 0 = λ u. Here src c u z in
      let Q : List Token → Type 0 = λ u. Begins src u in
      let R : List Token → Type 0 = KeepsLimits in
      absurd (blocked c (ts ++ b) ts t z (subst P q k) (subst Q p i) (subst R p l))

  pub one_fault : (ts : List Token) (x z : ParseFault) → Faults src ts x → Faults src ts z → x ≡ z
  one_fault ts x z p q = one_aligned p.front p.back q.front q.back x z p.here q.here p.begins q.begins p.limits q.limits
      (align p.front p.back q.front q.back (sym p.split ∙ q.split))

  whole_has_none : (ts front back : List Token) (x : ParseFault) (p : Program) → ts ≡ front ++ back → Here src front back x → Derives src ts p → KeepsLimits ts → ⊥
  whole_has_none ts front [] (f.Expected at what) p e (a, none, w) d k =
      let P : List Token → Type 0 = λ z. Derives src z p in none p (subst P (e ∙ append-nil front) d)
  whole_has_none ts front [] _ p e h d k = absurd h
  whole_has_none ts front (t ∷ back) x p e h d k =
      let P : List Token → Type 0 = λ z. Derives src z p in
      let R : List Token → Type 0 = KeepsLimits in
      blocked front back back t x h (record { rest = []; program = p; derives = subst P (e ∙ sym (append-nil (front ++ (t ∷ back)))) d }) (subst R e k)

  pub no_fault : (ts : List Token) (x : ParseFault) (p : Program) → Faults src ts x → Derives src ts p → KeepsLimits ts → ⊥
  no_fault ts x p h d k = whole_has_none ts h.front h.back x p h.split h.here d k
