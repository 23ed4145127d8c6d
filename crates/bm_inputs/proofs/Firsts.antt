-- The first conflicting pair with which something is wrong: there is at most one, and there is one or none.
use Rattle.std.proofs.Common.{◌≡◌, ℕ, zero, suc, ◌<◌, ◌≤◌, Bool, true, false, List, length, slice_get, refl, sym, ap, subst, arith, ◌⊎◌, inl, inr}
use Rattle.std.proofs.lemmas.Bool.{cases_lt, cases_Bool}
use Rattle.tuple_ir.specs.declared.tuple.Tuple.{Tuple}
use Rattle.tuple_ir.specs.Conflict.{Conflict, clash}
use Rattle.line_model.specs.declared.line.Item.{Item}
use Rattle.time_interval.specs.Bounds.{Pace}
use Rattle.stream_image.specs.declared.order.Wrong.{Wrong}
use Rattle.stream_image.specs.Order.{IsSo, IsRight, IsWrong, NoneWrong, IsFirstWrong}
use Rattle.stream_image.proofs.OrderPairs.{never_both, later_within}

conflict_or_not : (ts : List Tuple) (a b : ℕ) → Conflict ts a b ⊎ (¬ Conflict ts a b)
conflict_or_not ts a b = elim (cases_lt a b) [
  | inr l ↦ inr (λ k. let m = k.before in omega arith)
  | inl l ↦ elim (cases_Bool (clash ts a (slice_get ts a) (slice_get ts b))) [
    | inl h ↦ inl (record { before = l; shared = h })
    | inr h ↦ inr (λ k. let e = k.shared in cc)
  ]
]

module _ (wrong : Wrong) (pace : Pace) (ts : List Tuple) (line : List Item) where
  -- the first pair is the first one
  pub one_first : (a b c d : ℕ) → IsFirstWrong wrong pace ts line a b → IsFirstWrong wrong pace ts line c d → (a ≡ c) × (b ≡ d)
  one_first a b c d h k = elim (cases_lt b d) [
    | inl l ↦ absurd (never_both wrong pace line a b (k.before a b l h.stands.conflict) h.stands.so)
    | inr l ↦ elim (cases_lt d b) [
      | inl m ↦ absurd (never_both wrong pace line c d (h.before c d m k.stands.conflict) k.stands.so)
      | inr m ↦ (let e : b ≡ d = omega arith in (same e (cases_lt a c) (cases_lt c a), e))
    ]
  ]
    where
      same : b ≡ d → (a < c) ⊎ (c ≤ a) → (c < a) ⊎ (a ≤ c) → a ≡ c
      same e (inl l) q = absurd (never_both wrong pace line a b (subst (λ x. IsRight wrong pace line a x) (sym e) (k.beside a l (subst (Conflict ts a) e h.stands.conflict))) h.stands.so)
      same e (inr l) (inl m) = absurd (never_both wrong pace line c d (subst (λ x. IsRight wrong pace line c x) e (h.beside c m (subst (Conflict ts c) (sym e) k.stands.conflict))) k.stands.so)
      same e (inr l) (inr m) = omega arith

  -- it is decided of each pair
  abbrev pub Decided : Type 0
  Decided = (a b : ℕ) → a < b → b < length ts → IsRight wrong pace line a b ⊎ IsSo wrong pace line a b

  abbrev NoneTo : ℕ → ℕ → Type 0
  NoneTo b n = (c : ℕ) → c < n → Conflict ts c b → IsRight wrong pace line c b

  abbrev NoneBelow : ℕ → Type 0
  NoneBelow n = (c d : ℕ) → d < n → Conflict ts c d → IsRight wrong pace line c d

  record FirstIn (b : ℕ) : Type 0 where
    a : ℕ
    stands : IsWrong wrong pace ts line a b
    beside : NoneTo b a

  pub record FirstOne : Type 0 where
    pub a : ℕ
    pub b : ℕ
    pub first : IsFirstWrong wrong pace ts line a b

  module _ (decided : Decided) where
    row : (b n : ℕ) → b < length ts → NoneTo b n ⊎ FirstIn b
    row b zero l = inl (λ c m k. absurd (omega arith))
    row b (suc n) l = elim (row b n l) [
      | inr f ↦ inr f
      | inl none ↦ elim (conflict_or_not ts n b) [
        | inr miss ↦ inl (λ c m k. at none c m k (cases_lt c n) (λ e. absurd (miss (subst (λ x. Conflict ts x b) e k))))
        | inl hit ↦ elim (decided n b hit.before l) [
          | inl right ↦ inl (λ c m k. at none c m k (cases_lt c n) (λ e. subst (λ x. IsRight wrong pace line x b) (sym e) right))
          | inr so ↦ inr (record { a = n; stands = record { conflict = hit; so = so }; beside = none })
        ]
      ]
    ]
      where
        at : NoneTo b n → (c : ℕ) → c < suc n → Conflict ts c b → (c < n) ⊎ (n ≤ c) → (c ≡ n → IsRight wrong pace line c b) → IsRight wrong pace line c b
        at none c m k (inl l) f = none c l k
        at none c m k (inr l) f = f (omega arith)

    rows : (n : ℕ) → n ≤ length ts → NoneBelow n ⊎ FirstOne
    rows zero l = inl (λ c d m k. absurd (omega arith))
    rows (suc n) l = elim (rows n (omega arith)) [
      | inr f ↦ inr f
      | inl none ↦ elim (row n n (omega arith)) [
        | inr f ↦ inr (record { a = f.a; b = n; first = record { stands = f.stands; before = none; beside = f.beside } })
        | inl here ↦ inl (λ c d m k. at none here c d m k (cases_lt d n))
      ]
    ]
      where
        at : NoneBelow n → NoneTo n n → (c d : ℕ) → d < suc n → Conflict ts c d → (d < n) ⊎ (n ≤ d) → IsRight wrong pace line c d
        at none here c d m k (inl l) = none c d l k
        at none here c d m k (inr l) =
            let e : d ≡ n = omega arith in
            let q : Conflict ts c n = subst (Conflict ts c) e k in
            subst (λ x. IsRight wrong pace line c x) (sym e) (here c q.before q)

    -- there is a first pair, or none
    pub some_or_none : NoneWrong wrong pace ts line ⊎ FirstOne
    some_or_none = elim (rows (length ts) (omega arith)) [
      | inl none ↦ inl (λ a b k. none a b (later_within ts a b k) k)
      | inr f ↦ inr f
    ]
