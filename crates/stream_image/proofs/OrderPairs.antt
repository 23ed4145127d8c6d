-- Pairs that are not in order.
use Rattle.std.proofs.Common.{◌≡◌, ℕ, ◌+◌, ◌<◌, ◌≤◌, Bool, true, false, nat_eq, List, [], Contains, Decides, MatchOption, Option, Some, None, length, slice_get, slice_index_or, refl, sym, ap, ◌∙◌, arith, ◌⊎◌, inl, inr, subst, true≢false, is_some, not}
use Rattle.std.specs.List.{IsDistinct}
use Rattle.std.specs.List.Sorted.{IsStrictlyIncreasing}
use Rattle.std.proofs.lemmas.Bool.{cases_lt}
use Rattle.std.proofs.lemmas.List.Kept.{AllPairs-from_increasing}
use Rattle.std.proofs.lemmas.Option.{slice_get_within}
use Rattle.tuple_ir.specs.declared.tuple.Tuple.{Tuple}
use Rattle.tuple_ir.specs.Conflict.{Conflict, clash}
use Rattle.dependence.specs.Producers.{producers_of, producers_at, in_conflict}
use Rattle.dependence.proofs.Kept.{kept_has, kept_from}
use Rattle.dependence.proofs.Rows.{row_at}
use Rattle.line_model.specs.declared.line.Item.{Item}
use Rattle.line_model.specs.Order.{IsOrderedByProcessor}
use Rattle.time_interval.specs.declared.reference.Reason.{Reason}
use Rattle.time_interval.specs.Bounds.{Pace, front_of_run, processor_of}
use Rattle.time_interval.specs.Lines.{tuples}
use Rattle.time_interval.specs.Ordered.{IsOrdered, IsReason}
use Rattle.time_interval.specs.Seen.{stands_on}
use Rattle.time_interval.proofs.Once.{stands_behind, any_of_contains}
use Rattle.time_interval.proofs.OrderFacts.{on_processor, not_on_processor, ordered_of}
use Rattle.stream_image.specs.declared.order.Wrong.{Wrong}
use Rattle.stream_image.specs.Order.{IsSo, IsRight, NoneOf, IsFirstOf, NoneWrong, IsFirstWrong}
use Rattle.stream_image.specs.declared.order.Wrong.TheVariants.{Turned, Loose}

pub stands_first_is : (items : List Item) (g i : ℕ) → IsDistinct nat_eq (tuples items) → Contains (tuples items) i → (b : Bool) → b ≡ stands_on (front_of_run i items) (processor_of i items) g → Decides b (IsOrderedByProcessor items g i)
stands_first_is items g i once here b e = go (stands_on (front_of_run i items) (processor_of i items) g) refl
  where
    go : (t : Bool) → stands_on (front_of_run i items) (processor_of i items) g ≡ t → Decides b (IsOrderedByProcessor items g i)
    go true s = (λ k. on_processor items (front_of_run i items) (processor_of i items) i g (stands_behind items i once (any_of_contains (tuples items) i here)) s, λ k. e ∙ s)
    go false s = (λ k. absurd (true≢false (sym k ∙ e ∙ s)), λ k. absurd (not_on_processor items (front_of_run i items) (processor_of i items) i g (stands_behind items i once (any_of_contains (tuples items) i here)) s k))

pub not_loose : (pace : Pace) (line : List Item) (a b : ℕ) (o : Option Reason) → MatchOption o (¬ IsOrdered pace line a b) (IsReason pace line a b) → (r : Bool) → is_some o ≡ not r → r ≡ false → IsOrdered pace line a b
not_loose pace line a b None h r e f = absurd (true≢false (sym (e ∙ ap not f)))
not_loose pace line a b (Some reason) h r e f = ordered_of pace line a b reason h

pub loose_is : (pace : Pace) (line : List Item) (a b : ℕ) (o : Option Reason) → MatchOption o (¬ IsOrdered pace line a b) (IsReason pace line a b) → (r : Bool) → is_some o ≡ not r → r ≡ true → ¬ IsOrdered pace line a b
loose_is pace line a b None h r e f = h
loose_is pace line a b (Some reason) h r e f = absurd (true≢false (e ∙ ap not f))

pub never_both : (wrong : Wrong) (pace : Pace) (line : List Item) (a b : ℕ) → IsRight wrong pace line a b → IsSo wrong pace line a b → ⊥
never_both Turned pace line a b h k = h k
never_both Loose pace line a b h k = k h

module _ (wrong : Wrong) (pace : Pace) (line : List Item) (numbers : List ℕ) (b : ℕ) where
  -- with the first numbers it is not so
  abbrev pub NoneTo : ℕ → Type 0
  NoneTo n = (k : ℕ) (d : ℕ) → k < n → k < length numbers → IsRight wrong pace line (slice_index_or numbers k d) b

  pub none_of : NoneTo (length numbers) → NoneOf wrong pace line numbers b
  none_of h a (k, l, e) = subst (λ x. IsRight wrong pace line x b) e (h k a l l)

  pub first_is : (i a : ℕ) → i < length numbers → ((d : ℕ) → slice_index_or numbers i d ≡ a) → IsStrictlyIncreasing numbers → NoneTo i → IsSo wrong pace line a b → IsFirstOf wrong pace line numbers b a
  first_is i a l e up none so = record { listed = (i, l, e a); so = so; before = before }
    where
      before : (c : ℕ) → Contains numbers c → c < a → IsRight wrong pace line c b
      before c (k, lk, ek) m = go (cases_lt k i)
        where
          go : (k < i) ⊎ (i ≤ k) → IsRight wrong pace line c b
          go (inl lt) = subst (λ x. IsRight wrong pace line x b) ek (none k c lt lk)
          go (inr le) = absurd (past (cases_lt i k))
            where
              past : (i < k) ⊎ (k ≤ i) → ⊥
              past (inl lt) =
                  let less : slice_index_or numbers i c < slice_index_or numbers k c = AllPairs-from_increasing numbers up i k c lt lk in
                  let x = e c in
                  absurd (omega arith)
              past (inr ge) =
                  let same : i ≡ k = omega arith in
                  let x : slice_index_or numbers k c ≡ a = subst (λ j. slice_index_or numbers j c ≡ a) same (e c) in
                  absurd (omega arith)

-- the later tuple of a conflict is one of the block's
pub later_within : (ts : List Tuple) (a b : ℕ) → Conflict ts a b → b < length ts
later_within ts a b k = go (slice_get ts a) (slice_get ts b) k.shared refl
  where
    go : (o q : Option Tuple) → clash ts a o q ≡ true → slice_get ts b ≡ q → b < length ts
    go None q h e = absurd (true≢false (sym h))
    go (Some x) None h e = absurd (true≢false (sym h))
    go (Some x) (Some y) h e = slice_get_within ts b y e

pub row_of : (ts : List Tuple) (producers : List (List ℕ)) (b : ℕ) → producers ≡ producers_of ts → b < length ts → slice_index_or producers b [] ≡ producers_at ts b
row_of ts producers b e l = ap (λ rows. slice_index_or rows b []) e ∙ row_at ts b l

pub conflict_of : (ts : List Tuple) (b a : ℕ) → Contains (producers_at ts b) a → Conflict ts a b
conflict_of ts b a h = let r = kept_from (in_conflict ts b) b a h in record { before = r.0; shared = r.1 }

module _ (wrong : Wrong) (pace : Pace) (ts : List Tuple) (line : List Item) where
  abbrev pub NoneBelow : ℕ → Type 0
  NoneBelow n = (c d : ℕ) → d < n → Conflict ts c d → IsRight wrong pace line c d

  pub one_more : (b : ℕ) (row : List ℕ) → row ≡ producers_at ts b → NoneBelow b → NoneOf wrong pace line row b → NoneBelow (b + 1)
  one_more b row e h none c d l w = go (cases_lt d b)
    where
      go : (d < b) ⊎ (b ≤ d) → IsRight wrong pace line c d
      go (inl lt) = h c d lt w
      go (inr le) =
          let same : d ≡ b = omega arith in
          let v : Conflict ts c b = subst (λ x. Conflict ts c x) same w in
          subst (λ x. IsRight wrong pace line c x) (sym same) (none c (subst (λ r. Contains r c) (sym e) (kept_has (in_conflict ts b) b c v.before v.shared)))

  pub all_none : NoneBelow (length ts) → NoneWrong wrong pace ts line
  all_none h a b w = h a b (later_within ts a b w) w

  pub first_wrong : (b a : ℕ) (row : List ℕ) → row ≡ producers_at ts b → NoneBelow b → IsFirstOf wrong pace line row b a → IsFirstWrong wrong pace ts line a b
  first_wrong b a row e h f = record {
    stands = record { conflict = conflict_of ts b a (subst (λ r. Contains r a) e f.listed); so = f.so };
    before = h;
    beside = λ c l w. f.before c (subst (λ r. Contains r c) (sym e) (kept_has (in_conflict ts b) b c w.before w.shared)) l;
  }
