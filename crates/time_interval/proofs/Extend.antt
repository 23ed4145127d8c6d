-- Order in a line that grows.
use Rattle.std.proofs.Common.{◌≡◌, ℕ, zero, suc, ◌+◌, ◌<◌, ◌≤◌, Bool, true, false, nat_eq, List, [], ◌∷◌, ◌++◌, length, length-append, Option, Some, None, refl, sym, ap, ap₂, ◌∙◌, arith, ◌⊎◌, inl, inr, subst, max, if◌then◌else◌, append-nil}
use Rattle.std.specs.List.{IsDistinct, list_any}
use Rattle.std.proofs.lemmas.Bool.{cases_lt}
use Rattle.bm_base.specs.Mask.{has_bit}
use Rattle.line_model.specs.declared.line.Item.{Item}
use Rattle.line_model.specs.declared.line.Item.TheVariants.{Run, Bar}
use Rattle.line_model.specs.Streams.{masks, before}
use Rattle.line_model.proofs.LineFacts.{masks-append}
use Rattle.time_interval.specs.declared.reference.Reference.{Reference}
use Rattle.time_interval.specs.declared.reference.Reference.TheVariants as since
use Rattle.time_interval.specs.Bounds.{Pace, Known, known, along, since_bar, at_start, at_bar, past_run, past_bar, fire_lo, greater_known, later, time}
use Rattle.time_interval.specs.Lines.{tuples}
use Rattle.time_interval.specs.Ordered.{IsOrdered, IsReference}
use Rattle.time_interval.specs.Next.{IsSomeInTimeNext}
use Rattle.time_interval.specs.Seen.{StandsBehind, StandsOn, IsSeen}
use Rattle.time_interval.proofs.Parts.{stands_more, member_more, member_within, before_more, chain_more}
use Rattle.time_interval.proofs.SeenFacts.{by_processor_is, by_barrier_is, seen_more, bar_gives}
use Rattle.time_interval.proofs.NextFacts.{front_kept, some_next, stands_next, tuples-append}

more_masks : (part more : List Item) → length (masks part) ≤ length (masks (part ++ more))
more_masks part more = let e : length (masks (part ++ more)) ≡ length (masks part ++ masks more) = ap length (masks-append part more) in omega (arith, length-append (masks part) (masks more))

pub reference_more : (part more : List Item) (r : Reference) → IsReference part r → IsReference (part ++ more) r
reference_more part more since.Start h = h
reference_more part more (since.Bar j) h = let m : length (masks part) ≤ length (masks (part ++ more)) = more_masks part more in omega arith

-- what is ordered stays so
pub ordered_more : (pace : Pace) (part more : List Item) (g i : ℕ) → list_any (nat_eq g) (tuples part) ≡ true → list_any (nat_eq i) (tuples part) ≡ true → IsOrdered pace part g i → IsOrdered pace (part ++ more) g i
ordered_more pace part more g i hg hi (inl (inl o)) = inl (inl (record { p = o.p; kg = o.kg; ki = o.ki; g_at = stands_more part more g o.p o.kg o.g_at; i_at = stands_more part more i o.p o.ki o.i_at; first = o.first }))
ordered_more pace part more g i hg hi (inl (inr o)) =
    let ea : before o.p o.a (part ++ more) ≡ before o.p o.a part = before_more o.p o.a part more (member_within part o.a o.p o.first) in
    let eb : before o.q o.b (part ++ more) ≡ before o.q o.b part = before_more o.q o.b part more (member_within part o.b o.q o.last) in
    let la : o.kg < before o.p o.a part = o.after_g in
    let lb : before o.q o.b part < o.ki = o.before_i in
    inl (inr (record {
      p = o.p;
      kg = o.kg;
      q = o.q;
      ki = o.ki;
      a = o.a;
      b = o.b;
      g_at = stands_more part more g o.p o.kg o.g_at;
      i_at = stands_more part more i o.q o.ki o.i_at;
      first = member_more part more o.a o.p o.first;
      after_g = omega arith;
      chain = chain_more more o.chain;
      last = member_more part more o.b o.q o.last;
      before_i = omega arith;
    }))
ordered_more pace part more g i hg hi (inr (r, l, t)) =
    let kg = front_kept part more g hg in
    let ki = front_kept part more i hi in
    inr (
      r,
      reference_more part more r l,
      record {
        latest = t.latest;
        earliest = t.earliest;
        finish = ap₂ (λ xs q. later ((known pace r xs).up q) (time pace g).most) kg.0 kg.1 ∙ t.finish;
        start = ap₂ (λ xs q. (known pace r xs).lo q) ki.0 ki.1 ∙ t.start;
        order = t.order;
      },
    )

-- ---- a Bar of the processor before its next tuple

pub along_bar : (pace : Pace) (k : Known) (part : List Item) (m : ℕ) → along pace k (part ++ Bar m ∷ []) ≡ past_bar pace m (along pace k part)
along_bar pace k [] m = refl
along_bar pace k (Run q t ∷ part) m = along_bar pace (past_run pace q t k) part m
along_bar pace k (Bar w ∷ part) m = along_bar pace (past_bar pace w k) part m

pub since_then_bar : (pace : Pace) (j : ℕ) (part : List Item) (m : ℕ) → j < length (masks part) → since_bar pace j (part ++ Bar m ∷ []) ≡ past_bar pace m (since_bar pace j part)
since_then_bar pace j [] m h = absurd (omega arith)
since_then_bar pace j (Run q t ∷ part) m h = since_then_bar pace j part m h
since_then_bar pace zero (Bar w ∷ part) m h = along_bar pace (at_bar pace w) part m
since_then_bar pace (suc j) (Bar w ∷ part) m h = since_then_bar pace j part m (omega arith)

known_bar : (pace : Pace) (r : Reference) (part : List Item) (m : ℕ) → IsReference part r → known pace r (part ++ Bar m ∷ []) ≡ past_bar pace m (known pace r part)
known_bar pace since.Start part m h = along_bar pace (at_start pace) part m
known_bar pace (since.Bar j) part m h = since_then_bar pace j part m h

pub record AtLeast (x : ℕ) (y : Option ℕ) : Type 0 where
  pub value : ℕ
  pub is : y ≡ Some value
  pub least : x ≤ value

pub greater_left : (x : ℕ) (a b : Option ℕ) → AtLeast x a → AtLeast x (greater_known a b)
greater_left x None b h = absurd (let e : None ≡ Some h.value = h.is in cc)
greater_left x (Some y) None h = h
greater_left x (Some y) (Some z) h = let e : y ≡ h.value = (let f : Some y ≡ Some h.value = h.is in cc) in record { value = max y z; is = refl; least = omega (arith, h.least) }

pub greater_right : (x : ℕ) (a : Option ℕ) → AtLeast x (greater_known a (Some x))
greater_right x None = record { value = x; is = refl; least = omega arith }
greater_right x (Some y) = record { value = max y x; is = refl; least = omega arith }

fire_at_least : (n m p x : ℕ) (lo : ℕ → Option ℕ) → p < n → has_bit m p ≡ true → lo p ≡ Some x → AtLeast x (fire_lo n m lo)
fire_at_least zero m p x lo l h e = absurd (omega arith)
fire_at_least (suc n) m p x lo l h e = go (cases_lt p n) (fire_at_least n m p x lo)
  where
    kept : (b : Bool) → AtLeast x (fire_lo n m lo) → AtLeast x (if b then greater_known (fire_lo n m lo) (lo n) else fire_lo n m lo)
    kept true a = greater_left x (fire_lo n m lo) (lo n) a
    kept false a = a

    go : (p < n) ⊎ (n ≤ p) → (p < n → has_bit m p ≡ true → lo p ≡ Some x → AtLeast x (fire_lo n m lo)) → AtLeast x (if has_bit m n then greater_known (fire_lo n m lo) (lo n) else fire_lo n m lo)
    go (inl s) r = kept (has_bit m n) (r s h e)
    go (inr s) r =
        let same : p ≡ n = omega arith in
        let hn : has_bit m n ≡ true = subst (λ z. has_bit m z ≡ true) same h in
        let en : lo n ≡ Some x = subst (λ z. lo z ≡ Some x) same e in
        subst (AtLeast x) (sym (ap₂ (λ b y. if b then greater_known (fire_lo n m lo) y else fire_lo n m lo) hn en)) (greater_right x (fire_lo n m lo))

pub next_past_bar : (pace : Pace) (part : List Item) (m p g : ℕ) → has_bit m p ≡ true → p < pace.processors → list_any (nat_eq g) (tuples part) ≡ true → IsSomeInTimeNext pace part g p → IsSomeInTimeNext pace (part ++ Bar m ∷ []) g p
next_past_bar pace part m p g h lp hg (r, l, t) =
    let k = front_kept part (Bar m ∷ []) g hg in
    let a = fire_at_least pace.processors m p t.earliest (known pace r part).lo lp h t.start in
    let e : (past_bar pace m (known pace r part)).lo p ≡ Some (a.value + pace.delay) = ap₂ (λ b y. if b then later y pace.delay else (known pace r part).lo p) h a.is in (
      r,
      reference_more part (Bar m ∷ []) r l,
      record {
        latest = t.latest;
        earliest = a.value + pace.delay;
        finish = ap₂ (λ xs q. later ((known pace r xs).up q) (time pace g).most) k.0 k.1 ∙ t.finish;
        start = ap (λ (w : Known). w.lo p) (known_bar pace r part m l) ∙ e;
        order = (let o : t.latest ≤ t.earliest = t.order in let w : t.earliest ≤ a.value = a.least in omega arith);
      },
    )

module _ (pace : Pace) (part : List Item) (m p g i : ℕ) (once : IsDistinct nat_eq (tuples part)) (here : list_any (nat_eq g) (tuples part) ≡ true) (new : list_any (nat_eq i) (tuples part) ≡ false) where
  same_tuples : tuples (part ++ Bar m ∷ []) ≡ tuples part
  same_tuples = tuples-append part (Bar m ∷ []) ∙ append-nil (tuples part)

  here2 : list_any (nat_eq g) (tuples (part ++ Bar m ∷ [])) ≡ true
  here2 = ap (list_any (nat_eq g)) same_tuples ∙ here

  new2 : list_any (nat_eq i) (tuples (part ++ Bar m ∷ [])) ≡ false
  new2 = ap (list_any (nat_eq i)) same_tuples ∙ new

  behind : StandsBehind (part ++ Run p i ∷ []) part p i
  behind = stands_next pace part g p i here new once

  behind2 : StandsBehind ((part ++ Bar m ∷ []) ++ Run p i ∷ []) (part ++ Bar m ∷ []) p i
  behind2 = stands_next pace (part ++ Bar m ∷ []) g p i here2 new2 (subst (IsDistinct nat_eq) (sym same_tuples) once)

  seen_then : IsSeen (part ++ Bar m ∷ []) p g → IsOrdered pace ((part ++ Bar m ∷ []) ++ Run p i ∷ []) g i
  seen_then (inl s) = inl (inl ((by_processor_is _ _ p i g behind2).1 s))
  seen_then (inr c) = inl (inr ((by_barrier_is _ _ p i g behind2).1 c))

  -- a Bar of the processor keeps what is ordered before its next tuple
  pub kept_by_bar : has_bit m p ≡ true → p < pace.processors → IsOrdered pace (part ++ Run p i ∷ []) g i → IsOrdered pace ((part ++ Bar m ∷ []) ++ Run p i ∷ []) g i
  kept_by_bar h lp (inl (inl o)) = seen_then (seen_more part (Bar m ∷ []) p g (inl ((by_processor_is _ _ p i g behind).0 o)))
  kept_by_bar h lp (inl (inr o)) = seen_then (seen_more part (Bar m ∷ []) p g (inr ((by_barrier_is _ _ p i g behind).0 o)))
  kept_by_bar h lp (inr t) = inr ((some_next pace (part ++ Bar m ∷ []) g p i here2 new2).0 (next_past_bar pace part m p g h lp here ((some_next pace part g p i here new).1 t)))

  -- and a Bar of both processors orders
  pub made_by_bar : (q : ℕ) → has_bit m p ≡ true → has_bit m q ≡ true → StandsOn part q g → IsOrdered pace ((part ++ Bar m ∷ []) ++ Run p i ∷ []) g i
  made_by_bar q hp hq s = seen_then (bar_gives part m p q g hp hq (inl s))
