-- One turn of the loop that places tuples.
use Rattle.std.proofs.Common.{◌≡◌, ◌≢◌, ℕ, zero, suc, ◌+◌, ◌*◌, ◌-◌, ◌<◌, ◌≤◌, ◌⊎◌, ◌&&◌, max, cond, nat_lt, nat_eq, List, [], length, set, slice_index, slice_index_or, get_or-set_same, get_or-set_other, count_by, true, refl, subst, sym, ap, ◌∙◌, inl, inr, arith}
use Rattle.std.proofs.lemmas.List.{length-set, get_or_past}
use Rattle.std.proofs.lemmas.Bool.Decides.{nat_tests}
use Rattle.list_schedule.specs.Job.{IsJob, height}
use Rattle.list_schedule.specs.Greedy.{start, IsReady, IsGreedy}
use Rattle.list_schedule.specs.Steps.{never, finish_of, finish_on, last_finish, ready_from, open_from, AreStarts, IsLeast, IsBest, is_found, index_of, job_with, plan_with}
use Rattle.list_schedule.specs.declared.steps.Best.{Best}
use Rattle.list_schedule.specs.declared.steps.Best.TheVariants.{Nothing, At}
use Rattle.list_schedule.proofs.Sums.{sum_to, sum_le, sum_const, sum_change}
use Rattle.list_schedule.proofs.HeightFacts.{of_element, values_least, value_at_most, value_attained}
use Rattle.list_schedule.proofs.Partial.{Partial, advanced, begun, finished}
use Rattle.list_schedule.proofs.Placing.{IsIdle, Chosen, Places, placing}

-- 1 where a start is none yet
abbrev pub is_open : ℕ → ℕ
is_open start = 1 - (never - start)

-- how many tuples have no place yet
pub unplaced : List ℕ → ℕ → ℕ
unplaced starts n = sum_to (λ u. is_open (slice_index starts u)) n

pub record Making (processors : ℕ) (times : List ℕ) (deps : List (List ℕ)) (starts places : List ℕ) (tick : ℕ) : Type 0 where
  pub sound : IsJob (job_with processors times deps)
  pub sizes : length places ≡ length times
  pub begins : AreStarts times starts
  pub upto : Partial (job_with processors times deps) (plan_with starts places) never tick
  pub room : (u : ℕ) → u < length times → slice_index starts u < never → slice_index starts u + slice_index times u + 1000 * unplaced starts (length times) ≤ 1000 * length times
  pub clock : tick + 1000 * unplaced starts (length times) ≤ 1000 * length times

-- a finish up to r is that of a placed tuple
finish_le : (s t r : ℕ) → r < never → cond (nat_lt s never) (s + t) never ≤ r → s + t ≤ r
finish_le s t r lt h = grind (arith, nat_tests)

finish_ge : (s t r : ℕ) → r < never → s + t ≤ r → cond (nat_lt s never) (s + t) never ≤ r
finish_ge s t r lt h = grind (arith, nat_tests)

open_le : (s f r : ℕ) → r < never → cond (nat_lt s never) never f ≤ r → (never ≤ s) × (f ≤ r)
open_le s f r lt h = grind (arith, nat_tests)

open_ge : (s f r : ℕ) → never ≤ s → f ≤ r → cond (nat_lt s never) never f ≤ r
open_ge s f r lt h = grind (arith, nat_tests)

on_is : (s t p q : ℕ) → s < never → p ≡ q → cond (nat_lt s never && nat_eq p q) (s + t) 0 ≡ s + t
on_is s t p q lt e = grind (arith, nat_tests)

on_more : (s t p q r : ℕ) → r < cond (nat_lt s never && nat_eq p q) (s + t) 0 → (s < never) × (p ≡ q) × (r < s + t)
on_more s t p q r h = grind (arith, nat_tests)

on_least : (s t p q r : ℕ) → (s < never → p ≡ q → s + t ≤ r) → cond (nat_lt s never && nat_eq p q) (s + t) 0 ≤ r
on_least s t p q r h = grind (arith, nat_tests)

low_or_above : (r s : ℕ) → (r ≤ s) ⊎ (s < r)
low_or_above r s = grind arith

low_or_high : (r s : ℕ) → (r < s) ⊎ (s ≤ r)
low_or_high r s = grind arith

same_or : (u t : ℕ) → (u ≡ t) ⊎ (u ≢ t)
same_or u t = grind arith

-- what is ready
ready_is : (processors : ℕ) (times : List ℕ) (deps : List (List ℕ)) (starts places : List ℕ) (t r : ℕ) → r < never → ready_from times starts (slice_index_or deps t []) ≤ r → IsReady (job_with processors times deps) (plan_with starts places) t r
ready_is processors times deps starts places t r lt h a has = finish_le (slice_index starts a) (slice_index times a) r lt (omega (arith, of_element (finish_of times starts) (slice_index_or deps t []) a has))

ready_at : (processors : ℕ) (times : List ℕ) (deps : List (List ℕ)) (starts places : List ℕ) (t r : ℕ) → r < never → IsReady (job_with processors times deps) (plan_with starts places) t r → ready_from times starts (slice_index_or deps t []) ≤ r
ready_at processors times deps starts places t r lt ready = values_least (finish_of times starts) (slice_index_or deps t []) r (λ a has. finish_ge (slice_index starts a) (slice_index times a) r lt (ready a has))

-- where some number counts there is a best one
some_found : (late score : ℕ → ℕ) (tick n : ℕ) (best : Best) (k : ℕ) → k < n → late k ≤ tick → IsBest late score tick n best → is_found best ≡ true
some_found late score tick n Nothing k lt le h = absurd (omega (arith, h k lt))
some_found late score tick n (At b s) k lt le h = refl

module _ (processors : ℕ) (times : List ℕ) (deps : List (List ℕ)) (starts places : List ℕ) (tick : ℕ) (g : Making processors times deps starts places tick) where
  low : tick ≤ 128000
  low = omega (arith, g.clock, g.begins.few)

  placed_or : (u : ℕ) → u < length times → (slice_index starts u ≤ tick) ⊎ (slice_index starts u ≡ never)
  placed_or u lt = g.upto.known u lt

  -- who is idle
  idle_is : (q r : ℕ) → r < never → last_finish times starts places q ≤ r → IsIdle (job_with processors times deps) (plan_with starts places) r q
  idle_is q r lt h = record { none = λ u run e. let from : slice_index starts u ≤ r = run.from in let until : r < slice_index starts u + slice_index times u = run.until in let here = value_at_most (finish_on times starts places q) (length times) u run.is_tuple in omega (arith, here, on_is (slice_index starts u) (slice_index times u) (slice_index places u) q (omega arith) e) }

  last_is : (q : ℕ) (r : ℕ) → ((u : ℕ) → u < length times → slice_index starts u < never → slice_index places u ≡ q → slice_index starts u + slice_index times u ≤ r) → last_finish times starts places q ≤ r
  last_is q r h = elim (value_attained (finish_on times starts places q) (length times)) [ inl none ↦ omega (arith, none) | inr k ↦ omega (arith, k.2, on_least (slice_index starts k.0) (slice_index times k.0) (slice_index places k.0) q r (h k.0 k.1)) ]

  idle_at : (q z : ℕ) → tick ≤ z → z < never → IsIdle (job_with processors times deps) (plan_with starts places) z q → last_finish times starts places q ≤ z
  idle_at q z on lt idle = last_is q z (λ u is early e. elim (low_or_above (slice_index starts u + slice_index times u) z) [ inl le ↦ le | inr more ↦ absurd (idle.none u (record { is_tuple = is; from = elim (placed_or u is) [ inl l ↦ omega arith | inr never_is ↦ absurd (omega arith) ]; until = more }) e) ])

  busy_before : (q r : ℕ) → r < last_finish times starts places q → (u : ℕ) × (u < length times) × (slice_index starts u < never) × (slice_index places u ≡ q) × (r < slice_index starts u + slice_index times u)
  busy_before q r h = elim (value_attained (finish_on times starts places q) (length times)) [ inl none ↦ absurd (omega (arith, none)) | inr k ↦ (let m = on_more (slice_index starts k.0) (slice_index times k.0) (slice_index places k.0) q r (omega (arith, k.2)) in (k.0, k.1, m.0, m.1, m.2)) ]

  last_low : (q : ℕ) → last_finish times starts places q + 1000 * unplaced starts (length times) ≤ 1000 * length times
  last_low q = let le : last_finish times starts places q ≤ 1000 * length times - 1000 * unplaced starts (length times) = last_is q _ (λ u is early e. omega (arith, g.room u is early)) in omega (arith, le, g.clock)

  ready_low : (t : ℕ) → t < length times → ready_from times starts (slice_index_or deps t []) < never → ready_from times starts (slice_index_or deps t []) + 1000 * unplaced starts (length times) ≤ 1000 * length times
  ready_low t lt h =
      let r : ℕ = ready_from times starts (slice_index_or deps t []) in
      let le : ready_from times starts (slice_index_or deps t []) ≤ 1000 * length times - 1000 * unplaced starts (length times) = values_least (finish_of times starts) (slice_index_or deps t []) (1000 * length times - 1000 * unplaced starts (length times)) (λ a has. let up : slice_index starts a + slice_index times a ≤ r = finish_le (slice_index starts a) (slice_index times a) r h (of_element (finish_of times starts) (slice_index_or deps t []) a has) in let isa : a < length times = omega (arith, g.sound.earlier t a lt has) in finish_ge (slice_index starts a) (slice_index times a) _ (omega (arith, g.begins.few)) (omega (arith, g.room a isa (omega arith)))) in
      omega (arith, le, g.clock)

  open_is : (s f : ℕ) → never ≤ s → cond (nat_lt s never) never f ≡ f
  open_is s f h = grind (arith, nat_tests)

  -- a tuple may be placed from tick o on, a processor is idle from tick d on
  module _ (o d z : ℕ) (opens : IsLeast (open_from times deps starts) (length times) o) (some : o < never) (idles : IsLeast (last_finish times starts places) processors d) (e : z ≡ max tick (max o d)) where
    first_open : (k : ℕ) × (k < length times) × (open_from times deps starts k ≡ o)
    first_open = elim opens.some [ inl top ↦ absurd (omega arith) | inr k ↦ k ]

    o_low : o + 1000 * unplaced starts (length times) ≤ 1000 * length times
    o_low =
        let k : ℕ = first_open.0 in
        let s : ℕ = slice_index starts first_open.0 in
        let f : ℕ = ready_from times starts (slice_index_or deps first_open.0 []) in
        let r = open_le (slice_index starts first_open.0) (ready_from times starts (slice_index_or deps first_open.0 [])) o some (omega (arith, first_open.2)) in
        let is = open_is (slice_index starts first_open.0) (ready_from times starts (slice_index_or deps first_open.0 [])) r.0 in
        omega (arith, ready_low first_open.0 first_open.1 (omega (arith, r.1)), first_open.2, is)

    d_low : d + 1000 * unplaced starts (length times) ≤ 1000 * length times
    d_low = omega (arith, idles.all 0 g.sound.some, last_low 0)

    first_idle : (k : ℕ) × (k < processors) × (last_finish times starts places k ≡ d)
    first_idle = elim idles.some [ inl top ↦ absurd (omega (arith, d_low, g.begins.few)) | inr k ↦ k ]

    z_low : z + 1000 * unplaced starts (length times) ≤ 1000 * length times
    z_low = omega (arith, o_low, d_low, g.clock, e)

    pub z_few : z ≤ 128000
    z_few = omega (arith, z_low, g.begins.few)

    pub z_never : z < never
    z_never = omega (arith, z_few)

    ahead : Partial (job_with processors times deps) (plan_with starts places) never z
    ahead =
        advanced (job_with processors times deps) (plan_with starts places) never tick z g.upto (omega (arith, e)) z_never (λ t r is from until early ready p ltp. elim (low_or_above d r) [ inl past ↦ absurd (let out : never ≤ slice_index starts t = elim (placed_or t is) [ inl l ↦ absurd (omega arith) | inr n ↦ omega arith ] in let le = open_ge (slice_index starts t) (ready_from times starts (slice_index_or deps t [])) r out (ready_at processors times deps starts places t r (omega (arith, z_never)) ready) in omega (arith, le, opens.all t is, e)) | inr before ↦ (let u = busy_before p r (omega (arith, idles.all p ltp)) in let here : slice_index starts u.0 ≤ tick = elim (placed_or u.0 u.1) [ inl l ↦ l | inr n ↦ absurd (omega (arith, u.2)) ] in (u.0, record { is_tuple = u.1; from = omega arith; until = u.4 }, u.3)) ])

    module _ (heights : List ℕ) (tall : (u : ℕ) → u < length times → slice_index heights u ≡ height (job_with processors times deps) u) (t s p c : ℕ) (first : IsBest (open_from times deps starts) (slice_index heights) z (length times) (At t s)) (best : IsBest (last_finish times starts places) (λ q. count_by (λ a. nat_eq (slice_index places a) q) (slice_index_or deps t [])) z processors (At p c)) where
      t_open : (never ≤ slice_index starts t) × (ready_from times starts (slice_index_or deps t []) ≤ z)
      t_open = open_le (slice_index starts t) (ready_from times starts (slice_index_or deps t [])) z z_never first.1

      t_never : slice_index starts t ≡ never
      t_never = elim (placed_or t first.0) [ inl l ↦ absurd (omega (arith, t_open.0, low)) | inr n ↦ n ]

      chosen : Chosen (job_with processors times deps) (plan_with starts places) never z t p
      chosen = record {
        is_tuple = first.0;
        unplaced = t_never;
        ready = ready_is processors times deps starts places t z z_never t_open.1;
        first = λ u is ne out ready. let le = open_ge (slice_index starts u) (ready_from times starts (slice_index_or deps u [])) z (omega (arith, out)) (ready_at processors times deps starts places u z z_never ready) in elim (first.3 u is le) [ inl less ↦ inl (omega (arith, less, first.2, tall u is, tall t first.0)) | inr same ↦ inr (omega (arith, same.0, first.2, tall u is, tall t first.0), omega (arith, same.1)) ];
        of_machine = best.0;
        idle = idle_is p z z_never best.1;
        best = λ q ltq idle. elim (best.3 q ltq (idle_at q z (omega (arith, e)) z_never idle)) [ inl less ↦ inl (omega (arith, less, best.2)) | inr same ↦ inr (same.0 ∙ sym best.2, same.1) ];
      }

      change : Places (job_with processors times deps) (plan_with starts places) (plan_with (set starts t z) (set places t p)) z t p
      change = record {
        starts = length-set starts t z ∙ g.begins.many;
        places = length-set places t p ∙ g.sizes;
        at = get_or-set_same starts t z 0 (omega (arith, g.begins.many, first.0));
        on = get_or-set_same places t p 0 (omega (arith, g.sizes, first.0));
        starts_kept = λ u ne. get_or-set_other starts t u z 0 ne;
        places_kept = λ u ne. get_or-set_other places t u p 0 ne;
      }

      fewer : unplaced (set starts t z) (length times) + 1 ≡ unplaced starts (length times)
      unfolding unplaced
      fewer = omega (arith, sum_change (λ u. is_open (slice_index (set starts t z) u)) (λ u. is_open (slice_index starts u)) (length times) t first.0 (λ u ne. ap is_open (change.starts_kept u ne)), ap is_open change.at, ap is_open t_never, z_never)

      pub made : Making processors times deps (set starts t z) (set places t p) z
      made = record {
        sound = g.sound;
        sizes = length-set places t p ∙ g.sizes;
        begins = record { many = length-set starts t z ∙ g.begins.many; few = g.begins.few; short = g.begins.short; early = λ u lt. elim (same_or u t) [ inl at ↦ omega (arith, ap (slice_index (set starts t z)) at, change.at, z_few) | inr ne ↦ omega (arith, change.starts_kept u ne, g.begins.early u (omega (arith, change.starts_kept u ne))) ] };
        upto = placing (job_with processors times deps) (plan_with starts places) (plan_with (set starts t z) (set places t p)) never z t p g.sound ahead chosen change;
        room = λ u is lt. elim (same_or u t) [ inl at ↦ omega (arith, ap (slice_index (set starts t z)) at, change.at, z_low, fewer, g.begins.short u) | inr ne ↦ omega (arith, change.starts_kept u ne, fewer, g.room u is (omega (arith, change.starts_kept u ne))) ];
        clock = omega (arith, z_low, fewer);
      }

      pub falls : unplaced (set starts t z) (length times) < unplaced starts (length times)
      falls = omega (arith, fewer)

    pub open_found : (score : ℕ → ℕ) (first : Best) → IsBest (open_from times deps starts) score z (length times) first → is_found first ≡ true
    open_found score first h = some_found (open_from times deps starts) score z (length times) first first_open.0 first_open.1 (omega (arith, first_open.2, e)) h

    pub idle_found : (score : ℕ → ℕ) (best : Best) → IsBest (last_finish times starts places) score z processors best → is_found best ≡ true
    idle_found score best h = some_found (last_finish times starts places) score z processors best first_idle.0 first_idle.1 (omega (arith, first_idle.2, e)) h

    -- after the turn that places t on p
    pub record Turned (t p : ℕ) : Type 0 where
      pub goes_on : Making processors times deps (set starts t z) (set places t p) z
      pub fewer_open : unplaced (set starts t z) (length times) < unplaced starts (length times)
      pub is_tuple : t < length times
      pub was_free : slice_index starts t ≡ never
      pub of_machine : p < processors

    pub turned : (heights : List ℕ) → ((u : ℕ) → u < length times → slice_index heights u ≡ height (job_with processors times deps) u) → (first best : Best) (row : List ℕ) (t p : ℕ) → IsBest (open_from times deps starts) (slice_index heights) z (length times) first → t ≡ index_of first → row ≡ slice_index_or deps t [] → IsBest (last_finish times starts places) (λ q. count_by (λ a. nat_eq (slice_index places a) q) row) z processors best → p ≡ index_of best → Turned t p
    turned heights tall Nothing best row t p first et is idle ep = absurd (cc (open_found (slice_index heights) Nothing first))
    turned heights tall (At x s) Nothing row t p first et is idle ep = absurd (cc (idle_found (λ q. count_by (λ a. nat_eq (slice_index places a) q) row) Nothing idle))
    turned heights tall (At x s) (At y n) row t p first et is idle ep =
        let P : List ℕ → Type 0 = λ r. IsBest (last_finish times starts places) (λ q. count_by (λ a. nat_eq (slice_index places a) q) r) z processors (At y n) in
        let own : row ≡ slice_index_or deps x [] = is ∙ ap (λ u. slice_index_or deps u []) et in
        let best : IsBest (last_finish times starts places) (λ q. count_by (λ a. nat_eq (slice_index places a) q) (slice_index_or deps x [])) z processors (At y n) = subst P own idle in
        let there : Turned x y = record { goes_on = made heights tall x s y n first best; fewer_open = falls heights tall x s y n first best; is_tuple = first.0; was_free = t_never heights tall x s y n first best; of_machine = best.0 } in
        let Q : ℕ → Type 0 = λ u. Turned u y in
        let R : ℕ → Type 0 = λ q. Turned t q in
        subst R (sym ep) (subst Q (sym et) there)

  -- where no tuple may be placed, all are
  all_placed : (o : ℕ) → IsLeast (open_from times deps starts) (length times) o → never ≤ o → (k t : ℕ) → t < length times → t < k → slice_index starts t ≤ tick
  all_placed o opens top zero t lt h = absurd (omega arith)
  all_placed o opens top (suc k) t lt h =
      elim (placed_or t lt) [ inl l ↦ l | inr out ↦ absurd (let ready : ready_from times starts (slice_index_or deps t []) ≤ 130000 = values_least (finish_of times starts) (slice_index_or deps t []) 130000 (λ a has. let early : a < t = g.sound.earlier t a lt has in let here : slice_index starts a ≤ tick = all_placed o opens top k a (omega arith) (omega arith) in finish_ge (slice_index starts a) (slice_index times a) 130000 (omega arith) (omega (arith, low, g.begins.short a))) in let le = open_ge (slice_index starts t) (ready_from times starts (slice_index_or deps t [])) 130000 (omega (arith, out)) ready in omega (arith, le, opens.all t lt)) ]

  pub greedy : (o : ℕ) → IsLeast (open_from times deps starts) (length times) o → never ≤ o → IsGreedy (job_with processors times deps) (plan_with starts places)
  greedy o opens top = finished (job_with processors times deps) (plan_with starts places) never tick g.upto (λ t lt. all_placed o opens top (suc t) t lt (omega arith))

  pub early : (o : ℕ) → IsLeast (open_from times deps starts) (length times) o → never ≤ o → (u : ℕ) → slice_index starts u ≤ 128000
  early o opens top u = elim (low_or_high u (length times)) [ inl lt ↦ omega (arith, low, all_placed o opens top (suc u) u lt (omega arith)) | inr h ↦ omega (arith, get_or_past starts u 0 (omega (arith, g.begins.many))) ]

at_most_one : (s : ℕ) → is_open s ≤ 1
at_most_one s = omega arith

-- at first no tuple has a place
pub made_first : (processors : ℕ) (times : List ℕ) (deps : List (List ℕ)) (starts places : List ℕ) → IsJob (job_with processors times deps) → length places ≡ length times → length starts ≡ length times → length times ≤ 128 → ((u : ℕ) → slice_index times u ≤ 1000) → ((u : ℕ) → u < length times → slice_index starts u ≡ never) → ((u : ℕ) → length times ≤ u → slice_index starts u ≡ 0) → Making processors times deps starts places 0
unfolding unplaced
made_first processors times deps starts places sound sizes many few short out past = record {
  sound = sound;
  sizes = sizes;
  begins = record { many = many; few = few; short = short; early = λ u lt. elim (low_or_high u (length times)) [ inl l ↦ absurd (omega (arith, out u l)) | inr h ↦ omega (arith, past u h) ] };
  upto = begun (job_with processors times deps) (plan_with starts places) never many sizes (omega arith) out;
  room = λ u is lt. absurd (omega (arith, out u is));
  clock = omega (arith, sum_le (λ u. is_open (slice_index starts u)) (λ _. 1) (length times) (λ u lt. at_most_one (slice_index starts u)), sum_const 1 (length times));
}
