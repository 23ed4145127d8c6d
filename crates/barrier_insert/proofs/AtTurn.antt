-- The order of a greedy schedule: each tuple is new, and stands behind its producers.
use Rattle.std.proofs.Common.{◌≡◌, ℕ, zero, suc, ◌+◌, ◌<◌, ◌≤◌, true, false, nat_eq, List, [], ◌∷◌, map, length, take, slice_index, slice_index_or, refl, arith, subst, eqb-true, Contains, All}
use Rattle.std.specs.List.{list_any}
use Rattle.std.proofs.lemmas.List.{length-map}
use Rattle.std.proofs.lemmas.Map.Views.{Contains-from_any}
use Rattle.bm_base.specs.Machine.{Machine}
use Rattle.bm_base.specs.Spec.{time_of, interval}
use Rattle.bm_base.specs.declared.spec.Interval.{Interval}
use Rattle.tuple_ir.specs.declared.tuple.Tuple.{Tuple}
use Rattle.tuple_ir.specs.Kinds.{class_of}
use Rattle.dependence.specs.Producers.{producers_of, in_conflict}
use Rattle.dependence.proofs.Kept.{kept_from}
use Rattle.dependence.proofs.Rows.{row_at, as_many}
use Rattle.list_schedule.specs.Job.{job_of}
use Rattle.list_schedule.specs.Greedy.{Plan, IsGreedy, start}
use Rattle.time_interval.specs.Bounds.{pace_on, times_of}
use Rattle.barrier_insert.specs.Order.{in_order}
use Rattle.barrier_insert.specs.Inserted.{assignment}
use Rattle.barrier_insert.specs.Laws.{IsScheduled}
use Rattle.barrier_insert.proofs.Fits.{Fits}
use Rattle.barrier_insert.proofs.InOrder.{in_order_earlier, in_order_new, in_order_at, in_order_below}

-- as many times as tuples
pub as_many_times : (machine : Machine) (ts : List Tuple) → length (map (λ t. (time_of machine (class_of t)).most) ts) ≡ length ts
as_many_times machine ts = length-map ts (λ t. (time_of machine (class_of t)).most)

pub fits_in_order : (machine : Machine) (ts : List Tuple) (plan : Plan) → IsScheduled machine ts plan → Fits (assignment (pace_on machine ts) (producers_of ts) plan) (length ts) (in_order (start plan) (length ts))
fits_in_order machine ts plan h = record {
  below = in_order_below (start plan) (length ts);
  new = in_order_new (start plan) (length ts);
  there = λ k g l c. there k g l c (in_order_at (start plan) (length ts) k l);
  placed = λ t e. let b : t < length ts = in_order_below (start plan) (length ts) t e in h.greedy.machine t (let n = as_many_times machine ts in omega arith);
}
  where
    there : (k g : ℕ) → k < length (in_order (start plan) (length ts)) → Contains (slice_index_or (producers_of ts) (slice_index (in_order (start plan) (length ts)) k) []) g → slice_index (in_order (start plan) (length ts)) k < length ts → list_any (nat_eq g) (take k (in_order (start plan) (length ts))) ≡ true
    there k g l c b =
        let i = slice_index (in_order (start plan) (length ts)) k in
        let n = as_many_times machine ts in
        let it : slice_index (in_order (start plan) (length ts)) k < length (map (λ t. (time_of machine (class_of t)).most) ts) = omega arith in
        let e : g < slice_index (in_order (start plan) (length ts)) k = h.job.earlier i g it c in
        let f : start plan g + slice_index (map (λ t. (time_of machine (class_of t)).most) ts) g ≤ start plan (slice_index (in_order (start plan) (length ts)) k) = h.greedy.ready i it g c in
        let s : 1 ≤ slice_index (map (λ t. (time_of machine (class_of t)).most) ts) g = h.job.times g (omega arith) in
        in_order_earlier (start plan) (length ts) g k (omega arith) l (omega arith)

-- ---- a block on a machine

same_time : (f : Tuple → Interval) (ts : List Tuple) (a : ℕ) → a < length ts → slice_index (map (λ t. (f t).most) ts) a ≡ (slice_index_or (map f ts) a (interval 1 1)).most
same_time f [] a h = absurd (omega arith)
same_time f (t ∷ ts) zero h = refl
same_time f (t ∷ ts) (suc a) h = same_time f ts a (omega arith)

pub scheduled : (machine : Machine) (ts : List Tuple) (plan : Plan) → length ts ≤ 128 → 1 ≤ machine.processors → ((t : ℕ) → 1 ≤ (slice_index_or (times_of machine ts) t (interval 1 1)).most) → IsGreedy (job_of machine ts) plan → IsScheduled machine ts plan
scheduled machine ts plan few some times greedy = record {
  few = few;
  job = record {
    some = some;
    times = λ t l.
        let n = as_many_times machine ts in
        let e : slice_index (map (λ t. (time_of machine (class_of t)).most) ts) t ≡ (slice_index_or (map (λ t. time_of machine (class_of t)) ts) t (interval 1 1)).most = same_time (λ t. time_of machine (class_of t)) ts t (omega arith) in
        let s : 1 ≤ (slice_index_or (times_of machine ts) t (interval 1 1)).most = times t in
        omega arith;
    earlier = λ t a l c. let n = as_many_times machine ts in (kept_from (in_conflict ts t) t a (subst (λ xs. Contains xs a) (row_at ts t (omega arith)) c)).0;
  };
  greedy = greedy;
}

-- what the code asks of the tuple at a place of the order
pub record IsTurnOf (ts : List Tuple) (plan : Plan) (k : ℕ) : Type 0 where
  pub tuple : slice_index (in_order (start plan) (length ts)) k < length plan.places
  pub row : slice_index (in_order (start plan) (length ts)) k < length (producers_of ts)
  pub below : slice_index (in_order (start plan) (length ts)) k < length ts
  pub new : list_any (nat_eq (slice_index (in_order (start plan) (length ts)) k)) (take k (in_order (start plan) (length ts))) ≡ false
  pub there : All (λ g. Contains (take k (in_order (start plan) (length ts))) g) (slice_index_or (producers_of ts) (slice_index (in_order (start plan) (length ts)) k) [])
  pub known : All (λ g. g < length plan.places) (slice_index_or (producers_of ts) (slice_index (in_order (start plan) (length ts)) k) [])

any_place : (us : List ℕ) (k d : ℕ) → k < length us → Contains us (slice_index_or us k d)
any_place us k d l = (k, l, same us k l)
  where
    same : (xs : List ℕ) (j : ℕ) → j < length xs → slice_index_or xs j (slice_index_or us k d) ≡ slice_index_or xs j d
    same [] j l = absurd (omega arith)
    same (x ∷ xs) zero l = refl
    same (x ∷ xs) (suc j) l = same xs j (omega arith)

pub turn_of : (machine : Machine) (ts : List Tuple) (plan : Plan) (k : ℕ) → IsScheduled machine ts plan → k < length (in_order (start plan) (length ts)) → IsTurnOf ts plan k
turn_of machine ts plan k h l =
    let f = fits_in_order machine ts plan h in
    let b : slice_index (in_order (start plan) (length ts)) k < length ts = in_order_at (start plan) (length ts) k l in
    let n = as_many_times machine ts in
    let m : length plan.places ≡ length (map (λ t. (time_of machine (class_of t)).most) ts) = h.greedy.places in
    let r : length (producers_of ts) ≡ length ts = as_many ts in
    record {
      tuple = omega arith;
      row = omega arith;
      below = b;
      new = f.new k l;
      there = λ j d w. Contains-from_any (λ x y e. eqb-true x y e) _ _ (f.there k _ l (any_place (slice_index_or (producers_of ts) (slice_index (in_order (start plan) (length ts)) k) []) j d w));
      known = λ j d w. known j d w (h.job.earlier (slice_index (in_order (start plan) (length ts)) k) _ (omega arith) (any_place (slice_index_or (producers_of ts) (slice_index (in_order (start plan) (length ts)) k) []) j d w)) b n m;
    }
  where
    known : (j d : ℕ) → j < length (slice_index_or (producers_of ts) (slice_index (in_order (start plan) (length ts)) k) []) → slice_index_or (slice_index_or (producers_of ts) (slice_index (in_order (start plan) (length ts)) k) []) j d < slice_index (in_order (start plan) (length ts)) k → slice_index (in_order (start plan) (length ts)) k < length ts → length (map (λ t. (time_of machine (class_of t)).most) ts) ≡ length ts → length plan.places ≡ length (map (λ t. (time_of machine (class_of t)).most) ts) → slice_index_or (slice_index_or (producers_of ts) (slice_index (in_order (start plan) (length ts)) k) []) j d < length plan.places
    known j d w e b n m = omega arith
