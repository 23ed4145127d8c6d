-- What is known of the job of a block.
use Rattle.std.proofs.Common.{◌≡◌, ℕ, zero, suc, ◌+◌, ◌<◌, ◌≤◌, ◌⊎◌, List, [], ◌∷◌, ◌++◌, length, map, slice_index, slice_index_or, Contains, ◌*◌, ◌-◌, sym, ap, subst, ◌∙◌, inl, inr, arith}
use Rattle.std.specs.List.{range_with_len}
use Rattle.std.proofs.lemmas.List.{length-map, get_or_past}
use Rattle.std.proofs.lemmas.List.FromFn.{length-map-range_with_len, get_or-map-range_with_len}
use Rattle.bm_base.specs.Machine.{Machine}
use Rattle.bm_base.specs.Spec.{time_of}
use Rattle.tuple_ir.specs.declared.tuple.Tuple.{Tuple}
use Rattle.tuple_ir.specs.Kinds.{class_of}
use Rattle.dependence.specs.Producers.{in_conflict, producers_of}
use Rattle.dependence.proofs.Kept.{kept_from}
use Rattle.dependence.proofs.Rows.{row_at, as_many}
use Rattle.list_schedule.specs.Job.{Job, IsJob, AreTimes, job_of, height}
use Rattle.list_schedule.specs.Steps.{job_with}

pub times_more : (xs : List ℕ) (x : ℕ) → AreTimes xs → 1 ≤ x → x ≤ 1000 → AreTimes (xs ++ x ∷ [])
times_more [] x h low high zero lt = (low, high)
times_more [] x h low high (suc k) lt = absurd (omega arith)
times_more (y ∷ ys) x h low high zero lt = h zero (omega arith)
times_more (y ∷ ys) x h low high (suc k) lt = times_more ys x (λ u within. h (suc u) (omega arith)) low high k (omega arith)

-- the lists that are made for a block are those of its job
pub record Made (machine : Machine) (ts : List Tuple) (times : List ℕ) (deps : List (List ℕ)) : Type 0 where
  pub few : length times ≤ 128
  pub same : length deps ≡ length times
  pub short : (u : ℕ) → slice_index times u ≤ 1000
  pub sound : (p : ℕ) → 1 ≤ p → IsJob (job_with p times deps)
  pub job : job_with machine.processors times deps ≡ job_of machine ts

-- a block has as many tuples as there are lists of its producers
pub few_tuples : (ts : List Tuple) (deps : List (List ℕ)) → deps ≡ producers_of ts → length deps ≤ 128 → length ts ≤ 128
few_tuples ts deps is few = let many : length deps ≡ length ts = ap length is ∙ as_many ts in omega arith

low_or_high : (r s : ℕ) → (r < s) ⊎ (s ≤ r)
low_or_high r s = grind arith

pub made_for : (machine : Machine) (ts : List Tuple) (times : List ℕ) (deps : List (List ℕ)) → length ts ≤ 128 → times ≡ map (λ t. (time_of machine (class_of t)).most) ts → AreTimes times → deps ≡ producers_of ts → Made machine ts times deps
made_for machine ts times deps few are ranged is =
    let many : length times ≡ length ts = ap length are ∙ length-map ts (λ t. (time_of machine (class_of t)).most) in
    record {
      few = omega (arith, many);
      same = ap length is ∙ as_many ts ∙ sym many;
      short = λ u. elim (low_or_high u (length times)) [ inl lt ↦ (let r = ranged u lt in r.1) | inr past ↦ omega (arith, get_or_past times u 0 past) ];
      sound = λ p some. record {
        some = some;
        times = λ t lt. (let r = ranged t lt in r.0);
        earlier = λ t a lt has.
            let P : List ℕ → Type 0 = λ xs. Contains xs a in
            let r = kept_from (in_conflict ts t) t a (subst P (ap (λ d. slice_index_or d t []) is ∙ row_at ts t (omega (arith, many))) has) in
            r.0;
      };
      job = ap (λ x. job_with machine.processors x deps) are ∙ ap (job_with machine.processors (map (λ t. (time_of machine (class_of t)).most) ts)) is;
    }

pub heights_many : (job : Job) (heights : List ℕ) → heights ≡ map (height job) (range_with_len 0 (length job.times)) → length heights ≡ length job.times
heights_many job heights are = ap length are ∙ length-map-range_with_len (height job) 0 (length job.times)

pub height_at : (job : Job) (heights : List ℕ) → heights ≡ map (height job) (range_with_len 0 (length job.times)) → (u : ℕ) → u < length job.times → slice_index heights u ≡ height job u
height_at job heights are u lt = ap (λ hs. slice_index hs u) are ∙ get_or-map-range_with_len (height job) 0 (length job.times) u u 0 lt (omega arith)

pub is_job : (machine : Machine) (ts : List Tuple) (times : List ℕ) (deps : List (List ℕ)) → Made machine ts times deps → 1 ≤ machine.processors → IsJob (job_of machine ts)
is_job machine ts times deps m some = let P : Job → Type 0 = IsJob in subst P m.job (m.sound machine.processors some)

pub bounded : (p m w l n v k : ℕ) → m ≡ n → w ≡ v → l ≡ k → p * n ≤ v + (p - 1) * k → p * m ≤ w + (p - 1) * l
bounded p m w l n v k em ew el h =
    let A : ℕ → Type 0 = λ x. p * x ≤ w + (p - 1) * l in
    let B : ℕ → Type 0 = λ x. p * n ≤ x + (p - 1) * l in
    let C : ℕ → Type 0 = λ x. p * n ≤ v + (p - 1) * x in
    subst A (sym em) (subst B (sym ew) (subst C (sym el) h))
