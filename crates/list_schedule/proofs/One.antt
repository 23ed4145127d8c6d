-- At most one schedule is greedy.
use Rattle.std.proofs.Common.{◌≡◌, ℕ, zero, suc, ◌+◌, ◌*◌, ◌-◌, ◌<◌, ◌≤◌, ◌⊎◌, Bool, List, [], ◌∷◌, refl, sym, ap, subst, ◌∙◌, inl, inr, arith, count_by, nat_eq, Contains, cond}
use Rattle.std.proofs.lemmas.List.{ext_get_or}
use Rattle.std.proofs.lemmas.List.Elements.{Contains-append_right}
use Rattle.std.proofs.lemmas.List.Sums.{sum_by-cons}
use Rattle.list_schedule.specs.Job.{Job, IsJob, tuples, time, producers, height, longest, ComesBefore}
use Rattle.list_schedule.specs.Greedy.{Plan, start, place, finish, Runs, IsReady, IsFree, holds, IsGreedy}
use Rattle.list_schedule.proofs.HeightFacts.{height_at_most}

-- what starts in one plan before tick s starts in the other at the same tick and place
pub record Follows (job : Job) (one other : Plan) (s : ℕ) : Type 0 where
  pub same : (t : ℕ) → t < tuples job → start one t < s → (start other t ≡ start one t) × (place other t ≡ place one t)

-- if t starts at tick s in one, it does in the other, and at the same place
pub record Meets (one other : Plan) (s t : ℕ) : Type 0 where
  pub same : start one t ≡ s → (start other t ≡ s) × (place other t ≡ place one t)

pub record Alike (one other : Plan) (s t : ℕ) : Type 0 where
  pub forth : Meets one other s t
  pub back : Meets other one s t

-- two greedy plans that agree before tick s
pub record Setting (job : Job) (one other : Plan) (s : ℕ) : Type 0 where
  pub sound : IsJob job
  pub first : IsGreedy job one
  pub second : IsGreedy job other
  pub before : Follows job one other s
  pub after : Follows job other one s

-- the tuples that are taken before t are alike at tick s
pub record Earlier (job : Job) (one other : Plan) (s t : ℕ) : Type 0 where
  pub alike : (u : ℕ) → u < tuples job → ComesBefore job u t → Alike one other s u

turned : (job : Job) (one other : Plan) (s : ℕ) → Setting job one other s → Setting job other one s
turned job one other s g = record { sound = g.sound; first = g.second; second = g.first; before = g.after; after = g.before }

turned_earlier : (job : Job) (one other : Plan) (s t : ℕ) → Earlier job one other s t → Earlier job other one s t
turned_earlier job one other s t e = record { alike = λ u lt b. let x = e.alike u lt b in record { forth = x.back; back = x.forth } }

pub below_or_at : (a n : ℕ) → a ≤ n → (a < n) ⊎ (a ≡ n)
below_or_at a n h = grind arith

pub not_before_itself : (job : Job) (t : ℕ) → ComesBefore job t t → ⊥
not_before_itself job t (inl h) = omega arith
not_before_itself job t (inr h) = omega arith

pub runs_at_start : (job : Job) (plan : Plan) (s t : ℕ) → IsJob job → t < tuples job → start plan t ≡ s → Runs job plan t s
runs_at_start job plan s t sound lt e = record { is_tuple = lt; from = omega arith; until = omega (arith, sound.times t lt) }

producer_started : (job : Job) (one other : Plan) (s t a : ℕ) → Setting job one other s → t < tuples job → start one t ≡ s → Contains (producers job t) a → (a < tuples job) × (start one a < s)
producer_started job one other s t a g lt e has =
    let early : a < t = g.sound.earlier t a lt has in
    let some : 1 ≤ time job a = g.sound.times a (omega arith) in
    let done : finish job one a ≤ start one t = g.first.ready t lt a has in
    (omega arith, omega arith)

ready_too : (job : Job) (one other : Plan) (s t : ℕ) → Setting job one other s → t < tuples job → start one t ≡ s → IsReady job other t s
ready_too job one other s t g lt e a has =
    let p = producer_started job one other s t a g lt e has in
    let same = g.before.same a p.0 p.1 in
    let done : finish job one a ≤ start one t = g.first.ready t lt a has in
    omega (arith, same.0)

-- a tuple that runs in the other plan and started earlier, or is taken before t, is in both plans
pub record Moved (job : Job) (one other : Plan) (s u : ℕ) : Type 0 where
  pub runs : Runs job one u s
  pub at : start one u ≡ start other u
  pub on : place one u ≡ place other u

moved_by : (job : Job) (one other : Plan) (s u : ℕ) → Runs job other u s → start one u ≡ start other u → place one u ≡ place other u → Moved job one other s u
moved_by job one other s u r at on = record { runs = record { is_tuple = r.is_tuple; from = omega (arith, r.from); until = omega (arith, r.until) }; at = at; on = on }

moved : (job : Job) (one other : Plan) (s t u : ℕ) → Setting job one other s → Earlier job one other s t → Runs job other u s → (start other u < s) ⊎ ComesBefore job u t → Moved job one other s u
moved job one other s t u g e r (inl lt) = let same = g.after.same u r.is_tuple lt in moved_by job one other s u r same.0 same.1
moved job one other s t u g e r (inr b) =
    let when : (start other u < s) ⊎ (start other u ≡ s) = below_or_at (start other u) s r.from in
    elim when [ inl lt ↦ (let same = g.after.same u r.is_tuple lt in moved_by job one other s u r same.0 same.1) | inr here ↦ (let same = (e.alike u r.is_tuple b).back.same here in moved_by job one other s u r (same.0 ∙ sym here) same.1) ]

-- no tuple with t's place runs at t's start
nobody : (job : Job) (one other : Plan) (s t u : ℕ) → Setting job one other s → t < tuples job → start one t ≡ s → Moved job one other s u → place other u ≡ place one t → (start other u < s) ⊎ ComesBefore job u t → ⊥
nobody job one other s t u g lt e m here why =
    let same : t ≡ u = g.first.alone t u s (runs_at_start job one s t g.sound lt e) m.runs (sym (m.on ∙ here)) in
    elim why [ inl early ↦ (let at : start one u ≡ start one t = ap (start one) (sym same) in omega (arith, m.at)) | inr b ↦ (let P : ℕ → Type 0 = λ x. ComesBefore job x t in not_before_itself job t (subst P (sym same) b)) ]

not_behind : (job : Job) (one other : Plan) (s t : ℕ) → Setting job one other s → Earlier job one other s t → t < tuples job → start one t ≡ s → s < start other t → ⊥
not_behind job one other s t g e lt at late =
    let ready = ready_too job one other s t g lt at in
    let full = g.second.busy t s lt late ready (place one t) (g.first.machine t lt) in
    let u = full.0 in
    let r = full.1 in
    let when : (start other u < s) ⊎ (start other u ≡ s) = below_or_at (start other u) s r.from in
    let why : (start other u < s) ⊎ ComesBefore job u t = elim when [ inl early ↦ inl early | inr here ↦ inr (g.second.taken t s lt late ready u r.is_tuple here) ] in
    nobody job one other s t u g lt at (moved job one other s t u g e r why) full.2 why

three : (a b : ℕ) → (a < b → ⊥) → (b < a → ⊥) → a ≡ b
three a b h k = grind arith

starts_then : (job : Job) (one other : Plan) (s t : ℕ) → Setting job one other s → Earlier job one other s t → t < tuples job → start one t ≡ s → start other t ≡ s
starts_then job one other s t g e lt at = three (start other t) s (λ early. let same = g.after.same t lt early in omega (arith, same.0)) (not_behind job one other s t g e lt at)

-- what is free for t in one plan is free in the other
free_moves : (job : Job) (one other : Plan) (s t p : ℕ) → Setting job one other s → Earlier job one other s t → start one t ≡ s → start other t ≡ s → IsFree job one t p → IsFree job other t p
free_moves job one other s t p g e at there free u r here why =
    let P : ℕ → Type 0 = λ x. Runs job other u x in
    let now : (start other u < s) ⊎ ComesBefore job u t = elim why [ inl early ↦ inl (omega arith) | inr b ↦ inr b ] in
    let m = moved job one other s t u g e (subst P there r) now in
    let Q : ℕ → Type 0 = λ x. Runs job one u x in
    let then : (start one u < start one t) ⊎ ComesBefore job u t = elim why [ inl early ↦ inl (omega (arith, m.at)) | inr b ↦ inr b ] in
    free u (subst Q (sym at) m.runs) (m.on ∙ here) then

pub count_same : (f g : ℕ → Bool) (xs : List ℕ) → ((a : ℕ) → Contains xs a → f a ≡ g a) → count_by f xs ≡ count_by g xs
count_same f g [] h = refl
count_same f g (x ∷ xs) h =
    sum_by-cons (λ y. cond (f y) 1 0) x xs ∙ ap (λ b. cond b 1 0 + count_by f xs) (h x (zero, omega arith, refl)) ∙ ap (λ n. cond (g x) 1 0 + n) (count_same f g xs (λ a has. h a (Contains-append_right (x ∷ []) xs a has))) ∙ sym (sum_by-cons (λ y. cond (g y) 1 0) x xs)

holds_same : (job : Job) (one other : Plan) (s t p : ℕ) → Setting job one other s → t < tuples job → start one t ≡ s → holds job one t p ≡ holds job other t p
holds_same job one other s t p g lt at =
    count_same (λ a. nat_eq (place one a) p) (λ a. nat_eq (place other a) p) (producers job t) (λ a has. let r = producer_started job one other s t a g lt at has in ap (λ x. nat_eq x p) (sym (g.before.same a r.0 r.1).1))

the_same_best : (x y v w p q : ℕ) → x ≡ v → y ≡ w → (y < x) ⊎ ((y ≡ x) × (p ≤ q)) → (v < w) ⊎ ((v ≡ w) × (q ≤ p)) → q ≡ p
the_same_best x y v w p q a b (inl h) (inl k) = absurd (omega arith)
the_same_best x y v w p q a b (inl h) (inr k) = absurd (omega arith)
the_same_best x y v w p q a b (inr h) (inl k) = absurd (omega arith)
the_same_best x y v w p q a b (inr h) (inr k) = omega arith

place_same : (job : Job) (one other : Plan) (s t : ℕ) → Setting job one other s → Earlier job one other s t → t < tuples job → start one t ≡ s → start other t ≡ s → place other t ≡ place one t
place_same job one other s t g e lt at there =
    let p : ℕ = place one t in
    let q : ℕ = place other t in
    let back = free_moves job other one s t q (turned job one other s g) (turned_earlier job one other s t e) there at (g.second.free t lt) in
    let forth = free_moves job one other s t p g e at there (g.first.free t lt) in
    the_same_best (holds job one t p) (holds job one t q) (holds job other t p) (holds job other t q) p q (holds_same job one other s t p g lt at) (holds_same job one other s t q g lt at) (g.first.best t q lt (g.second.machine t lt) back) (g.second.best t p lt (g.first.machine t lt) forth)

meets : (job : Job) (one other : Plan) (s t : ℕ) → Setting job one other s → Earlier job one other s t → t < tuples job → Meets one other s t
meets job one other s t g e lt = record { same = λ at. let there = starts_then job one other s t g e lt at in (there, place_same job one other s t g e lt at there) }

-- the order in which tuples are taken has no endless descent
rank : Job → ℕ → ℕ
rank job t = (longest job - height job t) * tuples job + t

falls : (x d n u t : ℕ) → u < n → x * n + u < (x + 1 + d) * n + t
falls x d n u t lt = omega arith

lower : (h k top n u t : ℕ) → u < n → k ≤ top → (h < k) ⊎ ((k ≡ h) × (u < t)) → (top - k) * n + u < (top - h) * n + t
lower h k top n u t lt le (inl more) =
    let e : top - h ≡ (top - k) + 1 + (k - h - 1) = omega arith in
    let P : ℕ → Type 0 = λ x. (top - k) * n + u < x * n + t in
    subst P (sym e) (falls (top - k) (k - h - 1) n u t lt)
lower h k top n u t lt le (inr same) =
    let P : ℕ → Type 0 = λ x. (top - k) * n + u < (top - x) * n + t in
    subst P same.0 (omega arith)

rank_falls : (job : Job) (u t : ℕ) → u < tuples job → ComesBefore job u t → rank job u < rank job t
unfolding rank
rank_falls job u t lt (inl h) = lower (height job t) (height job u) (longest job) (tuples job) u t lt (height_at_most job u lt) (inl h)
rank_falls job u t lt (inr h) = lower (height job t) (height job u) (longest job) (tuples job) u t lt (height_at_most job u lt) (inr (sym h.0, h.1))

alike : (job : Job) (one other : Plan) (s : ℕ) → Setting job one other s → (k t : ℕ) → t < tuples job → rank job t < k → Alike one other s t
alike job one other s g zero t lt h = absurd (omega arith)
alike job one other s g (suc k) t lt h =
    let e : Earlier job one other s t = record { alike = λ u ltu b. alike job one other s g k u ltu (omega (arith, rank_falls job u t ltu b)) } in
    record { forth = meets job one other s t g e lt; back = meets job other one s t (turned job one other s g) (turned_earlier job one other s t e) lt }

follows_on : (job : Job) (one other : Plan) (s : ℕ) → Setting job one other s → Follows job one other (suc s)
follows_on job one other s g = record {
  same = λ t lt h.
      let when : (start one t < s) ⊎ (start one t ≡ s) = below_or_at (start one t) s (omega arith) in
      elim when [ inl early ↦ g.before.same t lt early | inr at ↦ (let r = (alike job one other s g (suc (rank job t)) t lt (omega arith)).forth.same at in (r.0 ∙ sym at, r.1)) ];
}

agree : (job : Job) (one other : Plan) → IsJob job → IsGreedy job one → IsGreedy job other → (s : ℕ) → Setting job one other s
agree job one other sound first second zero = record { sound = sound; first = first; second = second; before = record { same = λ t lt h. absurd (omega arith) }; after = record { same = λ t lt h. absurd (omega arith) } }
agree job one other sound first second (suc s) =
    let g = agree job one other sound first second s in
    record { sound = sound; first = first; second = second; before = follows_on job one other s g; after = follows_on job other one s (turned job one other s g) }

pub the_greedy_schedule_is_one : (job : Job) (one other : Plan) → IsJob job → IsGreedy job one → IsGreedy job other → one ≡ other
the_greedy_schedule_is_one job one other sound first second =
    let same : (t : ℕ) → t < tuples job → (start other t ≡ start one t) × (place other t ≡ place one t) = λ t lt. (agree job one other sound first second (suc (start one t))).before.same t lt (omega arith) in
    let starts : one.starts ≡ other.starts = ext_get_or 0 one.starts other.starts (first.starts ∙ sym second.starts) (λ t lt. sym (same t (omega (arith, first.starts))).0) in
    let places : one.places ≡ other.places = ext_get_or 0 one.places other.places (first.places ∙ sym second.places) (λ t lt. sym (same t (omega (arith, first.places))).1) in
    ap {B = Plan} (λ xs. record { starts = xs; places = one.places }) starts ∙ ap {B = Plan} (λ xs. record { starts = other.starts; places = xs }) places
