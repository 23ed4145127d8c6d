-- Heights.
use Rattle.std.proofs.Common.{◌≡◌, ℕ, zero, suc, ◌+◌, ◌-◌, ◌<◌, ◌≤◌, ◌⊎◌, max, true, nat_eq, List, [], ◌∷◌, map, fold, length, get_or, refl, sym, ap, ◌∙◌, inl, inr, arith, Contains, take, set, get_or-set_same, get_or-set_other, ◌≢◌, ◌*◌, ◌++◌, ◌||◌, false, filter, slice_index, slice_index_or}
use Rattle.std.specs.List.{range_with_len, list_any, All}
use Rattle.std.proofs.lemmas.List.{length-map, get_or-map, take_more}
use Rattle.std.proofs.lemmas.List.Elements.{Contains-get_or, Contains-append_right}
use Rattle.std.proofs.lemmas.Map.Views.{list_any-from_Contains, Contains-from_any}
use Rattle.std.proofs.lemmas.Bool.{eqb-true}
use Rattle.std.proofs.lemmas.Cmp.{nat_eq_equiv}
use Rattle.dependence.proofs.Kept.{kept_has, kept_from, kept_one, kept_none}
use Rattle.std.proofs.lemmas.List.FromFn.{length-map-range_with_len, get_or-map-range_with_len, map-range_with_len_more, fill_by_all}
use Rattle.list_schedule.specs.Job.{Job, IsJob, tuples, time, producers, consumers, height, height_within, longest, greatest}

more : (xs : List ℕ) (a : ℕ) → a ≤ fold max a xs
more [] a = omega arith
more (x ∷ xs) a = omega (arith, more xs (max a x))

-- each number of a list is at most the greatest
at_most : (xs : List ℕ) (a k d : ℕ) → k < length xs → get_or xs k d ≤ fold max a xs
at_most [] a k d lt = absurd (omega arith)
at_most (x ∷ xs) a zero d lt = omega (arith, more xs (max a x))
at_most (x ∷ xs) a (suc k) d lt = at_most xs (max a x) k d (omega arith)

pub at_most_greatest : (xs : List ℕ) (k d : ℕ) → k < length xs → get_or xs k d ≤ greatest xs
at_most_greatest xs k d lt = at_most xs 0 k d lt

-- the greatest of the values of a function below n
pub value_at_most : (f : ℕ → ℕ) (n t : ℕ) → t < n → f t ≤ greatest (map f (range_with_len 0 n))
value_at_most f n t lt = omega (arith, at_most_greatest (map f (range_with_len 0 n)) t 0 (omega (arith, length-map-range_with_len f 0 n)), get_or-map-range_with_len f 0 n t t 0 lt (omega arith))

pub height_at_most : (job : Job) (t : ℕ) → t < tuples job → height job t ≤ longest job
height_at_most job t lt = value_at_most (height job) (tuples job) t lt

most : (xs : List ℕ) (a b : ℕ) → a ≤ b → ((k : ℕ) → k < length xs → get_or xs k 0 ≤ b) → fold max a xs ≤ b
most [] a b le h = le
most (x ∷ xs) a b le h = most xs (max a x) b (omega (arith, h zero (omega arith))) (λ k lt. h (suc k) (omega arith))

-- the greatest number is at most a bound of all
pub greatest_least : (xs : List ℕ) (b : ℕ) → ((k : ℕ) → k < length xs → get_or xs k 0 ≤ b) → greatest xs ≤ b
greatest_least xs b h = most xs 0 b (omega arith) h

-- one of the numbers that none is above is the greatest
pub greatest_is : (xs : List ℕ) (m : ℕ) → Contains xs m → All (λ x. x ≤ m) xs → m ≡ greatest xs
greatest_is xs m h most =
    let below : greatest xs ≤ m = greatest_least xs m (λ k lt. most k 0 lt) in
    omega (arith, below, at_most_greatest xs h.0 m h.1, h.2)

which : (a x : ℕ) → (max a x ≡ a) ⊎ (max a x ≡ x)
which a x = grind arith

nat_eq_same : (x y : ℕ) → nat_eq x y ≡ true → x ≡ y
nat_eq_same x y h = eqb-true x y h

pub any_from : (a : ℕ) (xs : List ℕ) → Contains xs a → list_any (nat_eq a) xs ≡ true
any_from a xs h = list_any-from_Contains nat_eq_equiv a xs h

one_of : (xs : List ℕ) (a : ℕ) → (fold max a xs ≡ a) ⊎ ((k : ℕ) × (k < length xs) × (fold max a xs ≡ get_or xs k 0))
one_of [] a = inl refl
one_of (x ∷ xs) a =
    elim (one_of xs (max a x)) [ inl e ↦ (elim (which a x) [ inl l ↦ inl (e ∙ l) | inr l ↦ inr (zero, omega arith, e ∙ l) ]) | inr h ↦ inr (suc h.0, omega (arith, h.1), h.2) ]

-- the greatest of the values of a function below n is 0 or one of them
pub value_attained : (f : ℕ → ℕ) (n : ℕ) → (greatest (map f (range_with_len 0 n)) ≡ 0) ⊎ ((t : ℕ) × (t < n) × (greatest (map f (range_with_len 0 n)) ≡ f t))
value_attained f n =
    elim (one_of (map f (range_with_len 0 n)) 0) [ inl e ↦ inl e | inr h ↦ (let lt : h.0 < n = omega (arith, h.1, length-map-range_with_len f 0 n) in inr (h.0, lt, h.2 ∙ get_or-map-range_with_len f 0 n h.0 h.0 0 lt (omega arith))) ]

-- a function of the elements is at most the greatest of its values
pub of_element : (f : ℕ → ℕ) (xs : List ℕ) (x : ℕ) → Contains xs x → f x ≤ greatest (map f xs)
of_element f xs x (k, lt, e) =
    let at : get_or (map f xs) k 0 ≡ f x = get_or-map f xs k x 0 lt ∙ ap f e in
    omega (arith, at, at_most_greatest (map f xs) k 0 (omega (arith, length-map xs f)))

pub values_least : (f : ℕ → ℕ) (xs : List ℕ) (b : ℕ) → ((x : ℕ) → Contains xs x → f x ≤ b) → greatest (map f xs) ≤ b
values_least f xs b h =
    greatest_least (map f xs) b (λ k lt. let here : k < length xs = omega (arith, length-map xs f) in let at : get_or (map f xs) k 0 ≡ f (get_or xs k 0) = get_or-map f xs k 0 0 here in omega (arith, at, h (get_or xs k 0) (Contains-get_or xs k 0 here)))

-- consumers are the tuples that have t as a producer
pub consumer_has : (job : Job) (a b : ℕ) → b < tuples job → Contains (producers job b) a → Contains (consumers job a) b
consumer_has job a b lt has = kept_has (λ b. list_any (nat_eq a) (producers job b)) (tuples job) b lt (any_from a (producers job b) has)

pub consumer_from : (job : Job) (a b : ℕ) → Contains (consumers job a) b → (b < tuples job) × Contains (producers job b) a
consumer_from job a b has =
    let r = kept_from (λ b. list_any (nat_eq a) (producers job b)) (tuples job) b has in
    (r.0, Contains-from_any nat_eq_same a (producers job b) r.1)

-- enough steps reach the height
saturated : (job : Job) → IsJob job → (m k t : ℕ) → t < tuples job → tuples job ≤ k + t → height_within job m t ≤ height_within job k t
saturated job sound zero k t lt le = omega arith
saturated job sound (suc m) zero t lt le = absurd (omega arith)
saturated job sound (suc m) (suc k) t lt le =
    let all : greatest (map (height_within job m) (consumers job t)) ≤ greatest (map (height_within job k) (consumers job t)) = values_least (height_within job m) (consumers job t) (greatest (map (height_within job k) (consumers job t))) (λ c has. let r = consumer_from job t c has in let above : t < c = sound.earlier c t r.0 r.1 in let here : height_within job m c ≤ height_within job k c = saturated job sound m k c r.0 (omega arith) in let there = of_element (height_within job k) (consumers job t) c has in omega arith) in
    omega (arith, all)

-- a producer is higher than its consumer by its time
pub producer_height : (job : Job) → IsJob job → (t a : ℕ) → t < tuples job → Contains (producers job t) a → time job a + height job t ≤ height job a
producer_height job sound t a lt has =
    let n : ℕ = tuples job in
    let early : a < t = sound.earlier t a lt has in
    let e : n ≡ suc (n - 1) = omega arith in
    let enough : height_within job n t ≤ height_within job (n - 1) t = saturated job sound n (n - 1) t lt (omega arith) in
    let here : height_within job (n - 1) t ≤ greatest (map (height_within job (n - 1)) (consumers job a)) = of_element (height_within job (n - 1)) (consumers job a) t (consumer_has job a t lt has) in
    let whole : height_within job n a ≡ time job a + greatest (map (height_within job (n - 1)) (consumers job a)) = ap (λ k. height_within job k a) e in
    omega (arith, enough, here, whole)

-- a tuple is as high as its time
pub time_height : (job : Job) (t : ℕ) → t < tuples job → time job t ≤ height job t
time_height job t lt =
    let n : ℕ = tuples job in
    let e : n ≡ suc (n - 1) = omega arith in
    let whole : height_within job n t ≡ time job t + greatest (map (height_within job (n - 1)) (consumers job t)) = ap (λ k. height_within job k t) e in
    omega (arith, whole)

-- one number more at the end
fold_more : (f : ℕ → ℕ) (xs : List ℕ) (a b : ℕ) → fold max a (map f (xs ++ b ∷ [])) ≡ max (fold max a (map f xs)) (f b)
fold_more f [] a b = refl
fold_more f (x ∷ xs) a b = fold_more f xs (max a (f x)) b

any_flip : (t : ℕ) (xs : List ℕ) → list_any (λ y. nat_eq y t) xs ≡ list_any (nat_eq t) xs
any_flip t [] = refl
any_flip t (x ∷ xs) = ap (λ b. b || list_any (λ y. nat_eq y t) xs) (nat_eq_equiv.symm x t) ∙ ap (λ b. nat_eq t x || b) (any_flip t xs)

-- the tuple that has t as a producer adds its number to the greatest, the others nothing
module _ (heights : List ℕ) (deps : List (List ℕ)) (t : ℕ) where
  pub above_one : (b most now : ℕ) (row : List ℕ) → row ≡ slice_index_or deps b [] → list_any (λ y. nat_eq y t) row ≡ true → most ≡ greatest (map (slice_index heights) (filter (λ b. list_any (nat_eq t) (slice_index_or deps b [])) (range_with_len 0 b))) → now ≡ max most (slice_index heights b) → now ≡ greatest (map (slice_index heights) (filter (λ b. list_any (nat_eq t) (slice_index_or deps b [])) (range_with_len 0 (b + 1))))
  above_one b most now row is has so_far more =
      let test : list_any (nat_eq t) (slice_index_or deps b []) ≡ true = ap (list_any (nat_eq t)) (sym is) ∙ sym (any_flip t row) ∙ has in
      more ∙ ap (λ m. max m (slice_index heights b)) so_far ∙ sym (fold_more (slice_index heights) (filter (λ b. list_any (nat_eq t) (slice_index_or deps b [])) (range_with_len 0 b)) 0 b) ∙ ap (λ l. greatest (map (slice_index heights) l)) (sym (kept_one (λ b. list_any (nat_eq t) (slice_index_or deps b [])) b (b + 1) refl test))

  pub above_none : (b most now : ℕ) (row : List ℕ) → row ≡ slice_index_or deps b [] → list_any (λ y. nat_eq y t) row ≡ false → most ≡ greatest (map (slice_index heights) (filter (λ b. list_any (nat_eq t) (slice_index_or deps b [])) (range_with_len 0 b))) → now ≡ most → now ≡ greatest (map (slice_index heights) (filter (λ b. list_any (nat_eq t) (slice_index_or deps b [])) (range_with_len 0 (b + 1))))
  above_none b most now row is has so_far same =
      let test : list_any (nat_eq t) (slice_index_or deps b []) ≡ false = ap (list_any (nat_eq t)) (sym is) ∙ sym (any_flip t row) ∙ has in
      same ∙ so_far ∙ ap (λ l. greatest (map (slice_index heights) l)) (sym (kept_none (λ b. list_any (nat_eq t) (slice_index_or deps b [])) b (b + 1) refl test))

-- a height is the time and the greatest height of the consumers
pub height_is : (job : Job) → IsJob job → (t : ℕ) → t < tuples job → height job t ≡ time job t + greatest (map (height job) (consumers job t))
height_is job sound t lt =
    let n : ℕ = tuples job in
    let e : n ≡ suc (n - 1) = omega arith in
    let whole : height_within job n t ≡ time job t + greatest (map (height_within job (n - 1)) (consumers job t)) = ap (λ k. height_within job k t) e in
    let low : greatest (map (height_within job (n - 1)) (consumers job t)) ≤ greatest (map (height job) (consumers job t)) = values_least (height_within job (n - 1)) (consumers job t) (greatest (map (height job) (consumers job t))) (λ c has. let r = consumer_from job t c has in let here : height_within job (n - 1) c ≤ height_within job n c = saturated job sound (n - 1) n c r.0 (omega arith) in let there : height job c ≤ greatest (map (height job) (consumers job t)) = of_element (height job) (consumers job t) c has in omega arith) in
    let high : greatest (map (height job) (consumers job t)) ≤ greatest (map (height_within job (n - 1)) (consumers job t)) = values_least (height job) (consumers job t) (greatest (map (height_within job (n - 1)) (consumers job t))) (λ c has. let r = consumer_from job t c has in let above : t < c = sound.earlier c t r.0 r.1 in let here : height_within job n c ≤ height_within job (n - 1) c = saturated job sound n (n - 1) c r.0 (omega arith) in let there = of_element (height_within job (n - 1)) (consumers job t) c has in omega arith) in
    omega (arith, whole, low, high)

pub map_same : (f g : ℕ → ℕ) (xs : List ℕ) → ((x : ℕ) → Contains xs x → f x ≡ g x) → map f xs ≡ map g xs
map_same f g [] h = refl
map_same f g (x ∷ xs) h = ap (λ y. y ∷ map f xs) (h x (zero, omega arith, refl)) ∙ ap (λ ys. g x ∷ ys) (map_same f g xs (λ a has. h a (Contains-append_right (x ∷ []) xs a has)))

-- where the heights of all later tuples are known
pub record Behind (job : Job) (heights : List ℕ) (t : ℕ) : Type 0 where
  pub known : (u : ℕ) → t ≤ u → u < tuples job → get_or heights u 0 ≡ height job u

pub above_is : (job : Job) (heights : List ℕ) (t n : ℕ) → IsJob job → t < tuples job → length heights ≡ tuples job → Behind job heights (t + 1) → n ≡ greatest (map (slice_index heights) (filter (λ b. list_any (nat_eq t) (producers job b)) (range_with_len 0 (length heights)))) → time job t + n ≡ height job t
above_is job heights t n sound lt same behind is =
    let all : n ≡ greatest (map (slice_index heights) (consumers job t)) = is ∙ ap (λ m. greatest (map (slice_index heights) (filter (λ b. list_any (nat_eq t) (producers job b)) (range_with_len 0 m)))) same in
    let heights_are : map (slice_index heights) (consumers job t) ≡ map (height job) (consumers job t) = map_same (slice_index heights) (height job) (consumers job t) (λ c has. let r = consumer_from job t c has in behind.known c (omega (arith, sound.earlier c t r.0 r.1)) r.0) in
    omega (arith, all, ap greatest heights_are, height_is job sound t lt)

-- a height is at most 1000 for each step
pub height_small : (job : Job) (k t : ℕ) → ((u : ℕ) → time job u ≤ 1000) → height_within job k t ≤ 1000 * k
height_small job zero t short = omega arith
height_small job (suc k) t short = omega (arith, short t, values_least (height_within job k) (consumers job t) (1000 * k) (λ c has. height_small job k c short))

here_or_above : (t u : ℕ) → t ≤ u → (u ≡ t) ⊎ (t + 1 ≤ u)
here_or_above t u h = grind arith

pub behind_more : (job : Job) (heights after : List ℕ) (t x : ℕ) → t < tuples job → length heights ≡ tuples job → Behind job heights (t + 1) → x ≡ height job t → after ≡ set heights t x → Behind job after t
behind_more job heights after t x lt same behind is e = record {
  known = λ u from within.
      ap (λ l. get_or l u 0) e ∙ elim (here_or_above t u from) [ inl at ↦ (ap (λ y. get_or (set heights t x) y 0) at ∙ get_or-set_same heights t x 0 (omega arith) ∙ is ∙ ap (height job) (sym at)) | inr above ↦ (let ne : u ≢ t = omega arith in get_or-set_other heights t u x 0 ne ∙ behind.known u above within) ];
}

pub all_heights : (job : Job) (heights : List ℕ) → length heights ≡ tuples job → Behind job heights 0 → heights ≡ map (height job) (range_with_len 0 (tuples job))
all_heights job heights same behind = fill_by_all (height job) heights (tuples job) 0 same (λ k lt. behind.known k (omega arith) lt)

fold_push : (xs : List ℕ) (a b : ℕ) → fold max a (xs ++ b ∷ []) ≡ max (fold max a xs) b
fold_push [] a b = refl
fold_push (x ∷ xs) a b = fold_push xs (max a x) b

pub value_more : (f : ℕ → ℕ) (n : ℕ) → greatest (map f (range_with_len 0 (n + 1))) ≡ max (greatest (map f (range_with_len 0 n))) (f n)
value_more f n = ap (fold max 0) (map-range_with_len_more f 0 n n (omega arith)) ∙ fold_push (map f (range_with_len 0 n)) 0 (f n)

pub element_more : (f : ℕ → ℕ) (xs : List ℕ) (i d : ℕ) → i < length xs → greatest (map f (take (i + 1) xs)) ≡ max (greatest (map f (take i xs))) (f (get_or xs i d))
element_more f xs i d lt = ap (λ l. greatest (map f l)) (take_more xs i d lt) ∙ fold_more f (take i xs) 0 (get_or xs i d)

pub greatest_more : (xs : List ℕ) (i d : ℕ) → i < length xs → greatest (take (i + 1) xs) ≡ max (greatest (take i xs)) (get_or xs i d)
greatest_more xs i d lt = ap greatest (take_more xs i d lt) ∙ fold_push (take i xs) 0 (get_or xs i d)
