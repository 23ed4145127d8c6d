-- The numbers of what words ask for are in their ranges.
use Rattle.std.proofs.Common.{◌≡◌, ℕ, ◌^◌, ◌-◌, ◌≤◌, Bool, true, false, List, [], ◌∷◌, length, Option, Some, None, refl, arith, true≢false, sym}
use Rattle.std.specs.Prelude.{nat_le, ◌&&◌, if◌then◌else◌, IfSome, codes}
use Rattle.std.specs.Str.{bytes_eq}
use Rattle.std.proofs.lemmas.Bool.Decides.{nat_tests}
use Rattle.bm_base.specs.declared.limits.TheConstants.{MOST_TURNS, MOST_BUDGET, MOST_STATEMENTS}
use Rattle.bm_base.specs.Numeral.{value_from, is_numeral, count_to}
use Rattle.bm_words.specs.Table.{RunWordsOf, ◌>>=◌}
use Rattle.bm_words.specs.Table.{name_of, number_of_word, machine_of, unit_of, script_of, data_of, run_words_of, eval_of, go_of, compile_of, show_of, run_of, trace_of, check_of, soak_of, request_of}
use Rattle.bm_words.specs.Ranges.{IsInRange}

-- what is so of both is so of a choice
either : {A : Type 0} (P : A → Type 0) (t : Bool) (x y : Option A) → IfSome x P → IfSome y P → IfSome (if t then x else y) P
either P true x y h k = h
either P false x y h k = k

-- .. and of what comes of a value
behind : {A B : Type 0} (P : A → Type 0) (Q : B → Type 0) (m : Option A) (f : A → Option B) → IfSome m P → ((x : A) → P x → IfSome (f x) Q) → IfSome (m >>= f) Q
behind P Q None f h k = tt
behind P Q (Some x) f h k = k x h

-- .. whatever the value
abbrev any : {A : Type 0} → A → Type 0
any x = Unit {0}

some_any : {A : Type 0} (m : Option A) → IfSome m any
some_any None = tt
some_any (Some x) = tt

right_true : (x y : Bool) → (x && y) ≡ true → y ≡ true
right_true true y e = e
right_true false y e = absurd (true≢false (sym e))

where_true : {A : Type 0} (P : A → Type 0) (t : Bool) (x : A) → (t ≡ true → P x) → IfSome (if t then Some x else None) P
where_true P true x h = h refl
where_true P false x h = tt

within : (v most : ℕ) → nat_le v most ≡ true → v ≤ most
within v most e = grind (arith, nat_tests)

count-within : (most : ℕ) (bs : List ℕ) → IfSome (count_to most bs) (λ v. v ≤ most)
count-within most bs =
    where_true (λ v. v ≤ most) (is_numeral bs && nat_le (value_from 0 bs) most) (value_from 0 bs) (λ e. within (value_from 0 bs) most (right_true (is_numeral bs) (nat_le (value_from 0 bs) most) e))

number-within : (most : ℕ) (word : List ℕ) → IfSome (number_of_word most word) (λ v. v ≤ most)
unfolding number_of_word
number-within most word = either (λ v. v ≤ most) (nat_le (length word) 20) (count_to most word) None (count-within most word) tt

abbrev within_budget : RunWordsOf → Type 0
within_budget r = r.budget ≤ MOST_BUDGET

run_words-within : (ws : List (List ℕ)) → IfSome (run_words_of ws) within_budget
unfolding run_words_of
run_words-within [] = tt
run_words-within (a ∷ []) = tt
run_words-within (a ∷ b ∷ []) = tt
run_words-within (a ∷ b ∷ c ∷ []) = tt
run_words-within (a ∷ b ∷ c ∷ d ∷ []) =
    behind any within_budget (unit_of a) _ (some_any (unit_of a))
    (λ u t. behind any within_budget (script_of b) _ (some_any (script_of b))
    (λ s t. behind any within_budget (data_of c) _ (some_any (data_of c))
    (λ g t. behind (λ v. v ≤ MOST_BUDGET) within_budget (number_of_word MOST_BUDGET d) _ (number-within MOST_BUDGET d) (λ v h. h))))
run_words-within (a ∷ b ∷ c ∷ d ∷ e ∷ ws) = tt

eval-within : (ws : List (List ℕ)) → IfSome (eval_of ws) IsInRange
eval-within [] = tt
eval-within (a ∷ []) = tt
eval-within (a ∷ b ∷ []) = tt
eval-within (a ∷ b ∷ c ∷ []) =
    behind any IsInRange (name_of a) _ (some_any (name_of a))
    (λ p t. behind any IsInRange (data_of b) _ (some_any (data_of b))
    (λ d t. behind (λ v. v ≤ MOST_TURNS) IsInRange (number_of_word MOST_TURNS c) _ (number-within MOST_TURNS c) (λ v h. h)))
eval-within (a ∷ b ∷ c ∷ d ∷ ws) = tt

go-within : (ws : List (List ℕ)) → IfSome (go_of ws) IsInRange
go-within [] = tt
go-within (a ∷ []) = tt
go-within (a ∷ b ∷ ws) =
    behind any IsInRange (name_of a) _ (some_any (name_of a))
    (λ p t. behind any IsInRange (machine_of b) _ (some_any (machine_of b)) (λ m t. behind within_budget IsInRange (run_words_of ws) _ (run_words-within ws) (λ r h. h)))

compile-within : (ws : List (List ℕ)) → IfSome (compile_of ws) IsInRange
compile-within [] = tt
compile-within (a ∷ []) = tt
compile-within (a ∷ b ∷ []) = tt
compile-within (a ∷ b ∷ c ∷ []) =
    behind any IsInRange (name_of a) _ (some_any (name_of a))
    (λ p t. behind any IsInRange (machine_of b) _ (some_any (machine_of b)) (λ m t. behind any IsInRange (name_of c) _ (some_any (name_of c)) (λ o t. tt)))
compile-within (a ∷ b ∷ c ∷ d ∷ ws) = tt

show-within : (ws : List (List ℕ)) → IfSome (show_of ws) IsInRange
show-within [] = tt
show-within (a ∷ []) = tt
show-within (a ∷ b ∷ []) = behind any IsInRange (name_of a) _ (some_any (name_of a)) (λ p t. behind any IsInRange (machine_of b) _ (some_any (machine_of b)) (λ m t. tt))
show-within (a ∷ b ∷ c ∷ ws) = tt

run-within : (ws : List (List ℕ)) → IfSome (run_of ws) IsInRange
run-within [] = tt
run-within (a ∷ ws) = behind any IsInRange (name_of a) _ (some_any (name_of a)) (λ i t. behind within_budget IsInRange (run_words_of ws) _ (run_words-within ws) (λ r h. h))

trace-within : (ws : List (List ℕ)) → IfSome (trace_of ws) IsInRange
trace-within [] = tt
trace-within (a ∷ ws) = behind any IsInRange (name_of a) _ (some_any (name_of a)) (λ i t. behind within_budget IsInRange (run_words_of ws) _ (run_words-within ws) (λ r h. h))

check-within : (ws : List (List ℕ)) → IfSome (check_of ws) IsInRange
check-within [] = tt
check-within (a ∷ []) = behind any IsInRange (name_of a) _ (some_any (name_of a)) (λ i t. tt)
check-within (a ∷ b ∷ ws) = tt

soak-within : (ws : List (List ℕ)) → IfSome (soak_of ws) IsInRange
soak-within [] = tt
soak-within (a ∷ []) = tt
soak-within (a ∷ b ∷ []) =
    behind any IsInRange (number_of_word (2 ^ 64 - 1) a) _ (some_any (number_of_word (2 ^ 64 - 1) a))
    (λ s t. behind (λ v. v ≤ MOST_STATEMENTS) IsInRange (number_of_word MOST_STATEMENTS b) _ (number-within MOST_STATEMENTS b) (λ v h. h))
soak-within (a ∷ b ∷ c ∷ ws) = tt

pub request-within : (words : List (List ℕ)) → IfSome (request_of words) IsInRange
request-within [] = tt
request-within (verb ∷ ws) =
    either IsInRange (bytes_eq verb (codes "eval")) (eval_of ws) _ (eval-within ws)
    (either IsInRange (bytes_eq verb (codes "go")) (go_of ws) _ (go-within ws)
    (either IsInRange (bytes_eq verb (codes "compile")) (compile_of ws) _ (compile-within ws)
    (either IsInRange (bytes_eq verb (codes "show")) (show_of ws) _ (show-within ws)
    (either IsInRange (bytes_eq verb (codes "run")) (run_of ws) _ (run-within ws)
    (either IsInRange (bytes_eq verb (codes "trace")) (trace_of ws) _ (trace-within ws)
    (either IsInRange (bytes_eq verb (codes "check")) (check_of ws) _ (check-within ws)
    (either IsInRange (bytes_eq verb (codes "soak")) (soak_of ws) None (soak-within ws) tt)))))))
