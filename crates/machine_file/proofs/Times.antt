-- The intervals that were read so far, and what is still to come.
use Rattle.std.proofs.Common.{◌≡◌, ℕ, zero, suc, ◌+◌, ◌<◌, ◌≤◌, List, [], ◌∷◌, ◌++◌, Ok, Err, length, take, drop, get_or, set, refl, ap, ◌∙◌, append-nil, add-one, arith, Bor, map}
use Rattle.std.proofs.lemmas.List.{drop_more, drop_all, take_all}
use Rattle.std.specs.List.{AllByRecursion}
use Rattle.bm_base.specs.declared.spec.Interval.{Interval}
use Rattle.bm_base.specs.Machine.{IsTime}
use Rattle.toml.specs.Data.{Members, get_member}
use Rattle.machine_file.specs.declared.fault.MachineFault.{MachineFault}
use Rattle.machine_file.specs.MachineFile.{Read, ◌>>=◌, interval_of, intervals_of, in_times}

abbrev pub Keys : Type 0
Keys = List (Bor (List ℕ))

abbrev pub names : Keys → List (List ℕ)
names keys = map (λ k. k.now) keys

abbrev pub so_far : Keys → Members → ℕ → List Interval → Read (List Interval)
so_far keys times i read = intervals_of (names (drop i keys)) times >>= (λ rest. Ok (take i read ++ rest))

abbrev pub at : Keys → Members → ℕ → Bor (List ℕ) → Read Interval
at keys times i d = interval_of (in_times (get_or keys i d).now) (get_member (get_or keys i d).now times)

same : (r : Read (List Interval)) → r ≡ (r >>= (λ rest. Ok rest))
same (Ok rest) = refl
same (Err e) = refl

pub none_read : (keys : Keys) (times : Members) (read : List Interval) → intervals_of (names keys) times ≡ so_far keys times 0 read
none_read keys times read = same (intervals_of (names keys) times)

taken : (i : ℕ) (read : List Interval) (t : Interval) (rest : List Interval) → i < length read → take i read ++ t ∷ rest ≡ take (i + 1) (set read i t) ++ rest
taken i [] t rest h = absurd (omega arith)
taken zero (x ∷ read) t rest h = refl
taken (suc i) (x ∷ read) t rest h = rw (add-one (suc i)) (ap (λ ts. x ∷ ts) (taken i read t rest (omega arith) ∙ rw (add-one i)))

later : (r : Read (List Interval)) (i : ℕ) (read : List Interval) (t : Interval) → i < length read
    → ((r >>= (λ rest. Ok (t ∷ rest))) >>= (λ rest. Ok (take i read ++ rest))) ≡ (r >>= (λ rest. Ok (take (i + 1) (set read i t) ++ rest)))
later (Ok rest) i read t h = ap Ok (taken i read t rest h)
later (Err e) i read t h = refl

pub one_more : (keys : Keys) (times : Members) (i : ℕ) (read : List Interval) (d : Bor (List ℕ)) (t : Interval) → i < length keys → i < length read
    → at keys times i d ≡ Ok t → so_far keys times i read ≡ so_far keys times (i + 1) (set read i t)
one_more keys times i read d t in_keys in_read e =
    rw (drop_more keys i d in_keys, e) (later (intervals_of (names (drop (i + 1) keys)) times) i read t in_read)

pub one_wrong : (keys : Keys) (times : Members) (i : ℕ) (read : List Interval) (d : Bor (List ℕ)) (e : MachineFault) → i < length keys
    → at keys times i d ≡ Err e → so_far keys times i read ≡ Err e
one_wrong keys times i read d e in_keys h = rw (drop_more keys i d in_keys, h)

pub all_read : (keys : Keys) (times : Members) (i : ℕ) (read : List Interval) → length keys ≤ i → length read ≤ i → so_far keys times i read ≡ Ok read
all_read keys times i read no_key whole = rw (drop_all i keys no_key, take_all i read whole, append-nil)

pub all_set : (ts : List Interval) (i : ℕ) (t : Interval) → AllByRecursion IsTime ts → IsTime t → AllByRecursion IsTime (set ts i t)
all_set [] i t h k = tt
all_set (x ∷ ts) zero t h k = (k, h.1)
all_set (x ∷ ts) (suc i) t h k = (h.0, all_set ts i t h.1 k)
