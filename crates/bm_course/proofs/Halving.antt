-- What was read for two courses, one behind the other, was read for the first and then for the second.
use Rattle.std.proofs.Common.{◌≡◌, ℕ, List, [], ◌∷◌, ◌++◌, Option, Result, refl, sym, ap, subst, ◌∙◌, append_assoc, append-nil}
use Rattle.bm_io.specs.Files.{Held}
use Rattle.bm_course.specs.Course.{Refused, Asks, Gives, Course, file, give, judge, accepted, rejected, ◌>>=◌, asks, refuses, gives, IsReading}
use Rattle.bm_course.specs.Limited.{Fits, limited}
use Rattle.bm_course.specs.Laws.{IsDetermined}

-- before each of these contents the course asks for a file
abbrev pub AsksAlong : {A : Type 0} → Course A → List (List ℕ) → Type 0
AsksAlong m [] = Unit {0}
AsksAlong m (c ∷ cs) = (name : List ℕ) × (most : ℕ) × m [] (Asks name most) × AsksAlong (λ rest. m (c ∷ rest)) cs

-- the course gives a value of the first of the contents, for each of which it asked
pub record Uses {A : Type 0} (m : Course A) (cs rest : List (List ℕ)) (x : A) : Type 0 where
  pub used : List (List ℕ)
  pub contents : cs ≡ used ++ rest
  pub gave : (more : List (List ℕ)) → m (used ++ more) (Gives x more)
  pub along : AsksAlong m used

abbrev pub Consumes : {A : Type 0} → Course A → Type 0
Consumes {A = A} m = (cs rest : List (List ℕ)) (x : A) → m cs (Gives x rest) → Uses m cs rest x

pub give-consumes : {A : Type 0} (y : A) → Consumes (give y)
give-consumes y cs rest x h =
    let u : x ≡ y = cc in
    let v : cs ≡ rest = cc in
    record { used = []; contents = v; gave = λ more. ap (λ z. Gives z more) u; along = tt }

pub judge-consumes : {A : Type 0} (P : Result A Refused → Type 0) → Consumes (judge P)
judge-consumes P cs rest x (accepted y p e) =
    let u : x ≡ y = cc in
    let v : cs ≡ rest = cc in
    record { used = []; contents = v; gave = λ more. accepted y p (ap (λ z. Gives z more) u); along = tt }
judge-consumes P cs rest x (rejected r p e) = let no : ⊥ = cc in absurd no

pub file-consumes : (name : List ℕ) (most : ℕ) → Consumes (file name most)
file-consumes name most [] rest x h = let no : ⊥ = cc in absurd no
file-consumes name most (c ∷ cs) rest x h =
    let u : x ≡ c = cc in
    let v : cs ≡ rest = cc in
    record { used = c ∷ []; contents = ap (λ r. c ∷ r) v; gave = λ more. ap (λ z. Gives z more) u; along = (name, most, refl, tt) }

-- what one course asks along, another that may ask it does
along-as : {A B : Type 0} (m : Course A) (n : Course B) → ((cs : List (List ℕ)) (name : List ℕ) (most : ℕ) → m cs (Asks name most) → n cs (Asks name most)) → (cs : List (List ℕ)) → AsksAlong m cs → AsksAlong n cs
along-as m n same [] h = tt
along-as m n same (c ∷ cs) h = (h.0, h.1, same [] h.0 h.1 h.2, along-as (λ rest. m (c ∷ rest)) (λ rest. n (c ∷ rest)) (λ ds. same (c ∷ ds)) cs h.3)

along-then : {A B : Type 0} (m : Course A) (f : A → Course B) (x : A) (cs ds : List (List ℕ)) → AsksAlong m cs → ((more : List (List ℕ)) → m (cs ++ more) (Gives x more)) → AsksAlong (f x) ds → AsksAlong (m >>= f) (cs ++ ds)
along-then m f x [] ds h g k = along-as (f x) (m >>= f) (λ es name most q. gives x es (g es) q) ds k
along-then m f x (c ∷ cs) ds h g k = (h.0, h.1, asks h.0 h.1 h.2 refl, along-then (λ rest. m (c ∷ rest)) f x cs ds h.3 g k)

pub then-consumes : {A B : Type 0} (m : Course A) (f : A → Course B) → Consumes m → ((x : A) → Consumes (f x)) → Consumes (m >>= f)
then-consumes m f a b cs rest y (asks n k h e) = let no : ⊥ = cc in absurd no
then-consumes m f a b cs rest y (refuses r h e) = let no : ⊥ = cc in absurd no
then-consumes m f a b cs rest y (gives x left h q) =
    let u = a cs left x h in
    let v = b x left rest y q in
    record {
      used = u.used ++ v.used;
      contents = u.contents ∙ ap (λ r. u.used ++ r) v.contents ∙ sym (append_assoc u.used v.used rest);
      gave = λ more. gives x (v.used ++ more) (subst (λ es. m es (Gives x (v.used ++ more))) (sym (append_assoc u.used v.used more)) (u.gave (v.used ++ more))) (v.gave more);
      along = along-then m f x u.used v.used u.along u.gave v.along;
    }

pub limited-consumes : (name : List ℕ) (most : ℕ) → Consumes (limited name most)
limited-consumes name most = then-consumes (file name most) (λ bytes. judge (Fits name most bytes)) (file-consumes name most) (λ bytes. judge-consumes (Fits name most bytes))

-- the readings of the two
pub record Halves {A B : Type 0} (told : Option Held) (m : Course A) (f : A → Course B) (x : A) (used left : List (List ℕ)) : Type 0 where
  pub before : List (List ℕ)
  pub behind : List (List ℕ)
  pub first : IsReading told m used before
  pub second : IsReading told (f x) left behind

module _ {B : Type 0} (told : Option Held) where
  -- where the first asks for nothing more
  rest-only : {A : Type 0} (m : Course A) (f : A → Course B) (x : A) → IsDetermined m → ((more : List (List ℕ)) → m more (Gives x more)) → (cs : List (List ℕ)) (name : List ℕ) (most : ℕ) → (m >>= f) cs (Asks name most) → f x cs (Asks name most)
  rest-only m f x d g cs name most (asks n k h e) = let z = d cs (Asks n k) (Gives x cs) h (g cs) in let no : ⊥ = cc in absurd no
  rest-only m f x d g cs name most (refuses r h e) = let no : ⊥ = cc in absurd no
  rest-only m f x d g cs name most (gives y left h q) =
      let z = d cs (Gives y left) (Gives x cs) h (g cs) in
      let u : y ≡ x = cc in
      let v : left ≡ cs = cc in
      subst (λ w. f x w (Asks name most)) v (subst (λ w. f w left (Asks name most)) u q)

  -- where the first asks, the whole asked for that
  first-only : {A : Type 0} (m : Course A) (f : A → Course B) → IsDetermined m → (cs : List (List ℕ)) (n : List ℕ) (k : ℕ) → m cs (Asks n k) → (name : List ℕ) (most : ℕ) → (m >>= f) cs (Asks name most) → m cs (Asks name most)
  first-only m f d cs n k a name most (asks n' k' h e) =
      let u : n' ≡ name = cc in
      let v : k' ≡ most = cc in
      subst (λ w. m cs (Asks name w)) v (subst (λ w. m cs (Asks w k')) u h)
  first-only m f d cs n k a name most (refuses r h e) = let no : ⊥ = cc in absurd no
  first-only m f d cs n k a name most (gives y left h q) = let z = d cs (Asks n k) (Gives y left) a h in let no : ⊥ = cc in absurd no

  reading-as : {A : Type 0} (m : Course A) (n : Course B) → ((cs : List (List ℕ)) (name : List ℕ) (most : ℕ) → m cs (Asks name most) → n cs (Asks name most)) → (contents names : List (List ℕ)) → IsReading told m contents names → IsReading told n contents names
  reading-as m n same [] [] h = tt
  reading-as m n same (c ∷ cs) (a ∷ as') h = (h.0, same [] a h.0 h.1, h.2, h.3, reading-as (λ rest. m (c ∷ rest)) (λ rest. n (c ∷ rest)) (λ rest. same (c ∷ rest)) cs as' h.4)
  reading-as m n same [] (a ∷ as') h = absurd h
  reading-as m n same (c ∷ cs) [] h = absurd h

  halves : {A : Type 0} (m : Course A) (f : A → Course B) (x : A) → IsDetermined m → (used left names : List (List ℕ)) → AsksAlong m used → ((more : List (List ℕ)) → m (used ++ more) (Gives x more)) → IsReading told (m >>= f) (used ++ left) names → Halves told m f x used left
  halves m f x d [] left names a g h = record { before = []; behind = names; first = tt; second = reading-as (m >>= f) (f x) (rest-only m f x d g) left names h }
  halves m f x d (c ∷ cs) left [] a g h = absurd h
  halves m f x d (c ∷ cs) left (n ∷ names) a g h =
      let k = halves (λ rest. m (c ∷ rest)) f x (λ es. d (c ∷ es)) cs left names a.3 g h.4 in
      record { before = n ∷ k.before; behind = k.behind; first = (h.0, first-only m f d [] a.0 a.1 a.2 n h.0 h.1, h.2, h.3, k.first); second = k.second }

-- a course that was read, and what it gave
pub record ReadTo {A : Type 0} (told : Option Held) (m : Course A) (x : A) : Type 0 where
  pub contents : List (List ℕ)
  pub names : List (List ℕ)
  pub reading : IsReading told m contents names
  pub gave : m contents (Gives x [])

pub record Both {A B : Type 0} (told : Option Held) (m : Course A) (f : A → Course B) (y : B) : Type 0 where
  pub x : A
  pub first : ReadTo told m x
  pub second : ReadTo told (f x) y

pub halve : {A B : Type 0} (told : Option Held) (m : Course A) (f : A → Course B) (y : B) → IsDetermined m → Consumes m → ReadTo told (m >>= f) y → Both told m f y
halve {A = A} {B = B} told m f y d c r = by r.gave
  where
    by : (m >>= f) r.contents (Gives y []) → Both told m f y
    by (asks n k h e) = let no : ⊥ = cc in absurd no
    by (refuses q h e) = let no : ⊥ = cc in absurd no
    by (gives x left h q) =
        let u = c r.contents left x h in
        let k = halves told m f x d u.used left r.names u.along u.gave (subst (λ cs. IsReading told (m >>= f) cs r.names) u.contents r.reading) in
        record {
          x = x;
          first = record { contents = u.used; names = k.before; reading = k.first; gave = subst (λ cs. m cs (Gives x [])) (append-nil u.used) (u.gave []) };
          second = record { contents = left; names = k.behind; reading = k.second; gave = q };
        }
