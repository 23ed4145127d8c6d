-- What the refusals and the values of courses are, part by part.
use Rattle.std.proofs.Common.{◌≡◌, ◌≤◌, ℕ, List, [], ◌∷◌, length, Result, Ok, Err, sym, subst}
use Rattle.bm_course.specs.Course.{Refused, Refuses, Gives, Course, refuse, file, give, judge, accepted, rejected, ◌>>=◌, asks, refuses, gives}
use Rattle.bm_course.specs.Lines.{too_long}
use Rattle.bm_course.specs.Limited.{Fits, limited}
use Rattle.bm_course.specs.Laws.{Bounds}

module _ (P : Refused → Type 0) where
  pub file-bounds : (name : List ℕ) (most : ℕ) (Q : List ℕ → Type 0) → ((x : List ℕ) → Q x) → Bounds P Q (file name most)
  file-bounds name most Q q = record { refuses = refuses_not; gives = λ contents rest x h. q x }
    where
      refuses_not : (cs : List (List ℕ)) (r : Refused) → file name most cs (Refuses r) → P r
      refuses_not [] r h = let no : ⊥ = cc in absurd no
      refuses_not (c ∷ cs) r h = let no : ⊥ = cc in absurd no

  pub give-bounds : {A : Type 0} (Q : A → Type 0) (x : A) → Q x → Bounds P Q (give x)
  give-bounds Q x q = record {
    refuses = λ cs r h. let no : ⊥ = cc in absurd no;
    gives = λ cs rest y h. let e : y ≡ x = cc in subst Q (sym e) q;
  }

  pub refuse-bounds : {A : Type 0} (Q : A → Type 0) (r : Refused) → P r → Bounds P Q (refuse r)
  refuse-bounds Q r p = record {
    refuses = λ cs s h. let e : s ≡ r = cc in subst P (sym e) p;
    gives = λ cs rest y h. let no : ⊥ = cc in absurd no;
  }

  pub judge-bounds : {A : Type 0} (Q : A → Type 0) (J : Result A Refused → Type 0) → ((x : A) → J (Ok x) → Q x) → ((r : Refused) → J (Err r) → P r) → Bounds P Q (judge J)
  judge-bounds {A = A} Q J q p = record { refuses = refuses_by; gives = gives_by }
    where
      refuses_by : (cs : List (List ℕ)) (r : Refused) → judge J cs (Refuses r) → P r
      refuses_by cs r (accepted x j e) = let no : ⊥ = cc in absurd no
      refuses_by cs r (rejected s j e) = let v : r ≡ s = cc in subst P (sym v) (p s j)

      gives_by : (cs rest : List (List ℕ)) (x : A) → judge J cs (Gives x rest) → Q x
      gives_by cs rest x (accepted y j e) = let v : x ≡ y = cc in subst Q (sym v) (q y j)
      gives_by cs rest x (rejected s j e) = let no : ⊥ = cc in absurd no

  pub then-bounds : {A B : Type 0} (Q : A → Type 0) (R : B → Type 0) (m : Course A) (f : A → Course B) → Bounds P Q m → ((x : A) → Q x → Bounds P R (f x)) → Bounds P R (m >>= f)
  then-bounds {A = A} {B = B} Q R m f b k = record { refuses = refuses_by; gives = gives_by }
    where
      refuses_by : (cs : List (List ℕ)) (r : Refused) → (m >>= f) cs (Refuses r) → P r
      refuses_by cs r (asks n l h e) = let no : ⊥ = cc in absurd no
      refuses_by cs r (refuses s h e) = let v : r ≡ s = cc in subst P (sym v) (b.refuses cs s h)
      refuses_by cs r (gives x rest h e) = (k x (b.gives cs rest x h)).refuses rest r e

      gives_by : (cs rest : List (List ℕ)) (y : B) → (m >>= f) cs (Gives y rest) → R y
      gives_by cs rest y (asks n l h e) = let no : ⊥ = cc in absurd no
      gives_by cs rest y (refuses s h e) = let no : ⊥ = cc in absurd no
      gives_by cs rest y (gives x more h e) = (k x (b.gives cs more x h)).gives more rest y e

  pub limited-bounds : (name : List ℕ) (most : ℕ) → P (too_long name most) → Bounds P (λ x. length x ≤ most) (limited name most)
  limited-bounds name most p =
      then-bounds (λ x. Unit {0}) (λ x. length x ≤ most) (file name most) (λ bytes. judge (Fits name most bytes)) (file-bounds name most (λ x. Unit {0}) (λ x. tt))
      (λ bytes q. judge-bounds (λ x. length x ≤ most) (Fits name most bytes) (λ x j. subst (λ y. length y ≤ most) (sym j.0) j.1) (λ r j. subst P (sym j.0) p))

-- what is so of a course is so by more
pub wider-bounds : {A : Type 0} (P R : Refused → Type 0) (Q : A → Type 0) (m : Course A) → ((r : Refused) → P r → R r) → Bounds P Q m → Bounds R Q m
wider-bounds P R Q m f b = record { refuses = λ cs r h. f r (b.refuses cs r h); gives = b.gives }
