-- What stands behind a value that a course of one file gave: the file that it was read from.
use Rattle.std.proofs.Common.{◌≡◌, ◌≤◌, ℕ, List, [], ◌∷◌, length, Option, Ok, Result, sym, ap, subst, ◌∙◌}
use Rattle.bm_io.specs.Files.{Held}
use Rattle.bm_io.specs.Files as files
use Rattle.bm_course.specs.Course.{Refused, Step, Asks, Refuses, Gives, Course, file, judge, accepted, rejected, ◌>>=◌, asks, refuses, gives, IsReading}
use Rattle.bm_course.specs.Limited.{Fits, limited}
use Rattle.bm_course.proofs.Halving.{ReadTo}

-- the parts of two that gave a value
pub record Parts {A B : Type 0} (m : Course A) (f : A → Course B) (cs rest : List (List ℕ)) (y : B) : Type 0 where
  pub x : A
  pub left : List (List ℕ)
  pub first : m cs (Gives x left)
  pub then : f x left (Gives y rest)

pub parts : {A B : Type 0} (m : Course A) (f : A → Course B) (cs rest : List (List ℕ)) (y : B) → (m >>= f) cs (Gives y rest) → Parts m f cs rest y
parts m f cs rest y (asks n k h e) = let no : ⊥ = cc in absurd no
parts m f cs rest y (refuses r h e) = let no : ⊥ = cc in absurd no
parts m f cs rest y (gives x left h q) = record { x = x; left = left; first = h; then = q }

pub judged : {A : Type 0} (P : Result A Refused → Type 0) (cs rest : List (List ℕ)) (x : A) → judge P cs (Gives x rest) → P (Ok x) × (rest ≡ cs)
judged P cs rest x (accepted y p e) = let v : y ≡ x = cc in let w : rest ≡ cs = cc in (subst (λ z. P (Ok z)) v p, w)
judged P cs rest x (rejected r p e) = let no : ⊥ = cc in absurd no

-- the first content, whole
limited-given : (name : List ℕ) (most : ℕ) (cs rest : List (List ℕ)) (x : List ℕ) → limited name most cs (Gives x rest) → (cs ≡ x ∷ rest) × (length x ≤ most)
limited-given name most cs rest x h =
    let p = parts (file name most) (λ bytes. judge (Fits name most bytes)) cs rest x h in
    let j = judged (Fits name most p.x) p.left rest x p.then in
    let small : length x ≤ most = subst (λ b. length b ≤ most) (sym j.0.0) j.0.1 in
    (by cs p.x p.left p.first ∙ ap (λ b. b ∷ p.left) (sym j.0.0) ∙ ap (λ r. x ∷ r) (sym j.1), small)
  where
    by : (ds : List (List ℕ)) (b : List ℕ) (r : List (List ℕ)) → file name most ds (Gives b r) → ds ≡ b ∷ r
    by [] b r e = let no : ⊥ = cc in absurd no
    by (d ∷ ds) b r e = let u : b ≡ d = cc in let v : r ≡ ds = cc in sym (ap (λ z. z ∷ r) u ∙ ap (λ z. d ∷ z) v)

-- after these contents the course asks for this file
abbrev AsksFor : {A : Type 0} → Course A → List (List ℕ) → List ℕ → ℕ → Type 0
AsksFor {A = A} m cs name most = (s : Step A) → m cs s → s ≡ Asks name most

then-asks : {A B : Type 0} (m : Course A) (f : A → Course B) (cs : List (List ℕ)) (name : List ℕ) (most : ℕ) → AsksFor m cs name most → AsksFor (m >>= f) cs name most
then-asks m f cs name most a s (asks n k h e) =
    let z = a (Asks n k) h in
    let u : n ≡ name = cc in
    let v : k ≡ most = cc in
    e ∙ ap (λ x. Asks x k) u ∙ ap (Asks name) v
then-asks m f cs name most a s (refuses r h e) = let z = a (Refuses r) h in let no : ⊥ = cc in absurd no
then-asks m f cs name most a s (gives x left h q) = let z = a (Gives x left) h in let no : ⊥ = cc in absurd no

limited-asks : (name : List ℕ) (most : ℕ) → AsksFor (limited name most) [] name most
limited-asks name most = then-asks (file name most) (λ bytes. judge (Fits name most bytes)) [] name most (λ s h. h)

-- the content that is read first is that of the file that is asked for
first-read : {A : Type 0} (told : Option Held) (m : Course A) (bytes : List ℕ) (cs names : List (List ℕ)) (name : List ℕ) (most : ℕ) → AsksFor m [] name most → IsReading told m (bytes ∷ cs) names → files.Reads told name most bytes
first-read told m bytes cs [] name most a h = absurd h
first-read told m bytes cs (n ∷ names) name most a h =
    let z = a (Asks n h.0) h.1 in
    let u : n ≡ name = cc in
    let v : h.0 ≡ most = cc in
    subst (λ k. files.Reads told name k bytes) v (subst (λ w. files.Reads told w h.0 bytes) u h.2)

-- a file that was read whole, of whose bytes this holds
pub record ReadWhole (told : Option Held) (name : List ℕ) (most : ℕ) (Q : List ℕ → Type 0) : Type 0 where
  pub bytes : List ℕ
  pub content : files.Reads told name most bytes
  pub whole : length bytes ≤ most
  pub means : Q bytes

pub file-read : {A : Type 0} (told : Option Held) (name : List ℕ) (most : ℕ) (J : List ℕ → Result A Refused → Type 0) (x : A) → ReadTo told (limited name most >>= (λ bytes. judge (J bytes))) x → ReadWhole told name most (λ bytes. J bytes (Ok x))
file-read {A = A} told name most J x r =
    let course : Course A = limited name most >>= (λ bytes. judge (J bytes)) in
    let q = parts (limited name most) (λ bytes. judge (J bytes)) r.contents [] x r.gave in
    let l = limited-given name most r.contents q.left q.x q.first in
    let k : IsReading told course (q.x ∷ q.left) r.names = subst (λ cs. IsReading told course cs r.names) l.0 r.reading in
    record {
      bytes = q.x;
      content = first-read told course q.x q.left r.names name most (then-asks (limited name most) (λ bytes. judge (J bytes)) [] name most (limited-asks name most)) k;
      whole = l.1;
      means = (judged (J q.x) q.left [] x q.then).0;
    }
