-- What may be said of courses, part by part.
use Rattle.std.specs.Prelude.{ℕ, ◌≡◌, ◌⊎◌, List, [], ◌++◌, Some, Result}
use Rattle.bm_io.specs.Files.{Held}
use Rattle.bm_course.specs.Course.{Refused, Product, Step, Refuses, Gives, Course, IsReading}
use Rattle.bm_course.specs.Clauses.{Leads}

-- after the same contents it comes to at most one step
abbrev pub IsDetermined : {A : Type 0} → Course A → Type 0
IsDetermined {A = A} course = (contents : List (List ℕ)) (s t : Step A) → course contents s → course contents t → s ≡ t

-- a judgement has one verdict
abbrev pub HasOneVerdict : {A : Type 0} → (Result A Refused → Type 0) → Type 0
HasOneVerdict {A = A} P = (r q : Result A Refused) → P r → P q → r ≡ q

-- a judgement has some verdict
abbrev pub HasSomeVerdict : {A : Type 0} → (Result A Refused → Type 0) → Type 0
HasSomeVerdict {A = A} P = (r : Result A Refused) × P r

-- The held files lead the course to a refusal, or to a value, behind which the contents that are left stay.
pub record Settles {A : Type 0} (held : Held) (course : Course A) : Type 0 where
  pub contents : List (List ℕ)
  pub names : List (List ℕ)
  pub reading : IsReading (Some held) course contents names
  pub ends : ((r : Refused) × course contents (Refuses r)) ⊎ ((x : A) × ((rest : List (List ℕ)) → course (contents ++ rest) (Gives x rest)))

-- the held files lead the command to a refusal, or to a product
pub data HasEnd (held : Held) (course : Course Product) : Type 0 where
  in_refusal : (names : List (List ℕ)) (r : Refused) → Leads held course names (Refuses r) → HasEnd held course
  in_product : (names : List (List ℕ)) (p : Product) → Leads held course names (Gives p []) → HasEnd held course

-- each refusal is one of P, each value one of Q
pub record Bounds {A : Type 0} (P : Refused → Type 0) (Q : A → Type 0) (course : Course A) : Type 0 where
  pub refuses : (contents : List (List ℕ)) (r : Refused) → course contents (Refuses r) → P r
  pub gives : (contents rest : List (List ℕ)) (x : A) → course contents (Gives x rest) → Q x
