-- Courses that come to one step: what the held files lead to is what a call comes to.
use Rattle.std.proofs.Common.{arith, ◌≡◌, ℕ, List, [], ◌∷◌, Some, Result, Ok, Err, refl, sym, ap, subst, ◌∙◌}
use Rattle.bm_io.specs.Files.{Held, Reads}
use Rattle.bm_io.specs.Sink.{Takes, TakesPart, TakesWhole}
use Rattle.bm_course.specs.Course.{Refused, Product, Step, Asks, Refuses, Gives, Course, file, refuse, give, judge, accepted, rejected, ◌>>=◌, asks, refuses, gives, IsReading}
use Rattle.bm_course.specs.Limited.{Fits, limited}
use Rattle.bm_course.specs.Laws.{IsDetermined, HasOneVerdict}
use Rattle.bm_course.specs.Seen.{Seen, Asked, Stands}
use Rattle.bm_course.specs.Lines.{cannot_read, cannot_write_file, cannot_write, no_memory}
use Rattle.bm_course.specs.Goes.{Meets, refused, unread, unwritten_file, unwritten, starved, starved_writing, Ending, done, told, Goes}
use Rattle.bm_course.specs.Clauses.{Leads, Reports, IsCut, by_read, by_memory, Refusing, told_it, cut_before, Writing, wrote_it, wrote_no_file, wrote_part, wrote_some, cut_off}

pub file-determined : (name : List ℕ) (most : ℕ) → IsDetermined (file name most)
file-determined name most [] s t h k = h ∙ sym k
file-determined name most (b ∷ cs) s t h k = h ∙ sym k

pub give-determined : {A : Type 0} (x : A) → IsDetermined (give x)
give-determined x cs s t h k = h ∙ sym k

pub refuse-determined : {A : Type 0} (r : Refused) → IsDetermined (refuse {A = A} r)
refuse-determined r cs s t h k = h ∙ sym k

pub judge-determined : {A : Type 0} (P : Result A Refused → Type 0) → HasOneVerdict P → IsDetermined (judge P)
judge-determined P one cs s t (accepted x p e) (accepted y q k) = let z = one (Ok x) (Ok y) p q in let v : x ≡ y = cc in e ∙ ap (λ u. Gives u cs) v ∙ sym k
judge-determined P one cs s t (accepted x p e) (rejected r q k) = let z = one (Ok x) (Err r) p q in let no : ⊥ = cc in absurd no
judge-determined P one cs s t (rejected r p e) (accepted y q k) = let z = one (Err r) (Ok y) p q in let no : ⊥ = cc in absurd no
judge-determined P one cs s t (rejected r p e) (rejected q h k) = let z = one (Err r) (Err q) p h in let v : r ≡ q = cc in e ∙ ap Refuses v ∙ sym k

pub then-determined-of : {A B : Type 0} (Q : A → Type 0) (m : Course A) (f : A → Course B) → IsDetermined m → ((contents rest : List (List ℕ)) (x : A) → m contents (Gives x rest) → Q x) → ((x : A) → Q x → IsDetermined (f x))
    → IsDetermined (m >>= f)
then-determined-of Q m f d so g cs s t (asks n k h e) (asks n' k' h' e') =
    let z = d cs (Asks n k) (Asks n' k') h h' in
    let u : n ≡ n' = cc in
    let v : k ≡ k' = cc in
    e ∙ ap (λ x. Asks x k) u ∙ ap (Asks n') v ∙ sym e'
then-determined-of Q m f d so g cs s t (asks n k h e) (refuses r' h' e') = let z = d cs (Asks n k) (Refuses r') h h' in let no : ⊥ = cc in absurd no
then-determined-of Q m f d so g cs s t (asks n k h e) (gives x' rest' h' q') = let z = d cs (Asks n k) (Gives x' rest') h h' in let no : ⊥ = cc in absurd no
then-determined-of Q m f d so g cs s t (refuses r h e) (asks n' k' h' e') = let z = d cs (Refuses r) (Asks n' k') h h' in let no : ⊥ = cc in absurd no
then-determined-of Q m f d so g cs s t (refuses r h e) (refuses r' h' e') =
    let z = d cs (Refuses r) (Refuses r') h h' in
    let u : r ≡ r' = cc in
    e ∙ ap Refuses u ∙ sym e'
then-determined-of Q m f d so g cs s t (refuses r h e) (gives x' rest' h' q') = let z = d cs (Refuses r) (Gives x' rest') h h' in let no : ⊥ = cc in absurd no
then-determined-of Q m f d so g cs s t (gives x rest h q) (asks n' k' h' e') = let z = d cs (Gives x rest) (Asks n' k') h h' in let no : ⊥ = cc in absurd no
then-determined-of Q m f d so g cs s t (gives x rest h q) (refuses r' h' e') = let z = d cs (Gives x rest) (Refuses r') h h' in let no : ⊥ = cc in absurd no
then-determined-of Q m f d so g cs s t (gives x rest h q) (gives x' rest' h' q') =
    let z = d cs (Gives x rest) (Gives x' rest') h h' in
    let u : x ≡ x' = cc in
    let v : rest ≡ rest' = cc in
    g x (so cs rest x h) rest s t q (subst (λ w. f x w t) (sym v) (subst (λ y. f y rest' t) (sym u) q'))

pub then-determined : {A B : Type 0} (m : Course A) (f : A → Course B) → IsDetermined m → ((x : A) → IsDetermined (f x)) → IsDetermined (m >>= f)
then-determined m f d g = then-determined-of (λ x. Unit {0}) m f d (λ contents rest x h. tt) (λ x t. g x)

fits-once : (name : List ℕ) (most : ℕ) (bytes : List ℕ) → HasOneVerdict (Fits name most bytes)
fits-once name most bytes (Ok x) (Ok y) p q = ap Ok (p.0 ∙ sym q.0)
fits-once name most bytes (Ok x) (Err r) p q = absurd (omega arith)
fits-once name most bytes (Err r) (Ok y) p q = absurd (omega arith)
fits-once name most bytes (Err r) (Err s) p q = ap Err (p.0 ∙ sym q.0)

pub limited-determined : (name : List ℕ) (most : ℕ) → IsDetermined (limited name most)
limited-determined name most = then-determined (file name most) (λ bytes. judge (Fits name most bytes)) (file-determined name most) (λ bytes. judge-determined (Fits name most bytes) (fits-once name most bytes))

-- how one reading of the held files stands to another that came to no further file
data Compared (course : Course Product) (cs as' ds bs : List (List ℕ)) : Type 0 where
  same : ds ≡ cs → bs ≡ as' → Compared course cs as' ds bs
  shorter : (name : List ℕ) (most : ℕ) → course ds (Asks name most) → Compared course cs as' ds bs

-- a step that asks for no file
data IsLast : Step Product → Type 0 where
  last_refuses : (r : Refused) → IsLast (Refuses r)
  last_gives : (o : Product) (rest : List (List ℕ)) → IsLast (Gives o rest)

asks_on : (name : List ℕ) (most : ℕ) → IsLast (Asks name most) → ⊥
asks_on name most h = by (Asks name most) h refl
  where
    by : (s : Step Product) → IsLast s → s ≡ Asks name most → ⊥
    by _ (last_refuses r) e = cc
    by _ (last_gives o rest) e = cc

compare : (held : Held) (course : Course Product) → IsDetermined course → (s : Step Product) → IsLast s → (cs as' ds bs : List (List ℕ)) → IsReading (Some held) course cs as' → course cs s → IsReading (Some held) course ds bs
    → Compared course cs as' ds bs
compare held course d s l [] [] [] [] h k i = same refl refl
compare held course d s l [] [] (e ∷ ds) (b ∷ bs) h k i = let z = d [] s (Asks b i.0) k i.1 in absurd (asks_on b i.0 (subst IsLast z l))
compare held course d s l [] [] [] (b ∷ bs) h k i = absurd i
compare held course d s l [] [] (e ∷ ds) [] h k i = absurd i
compare held course d s l (c ∷ cs) (a ∷ as') [] [] h k i = shorter a h.0 h.1
compare held course d s l (c ∷ cs) (a ∷ as') (e ∷ ds) (b ∷ bs) h k i =
    let z = d [] (Asks a h.0) (Asks b i.0) h.1 i.1 in
    let n : a ≡ b = cc in
    let m : h.0 ≡ i.0 = cc in
    let r : Reads (Some held) b i.0 c = subst (λ x. Reads (Some held) b x c) m (subst (λ x. Reads (Some held) x h.0 c) n h.2) in
    let q : c ≡ e = r ∙ sym i.2 in
    elim (compare held (λ rest. course (c ∷ rest)) (λ rest. d (c ∷ rest)) s l cs as' ds bs h.4 k (subst (λ x. IsReading (Some held) (λ rest. course (x ∷ rest)) ds bs) (sym q) i.4)) [
      | same u v ↦ same (ap (λ x. x ∷ ds) (sym q) ∙ ap (λ x. c ∷ x) u) (ap (λ x. x ∷ bs) (sym n) ∙ ap (λ x. a ∷ x) v)
      | shorter name most t ↦ shorter name most (subst (λ x. course (x ∷ ds) (Asks name most)) q t)
    ]
compare held course d s l (c ∷ cs) (a ∷ as') [] (b ∷ bs) h k i = absurd i
compare held course d s l (c ∷ cs) (a ∷ as') (e ∷ ds) [] h k i = absurd i
compare held course d s l [] (a ∷ as') ds bs h k i = absurd h
compare held course d s l (c ∷ cs) [] ds bs h k i = absurd h

module _ (before now : Seen) (course : Course Product) (d : IsDetermined course) (names : List (List ℕ)) (status : ℕ) where
  -- the same refusal is reported
  as_one : (r s : Refused) → r ≡ s → Reports before now r status → Reports before now s status
  as_one r s e k = subst (λ x. Reports before now x status) e k

  -- behind a reading that asks on, only a cut ends the call
  cut_by : (cs as' : List (List ℕ)) (name : List ℕ) (most : ℕ) → course cs (Asks name most) → (r : Refused) → Meets before now course cs as' r → Reports before now r status → IsCut before now status
  cut_by cs as' name most h r (refused e a o) k = let z = d cs (Asks name most) (Refuses r) h e in let no : ⊥ = cc in absurd no
  cut_by cs as' name most h r (unread n m e a f o q) k = by_read n f o (as_one r (cannot_read n) q k)
  cut_by cs as' name most h r (unwritten_file p file g e a f o q) k = let z = d cs (Asks name most) (Gives p []) h g in let no : ⊥ = cc in absurd no
  cut_by cs as' name most h r (unwritten p g s t f q) k = let z = d cs (Asks name most) (Gives p []) h g in let no : ⊥ = cc in absurd no
  cut_by cs as' name most h r (starved a o q) k = by_memory o (as_one r no_memory q k)
  cut_by cs as' name most h r (starved_writing p g s t q) k = let z = d cs (Asks name most) (Gives p []) h g in let no : ⊥ = cc in absurd no

  cut_short : (cs as' : List (List ℕ)) (name : List ℕ) (most : ℕ) → course cs (Asks name most) → Ending before now course cs as' status → IsCut before now status
  cut_short cs as' name most h (done p g s t n k) = let z = d cs (Asks name most) (Gives p []) h g in let no : ⊥ = cc in absurd no
  cut_short cs as' name most h (told r m k) = cut_by cs as' name most h r m k

  -- behind one that is refused, that refusal is met
  refused_by : (cs as' : List (List ℕ)) (r : Refused) → course cs (Refuses r) → as' ≡ names → (f : Refused) → Meets before now course cs as' f → Reports before now f status → Refusing before now names r status
  refused_by cs as' r h q f (refused e a o) k =
      let z = d cs (Refuses r) (Refuses f) h e in
      let v : f ≡ r = cc in
      told_it (subst (Asked before.files now.files) q a) o (as_one f r v k)
  refused_by cs as' r h q f (unread n m e a x o y) k = cut_before (by_read n x o (as_one f (cannot_read n) y k))
  refused_by cs as' r h q f (unwritten_file p file g e a x o y) k = let z = d cs (Refuses r) (Gives p []) h g in let no : ⊥ = cc in absurd no
  refused_by cs as' r h q f (unwritten p g s t x y) k = let z = d cs (Refuses r) (Gives p []) h g in let no : ⊥ = cc in absurd no
  refused_by cs as' r h q f (starved a o y) k = cut_before (by_memory o (as_one f no_memory y k))
  refused_by cs as' r h q f (starved_writing p g s t y) k = let z = d cs (Refuses r) (Gives p []) h g in let no : ⊥ = cc in absurd no

  by_refusal : (cs as' : List (List ℕ)) (r : Refused) → course cs (Refuses r) → as' ≡ names → Ending before now course cs as' status → Refusing before now names r status
  by_refusal cs as' r h q (done p g s t n k) = let z = d cs (Refuses r) (Gives p []) h g in let no : ⊥ = cc in absurd no
  by_refusal cs as' r h q (told f m k) = refused_by cs as' r h q f m k

  -- behind one that gives a product, that product is written
  module _ (cs as' : List (List ℕ)) (p : Product) (h : course cs (Gives p [])) (q : as' ≡ names) where
    one_product : (o : Product) → course cs (Gives o []) → o ≡ p
    one_product o e = let z = d cs (Gives p []) (Gives o []) h e in cc

    stands : (o : Product) → o ≡ p → Stands before.files now.files as' o.file → Stands before.files now.files names p.file
    stands o v s = subst (λ x. Stands before.files now.files names x.file) v (subst (λ n. Stands before.files now.files n o.file) q s)

    written_by : (f : Refused) → Meets before now course cs as' f → Reports before now f status → Writing before now names p status
    written_by f (refused e a o) k = let z = d cs (Gives p []) (Refuses f) h e in let no : ⊥ = cc in absurd no
    written_by f (unread n m e a x o y) k = cut_off (by_read n x o (as_one f (cannot_read n) y k))
    written_by f (unwritten_file o file g e a x w y) k =
        let v : o ≡ p = one_product o g in
        wrote_no_file file (sym (ap (λ x. x.file) v) ∙ e) x w (as_one f (cannot_write_file file.name) y k)
    written_by f (unwritten o g s t x y) k =
        let v : o ≡ p = one_product o g in
        wrote_part (stands o v s) (subst (λ x. TakesPart before.out.taken now.out.taken x.text.lines) v t) x (as_one f cannot_write y k)
    written_by f (starved a o y) k = cut_off (by_memory o (as_one f no_memory y k))
    written_by f (starved_writing o g s t y) k =
        let v : o ≡ p = one_product o g in
        wrote_some (stands o v s) (subst (λ x. TakesWhole before.out.taken now.out.taken x.text.lines) v t) (as_one f no_memory y k)

    by_product : Ending before now course cs as' status → Writing before now names p status
    by_product (done o g s t n k) =
        let v : o ≡ p = one_product o g in
        wrote_it (stands o v s) (subst (λ x. Takes before.out.taken now.out.taken x.text.lines) v t) n (k ∙ ap (λ x. x.text.status) v)
    by_product (told f m k) = written_by f m k

module _ (held : Held) (before now : Seen) (course : Course Product) (d : IsDetermined course) (names : List (List ℕ)) (status : ℕ) (e : before.files.held ≡ Some held) where
  -- the held files lead to a refusal
  pub settles_refusal : (r : Refused) → Leads held course names (Refuses r) → Goes before now course status → Refusing before now names r status
  settles_refusal r l h =
      let reading : IsReading (Some held) course h.contents h.names = subst (λ t. IsReading t course h.contents h.names) e h.reading in
      elim (compare held course d (Refuses r) (last_refuses r) l.contents names h.contents h.names l.reading l.comes reading) [
        | same u v ↦ by_refusal before now course d names status h.contents h.names r (subst (λ x. course x (Refuses r)) (sym u) l.comes) v h.ending
        | shorter name most t ↦ cut_before (cut_short before now course d names status h.contents h.names name most t h.ending)
      ]

  -- the held files lead to a product
  pub settles_product : (p : Product) → Leads held course names (Gives p []) → Goes before now course status → Writing before now names p status
  settles_product p l h =
      let reading : IsReading (Some held) course h.contents h.names = subst (λ t. IsReading t course h.contents h.names) e h.reading in
      elim (compare held course d (Gives p []) (last_gives p []) l.contents names h.contents h.names l.reading l.comes reading) [
        | same u v ↦ by_product before now course d names status h.contents h.names p (subst (λ x. course x (Gives p [])) (sym u) l.comes) v h.ending
        | shorter name most t ↦ cut_off (cut_short before now course d names status h.contents h.names name most t h.ending)
      ]
