-- Whatever the held files hold, they lead a course to a refusal or a value.
use Rattle.std.proofs.Common.{◌+◌, ℕ, List, [], ◌∷◌, ◌++◌, length, take, Some, Result, Ok, Err, refl, sym, subst, inl, inr, arith, append_assoc}
use Rattle.std.proofs.lemmas.List.{length-take}
use Rattle.std.proofs.lemmas.Bool.Decides.{leb_tells}
use Rattle.bm_io.specs.Files.{Held, content_of}
use Rattle.bm_course.specs.Course.{Refused, Product, Gives, Course, file, refuse, give, judge, accepted, rejected, ◌>>=◌, refuses, gives}
use Rattle.bm_course.specs.Lines.{too_long}
use Rattle.bm_course.specs.Limited.{Fits, limited}
use Rattle.bm_course.specs.Laws.{HasSomeVerdict, Settles, HasEnd, in_refusal, in_product}
use Rattle.bm_course.proofs.Coming.{IsReading-first, IsReading-then, at_end}

module _ (held : Held) where
  pub give-settles : {A : Type 0} (x : A) → Settles held (give x)
  give-settles x = record { contents = []; names = []; reading = tt; ends = inr (x, λ rest. refl) }

  pub refuse-settles : {A : Type 0} (r : Refused) → Settles held (refuse {A = A} r)
  refuse-settles r = record { contents = []; names = []; reading = tt; ends = inl (r, refl) }

  pub judge-settles : {A : Type 0} (P : Result A Refused → Type 0) → HasSomeVerdict P → Settles held (judge P)
  judge-settles P (Ok x, p) = record { contents = []; names = []; reading = tt; ends = inr (x, λ rest. accepted x p refl) }
  judge-settles P (Err r, p) = record { contents = []; names = []; reading = tt; ends = inl (r, rejected r p refl) }

  pub file-settles : (name : List ℕ) (most : ℕ) → Settles held (file name most)
  file-settles name most =
      let bytes : List ℕ = take (most + 1) (content_of held name) in
      let long = length-take (most + 1) (content_of held name) in
      record {
        contents = bytes ∷ [];
        names = name ∷ [];
        reading = (most, refl, refl, omega arith, tt);
        ends = inr (bytes, λ rest. refl);
      }

  -- behind each value that the first part may give, of which this holds
  pub then-settles : {A B : Type 0} (Q : A → Type 0) (m : Course A) (f : A → Course B) → ((contents rest : List (List ℕ)) (x : A) → m contents (Gives x rest) → Q x) → Settles held m → ((x : A) → Q x → Settles held (f x)) → Settles held (m >>= f)
  then-settles Q m f q h g = elim h.ends [
    | inl e ↦ record {
      contents = h.contents;
      names = h.names;
      reading = IsReading-first (Some held) m f h.contents h.names h.reading;
      ends = inl (e.0, refuses e.0 e.1 refl);
    }
    | inr e ↦ (
        let k = g e.0 (q h.contents [] e.0 (at_end m h.contents e.0 e.1)) in
        record {
          contents = h.contents ++ k.contents;
          names = h.names ++ k.names;
          reading = IsReading-then (Some held) m f e.0 h.contents h.names k.contents k.names h.reading e.1 k.reading;
          ends = elim k.ends [
            | inl d ↦ inl (d.0, gives e.0 k.contents (e.1 k.contents) d.1)
            | inr d ↦ inr (d.0, λ rest. gives e.0 (k.contents ++ rest) (subst (λ es. m es (Gives e.0 (k.contents ++ rest))) (sym (append_assoc h.contents k.contents rest)) (e.1 (k.contents ++ rest))) (d.1 rest))
          ];
        }
        )
  ]

  pub ends_by : (course : Course Product) → Settles held course → HasEnd held course
  ends_by course h = elim h.ends [
    | inl e ↦ in_refusal h.names e.0 (record { contents = h.contents; reading = h.reading; comes = e.1 })
    | inr e ↦ in_product h.names e.0 (record { contents = h.contents; reading = h.reading; comes = at_end course h.contents e.0 e.1 })
  ]

fits-some : (name : List ℕ) (most : ℕ) (bytes : List ℕ) → HasSomeVerdict (Fits name most bytes)
fits-some name most bytes = elim (leb_tells (length bytes) most) [ inl h ↦ (Ok bytes, (refl, h.1)) | inr h ↦ (Err (too_long name most), (refl, h.1)) ]

pub limited-settles : (held : Held) (name : List ℕ) (most : ℕ) → Settles held (limited name most)
limited-settles held name most = then-settles held (λ x. Unit {0}) (file name most) (λ bytes. judge (Fits name most bytes)) (λ contents rest x h. tt) (file-settles held name most) (λ bytes t. judge-settles held (Fits name most bytes) (fits-some name most bytes))
