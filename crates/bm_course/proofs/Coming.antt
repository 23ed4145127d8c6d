-- Readings one after another.
use Rattle.std.proofs.Common.{◌≤◌, ℕ, List, [], ◌∷◌, ◌++◌, Option, Result, Ok, Err, refl, sym, ap, subst, ◌∙◌, inl, inr, append-nil, append_assoc, arith}
use Rattle.bm_io.specs.Files.{Held, asking, Keeps}
use Rattle.bm_io.proofs.Asking.{asking-asking}
use Rattle.bm_io.proofs.Holding.{Keeps-same, Keeps-on, Reads-before}
use Rattle.bm_course.specs.Course.{Asks, Refuses, Gives, Course, asks, refuses, gives, give, ◌>>=◌, IsReading}
use Rattle.bm_course.specs.Refusals.{refused_as}
use Rattle.bm_course.specs.Seen.{FilesSeen, Asked}
use Rattle.bm_course.specs.Ends.{StopsReading, EndsReading, Comes}
use Rattle.bm_course.specs.declared.refusal.Refusal.{Refusal}
use Rattle.bm_course.specs.declared.refusal.Stop.{Stop}
use Rattle.bm_course.specs.declared.refusal.Stop.TheVariants.{Refused as Refusing, Unread, UnwrittenFile, Unwritten, Memory}
use Rattle.bm_course.proofs.Asking.{Asked-nothing, rises}

-- what one course may come to another may: then it may be read alike
IsReading-as : {A B : Type 0} (told : Option Held) (m : Course A) (n : Course B) → ((cs : List (List ℕ)) (name : List ℕ) (most : ℕ) → m cs (Asks name most) → n cs (Asks name most)) → (contents names : List (List ℕ))
    → IsReading told m contents names → IsReading told n contents names
IsReading-as told m n same [] [] h = tt
IsReading-as told m n same (c ∷ cs) (a ∷ as') h = (h.0, same [] a h.0 h.1, h.2, h.3, IsReading-as told (λ rest. m (c ∷ rest)) (λ rest. n (c ∷ rest)) (λ rest. same (c ∷ rest)) cs as' h.4)
IsReading-as told m n same [] (a ∷ as') h = absurd h
IsReading-as told m n same (c ∷ cs) [] h = absurd h

-- what the first part asks for, the whole asks for
pub IsReading-first : {A B : Type 0} (told : Option Held) (m : Course A) (f : A → Course B) (contents names : List (List ℕ)) → IsReading told m contents names → IsReading told (m >>= f) contents names
IsReading-first told m f contents names h = IsReading-as told m (m >>= f) (λ cs name most k. asks name most k refl) contents names h

-- behind a value, what the rest asks for
pub IsReading-then : {A B : Type 0} (told : Option Held) (m : Course A) (f : A → Course B) (x : A) (cs as' ds bs : List (List ℕ)) → IsReading told m cs as' → ((rest : List (List ℕ)) → m (cs ++ rest) (Gives x rest))
    → IsReading told (f x) ds bs → IsReading told (m >>= f) (cs ++ ds) (as' ++ bs)
IsReading-then told m f x [] [] ds bs h g k = IsReading-as told (f x) (m >>= f) (λ rest name most q. gives x rest (g rest) q) ds bs k
IsReading-then told m f x (c ∷ cs) (a ∷ as') ds bs h g k = (h.0, asks a h.0 h.1 refl, h.2, h.3, IsReading-then told (λ rest. m (c ∷ rest)) f x cs as' ds bs h.4 g k)
IsReading-then told m f x [] (a ∷ as') ds bs h g k = absurd h
IsReading-then told m f x (c ∷ cs) [] ds bs h g k = absurd h

-- what is read of files that are kept, might be read before
pub IsReading-before : {A : Type 0} (before now : Option Held) (m : Course A) (contents names : List (List ℕ)) → Keeps before now → IsReading now m contents names → IsReading before m contents names
IsReading-before before now m [] [] k h = tt
IsReading-before before now m (c ∷ cs) (a ∷ as') k h = (h.0, h.1, Reads-before before now a h.0 c k h.2, h.3, IsReading-before before now (λ rest. m (c ∷ rest)) cs as' k h.4)
IsReading-before before now m [] (a ∷ as') k h = absurd h
IsReading-before before now m (c ∷ cs) [] k h = absurd h

-- a stop of the first part is one of the whole
pub StopsReading-first : {A B : Type 0} (before now : FilesSeen) (m : Course A) (f : A → Course B) (contents names : List (List ℕ)) (e : Stop) → StopsReading before now m contents names e → StopsReading before now (m >>= f) contents names e
StopsReading-first before now m f contents names (Refusing r) h = (refuses (refused_as r) h.0 refl, h.1)
StopsReading-first before now m f contents names (Unread name) h = ((h.0.0, asks name.now h.0.0 h.0.1 refl), h.1, h.2)
StopsReading-first before now m f contents names (UnwrittenFile name) h = absurd h
StopsReading-first before now m f contents names Unwritten h = absurd h
StopsReading-first before now m f contents names Memory h = elim h [ inl a ↦ inl a | inr b ↦ inr (b.0, b.1, asks b.0 b.1 b.2 refl, b.3) ]

-- where the course gives a value at the end of what was read
pub at_end : {A : Type 0} (m : Course A) (cs : List (List ℕ)) (x : A) → ((rest : List (List ℕ)) → m (cs ++ rest) (Gives x rest)) → m cs (Gives x [])
at_end m cs x g = subst (λ ds. m ds (Gives x [])) (append-nil cs) (g [])

module _ {X Y A B : Type 0} (Means : X → A → Type 0) (Means' : Y → B → Type 0) where
  pub Comes-stop : (before now : FilesSeen) (m : Course A) (f : A → Course B) (e : Stop) → Comes Means before now m (Err e) → Comes Means' before now (m >>= f) (Err e)
  Comes-stop before now m f e h = record {
    contents = h.contents;
    names = h.names;
    reading = IsReading-first before.held m f h.contents h.names h.reading;
    ends = StopsReading-first before now m f h.contents h.names e h.ends;
    held = h.held;
    later = h.later;
  }

  -- where the rest reads nothing more and gives a value
  pub Comes-give : (before now : FilesSeen) (m : Course A) (f : A → Course B) (x : X) (y : Y) → Comes Means before now m (Ok x)
      → ((a : A) → Means x a → (b : B) × Means' y b × ((rest : List (List ℕ)) → f a rest (Gives b rest))) → Comes Means' before now (m >>= f) (Ok y)
  Comes-give before now m f x y h g =
      let k = g h.ends.0 h.ends.1 in
      record {
        contents = h.contents;
        names = h.names;
        reading = IsReading-first before.held m f h.contents h.names h.reading;
        ends = (k.0, k.1, λ rest. gives h.ends.0 rest (h.ends.2 rest) (k.2 rest), h.ends.3);
        held = h.held;
        later = h.later;
      }

  -- where the rest refuses at once
  pub Comes-refuse : (before now : FilesSeen) (m : Course A) (f : A → Course B) (x : X) (r : Refusal) → Comes Means before now m (Ok x)
      → ((a : A) → Means x a → f a [] (Refuses (refused_as r))) → Comes Means' before now (m >>= f) (Err (Refusing r))
  Comes-refuse before now m f x r h g = record {
    contents = h.contents;
    names = h.names;
    reading = IsReading-first before.held m f h.contents h.names h.reading;
    ends = (gives h.ends.0 [] (at_end m h.contents h.ends.0 h.ends.2) (g h.ends.0 h.ends.1), h.ends.3);
    held = h.held;
    later = h.later;
  }

  -- where memory runs out behind it
  pub Comes-starve : (before now : FilesSeen) (m : Course A) (f : A → Course B) (x : X) → Comes Means before now m (Ok x) → Comes Means' before now (m >>= f) (Err Memory)
  Comes-starve before now m f x h = record {
    contents = h.contents;
    names = h.names;
    reading = IsReading-first before.held m f h.contents h.names h.reading;
    ends = inl h.ends.3;
    held = h.held;
    later = h.later;
  }

-- a value that needs no file
pub Comes-begin : {X A : Type 0} (Means : X → A → Type 0) (f : FilesSeen) (x : X) (a : A) → Means x a → Comes Means f f (give a) (Ok x)
Comes-begin Means f x a s = record {
  contents = [];
  names = [];
  reading = tt;
  ends = (a, s, λ rest. refl, Asked-nothing f);
  held = Keeps-same f.held;
  later = omega arith;
}

-- where memory runs out before it
pub Comes-starve-first : {X A : Type 0} (Means : X → A → Type 0) (f : FilesSeen) (a : A) → Comes Means f f (give a) (Err Memory)
Comes-starve-first Means f a = record {
  contents = [];
  names = [];
  reading = tt;
  ends = inl (Asked-nothing f);
  held = Keeps-same f.held;
  later = omega arith;
}

-- behind a value, what stops the rest stops the whole
StopsReading-then : {A B : Type 0} (before mid now : FilesSeen) (m : Course A) (f : A → Course B) (x : A) (cs ds as' bs : List (List ℕ)) (e : Stop) → Asked before mid as' → before.faults ≤ mid.faults
    → ((rest : List (List ℕ)) → m (cs ++ rest) (Gives x rest)) → StopsReading mid now (f x) ds bs e → StopsReading before now (m >>= f) (cs ++ ds) (as' ++ bs) e
StopsReading-then before mid now m f x cs ds as' bs (Refusing r) a l g h = (gives x ds (g ds) h.0, h.1 ∙ ap (λ n. asking n bs) a ∙ asking-asking before.asked as' bs)
StopsReading-then before mid now m f x cs ds as' bs (Unread name) a l g h =
    ((h.0.0, gives x ds (g ds) h.0.1), h.1 ∙ ap (λ n. asking n (bs ++ name.now ∷ [])) a ∙ asking-asking before.asked as' (bs ++ name.now ∷ []) ∙ ap (asking before.asked) (sym (append_assoc as' bs (name.now ∷ []))), rises before.faults mid.faults now.faults l h.2)
StopsReading-then before mid now m f x cs ds as' bs (UnwrittenFile name) a l g h = absurd h
StopsReading-then before mid now m f x cs ds as' bs Unwritten a l g h = absurd h
StopsReading-then before mid now m f x cs ds as' bs Memory a l g h = elim h [
  | inl q ↦ inl (q ∙ ap (λ n. asking n bs) a ∙ asking-asking before.asked as' bs)
  | inr b ↦ inr (b.0, b.1, gives x ds (g ds) b.2, b.3 ∙ ap (λ n. asking n (bs ++ b.0 ∷ [])) a ∙ asking-asking before.asked as' (bs ++ b.0 ∷ []) ∙ ap (asking before.asked) (sym (append_assoc as' bs (b.0 ∷ []))))
]

module _ {Y B : Type 0} (Means' : Y → B → Type 0) where
  EndsReading-then : {A : Type 0} (before mid now : FilesSeen) (m : Course A) (f : A → Course B) (x : A) (cs ds as' bs : List (List ℕ)) (r : Result Y Stop) → Asked before mid as' → before.faults ≤ mid.faults
      → ((rest : List (List ℕ)) → m (cs ++ rest) (Gives x rest)) → EndsReading Means' mid now (f x) ds bs r → EndsReading Means' before now (m >>= f) (cs ++ ds) (as' ++ bs) r
  EndsReading-then before mid now m f x cs ds as' bs (Ok y) a l g h =
      (h.0, h.1, λ rest. gives x (ds ++ rest) (subst (λ es. m es (Gives x (ds ++ rest))) (sym (append_assoc cs ds rest)) (g (ds ++ rest))) (h.2 rest), h.3 ∙ ap (λ n. asking n bs) a ∙ asking-asking before.asked as' bs)
  EndsReading-then before mid now m f x cs ds as' bs (Err e) a l g h = StopsReading-then before mid now m f x cs ds as' bs e a l g h

-- another reading behind the first
pub Comes-then : {X Y A B : Type 0} (Means : X → A → Type 0) (Means' : Y → B → Type 0) (before mid now : FilesSeen) (m : Course A) (f : A → Course B) (x : X) (r : Result Y Stop)
    → Comes Means before mid m (Ok x) → ((a : A) → Means x a → Comes Means' mid now (f a) r) → Comes Means' before now (m >>= f) r
Comes-then Means Means' before mid now m f x r h g =
    let a = h.ends.0 in
    let k = g h.ends.0 h.ends.1 in
    record {
      contents = h.contents ++ k.contents;
      names = h.names ++ k.names;
      reading = IsReading-then before.held m f h.ends.0 h.contents h.names k.contents k.names h.reading h.ends.2
          (IsReading-before before.held mid.held (f h.ends.0) k.contents k.names h.held k.reading);
      ends = EndsReading-then Means' before mid now m f h.ends.0 h.contents k.contents h.names k.names r h.ends.3 h.later h.ends.2 k.ends;
      held = Keeps-on before.held mid.held now.held h.held k.held;
      later = omega (arith, h.later, k.later);
    }
