-- What the blocks of a text make, one block more.
use Rattle.std.proofs.Common.{◌≡◌, ◌≤◌, refl, sym, ap, subst, ◌∙◌, arith, List, [], ◌∷◌, ◌++◌, length, length-append, ◌⊎◌, inl, inr}
use Rattle.unit_law.specs.State.{Program}
use Rattle.stream_image.specs.declared.fault.ImageFault.{ImageFault}
use Rattle.stream_image.specs.declared.fault.ImageFault.TheVariants as found
use Rattle.stream_file.specs.declared.built.Made.{Made}
use Rattle.stream_file.specs.declared.built.Made.TheVariants.{Nothing, Image, Fault}
use Rattle.stream_file.specs.Fields.{BlockFields}
use Rattle.stream_file.specs.Images.{with_fields, with_all, IsTaken, IsDenied, AllTaken, IsFirstDenied}
use Rattle.stream_file.specs.Built.{AreBuilt, Makes}

more_all : (head : Program) (bs : List BlockFields) (b : BlockFields) → with_all head (bs ++ b ∷ []) ≡ with_fields (with_all head bs) b
more_all head [] b = refl
more_all head (x ∷ xs) b = more_all (with_fields head x) xs b

more_taken : (head : Program) (bs : List BlockFields) (b : BlockFields) → AllTaken head bs → IsTaken (with_all head bs) b → AllTaken head (bs ++ b ∷ [])
more_taken head [] b h t = (t, tt)
more_taken head (x ∷ xs) b h t = (h.0, more_taken (with_fields head x) xs b h.1 t)

denied_next : (head : Program) (bs : List BlockFields) (b : BlockFields) (f : ImageFault) → AllTaken head bs → IsDenied (with_all head bs) b f → IsFirstDenied head (bs ++ b ∷ []) f
denied_next head [] b f h d = inl d
denied_next head (x ∷ xs) b f h d = inr (h.0, denied_next (with_fields head x) xs b f h.1 d)

denied_before : (head : Program) (bs : List BlockFields) (b : BlockFields) (f : ImageFault) → IsFirstDenied head bs f → IsFirstDenied head (bs ++ b ∷ []) f
denied_before head [] b f h = absurd h
denied_before head (x ∷ xs) b f (inl d) = inl d
denied_before head (x ∷ xs) b f (inr h) = inr (h.0, denied_before (with_fields head x) xs b f h.1)

-- a block that is taken
pub goes_on : (head : Program) (bs : List BlockFields) (b : BlockFields) (image next : Program) → AreBuilt head bs image → next ≡ with_fields image b → IsTaken image b → Makes head (bs ++ b ∷ []) (Image next)
goes_on head bs b image next h e t = (
  omega (arith, length-append bs (b ∷ [])),
  record {
    value = e ∙ ap (λ (m : Program). with_fields m b) h.value ∙ sym (more_all head bs b);
    taken = more_taken head bs b h.taken (subst (λ (m : Program). IsTaken m b) h.value t);
  },
)

-- one that is refused
pub stops : (head : Program) (bs : List BlockFields) (b : BlockFields) (image : Program) (f : ImageFault) → AreBuilt head bs image → (f ≡ found.Memory) ⊎ IsDenied image b f → Makes head (bs ++ b ∷ []) (Fault f)
stops head bs b image f h (inl m) = inl m
stops head bs b image f h (inr d) = inr (denied_next head bs b f h.taken (subst (λ (m : Program). IsDenied m b f) h.value d))

-- one that is passed over
pub passes_over : (head : Program) (bs : List BlockFields) (b : BlockFields) (f : ImageFault) → Makes head bs (Fault f) → Makes head (bs ++ b ∷ []) (Fault f)
passes_over head bs b f (inl m) = inl m
passes_over head bs b f (inr d) = inr (denied_before head bs b f d)

-- no block yet
pub none_yet : (head image : Program) (bs : List BlockFields) → bs ≡ [] → image ≡ head → AreBuilt head bs image
none_yet head image bs n e = subst (λ (l : List BlockFields). AreBuilt head l image) (sym n) (record { value = e; taken = tt })

-- what the blocks make does not hang on the head, where there are none
pub same_made : (head other : Program) (bs : List BlockFields) (made : Made) → (1 ≤ length bs → head ≡ other) → Makes head bs made → Makes other bs made
same_made head other [] Nothing e h = h
same_made head other [] (Image image) e h = absurd (omega (arith, h.0))
same_made head other [] (Fault f) e (inl m) = inl m
same_made head other [] (Fault f) e (inr d) = absurd d
same_made head other (b ∷ bs) made e h = subst (λ (p : Program). Makes p (b ∷ bs) made) (e (omega arith)) h
