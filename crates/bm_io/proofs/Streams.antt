-- A piece that a writer takes one part after another.
use Rattle.std.proofs.Common.{◌≡◌, List, ◌++◌, ℕ, Option, Some, None, take, drop, ap, ◌∙◌, append_assoc}
use Rattle.std.proofs.lemmas.List.{take-append-drop}
use Rattle.std.specs.Io.KnownBytes.{Appends}

-- a front of the piece was taken, and this is the rest
pub record TakesFront (before now : Option (List ℕ)) (piece rest : List ℕ) : Type 0 where
  pub front : List ℕ
  pub piece_is : front ++ rest ≡ piece
  pub taken : Appends before now front

Appends-more : (before mid now : Option (List ℕ)) (xs ys : List ℕ) → Appends before mid xs → Appends mid now ys → Appends before now (xs ++ ys)
Appends-more None mid now xs ys h k = tt
Appends-more (Some b) None now xs ys h k = absurd h
Appends-more (Some b) (Some m) None xs ys h k = absurd k
Appends-more (Some b) (Some m) (Some n) xs ys h k = k ∙ ap (λ t. t ++ ys) h ∙ append_assoc b xs ys

-- one part more was taken
pub TakesFront-more : (before mid now : Option (List ℕ)) (piece rest : List ℕ) (n : ℕ) → TakesFront before mid piece rest → Appends mid now (take n rest) → TakesFront before now piece (drop n rest)
TakesFront-more before mid now piece rest n h k = record {
  front = h.front ++ take n rest;
  piece_is = append_assoc h.front (take n rest) (drop n rest) ∙ ap (λ t. h.front ++ t) (take-append-drop n rest) ∙ h.piece_is;
  taken = Appends-more before mid now h.front (take n rest) h.taken k;
}
