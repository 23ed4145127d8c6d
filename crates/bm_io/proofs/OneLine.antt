-- A line that a sink refused.
use Rattle.std.proofs.Common.{◌≡◌, List, [], ◌∷◌, ◌++◌, ℕ, ℤ, Option, Ok, Err, Result, refl, sym, ap, ◌∙◌}
use Rattle.std.specs.Result.{IfErr}
use Rattle.std.specs.List.{fold}
use Rattle.bm_io.specs.declared.sinks.SinkFault.{SinkFault}
use Rattle.bm_io.specs.declared.sinks.SinkFault.TheVariants.{Failed, Memory}
use Rattle.bm_io.specs.Sink.{Taken, written, tried, TakesPart, Sent}
use Rattle.bm_io.specs.LineValues.{value_line, TakesPrefix, LeavesPrefix}

prefix_of : (before now : Taken) (line : List ℕ) (whole : List (List ℕ)) (part refused : List ℕ) (rest : List (List ℕ)) → line ∷ [] ≡ whole ++ (part ++ refused) ∷ rest
    → now ≡ written (fold written before whole) part → TakesPrefix before now line
prefix_of before now line [] part refused rest e t = let is : line ≡ part ++ refused = cc in record { part = part; refused = refused; line_is = is; taken = t }
prefix_of before now line (x ∷ []) part refused rest e t = let no : ⊥ = cc in absurd no
prefix_of before now line (x ∷ y ∷ whole) part refused rest e t = let no : ⊥ = cc in absurd no

-- of one piece that failed a prefix was taken
pub TakesPrefix-part : (before now : Taken) (line : List ℕ) → TakesPart before now (line ∷ []) → TakesPrefix before now line
TakesPrefix-part before now line h = prefix_of before now line h.whole h.part h.refused h.rest h.pieces_are h.taken

-- what the write of a line leaves where it is refused
pub refused-line : (before now : Taken) (piece : List ℕ) (v : ℤ) (r : Result (Unit {0}) SinkFault) → piece ≡ value_line v → Sent before now (piece ∷ []) r
    → (r ≡ Err Memory → now ≡ tried before) → IfErr r (λ fault. LeavesPrefix fault before v now)
refused-line before now piece v (Ok x) e h m = tt
refused-line before now piece v (Err Failed) e h m = rw (sym e) (TakesPrefix-part before now piece (h.failed refl))
refused-line before now piece v (Err Memory) e h m = m refl

-- a piece of which a part was taken
pub part_of_one : {T : Type 0} (before now : Taken) (piece part refused : List ℕ) → piece ≡ part ++ refused → now ≡ written before part → Sent {T = T} before now (piece ∷ []) (Err Failed)
part_of_one before now piece part refused e h = record {
  ok = tt;
  failed = λ _. record { whole = []; part = part; refused = refused; rest = []; pieces_are = ap (λ x. x ∷ []) e; taken = h };
  memory = λ e. let no : ⊥ = cc in absurd no;
}

-- what is taken, by its parts
abbrev pub taken_of : Option (List ℕ) → ℕ → Taken
taken_of b n = record { bytes = b; writes = n }

pub taken_as : (b c : Option (List ℕ)) (n m : ℕ) → b ≡ c → n ≡ m → taken_of b n ≡ taken_of c m
taken_as b c n m e h = ap (λ x. taken_of x n) e ∙ ap (taken_of c) h
