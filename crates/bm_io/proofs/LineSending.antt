-- Values that were written as lines: their lines were sent.
use Rattle.std.proofs.Common.{◌≡◌, List, [], ◌∷◌, ◌++◌, ℕ, ℤ, Ok, Err, Result, map, refl, ap, ◌∙◌, inl, inr}
use Rattle.std.specs.List.{fold}
use Rattle.std.proofs.lemmas.List.{map-append}
use Rattle.bm_io.specs.declared.sinks.SinkFault.{SinkFault}
use Rattle.bm_io.specs.declared.sinks.SinkFault.TheVariants.{Failed, Memory}
use Rattle.bm_io.specs.Sink.{Taken, written, tried, Takes, TakesPart, TakesWhole, Sent}
use Rattle.bm_io.specs.Values.{StopsAt, Took}
use Rattle.bm_io.specs.LineValues.{value_line, with_line, LeavesPrefix}

-- what is held after some values: their lines, behind what was taken before
pub Takes-values : (before : Taken) (vs : List ℤ) → Takes before (fold with_line before vs) (map value_line vs)
Takes-values before [] = refl
Takes-values before (v ∷ vs) = Takes-values (with_line before v) vs

lines_are : (vs front : List ℤ) (v : ℤ) (rest : List ℤ) → vs ≡ front ++ v ∷ rest → map value_line vs ≡ map value_line front ++ value_line v ∷ map value_line rest
lines_are vs front v rest e = ap (map value_line) e ∙ map-append value_line front (v ∷ rest)

stops-part : (before now : Taken) (vs : List ℤ) → StopsAt with_line LeavesPrefix before now vs Failed → TakesPart before now (map value_line vs)
stops-part before now vs h = record {
  whole = map value_line h.front;
  part = h.left.part;
  refused = h.left.refused;
  rest = map value_line h.rest;
  pieces_are = lines_are vs h.front h.refused h.rest h.values_are ∙ ap (λ l. map value_line h.front ++ l ∷ map value_line h.rest) h.left.line_is;
  taken = h.left.taken ∙ ap (λ t. written t h.left.part) (Takes-values before h.front);
}

stops-whole : (before now : Taken) (vs : List ℤ) → StopsAt with_line LeavesPrefix before now vs Memory → TakesWhole before now (map value_line vs)
stops-whole before now vs h = record {
  whole = map value_line h.front;
  rest = value_line h.refused ∷ map value_line h.rest;
  pieces_are = lines_are vs h.front h.refused h.rest h.values_are;
  taken = inr (h.left ∙ ap tried (Takes-values before h.front));
}

pub Sent-values : {T : Type 0} (before now : Taken) (vs : List ℤ) (r : Result T SinkFault) → Took with_line LeavesPrefix before now vs r → Sent before now (map value_line vs) r
Sent-values before now vs (Ok x) h = record {
  ok = h.ok ∙ Takes-values before vs;
  failed = λ e. let no : ⊥ = cc in absurd no;
  memory = λ e. let no : ⊥ = cc in absurd no;
}
Sent-values before now vs (Err Failed) h = record {
  ok = tt;
  failed = λ _. stops-part before now vs h.err;
  memory = λ e. let no : ⊥ = cc in absurd no;
}
Sent-values before now vs (Err Memory) h = record {
  ok = tt;
  failed = λ e. let no : ⊥ = cc in absurd no;
  memory = λ _. stops-whole before now vs h.err;
}
