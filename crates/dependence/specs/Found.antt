-- What is found of the conflicts of a block.
use Rattle.std.specs.Prelude.{◌≡◌, ℕ, List}
use Rattle.tuple_ir.specs.declared.tuple.Tuple.{Tuple}
use Rattle.dependence.specs.Producers.{producers_of}
use Rattle.dependence.specs.Links.{links_of}

-- by the tuples' numbers, lists of producers and links
pub record Found : Type 0 where
  pub producers : List (List ℕ)
  pub links : List ℕ

-- they are those of these tuples
pub record AreDepsOf (deps : Found) (tuples : List Tuple) : Type 0 where
  pub producers : deps.producers ≡ producers_of tuples
  pub links : deps.links ≡ links_of tuples
