-- Values that are taken one after another.
use Rattle.std.specs.Prelude.{◌≡◌, ℤ, List, ◌∷◌, ◌++◌, fold, Result, OnOk, IfErr}
use Rattle.bm_io.specs.declared.sinks.SinkFault.{SinkFault}

-- The first of the values were taken, and the next was refused. `next` is what is held once one more value is taken, and
-- `leaves` what a refused one may leave.
pub record StopsAt {Held : Type 0} (next : Held → ℤ → Held) (leaves : SinkFault → Held → ℤ → Held → Type 0) (before now : Held)
    (values : List ℤ) (fault : SinkFault) : Type 0 where
  pub front : List ℤ
  pub refused : ℤ
  pub rest : List ℤ
  pub values_are : values ≡ front ++ refused ∷ rest
  pub left : leaves fault (fold next before front) refused now

-- the values were taken in order, up to the first that was refused
pub record Took {Held T : Type 0} (next : Held → ℤ → Held) (leaves : SinkFault → Held → ℤ → Held → Type 0) (before now : Held)
    (values : List ℤ) (result : Result T SinkFault) : Type 0 where
  pub ok : OnOk result (now ≡ fold next before values)
  pub err : IfErr result (λ fault. StopsAt next leaves before now values fault)
