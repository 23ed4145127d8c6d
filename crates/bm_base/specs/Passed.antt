-- An error that is passed on.
use Rattle.std.specs.Prelude.{◌≡◌, Result, Ok, Err, IsErr, IsErrAnd}
use Rattle.std.proofs.Common.{ap}

-- a result with this error is the error
pub err_is : {A E : Type 0} (x : Result A E) (e : E) → IsErr x → IsErrAnd x (λ y. y ≡ e) → x ≡ Err e
err_is (Ok v) e a b = cc
err_is (Err y) e a b = ap Err b
