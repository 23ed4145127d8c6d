use Rattle.std.proofs.Common.{◌≡◌, ◌++◌, ◌∷◌, [], subst}
use Rattle.stream_file.specs.declared.built.Made.TheVariants.{Image, Fault}
use Rattle.stream_file.specs.Built.{Makes}
use Rattle.stream_file.specs.Drafted.{block_fields}
use Rattle.stream_file.specs.Fields.{BlockFields}
use Rattle.stream_file.proofs.Building.{goes_on, stops}
use Rattle.stream_file.proofs.built.put.Goals as goal

pub returns-in-Ok : goal.returns-in-Ok
returns-in-Ok c = λ head bs h.
    let fields : BlockFields = record { tuples = c.from_vec.result; masks = c.deref-2.result.now; streams = c.deref.result.now; next = c.args.one.next } in
    let same : fields ≡ block_fields c.args.one = λ i. record { tuples = c.from_vec.ensures i; masks = c.deref-2.ensures.value i; streams = c.deref.ensures.value i; next = c.args.one.next } in
    subst (λ (b : BlockFields). Makes head (bs ++ b ∷ []) (Image c.block.new.self)) same (goes_on head bs fields c.args.builder c.block.new.self h c.in-Ok.ensures.ok c.in-Ok.ensures.accepted)

pub returns : goal.returns
returns c = λ head bs h.
    let fields : BlockFields = record { tuples = c.from_vec.result; masks = c.deref-2.result.now; streams = c.deref.result.now; next = c.args.one.next } in
    let same : fields ≡ block_fields c.args.one = λ i. record { tuples = c.from_vec.ensures i; masks = c.deref-2.ensures.value i; streams = c.deref.ensures.value i; next = c.args.one.next } in
    subst (λ (b : BlockFields). Makes head (bs ++ b ∷ []) (Fault c.in-Err.fault)) same (stops head bs fields c.args.builder c.in-Err.fault h c.in-Err.ensures.refused)
