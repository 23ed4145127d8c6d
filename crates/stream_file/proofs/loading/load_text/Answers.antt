use Rattle.std.proofs.Common.{sym, subst}
use Rattle.stream_file.specs.Images.{head_of, IsLoadFault}
use Rattle.stream_file.proofs.Loaded.{told_is}
use Rattle.stream_file.proofs.BlocksRead.{is_begun, loaded, not_loaded}
use Rattle.stream_file.proofs.loading.load_text.Goals as goal

pub finish-requires : goal.finish-requires
finish-requires c =
    let r = c.in-Ok.ensures in
    is_begun (head_of r.fields) r.fields.blocks c.in-Ok.built.made r.text.fits.some r.made

pub returns-in-Ok-finish-clause-found : goal.returns-in-Ok-finish-clause-found
returns-in-Ok-finish-clause-found c =
    let r = c.in-Ok.ensures in
    loaded c.args.bytes.now c.in-Ok.built c.in-Ok-finish.image r (c.in-Ok-finish.ensures (head_of r.fields) r.fields.blocks r.made)

pub returns-in-Err-clause-fault : goal.returns-in-Err-clause-fault
returns-in-Err-clause-fault c =
    let r = c.in-Ok.ensures in
    subst (IsLoadFault c.args.bytes.now) (sym c.told.ensures) (told_is c.args.bytes.now c.in-Err.fault (not_loaded c.args.bytes.now c.in-Ok.built c.in-Err.fault r (c.in-Err.ensures (head_of r.fields) r.fields.blocks r.made)))
