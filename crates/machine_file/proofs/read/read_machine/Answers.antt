use Rattle.std.proofs.Common.{inl, ◌∙◌, sym}
use Rattle.std.proofs.lemmas.Bool.{false≢true}
use Rattle.std.proofs.lemmas.Str.{is_utf8-from_IsUtf8}
use Rattle.toml.specs.View.{table_view}
use Rattle.machine_file.specs.MachineFile.{machine_of_document}
use Rattle.machine_file.proofs.Answered.{answered, no_document}
use Rattle.machine_file.proofs.read.read_machine.Goals as goal

pub returns-in-Ok : goal.returns-in-Ok
returns-in-Ok c =
    let text = is_utf8-from_IsUtf8 c.args.bytes.now c.in-Ok.ensures.ok.0 in
    rw (text, c.in-Ok.ensures.ok.1) (answered (machine_of_document (table_view c.in-Ok.document)) c.machine.result c.machine.ensures)

pub returns-in-Err-2 : goal.returns-in-Err-2
returns-in-Err-2 c =
    inl (no_document c.args.bytes.now (c.in-Err.ensures.refused (λ e. false≢true (sym c.if-is_memory.false ∙ c.is_memory.ensures.1 e))))
