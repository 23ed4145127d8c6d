use Rattle.timing_script.proofs.DataReadings.{found, only, fault, only_fault}
use Rattle.timing_script.proofs.data_reading.read_data.Goals as goal

pub returns-clause-found : goal.returns-clause-found
returns-clause-found c = found c.args.names.now c.read_rows.ensures.lawful c.args.bytes.now c.read_rows.result c.read_rows.ensures.read

pub returns-clause-only : goal.returns-clause-only
returns-clause-only c = only c.args.names.now c.read_rows.ensures.lawful c.args.bytes.now c.read_rows.result c.read_rows.ensures.read

pub returns-clause-fault : goal.returns-clause-fault
returns-clause-fault c = fault c.args.names.now c.read_rows.ensures.lawful c.args.bytes.now c.read_rows.result c.read_rows.ensures.read

pub returns-clause-only_fault : goal.returns-clause-only_fault
returns-clause-only_fault c = only_fault c.args.names.now c.read_rows.ensures.lawful c.args.bytes.now c.read_rows.result c.read_rows.ensures.read
