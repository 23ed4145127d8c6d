use Rattle.std.proofs.Common.{◌<◌, length, arith}
use Rattle.src_names.specs.Fault as t
use Rattle.src_names.proofs.First.{no_fault}
use Rattle.src_names.proofs.Whole.{only, only_fault}
use Rattle.src_names.proofs.naming.resolve.Goals as goal

pub returns-then-count-gt-MOST_NAMES-clause-only : goal.returns-then-count-gt-MOST_NAMES-clause-only
returns-then-count-gt-MOST_NAMES-clause-only c = λ r n.
    let many : 1024 < length c.args.program.now.decls = omega (arith, c.len-count.ensures, c.if-count-gt-MOST_NAMES.true) in
    absurd (no_fault (t.many many) r n)

pub returns-then-count-gt-MOST_NAMES-clause-fault : goal.returns-then-count-gt-MOST_NAMES-clause-fault
returns-then-count-gt-MOST_NAMES-clause-fault c = λ _.
    let many : 1024 < length c.args.program.now.decls = omega (arith, c.len-count.ensures, c.if-count-gt-MOST_NAMES.true) in
    rw (c.min-count.ensures, c.len-count.ensures) (t.many many)

pub returns-clause-only : goal.returns-clause-only
returns-clause-only c = only c.args.program.now c.name_program.result c.name_program.ensures.ok c.name_program.ensures.err

pub returns-clause-only_fault : goal.returns-clause-only_fault
returns-clause-only_fault c = only_fault c.args.program.now c.name_program.result c.name_program.ensures.ok c.name_program.ensures.err
