use Rattle.std.proofs.Common.{subst, List, SomeIff}
use Rattle.bm_base.specs.declared.spec.Interval.{Interval}
use Rattle.bm_base.specs.Machine.{Machine, IsMachine}
use Rattle.stream_file.proofs.Loaded.{nine_are, made_is}
use Rattle.stream_file.proofs.built.machine.Goals as goal

pub returns : goal.returns
returns c =
    let made : Machine = record { processors = c.args.processors; delay = c.args.barrier; times = c.args.times.now } in
    let is : SomeIff c.new.result (IsMachine made) made = subst (λ (ts : List Interval). SomeIff c.new.result (IsMachine (record { processors = c.args.processors; delay = c.args.barrier; times = ts })) (record { processors = c.args.processors; delay = c.args.barrier; times = ts })) (nine_are c.args.times.now c.requires.count (record { least = 0; most = 0 })) c.new.ensures in
    made_is c.new.result c.unwrap.result made (IsMachine made) is c.requires c.unwrap.ensures
