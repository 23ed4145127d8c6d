use Rattle.std.proofs.Common.{arith}
use Rattle.stream_image.proofs.ClassTimes.{has_times}
use Rattle.stream_image.proofs.image.machine_is_lawful.Goals as goal

pub returns : goal.returns
returns c = record {
  some = let e = c.processors-processors.ensures.value in let s = c.processors-processors.ensures.some in omega arith;
  few = let e = c.processors-processors.ensures.value in let s = c.processors-processors.ensures.few in omega arith;
  times = has_times c.args.spec.now (c.is_time.ensures) (c.is_time-2.ensures) (c.is_time-3.ensures) (c.is_time-4.ensures) (c.is_time-5.ensures) (c.is_time-6.ensures) (c.is_time-7.ensures) (c.is_time-8.ensures) (c.is_time-9.ensures);
}
