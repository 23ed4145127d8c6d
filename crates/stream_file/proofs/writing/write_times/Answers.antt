use Rattle.std.proofs.Common.{◌+◌, drop, ◌∙◌}
use Rattle.stream_file.specs.Words.{classes}
use Rattle.stream_file.proofs.Spaces.{more_time}
use Rattle.stream_file.proofs.writing.write_times.Goals as goal

pub loop-number-preserved : goal.loop-number-preserved
loop-number-preserved c =
    more_time c.loop-number.out.items c.write_line.new.out.items c.args.spec.now c.class_at-class.result c.time-time.result (drop c.loop-number.number classes) (drop (c.loop-number.number + 1) classes) c.time-time.ensures.value c.class_at-class.ensures c.in_ok-write_line.ensures.text ∙ c.loop-number.invariant
