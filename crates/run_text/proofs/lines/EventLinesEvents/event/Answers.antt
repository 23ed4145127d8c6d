use Rattle.std.proofs.Common.{◌≡◌, ◌∙◌, true, rules}
use Rattle.bm_report.specs.Events.{has_line}
use Rattle.run_text.proofs.OneEvent.{taken-event, refused-event}
use Rattle.run_text.proofs.lines.EventLinesEvents.event.Goals as goal

pub returns-in_default-clause-taken : goal.returns-in_default-clause-taken
returns-in_default-clause-taken g c =
    let shown : has_line c.args.event ≡ true = search rules in
    taken-event (g.O.Sink.taken c.args.self.now.out.now) (g.O.Sink.taken c.write.new.self) c.bytes.result.now c.args.event c.write.result shown (c.bytes.ensures.value ∙ c.line.ensures) c.write.ensures.sent

pub returns-in_default-clause-refused : goal.returns-in_default-clause-refused
returns-in_default-clause-refused g c =
    let shown : has_line c.args.event ≡ true = search rules in
    refused-event (g.O.Sink.taken c.args.self.now.out.now) (g.O.Sink.taken c.write.new.self) c.bytes.result.now c.args.event c.write.result shown (c.bytes.ensures.value ∙ c.line.ensures) c.write.ensures.sent c.write.ensures.memory
