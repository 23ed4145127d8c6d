use Rattle.std.proofs.Common.{◌≡◌, ◌≤◌, ◌∙◌, ℕ, Option, sym, ap, length, inr, arith}
use Rattle.unit_law.specs.State.{Program}
use Rattle.stream_image.specs.declared.fault.ImageFault.{ImageFault}
use Rattle.stream_image.specs.Flat.{HeldBlock}
use Rattle.stream_image.specs.Check.{first_fault}
use Rattle.stream_image.specs.Refused.{fault_of}
use Rattle.stream_image.specs.Refused.IsRefused.{unkept}
use Rattle.stream_image.proofs.Accepted.{told, lined_told}
use Rattle.stream_image.proofs.ImageFacts.{long_map}
use Rattle.stream_image.proofs.builder.ImageBuilder.block.Goals as goal

pub returns-in-Some-clause-refused : goal.returns-in-Some-clause-refused
returns-in-Some-clause-refused c =
    let place : c.len-number.result ≡ length c.args.self.now.blocks = c.len-number.ensures ∙ sym (long_map (λ (h : HeldBlock). h.block) c.self.inside.held) ∙ ap (λ (m : Program). length m.blocks) c.self.view_is in
    let inside : ℕ → Program → Option ImageFault = λ number m. first_fault number m.names m.machine.processors c.args.block.tuples c.args.block.next c.args.streams.now c.args.masks.now in
    let test = told c.len-number.result c.first_fault.result c.self.inside.names c.self.inside.spec.processors c.processors-n.result c.args.block.tuples c.items.result.now c.args.block.next c.args.streams.now c.args.masks.now c.first_fault.ensures c.processors-n.ensures.value c.items.ensures in
    inr (unkept (sym (test ∙ ap (λ m. inside c.len-number.result m) c.self.view_is ∙ ap (λ number. inside number c.args.self.now) place) ∙ c.in-Some.is))

pub order_fault-requires-clause-lined : goal.order_fault-requires-clause-lined
order_fault-requires-clause-lined c =
    let test = told c.len-number.result c.first_fault.result c.self.inside.names c.self.inside.spec.processors c.processors-n.result c.args.block.tuples c.items.result.now c.args.block.next c.args.streams.now c.args.masks.now c.first_fault.ensures c.processors-n.ensures.value c.items.ensures in
    let most : c.self.inside.spec.processors ≤ 128 = let e = c.processors-n.ensures.value in let f = c.processors-n.ensures.few in omega arith in
    lined_told c.len-number.result c.self.inside.names c.self.inside.spec.processors c.args.block c.args.streams.now c.args.masks.now (sym test ∙ c.in_default.is) most c.streams_are_bytes.ensures c.requires.increasing c.requires.tuples c.requires.masks
