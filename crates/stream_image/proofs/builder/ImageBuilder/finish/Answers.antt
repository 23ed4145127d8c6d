use Rattle.std.proofs.Common.{◌≡◌, ◌≤◌, ◌∙◌, sym, subst, length, map, arith, None}
use Rattle.unit_law.specs.State.{Program}
use Rattle.stream_image.specs.Flat.{HeldBlock}
use Rattle.stream_image.specs.Held.{AreWhole, AllLeadBelow}
use Rattle.stream_image.specs.Refused.{target_fault}
use Rattle.stream_image.proofs.Accepted.{no_target}
use Rattle.stream_image.proofs.ImageFacts.{long_map, image_is, determinate_is}
use Rattle.stream_image.proofs.builder.ImageBuilder.finish.Goals as goal

whole : (c : goal.In_default) → AreWhole c.self.inside.spec c.self.inside.names c.self.inside.held
whole c =
    let held = c.self.inside.held in
    let k = long_map (λ (h : HeldBlock). h.block) held in
    let none : target_fault (map (λ (h : HeldBlock). h.block) held) ≡ None = sym c.target_fault.ensures ∙ c.in_default.is in
    record {
      held_so = c.self.invariant;
      some = let r = subst (λ (m : Program). 1 ≤ length m.blocks) (sym c.self.view_is) c.requires.some in omega arith;
      lead = subst (λ n. AllLeadBelow n held) k (no_target (length (map (λ (h : HeldBlock). h.block) held)) 0 held none);
    }

pub invariant_of-result : goal.invariant_of-result
invariant_of-result c = whole c

pub returns-clause-lawful : goal.returns-clause-lawful
returns-clause-lawful c = image_is c.self.inside.spec c.self.inside.names c.self.inside.held c.machine_is_lawful.ensures c.len-names.ensures.lawful (whole c)

pub returns-clause-determinate : goal.returns-clause-determinate
returns-clause-determinate c = determinate_is _ (image_is c.self.inside.spec c.self.inside.names c.self.inside.held c.machine_is_lawful.ensures c.len-names.ensures.lawful (whole c))
