use Rattle.std.proofs.Common.{◌<◌, arith, length}
use Rattle.bm_base.specs.Mask.{has_bit}
use Rattle.unit_law.specs.State.{is_wait, waits, code_at}
use Rattle.unit_law.specs.Canonical.{is_do}
use Rattle.bm_machine.specs.Shown.{standing_at, starts_next}
use Rattle.bm_machine.proofs.Arrivals.{told_within}
use Rattle.bm_machine.proofs.Ables.{next_read, known_first, known_skip, known_more, known_all}
use Rattle.bm_machine.proofs.Staying.{unit_first, unit_on}
use Rattle.bm_machine.proofs.arrive.see_members.Goals as goal

pub loop-p-init : goal.loop-p-init
loop-p-init g c =
    let code = code_at c.args.image.now c.args.block in
    let s = standing_at c.args.clock c.args.actors.now in
    record {
      place = omega arith;
      told = c.requires.told;
      within = c.requires.waits;
      known = known_first (waits code s) c.args.mask (has_bit c.args.told.now) c.requires.known;
      can = c.requires.starts;
      can_known = known_first (starts_next code s) c.args.mask (has_bit c.args.able.now) c.requires.known_starts;
      unit = unit_first _ _ _ _ _;
    }

pub stream-items-requires-clause-processor : goal.stream-items-requires-clause-processor
stream-items-requires-clause-processor g c = c.requires.members c.in-Some.p c.in-Some.ensures.member

pub loop-p-preserved : goal.loop-p-preserved
loop-p-preserved g c =
    let code = code_at c.args.image.now c.args.block in
    let s = standing_at c.args.clock c.args.actors.now in
    let i = c.loop-p.invariant in
    let next = c.in-Some.ensures in
    let p = c.in-Some.p in
    let lt : p < length c.args.actors.now = omega (arith, c.requires.members p next.member, c.requires.long) in
    let wait = next_read is_wait code c.args.clock c.args.actors.now p _ c.stream-items.result.now lt c.stream-items.ensures in
    let start = next_read is_do code c.args.clock c.args.actors.now p _ c.stream-items.result.now lt c.stream-items.ensures in
    record {
      place = omega (arith, next.high);
      told = c.see.ensures.told;
      within = told_within (waits code s) (has_bit c.loop-p.told) (has_bit c.see.new.told) p _ wait c.see.ensures.bits i.within;
      known = known_more (waits code s) c.args.mask p (has_bit c.loop-p.told) (has_bit c.see.new.told) _ wait c.see.ensures.bits i.within (known_skip (waits code s) c.args.mask c.loop-p.from p (has_bit c.loop-p.told) next i.known);
      can = told_within (starts_next code s) (has_bit c.loop-p.able) (has_bit c.see.new.able) p _ start c.see.ensures.able i.can;
      can_known = known_more (starts_next code s) c.args.mask p (has_bit c.loop-p.able) (has_bit c.see.new.able) _ start c.see.ensures.able i.can (known_skip (starts_next code s) c.args.mask c.loop-p.from p (has_bit c.loop-p.able) next i.can_known);
      unit = unit_on _ _ _ _ _ _ _ i.unit c.see.ensures.unit;
    }

pub returns-clause-sees : goal.returns-clause-sees
returns-clause-sees g c =
    let code = code_at c.args.image.now c.args.block in
    let s = standing_at c.args.clock c.args.actors.now in
    let i = c.loop-p.invariant in
    record {
      told_is = i.told;
      told_has = known_all (waits code s) c.args.mask c.loop-p.from (has_bit c.loop-p.told) c.in_default.ensures i.known;
      able_has = known_all (starts_next code s) c.args.mask c.loop-p.from (has_bit c.loop-p.able) c.in_default.ensures i.can_known;
    }
