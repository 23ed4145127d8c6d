use Rattle.std.proofs.Common.{◌≡◌, ◌<◌, ℕ, Some, None, length, map, sym, ap, ◌∙◌, subst, length-set}
use Rattle.bm_base.specs.Mask.{has_bit}
use Rattle.unit_law.specs.State.{is_wait, code_at}
use Rattle.unit_law.specs.Canonical.{is_do}
use Rattle.bm_machine.specs.Agenda.{due_at, hold_until}
use Rattle.bm_machine.specs.Shown.{dues_of, processor_of}
use Rattle.bm_machine.proofs.Dues.{entries, entries_less}
use Rattle.bm_machine.proofs.Ables.{passes_by, by_dues}
use Rattle.bm_machine.proofs.Staying.{unit_on}
use Rattle.bm_machine.proofs.Releasing.{IsLeft, left_more, right_then, all_later}
use Rattle.bm_machine.proofs.arrive.release.Given as given
use Rattle.bm_machine.proofs.arrive.release.Goals as goal
use Rattle.bm_machine.proofs.arrive.release.Goals.{After-pop_hold}

-- ---- a hold is over
pub loop-p-smaller : goal.loop-p-smaller
loop-p-smaller g c = subst (λ l. entries l < entries c.loop-p.agenda) (sym c.in-Some.ensures.some.1) (entries_less c.loop-p.agenda c.in-Some.p (hold_until c.args.tick) c.in-Some.ensures.some.0)

pub loop-p-preserved : goal.loop-p-preserved
loop-p-preserved g c =
    let code = code_at c.args.image.now c.args.block in
    let i = c.loop-p.invariant in
    let hold = c.in-Some.ensures.some.0 in
    let new = c.in-Some.ensures.some.1 in
    record {
      told = c.see.ensures.told;
      bits = subst (λ l. (q : ℕ) → has_bit c.see.new.told q ≡ passes_by is_wait code (map processor_of c.args.actors.now) l q) (sym new) (right_then c.args.agenda.now c.args.clock c.args.tick c.args.actors.now c.requires.agenda c.loop-p.agenda i.long i.left c.in-Some.p hold is_wait code (has_bit c.loop-p.told) (has_bit c.see.new.told) _ c.stream-items.result.now c.stream-items.ensures c.see.ensures.bits i.bits);
      able = subst (λ l. (q : ℕ) → has_bit c.see.new.able q ≡ passes_by is_do code (map processor_of c.args.actors.now) l q) (sym new) (right_then c.args.agenda.now c.args.clock c.args.tick c.args.actors.now c.requires.agenda c.loop-p.agenda i.long i.left c.in-Some.p hold is_do code (has_bit c.loop-p.able) (has_bit c.see.new.able) _ c.stream-items.result.now c.stream-items.ensures c.see.ensures.able i.able);
      long = ap length new ∙ length-set c.loop-p.agenda c.in-Some.p None ∙ i.long;
      left = subst (IsLeft c.args.agenda.now c.args.tick) (sym new) (left_more c.args.agenda.now c.args.clock c.args.tick c.args.actors.now c.requires.agenda c.loop-p.agenda i.long i.left c.in-Some.p hold);
      unit = unit_on _ _ _ _ _ _ _ i.unit c.see.ensures.unit;
    }

-- ---- none is left
over : (g : given.Over) (c : After-pop_hold g) → ((p : ℕ) → due_at c.loop-p.agenda p ≡ Some (hold_until c.args.tick) → ⊥) → c.loop-p.agenda ≡ dues_of c.args.tick (map processor_of c.args.actors.now)
over g c none = all_later c.args.agenda.now c.args.clock c.args.tick c.args.actors.now c.requires.agenda c.loop-p.agenda c.loop-p.invariant.long c.loop-p.invariant.left c.requires.later c.requires.least none

pub returns-clause-agenda : goal.returns-clause-agenda
returns-clause-agenda g c = c.in_default.ensures.none.0 ∙ over g (goal.at.returns-clause-agenda g c).After-pop_hold c.in_default.ensures.none.1

pub returns-clause-sees : goal.returns-clause-sees
returns-clause-sees g c =
    let left = over g (goal.at.returns-clause-sees g c).After-pop_hold c.in_default.ensures.none.1 in
    record {
      told_is = c.loop-p.invariant.told;
      told_has = λ p. c.loop-p.invariant.bits p ∙ by_dues is_wait (code_at c.args.image.now c.args.block) c.args.tick (map processor_of c.args.actors.now) c.loop-p.agenda p left;
      able_has = λ p. c.loop-p.invariant.able p ∙ by_dues is_do (code_at c.args.image.now c.args.block) c.args.tick (map processor_of c.args.actors.now) c.loop-p.agenda p left;
    }
