use Rattle.std.proofs.Common.{◌≡◌, ◌<◌, ◌≤◌, List, take, length, length-take-le, get_or-take, ℕ, Some, slice_get, get_or, sym, ◌∙◌, subst, arith}
use Rattle.std.proofs.lemmas.Option.{slice_get_read}
use Rattle.std.proofs.lemmas.Bool.{cond-true, cond-false}
use Rattle.bm_base.specs.Mask.{has_bit}
use Rattle.unit_law.specs.Units.{IsLawful}
use Rattle.sbm_unit.specs.Queue.{fired_front}
use Rattle.sbm_unit.proofs.Lawful.{choice_past, choice_head, front_more, queue_lawful}
use Rattle.sbm_unit.proofs.sbm.SbmBarrierUnit.pick.Goals as goal

-- what the head's slot holds is the head of the queue
head_mask : (items : List ℕ) (count head mask : ℕ) → count ≤ length items → head < count → mask ≡ get_or items head mask → slice_get (take count items) head ≡ Some mask
head_mask items count head mask le lt e = slice_get_read (take count items) count head mask (sym (length-take-le count items le)) lt (e ∙ sym (get_or-take count items head mask lt))

pub returns-then-self-clause-chosen : goal.returns-then-self-clause-chosen
returns-then-self-clause-chosen c = rw (← c.self.view_is) (sym (choice_past c.self.inside.head (take c.self.inside.count c.self.inside.slots.items) c.self.inside.waiting (let x = length-take-le c.self.inside.count c.self.inside.slots.items c.self.invariant.0 in omega arith)))

pub returns-then-not-is_within-clause-chosen : goal.returns-then-not-is_within-clause-chosen
returns-then-not-is_within-clause-chosen c = rw (← c.self.view_is) (sym (choice_head c.self.inside.head (take c.self.inside.count c.self.inside.slots.items) c.self.inside.waiting c.index-mask.result.now (head_mask _ _ _ _ c.self.invariant.0 c.if-self.false c.index-mask.ensures) ∙ cond-false _ _ _ (sym c.is_within.ensures.value ∙ c.if-not-is_within.true)))

pub returns-clause-chosen : goal.returns-clause-chosen
returns-clause-chosen c = rw (← c.self.view_is) (sym (choice_head c.self.inside.head (take c.self.inside.count c.self.inside.slots.items) c.self.inside.waiting c.index-mask.result.now (head_mask _ _ _ _ c.self.invariant.0 c.if-self.false c.index-mask.ensures) ∙ cond-true _ _ _ (sym c.is_within.ensures.value ∙ c.if-not-is_within.false)))

pub returns-clause-fired : goal.returns-clause-fired
returns-clause-fired c = rw (← c.self.view_is) (front_more c.self.inside.head (take c.self.inside.count c.self.inside.slots.items) (let x = length-take-le c.self.inside.count c.self.inside.slots.items c.self.invariant.0 in omega arith))

pub returns-then-self-clause-lawful : goal.returns-then-self-clause-lawful
returns-then-self-clause-lawful c = subst (IsLawful c.args.self.now.masks (fired_front c.args.self.now.head c.args.self.now.masks) (has_bit c.args.self.now.waiting)) (sym (returns-then-self-clause-chosen c)) (queue_lawful c.args.self.now)

pub returns-then-not-is_within-clause-lawful : goal.returns-then-not-is_within-clause-lawful
returns-then-not-is_within-clause-lawful c = subst (IsLawful c.args.self.now.masks (fired_front c.args.self.now.head c.args.self.now.masks) (has_bit c.args.self.now.waiting)) (sym (returns-then-not-is_within-clause-chosen c)) (queue_lawful c.args.self.now)

pub returns-clause-lawful : goal.returns-clause-lawful
returns-clause-lawful c = subst (IsLawful c.args.self.now.masks (fired_front c.args.self.now.head c.args.self.now.masks) (has_bit c.args.self.now.waiting)) (sym (returns-clause-chosen c)) (queue_lawful c.args.self.now)
