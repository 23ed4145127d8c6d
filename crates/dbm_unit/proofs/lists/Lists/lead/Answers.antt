use Rattle.std.proofs.Common.{◌≡◌, ℕ, false, ◌+◌, ◌*◌, ◌<◌, ◌≤◌, length, set, get_or, None, Some, sym, ap, ◌∙◌, subst, arith, inl, inr, ◌⊎◌}
use Rattle.std.proofs.lemmas.Bool.{cases_lt, both_ways}
use Rattle.std.proofs.lemmas.List.{get_or_read}
use Rattle.bm_base.specs.Mask.{has_bit}
use Rattle.dbm_unit.proofs.Rows.{IsLed, none_led, skip_led, next_led}
use Rattle.dbm_unit.proofs.lists.Lists.lead.Goals as goal
use Rattle.dbm_unit.proofs.lists.Lists.lead.Goals.{After-next_member}

pub loop-p-init : goal.loop-p-init
loop-p-init c = record { within = omega arith; led = none_led c.args.mask c.args.j c.args.self.now.first.items c.args.self.now.next.items }

pub loop-p-preserved : goal.loop-p-preserved
loop-p-preserved c =
    let next = c.in-Some.ensures in
    let high : c.in-Some.p < 128 = next.high in
    let long : length c.loop-p.self.first.items ≡ 128 = c.loop-p.invariant.led.room ∙ c.requires.first in
    let lt : c.in-Some.p < length c.loop-p.self.first.items = omega arith in
    let was : c.index.result.now ≡ get_or c.loop-p.self.first.items c.in-Some.p None = get_or_read _ _ _ lt (c.index.ensures ∙ ap (λ k. get_or c.loop-p.self.first.items k c.index.result.now) c.from-member.ensures) None in
    let led = subst (λ k. IsLed c.args.mask c.args.j (c.in-Some.p + 1) c.args.self.now.first.items c.args.self.now.next.items (set c.loop-p.self.first.items k (Some c.args.j)) (set c.loop-p.self.next.items (c.args.j * 128 + k) c.index.result.now) (c.loop-p.size + 1)) (sym c.from-member.ensures)
    (subst (λ o. IsLed c.args.mask c.args.j (c.in-Some.p + 1) c.args.self.now.first.items c.args.self.now.next.items (set c.loop-p.self.first.items c.in-Some.p (Some c.args.j)) (set c.loop-p.self.next.items (c.args.j * 128 + c.in-Some.p) o) (c.loop-p.size + 1)) (sym was)
    (next_led _ _ _ _ _ _ _ _ _ c.loop-p.invariant.led next long (let x = c.loop-p.invariant.led.nodes in omega (arith, c.requires.next)))) in
    record { within = omega arith; led = led }

-- all members are led
all_led : (c : After-next_member) → ((q : ℕ) → c.loop-p.from ≤ q → has_bit c.args.mask q ≡ false) → IsLed c.args.mask c.args.j 128 c.args.self.now.first.items c.args.self.now.next.items c.loop-p.self.first.items c.loop-p.self.next.items c.loop-p.size
all_led c none = skip_led _ _ _ _ _ _ _ _ _ c.loop-p.invariant.led c.loop-p.invariant.within (λ q le lt. none q le)

pub returns-clause-size : goal.returns-clause-size
returns-clause-size c = (all_led (goal.at.returns-clause-size c).After-next_member c.in_default.ensures).sized

pub returns-clause-members : goal.returns-clause-members
returns-clause-members c p h = go (cases_lt p 128)
  where
    go : (p < 128) ⊎ (128 ≤ p) → p < 128
    go (inl lt) = lt
    go (inr ge) = absurd (both_ways _ (c.in_default.ensures p (let x = c.loop-p.invariant.within in omega arith)) h)

pub returns-clause-firsts : goal.returns-clause-firsts
returns-clause-firsts c = (all_led (goal.at.returns-clause-firsts c).After-next_member c.in_default.ensures).firsts

pub returns-clause-links : goal.returns-clause-links
returns-clause-links c = (all_led (goal.at.returns-clause-links c).After-next_member c.in_default.ensures).links
