use Rattle.std.proofs.Common.{◌≡◌, ◌∙◌, ◌+◌, refl, length, map, set, slice_index, get_or-set_same, sym, ap, subst, arith}
use Rattle.std.proofs.lemmas.List.{length-set}
use Rattle.list_schedule.specs.Steps.{never, tick_of, starts_of, AreStarts, AreTicks, open_from}
use Rattle.list_schedule.proofs.TableFacts.{Reopened, reopened_first, reopened_one, reopened_none}
use Rattle.list_schedule.proofs.tables.reopen.Goals as goal
use Rattle.list_schedule.proofs.tables.reopen.Goals.{then-has, else-has}

pub opening-requires-clause-starts : goal.opening-requires-clause-starts
opening-requires-clause-starts c = subst (λ s. AreStarts c.args.job.now.times.items (map tick_of s.items)) (sym c.loop-b.invariant.starts) c.requires.starts

pub opening-requires-clause-ticks : goal.opening-requires-clause-ticks
opening-requires-clause-ticks c = subst (λ s. AreTicks s.items) (sym c.loop-b.invariant.starts) c.requires.ticks

pub loop-b-init : goal.loop-b-init
loop-b-init c = record {
  starts = refl;
  places = refl;
  idles = refl;
  many = length-set c.args.draft.now.opens.items c.args.t never ∙ c.requires.opens;
  told = λ before z is h.
      let many : length before ≡ length c.args.job.now.times.items = sym (length-set before c.args.t z) ∙ sym (ap length is) ∙ c.requires.starts.many in
      let tick : z ≡ slice_index (starts_of c.args.draft.now) c.args.t = sym (get_or-set_same before c.args.t z 0 (omega (arith, c.requires.tuple))) ∙ sym (ap (λ l. slice_index l c.args.t) is) in
      reopened_first c.args.job.now.times.items c.args.job.now.deps.now.producers before c.args.draft.now.opens.items c.args.t z (omega (arith, c.requires.opens, c.requires.tuple)) (omega (arith, c.requires.tuple)) (omega (arith, c.requires.placed)) c.requires.earlier h;
}

pub loop-b-preserved : goal.loop-b-preserved
loop-b-preserved c = record {
  starts = elim c.if-has.branch as (λ _. c.if-has.draft.starts ≡ c.args.draft.now.starts) [ then-has w ↦ ap (λ d. d.starts) w.draft-is ∙ c.loop-b.invariant.starts | else-has w ↦ ap (λ d. d.starts) w.draft-is ∙ c.loop-b.invariant.starts ];
  places = elim c.if-has.branch as (λ _. c.if-has.draft.places ≡ c.args.draft.now.places) [ then-has w ↦ ap (λ d. d.places) w.draft-is ∙ c.loop-b.invariant.places | else-has w ↦ ap (λ d. d.places) w.draft-is ∙ c.loop-b.invariant.places ];
  idles = elim c.if-has.branch as (λ _. c.if-has.draft.idles ≡ c.args.draft.now.idles) [ then-has w ↦ ap (λ d. d.idles) w.draft-is ∙ c.loop-b.invariant.idles | else-has w ↦ ap (λ d. d.idles) w.draft-is ∙ c.loop-b.invariant.idles ];
  many = elim c.if-has.branch as (λ _. length c.if-has.draft.opens.items ≡ length c.args.job.now.times.items) [ then-has w ↦ ap (λ d. length d.opens.items) w.draft-is ∙ length-set c.loop-b.draft.opens.items c.loop-b.b w.opening.result ∙ c.loop-b.invariant.many | else-has w ↦ ap (λ d. length d.opens.items) w.draft-is ∙ c.loop-b.invariant.many ];
  told = λ before z is h.
      let now : starts_of c.loop-b.draft ≡ set before c.args.t z = ap (λ s. map tick_of s.items) c.loop-b.invariant.starts ∙ is in
      elim c.if-has.branch as (λ _. Reopened c.args.job.now.times.items c.args.job.now.deps.now.producers (set before c.args.t z) before c.if-has.draft.opens.items (c.loop-b.b + 1)) [
        | then-has w ↦ subst (λ d. Reopened c.args.job.now.times.items c.args.job.now.deps.now.producers (set before c.args.t z) before d.opens.items (c.loop-b.b + 1)) (sym w.draft-is) (reopened_one c.args.job.now.times.items c.args.job.now.deps.now.producers (set before c.args.t z) before c.loop-b.draft.opens.items c.loop-b.b w.opening.result (omega (arith, c.loop-b.invariant.many)) (w.opening.ensures ∙ ap (λ l. open_from c.args.job.now.times.items c.args.job.now.deps.now.producers l c.loop-b.b) now) (c.loop-b.invariant.told before z is h))
        | else-has w ↦ subst (λ d. Reopened c.args.job.now.times.items c.args.job.now.deps.now.producers (set before c.args.t z) before d.opens.items (c.loop-b.b + 1)) (sym w.draft-is) (reopened_none c.args.job.now.times.items c.args.job.now.deps.now.producers before c.loop-b.draft.opens.items c.args.t z c.loop-b.b c.producers.result.now (omega (arith, c.loop-b.auto.b)) c.producers.ensures.value (sym c.has.ensures ∙ w.if-has.false) (c.loop-b.invariant.told before z is h))
      ];
}

pub returns-clause-each : goal.returns-clause-each
returns-clause-each c = λ before z is h u lt. let r = c.loop-b.invariant.told before z is h in r.passed u lt (omega (arith, c.len-b-end.ensures)) ∙ ap (λ l. open_from c.args.job.now.times.items c.args.job.now.deps.now.producers l u) (sym (ap (λ s. map tick_of s.items) c.loop-b.invariant.starts ∙ is))
