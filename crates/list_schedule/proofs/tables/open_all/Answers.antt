use Rattle.std.proofs.Common.{◌∙◌, ◌<◌, length, map, set, slice_index, get_or-set_same, get_or-set_other, sym, ap, subst, arith, inl, inr}
use Rattle.std.proofs.lemmas.List.{length-set}
use Rattle.list_schedule.specs.Steps.{tick_of, starts_of, AreStarts, AreTicks, open_from}
use Rattle.list_schedule.proofs.TableFacts.{same_or}
use Rattle.list_schedule.proofs.tables.open_all.Goals as goal

pub opening-requires-clause-starts : goal.opening-requires-clause-starts
opening-requires-clause-starts c = subst (λ s. AreStarts c.args.job.now.times.items (map tick_of s.items)) (sym c.loop-t.invariant.starts) c.requires.starts

pub opening-requires-clause-ticks : goal.opening-requires-clause-ticks
opening-requires-clause-ticks c = subst (λ s. AreTicks s.items) (sym c.loop-t.invariant.starts) c.requires.ticks

pub loop-t-preserved : goal.loop-t-preserved
loop-t-preserved c =
    let in_list : c.loop-t.t < length c.loop-t.draft.opens.items = omega (arith, c.loop-t.invariant.many) in
    record {
      starts = c.loop-t.invariant.starts;
      places = c.loop-t.invariant.places;
      idles = c.loop-t.invariant.idles;
      many = length-set c.loop-t.draft.opens.items c.loop-t.t c.opening.result ∙ c.loop-t.invariant.many;
      told = λ u lt. elim (same_or u c.loop-t.t) [
        | inl e ↦ ap (slice_index (set c.loop-t.draft.opens.items c.loop-t.t c.opening.result)) e ∙ get_or-set_same c.loop-t.draft.opens.items c.loop-t.t c.opening.result 0 in_list ∙ c.opening.ensures ∙ ap (open_from c.args.job.now.times.items c.args.job.now.deps.now.producers (starts_of c.loop-t.draft)) (sym e)
        | inr ne ↦ get_or-set_other c.loop-t.draft.opens.items c.loop-t.t u c.opening.result 0 ne ∙ c.loop-t.invariant.told u (omega arith)
      ];
    }
