use Rattle.std.proofs.Common.{◌≡◌, ◌∙◌, ℕ, ◌+◌, ◌<◌, Some, length, map, max, set, slice_index, get_or-set_same, get_or-set_other, sym, ap, ap₂, subst, arith, inl, inr}
use Rattle.std.proofs.lemmas.List.{get_or_read, length-set, map-set}
use Rattle.list_schedule.specs.Steps.{never, tick_of, starts_of, AreStarts, last_finish}
use Rattle.list_schedule.proofs.Starts.{ticks_set}
use Rattle.list_schedule.proofs.TableFacts.{same_or, starts_put, last_put, last_kept}
use Rattle.list_schedule.proofs.tables.put.Goals as goal
use Rattle.list_schedule.proofs.tables.put.Goals.{After-reopen}

pub reopen-requires-clause-starts : goal.reopen-requires-clause-starts
reopen-requires-clause-starts c = subst (AreStarts c.args.job.now.times.items) (sym (map-set tick_of c.args.draft.now.starts.items c.args.t (Some c.args.tick))) (starts_put c.args.job.now.times.items (starts_of c.args.draft.now) c.args.t c.args.tick c.requires.tuple c.requires.early c.requires.starts)

pub reopen-requires-clause-ticks : goal.reopen-requires-clause-ticks
reopen-requires-clause-ticks c = ticks_set c.args.draft.now.starts.items c.args.t c.args.tick (omega (arith, c.requires.early)) c.requires.ticks

pub reopen-requires-clause-placed : goal.reopen-requires-clause-placed
reopen-requires-clause-placed c = omega (arith, ap (λ l. slice_index l c.args.t) (map-set tick_of c.args.draft.now.starts.items c.args.t (Some c.args.tick)), get_or-set_same (starts_of c.args.draft.now) c.args.t c.args.tick 0 (omega (arith, c.requires.starts.many, c.requires.tuple)), c.requires.early)

-- the starts and the places that are now
starts_are : (c : After-reopen) → starts_of c.reopen.new.draft ≡ set (starts_of c.args.draft.now) c.args.t c.args.tick
starts_are c = ap (λ s. map tick_of s.items) c.reopen.ensures.starts ∙ map-set tick_of c.args.draft.now.starts.items c.args.t (Some c.args.tick)

places_are : (c : After-reopen) → c.reopen.new.draft.places.items ≡ set c.args.draft.now.places.items c.args.t c.args.p
places_are c = ap (λ v. v.items) c.reopen.ensures.places

idles_are : (c : After-reopen) → c.reopen.new.draft.idles.items ≡ set c.args.draft.now.idles.items c.args.p c.max-idle.result
idles_are c = ap (λ v. v.items) c.reopen.ensures.idles

idle : (c : After-reopen) (q : ℕ) → q < c.args.job.now.processors → slice_index c.reopen.new.draft.idles.items q ≡ last_finish c.args.job.now.times.items (starts_of c.reopen.new.draft) c.reopen.new.draft.places.items q
idle c q lt =
    let of_starts : c.args.t < length (starts_of c.args.draft.now) = omega (arith, c.requires.starts.many, c.requires.tuple) in
    let of_places : c.args.t < length c.args.draft.now.places.items = omega (arith, c.requires.places, c.requires.tuple) in
    let early : c.args.tick < never = omega (arith, c.requires.early) in
    ap (λ l. slice_index l q) (idles_are c)
    ∙ elim (same_or q c.args.p) as (λ _. slice_index (set c.args.draft.now.idles.items c.args.p c.max-idle.result) q ≡ last_finish c.args.job.now.times.items (set (starts_of c.args.draft.now) c.args.t c.args.tick) (set c.args.draft.now.places.items c.args.t c.args.p) q) [
      | inl e ↦ ap (slice_index (set c.args.draft.now.idles.items c.args.p c.max-idle.result)) e ∙ get_or-set_same c.args.draft.now.idles.items c.args.p c.max-idle.result 0 (omega (arith, c.requires.tables.as_many, c.requires.processor)) ∙ c.max-idle.ensures ∙ ap₂ (λ i t. max i (c.args.tick + t)) (get_or_read c.args.draft.now.idles.items c.args.p c.index.result.now (omega (arith, c.requires.tables.as_many, c.requires.processor)) c.index.ensures 0 ∙ c.requires.tables.idles c.args.p c.requires.processor) (get_or_read c.args.job.now.times.items c.args.t c.index-2.result.now c.requires.tuple c.index-2.ensures 0) ∙ ap (λ r. max (last_finish c.args.job.now.times.items (starts_of c.args.draft.now) c.args.draft.now.places.items r) (c.args.tick + slice_index c.args.job.now.times.items c.args.t)) (sym e) ∙ sym (last_put c.args.job.now.times.items (starts_of c.args.draft.now) c.args.draft.now.places.items c.args.t c.args.p c.args.tick c.requires.tuple of_starts of_places c.requires.free early q (sym e))
      | inr ne ↦ get_or-set_other c.args.draft.now.idles.items c.args.p q c.max-idle.result 0 ne ∙ c.requires.tables.idles q lt ∙ sym (last_kept c.args.job.now.times.items (starts_of c.args.draft.now) c.args.draft.now.places.items c.args.t c.args.p c.args.tick c.requires.tuple of_starts of_places c.requires.free early q (λ e. ne (sym e)))
    ]
    ∙ sym (ap₂ (λ s p. last_finish c.args.job.now.times.items s p q) (starts_are c) (places_are c))

pub returns-clause-tables : goal.returns-clause-tables
returns-clause-tables c = record {
  many = c.reopen.ensures.many;
  opens = c.reopen.ensures.each (starts_of c.args.draft.now) c.args.tick (map-set tick_of c.args.draft.now.starts.items c.args.t (Some c.args.tick)) c.requires.tables.opens;
  as_many = ap length (idles_are ((goal.at.returns-clause-tables c).After-reopen)) ∙ length-set c.args.draft.now.idles.items c.args.p c.max-idle.result ∙ c.requires.tables.as_many;
  idles = idle ((goal.at.returns-clause-tables c).After-reopen);
}
