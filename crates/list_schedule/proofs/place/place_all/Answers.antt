use Rattle.std.proofs.Common.{◌≡◌, ◌∙◌, ◌<◌, ◌≤◌, ℕ, List, map, Option, Some, max, length, set, slice_index, count_by, nat_eq, sym, ap, subst, subst₂, replicate, arith}
use Rattle.std.proofs.lemmas.List.{get_or_past, length-map, map-set}
use Rattle.dependence.proofs.Kept.{ascending_length}
use Rattle.list_schedule.specs.Steps.{never, tick_of, starts_of, AreTicks}
use Rattle.list_schedule.proofs.Starts.{ticks_set}
use Rattle.list_schedule.proofs.Turn.{Making, unplaced, made_first, idle_found, Turned, turned, z_few, z_never, greedy, early}
use Rattle.list_schedule.proofs.TableFacts.{last_none, zeros_length, zero_at}
use Rattle.list_schedule.proofs.place.place_all.Goals as goal
use Rattle.list_schedule.proofs.place.place_all.Goals.{After-max-tick, After-index-p, After-put}

many : (xs : List (Option ℕ)) (n u : ℕ) → length xs ≡ n → n ≤ u → slice_index (map tick_of xs) u ≡ 0
many xs n u e past = get_or_past (map tick_of xs) u 0 (omega (arith, length-map xs tick_of))

pub loop-open-init : goal.loop-open-init
loop-open-init c =
    let made : Making c.args.job.now.processors c.args.job.now.times.items c.args.job.now.deps.now.producers (starts_of c.args.draft.now) c.args.draft.now.places.items 0 = made_first c.args.job.now.processors c.args.job.now.times.items c.args.job.now.deps.now.producers (starts_of c.args.draft.now) c.args.draft.now.places.items c.requires.sound c.requires.places (length-map c.args.draft.now.starts.items tick_of ∙ c.requires.starts) c.requires.few c.requires.short c.requires.none (λ u past. many c.args.draft.now.starts.items (length c.args.job.now.times.items) u c.requires.starts past) in
    let idle : c.open_all.new.draft.idles.items ≡ replicate c.args.job.now.processors 0 = ap (λ v. v.items) c.open_all.ensures.idles ∙ c.requires.idles in (
      subst₂ (λ s p. Making c.args.job.now.processors c.args.job.now.times.items c.args.job.now.deps.now.producers (map tick_of s.items) p.items 0) (sym c.open_all.ensures.starts) (sym c.open_all.ensures.places) made,
      subst (λ s. AreTicks s.items) (sym c.open_all.ensures.starts) c.requires.ticks,
      record {
        many = c.open_all.ensures.many;
        opens = c.open_all.ensures.each;
        as_many = ap length idle ∙ zeros_length c.args.job.now.processors;
        idles = λ p lt. ap (λ l. slice_index l p) idle ∙ zero_at c.args.job.now.processors p lt ∙ sym (last_none c.args.job.now.times.items (starts_of c.open_all.new.draft) c.open_all.new.draft.places.items p (λ u of. ap (λ s. slice_index (map tick_of s.items) u) c.open_all.ensures.starts ∙ c.requires.none u of));
      },
    )

-- the tick to which the clock goes on
tick_is : (c : After-max-tick) → c.max-tick.result ≡ max c.loop-open.tick (max c.in-Some.ensures.0 c.some_idle_from-idle.result)
tick_is c = c.max-tick.ensures ∙ ap (max c.loop-open.tick) (c.max.ensures ∙ ap (λ o. max o c.some_idle_from-idle.result) c.in-Some.ensures.1.0)

before_never : (c : After-max-tick) → c.max-tick.result < never
before_never c = z_never _ _ _ _ _ _ c.loop-open.invariant.0 c.in-Some.ensures.0 _ _ c.in-Some.ensures.2 c.in-Some.ensures.1.1 c.some_idle_from-idle.ensures (tick_is c)

few_ticks : (c : After-max-tick) → c.max-tick.result ≤ 128000
few_ticks c = z_few _ _ _ _ _ _ c.loop-open.invariant.0 c.in-Some.ensures.0 _ _ c.in-Some.ensures.2 c.in-Some.ensures.1.1 c.some_idle_from-idle.ensures (tick_is c)

pub first_open-requires-clause-tick : goal.first_open-requires-clause-tick
first_open-requires-clause-tick c = before_never ((goal.at.first_open-requires-clause-tick c).After-max-tick)

pub best_idle-requires-clause-few : goal.best_idle-requires-clause-few
best_idle-requires-clause-few c = omega (arith, ascending_length c.producers-producers.result.now c.index-t.result c.producers-producers.ensures.ascending c.producers-producers.ensures.below, c.index-t.type_inv)

pub index-p-requires : goal.index-p-requires
index-p-requires c =
    let s = (goal.at.index-p-requires c).After-max-tick in
    idle_found _ _ _ _ _ _ c.loop-open.invariant.0 c.in-Some.ensures.0 _ _ c.in-Some.ensures.2 c.in-Some.ensures.1.1 c.some_idle_from-idle.ensures (tick_is s) (λ q. count_by (λ a. nat_eq (slice_index c.loop-open.draft.places.items a) q) c.producers-producers.result.now) c.best_idle.result c.best_idle.ensures

turn : (c : After-index-p) → Turned c.args.job.now.processors c.args.job.now.times.items c.args.job.now.deps.now.producers (starts_of c.loop-open.draft) c.loop-open.draft.places.items c.loop-open.tick c.loop-open.invariant.0 c.in-Some.ensures.0 c.some_idle_from-idle.result c.max-tick.result c.in-Some.ensures.2 c.in-Some.ensures.1.1 c.some_idle_from-idle.ensures (c.max-tick.ensures ∙ ap (max c.loop-open.tick) (c.max.ensures ∙ ap (λ o. max o c.some_idle_from-idle.result) c.in-Some.ensures.1.0)) c.index-t.result c.index-p.result
turn c = turned _ _ _ _ _ _ c.loop-open.invariant.0 c.in-Some.ensures.0 _ _ c.in-Some.ensures.2 c.in-Some.ensures.1.1 c.some_idle_from-idle.ensures (c.max-tick.ensures ∙ ap (max c.loop-open.tick) (c.max.ensures ∙ ap (λ o. max o c.some_idle_from-idle.result) c.in-Some.ensures.1.0)) c.args.heights.now c.requires.tall c.first_open.result c.best_idle.result c.producers-producers.result.now c.index-t.result c.index-p.result c.first_open.ensures c.index-t.ensures c.producers-producers.ensures.value c.best_idle.ensures c.index-p.ensures

pub put-requires-clause-free : goal.put-requires-clause-free
put-requires-clause-free c = let t = turn ((goal.at.put-requires-clause-free c).After-index-p) in t.was_free

pub put-requires-clause-early : goal.put-requires-clause-early
put-requires-clause-early c = few_ticks ((goal.at.put-requires-clause-early c).After-max-tick)

pub put-requires-clause-earlier : goal.put-requires-clause-earlier
put-requires-clause-earlier c = λ b a lt has. c.requires.sound.earlier b a lt has

-- the starts behind the turn
starts_are : (c : After-put) → starts_of c.put.new.draft ≡ set (starts_of c.loop-open.draft) c.index-t.result c.max-tick.result
starts_are c = ap (map tick_of) c.put.ensures.starts ∙ map-set tick_of c.loop-open.draft.starts.items c.index-t.result (Some c.max-tick.result)

pub loop-open-smaller : goal.loop-open-smaller
loop-open-smaller c =
    let t = turn ((goal.at.loop-open-smaller c).After-index-p) in
    subst (λ (s : List ℕ). unplaced s (length c.args.job.now.times.items) < unplaced (starts_of c.loop-open.draft) (length c.args.job.now.times.items)) (sym (starts_are ((goal.at.loop-open-smaller c).After-put))) t.fewer_open

pub loop-open-preserved : goal.loop-open-preserved
loop-open-preserved c =
    let t = turn ((goal.at.loop-open-preserved c).After-index-p) in
    (subst₂ (λ (s p : List ℕ). Making c.args.job.now.processors c.args.job.now.times.items c.args.job.now.deps.now.producers s p c.max-tick.result) (sym (starts_are ((goal.at.loop-open-preserved c).After-put))) (sym c.put.ensures.places) t.goes_on, subst (λ s. AreTicks s) (sym c.put.ensures.starts) (ticks_set c.loop-open.draft.starts.items c.index-t.result c.max-tick.result (before_never ((goal.at.loop-open-preserved c).After-max-tick)) c.loop-open.invariant.1), c.put.ensures.tables)

pub returns-clause-greedy : goal.returns-clause-greedy
returns-clause-greedy c = greedy _ _ _ _ _ _ c.loop-open.invariant.0 c.in_default.ensures.0 c.in_default.ensures.2 (let e = c.in_default.ensures.1 in omega arith)

pub returns-clause-early : goal.returns-clause-early
returns-clause-early c = early _ _ _ _ _ _ c.loop-open.invariant.0 c.in_default.ensures.0 c.in_default.ensures.2 (let e = c.in_default.ensures.1 in omega arith)
