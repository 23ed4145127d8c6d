-- There is one image of a program, and one summary.
use Rattle.std.proofs.Common.{◌≡◌, ℕ, zero, suc, ◌<◌, ◌≤◌, List, [], ◌∷◌, ◌++◌, length, map, Contains, refl, sym, ap, ap₂, subst, ◌∙◌, arith}
use Rattle.std.specs.List.{AllByRecursion}
use Rattle.bm_base.specs.Machine.{Machine, IsMachine}
use Rattle.tuple_ir.specs.declared.tuple.Tuple.{Tuple}
use Rattle.tuple_ir.specs.declared.block.Block.{Block}
use Rattle.tuple_ir.specs.Serial.{block_at}
use Rattle.line_model.specs.declared.line.Item.{Item}
use Rattle.line_model.specs.Streams.{stream, masks}
use Rattle.unit_law.specs.State.{Program}
use Rattle.unit_law.specs.Determinate.{IsDeterminate}
use Rattle.unit_law.specs.Fit.{AllFit, AllStand, HasTimes}
use Rattle.unit_law.proofs.SoundFits.{sound_fit, sound_stand}
use Rattle.dependence.specs.Producers.{in_conflict, producers_at}
use Rattle.dependence.proofs.Kept.{kept_from}
use Rattle.time_interval.specs.declared.reference.Reason.{Reason}
use Rattle.time_interval.specs.Bounds.{Pace, pace_on}
use Rattle.time_interval.specs.Lines.{tuples}
use Rattle.time_interval.specs.Ordered.{IsOrdered, IsReason}
use Rattle.time_interval.proofs.OneReason.{one_reason}
use Rattle.stream_image.specs.Image.{IsImage}
use Rattle.stream_image.proofs.ImageFacts.{determinate_is}
use Rattle.stream_image.proofs.LineStreams.{stream_is, masks_are, even_line}
use Rattle.compiled_image.specs.declared.planned.Plan.{Plan}
use Rattle.compiled_image.specs.Planned.{IsInOrder}
use Rattle.compiled_image.proofs.InOrder.{pair_ordered}
use Rattle.compiled_image.proofs.Plans.{in_order, irreducible, one}
use Rattle.src_names.specs.RProgram.{RProgram}
use Rattle.src_names.specs.Right.{IsRight}
use Rattle.src_names.specs.Sizes.{AllFewNodes}
use Rattle.tuple_lower.specs.Means.{blocks_of, BlocksEnd, BlocksKeepBack, BlocksKeepPace}
use Rattle.tuple_lower.specs.Sound.{LoweredAreSound}
use Rattle.compiled_image.specs.Compiled.{program_of, IsImageOf, IsCompiled}
use Rattle.compiled_image.specs.Faithful.{IsFaithful}
use Rattle.compiled_image.specs.Reasons.{Pair, pair, pairs_below, pairs_of, AreReasons}
use Rattle.compiled_image.specs.Summarised.{Told, IsTold, AreTold, summary_of}
use Rattle.compiled_image.specs.Laws.{ProgramsHaveImages, ProgramsHaveOneImage, ImagesAreCompiled, RunsPlan, ImagesRunTheirPlans, ProgramsHaveASummary, ProgramsHaveOneSummary}
use Rattle.compiled_image.proofs.Images.{plan_at, is_image, FewTuples, some_plans, one_plans}
use Rattle.compiled_image.proofs.Means.{faithful}
use Rattle.compiled_image.proofs.Reasoned.{reason_some}

-- ---- images
few_of : (sound : LoweredAreSound) (machine : Machine) (is_machine : IsMachine machine) (p : RProgram) → IsRight p → AllFewNodes p.body → FewTuples machine is_machine (blocks_of p)
few_of sound machine is_machine p right few b block e = ((sound p right few).each b block e).few

pub compiled_from : BlocksEnd → BlocksKeepBack → BlocksKeepPace → (machine : Machine) (p : RProgram) (m : Program) → AllFewNodes p.body → IsImageOf machine p m → IsImage m → IsDeterminate m → IsCompiled machine p m
compiled_from ends back pace machine p m few image lawful determinate =
    let f : IsFaithful (program_of machine p.names (blocks_of p) image.plans) p = faithful ends back pace machine p image.plans few (subst IsDeterminate image.whole determinate) in
    record { image_is = image; lawful = lawful; faithful = subst (λ m. IsFaithful m p) (sym image.whole) f }

pub compiled : LoweredAreSound → BlocksEnd → BlocksKeepBack → BlocksKeepPace → ImagesAreCompiled
compiled sound ends back pace machine p m is_machine right few image =
    let k : IsImage m = subst IsImage (sym image.whole) (is_image machine p.names (blocks_of p) image.plans is_machine (sound p right few) image.planned right.names) in
    compiled_from ends back pace machine p m few image k (determinate_is m k)

pub some : LoweredAreSound → BlocksEnd → BlocksKeepBack → BlocksKeepPace → ProgramsHaveImages
some sound ends back pace machine p is_machine right few =
    let plans = some_plans machine is_machine (blocks_of p) (few_of sound machine is_machine p right few) in
    let m : Program = program_of machine p.names (blocks_of p) plans.0 in
    (m, compiled sound ends back pace machine p m is_machine right few (record { plans = plans.0; planned = plans.1; whole = refl }))

pub one_image : LoweredAreSound → ProgramsHaveOneImage
one_image sound machine p m other is_machine right few h k =
    h.whole ∙ ap (program_of machine p.names (blocks_of p)) (one_plans machine is_machine (blocks_of p) h.plans k.plans (few_of sound machine is_machine p right few) h.planned k.planned) ∙ sym k.whole

pub fit : (machine : Machine) (p : RProgram) (m : Program) → IsMachine machine → IsCompiled machine p m → AllFit m
fit machine p m is_machine h = sound_fit m h.lawful.sound

pub stand : (machine : Machine) (p : RProgram) (m : Program) → IsMachine machine → IsCompiled machine p m → AllStand m
stand machine p m is_machine h = sound_stand m h.lawful.sound

pub times : (machine : Machine) (p : RProgram) (m : Program) → IsMachine machine → IsCompiled machine p m → HasTimes m
times machine p m is_machine h = h.lawful.machine.times

pub runs_plans : ImagesRunTheirPlans
runs_plans machine p m h b l =
    let whole : Program = program_of machine p.names (blocks_of p) h.plans in
    let at = plan_at machine (blocks_of p) h.plans h.planned b (subst (λ (m : Program). b < length m.blocks) h.whole l) in
    let line = at.plan.line.items in
    let runs : RunsPlan whole b at.plan = record {
      planned = at.planned;
      irreducible = irreducible machine (block_at (blocks_of p) b).tuples at.plan at.planned;
      masks_are = ap masks at.line ∙ masks_are machine.processors (masks line) (λ p. stream p line);
      streams_are = λ q k. ap (stream q) at.line ∙ stream_is machine.processors q (masks line) (λ p. stream p line) k (λ p j. even_line p line);
    } in
    (at.plan, subst (λ (m : Program). RunsPlan m b at.plan) (sym h.whole) runs)

-- ---- reasons
one_reasons : (pace : Pace) (line : List Item) (pairs : List Pair) (reasons other : List Reason) → AreReasons pace line pairs reasons → AreReasons pace line pairs other → reasons ≡ other
one_reasons pace line [] [] [] h k = refl
one_reasons pace line [] [] (r ∷ rs) h k = absurd k
one_reasons pace line [] (r ∷ rs) other h k = absurd h
one_reasons pace line (x ∷ xs) [] other h k = absurd h
one_reasons pace line (x ∷ xs) (r ∷ rs) [] h k = absurd k
one_reasons pace line (x ∷ xs) (r ∷ rs) (s ∷ ss) h k = ap₂ (λ a b. a ∷ b) (one_reason pace line x.earlier x.later r s h.0 k.0) (one_reasons pace line xs rs ss h.1 k.1)

-- the later tuple stands in the line, and the earlier one is ordered before it
record IsOrderedIn (pace : Pace) (line : List Item) (x : Pair) : Type 0 where
  stands : Contains (tuples line) x.later
  ordered : IsOrdered pace line x.earlier x.later

some_reasons : (pace : Pace) (line : List Item) (why : (x : Pair) → IsOrderedIn pace line x → (r : Reason) × IsReason pace line x.earlier x.later r) (pairs : List Pair) → AllByRecursion (IsOrderedIn pace line) pairs → (reasons : List Reason) × AreReasons pace line pairs reasons
some_reasons pace line why [] h = ([], tt)
some_reasons pace line why (x ∷ xs) h =
    let r = why x h.0 in
    let rs = some_reasons pace line why xs h.1 in
    (r.0 ∷ rs.0, (r.1, rs.1))

both_all : (P : Pair → Type 0) (xs ys : List Pair) → AllByRecursion P xs → AllByRecursion P ys → AllByRecursion P (xs ++ ys)
both_all P [] ys h k = k
both_all P (x ∷ xs) ys h k = (h.0, both_all P xs ys h.1 k)

row_all : (P : Pair → Type 0) (b : ℕ) (row : List ℕ) → ((a : ℕ) → Contains row a → P (pair b a)) → AllByRecursion P (map (pair b) row)
row_all P b [] h = tt
row_all P b (a ∷ row) h = (h a (0, omega arith, refl), row_all P b row (λ x c. h x (suc c.0, omega (arith, c.1), c.2)))

module _ (machine : Machine) (ts : List Tuple) (line : List Item) (h : IsInOrder machine ts line) where
  pair_is : (b a : ℕ) → b < length ts → Contains (producers_at ts b) a → IsOrderedIn (pace_on machine ts) line (pair b a)
  pair_is b a l c =
      let k = kept_from (in_conflict ts b) b a c in
      record { stands = h.stand b l; ordered = pair_ordered machine ts line h a b (record { before = k.0; shared = k.1 }) }

  all_below : (n : ℕ) → n ≤ length ts → AllByRecursion (IsOrderedIn (pace_on machine ts) line) (pairs_below ts n)
  all_below zero l = tt
  all_below (suc b) l =
      both_all (IsOrderedIn (pace_on machine ts) line) (pairs_below ts b) (map (pair b) (producers_at ts b)) (all_below b (omega arith))
      (row_all (IsOrderedIn (pace_on machine ts) line) b (producers_at ts b) (λ a c. pair_is b a (omega arith) c))

  reasons_of : (reasons : List Reason) × AreReasons (pace_on machine ts) line (pairs_of ts) reasons
  reasons_of = some_reasons (pace_on machine ts) line (λ x o. reason_some (pace_on machine ts) line x.earlier x.later (length ts) h.is_line o.stands o.ordered) (pairs_of ts) (all_below (length ts) (omega arith))

-- ---- summaries
module _ (machine : Machine) (is_machine : IsMachine machine) where
  told_of : (ts : List Tuple) → length ts ≤ 128 → (t : Told) × IsTold machine ts t
  told_of ts few =
      let p = one machine ts is_machine few in
      let r = reasons_of machine ts p.0.line.items (in_order machine ts p.0 is_machine few p.1) in
      (record { plan = p.0; reasons = r.0 }, record { planned = p.1; reasons = r.1 })

  some_told : (blocks : List Block) → FewTuples machine is_machine blocks → (told : List Told) × AreTold machine blocks told
  some_told [] few = ([], tt)
  some_told (x ∷ xs) few =
      let r = some_told xs (λ b block e. few (suc b) block e) in
      let t = told_of x.tuples (few 0 x refl) in
      (t.0 ∷ r.0, (t.1, r.1))

  same_told : (t other : Told) → t.plan ≡ other.plan → t.reasons ≡ other.reasons → t ≡ other
  same_told t other e f = ap₂ (λ (plan : Plan) (reasons : List Reason). let x : Told = record { plan = plan; reasons = reasons } in x) e f

  one_of : (ts : List Tuple) (t other : Told) → length ts ≤ 128 → IsTold machine ts t → IsTold machine ts other → t ≡ other
  one_of ts t other few h k =
      let p = one machine ts is_machine few in
      let e : t.plan ≡ other.plan = p.2 t.plan h.planned ∙ sym (p.2 other.plan k.planned) in
      same_told t other e (one_reasons (pace_on machine ts) t.plan.line.items (pairs_of ts) t.reasons other.reasons h.reasons
      (subst (λ (plan : Plan). AreReasons (pace_on machine ts) plan.line.items (pairs_of ts) other.reasons) (sym e) k.reasons))

  one_told : (blocks : List Block) (told other : List Told) → FewTuples machine is_machine blocks → AreTold machine blocks told → AreTold machine blocks other → told ≡ other
  one_told [] [] [] few h k = refl
  one_told [] (t ∷ ts) other few h k = absurd h
  one_told [] [] (u ∷ us) few h k = absurd k
  one_told (x ∷ xs) [] other few h k = absurd h
  one_told (x ∷ xs) (t ∷ ts) [] few h k = absurd k
  one_told (x ∷ xs) (t ∷ ts) (u ∷ us) few h k = ap₂ (λ a b. a ∷ b) (one_of x.tuples t u (few 0 x refl) h.0 k.0) (one_told xs ts us (λ b block e. few (suc b) block e) h.1 k.1)

pub some_summary : LoweredAreSound → ProgramsHaveASummary
some_summary sound machine p is_machine right few =
    let told = some_told machine is_machine (blocks_of p) (few_of sound machine is_machine p right few) in
    (summary_of (blocks_of p) told.0, record { told = told.0; are = told.1; whole = refl })

pub one_summary : LoweredAreSound → ProgramsHaveOneSummary
one_summary sound machine p summary other is_machine right few h k =
    h.whole ∙ ap (summary_of (blocks_of p)) (one_told machine is_machine (blocks_of p) h.told k.told (few_of sound machine is_machine p right few) h.are k.are) ∙ sym k.whole
