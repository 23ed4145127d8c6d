-- Determinate blocks of a program are faithful to it.
use Rattle.std.proofs.Common.{◌≡◌, ℕ, ℤ, ◌+◌, ◌*◌, ◌≤◌, List, ◌++◌, length, refl, sym, ap, subst, ◌∙◌, append_assoc}
use Rattle.bm_base.specs.Memory.{Content}
use Rattle.bm_base.specs.Machine.{Machine}
use Rattle.bm_base.specs.Memories.{IsMemoryOf}
use Rattle.tuple_ir.specs.Serial.{outcome}
use Rattle.unit_law.specs.State.{Program, Ended, State}
use Rattle.unit_law.specs.Steps.{Action, state_after, IsRun}
use Rattle.bm_base.specs.Prefix.{IsPrefixOf}
use Rattle.unit_law.specs.Determinate.{IsDeterminate, pass_time, pass_steps}
use Rattle.compiled_image.specs.declared.planned.Plan.{Plan}
use Rattle.src_names.specs.RProgram.{RProgram}
use Rattle.src_names.specs.Sizes.{AllFewNodes}
use Rattle.src_meaning.specs.declared.evaluate.End.TheVariants.{Done}
use Rattle.src_meaning.specs.Meaning.{meaning}
use Rattle.src_meaning.specs.Laws.{Prints}
use Rattle.tuple_lower.specs.Means.{blocks_of, BlocksEnd, BlocksKeepBack, BlocksKeepPace}
use Rattle.compiled_image.specs.Compiled.{program_of}
use Rattle.compiled_image.specs.Faithful.{IsDoneIn, IsFaithful}

-- a prefix of what another output goes on from
front_of : (xs ys zs : List ℤ) → IsPrefixOf xs ys → Prints ys zs → IsPrefixOf xs zs
front_of xs ys zs a b = (a.0 ++ b.rest, sym (append_assoc xs a.0 b.rest) ∙ ap (λ l. l ++ b.rest) a.1 ∙ sym b.whole_is)

module _ (ends : BlocksEnd) (back : BlocksKeepBack) (pace : BlocksKeepPace) (machine : Machine) (p : RProgram) (plans : List Plan) (few : AllFewNodes p.body) (d : IsDeterminate (program_of machine p.names (blocks_of p) plans)) where
  abbrev m : Program
  m = program_of machine p.names (blocks_of p) plans

  no_further : (memory : List Content) (past : List Action) → IsMemoryOf m.names memory → IsRun m memory past → IsPrefixOf (state_after m memory past).world.output (meaning p memory (state_after m memory past).clock).output
  no_further memory past i r =
      let s : State = state_after m memory past in
      front_of s.world.output (outcome (blocks_of p) memory (s.clock + 1)).world.output (meaning p memory s.clock).output (d.no_further memory past i r) (back p memory s.clock few).0

  keeps_up : (memory : List Content) (past : List Action) (n : ℕ) → IsMemoryOf m.names memory → IsRun m memory past → (n + 1) * pass_time m ≤ (state_after m memory past).clock
      → IsPrefixOf (meaning p memory n).output (state_after m memory past).world.output
  keeps_up memory past n i r h =
      let s : State = state_after m memory past in
      let k = pace p memory n few in
      subst (λ o. IsPrefixOf o s.world.output) k.same_output (d.keeps_up memory past (n + 1) k.count i r k.few h)

  ends_so : (memory : List Content) (past : List Action) → IsMemoryOf m.names memory → IsRun m memory past → (state_after m memory past).mode ≡ Ended → IsDoneIn (meaning p memory (state_after m memory past).clock) (state_after m memory past)
  ends_so memory past i r e =
      let s : State = state_after m memory past in
      let a = d.ends_so memory past i r e in
      let b = (back p memory s.clock few).1 a.ended in
      record { done = b.0; memory = sym b.1.same_memory ∙ a.memory; output = sym b.1.same_output ∙ a.output }

  ends_within : (memory : List Content) (past : List Action) (n : ℕ) → IsMemoryOf m.names memory → IsRun m memory past → (meaning p memory n).end ≡ Done
      → ((state_after m memory past).clock ≤ (n + 1) * pass_time m) × (length past ≤ (n + 1) * pass_steps m)
  ends_within memory past n i r e =
      let z = ends p memory n few e in
      d.ends_within memory past (n + 1) ((n + 1) * length (blocks_of p)) i r z.0.ended z.1

  pub faithful : IsFaithful m p
  faithful = record {
    names = refl;
    respects = d.respects;
    never_stuck = d.never_stuck;
    no_further = no_further;
    keeps_up = keeps_up;
    ends_so = ends_so;
    ends_within = ends_within;
  }
