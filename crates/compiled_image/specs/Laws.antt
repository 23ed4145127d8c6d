-- What follows of images and summaries.
use Rattle.std.specs.Prelude.{◌≡◌, ℕ, ◌+◌, ◌-◌, ◌*◌, ◌<◌, ◌≤◌, length}
use Rattle.bm_base.specs.Machine.{Machine, IsMachine}
use Rattle.line_model.specs.Streams.{stream, masks}
use Rattle.unit_law.specs.State.{Program, code_at}
use Rattle.dependence.specs.Producers.{producers_of}
use Rattle.time_interval.specs.Bounds.{pace_on}
use Rattle.mask_merge.specs.Reduced.{IsIrreducible}
use Rattle.compiled_image.specs.declared.planned.Plan.{Plan}
use Rattle.compiled_image.specs.Planned.{IsPlanned}
use Rattle.bm_report.specs.declared.summary.Summary.{Summary}
use Rattle.src_names.specs.RProgram.{RProgram}
use Rattle.src_names.specs.Right.{IsRight}
use Rattle.src_names.specs.Sizes.{AllFewNodes}
use Rattle.compiled_image.specs.Compiled.{IsImageOf, IsCompiled}
use Rattle.compiled_image.specs.Summarised.{IsSummaryOf}

-- a program that is right and has at most 120 nodes in each statement is compiled to an image on each lawful machine
abbrev pub ProgramsHaveImages : Type 0
ProgramsHaveImages = (machine : Machine) (p : RProgram) → IsMachine machine → IsRight p → AllFewNodes p.body → (m : Program)
    × IsCompiled machine p m

-- .. and only to one
abbrev pub ProgramsHaveOneImage : Type 0
ProgramsHaveOneImage = (machine : Machine) (p : RProgram) (m other : Program) → IsMachine machine → IsRight p → AllFewNodes p.body
    → IsImageOf machine p m → IsImageOf machine p other → m ≡ other

-- such an image means what the program means
abbrev pub ImagesAreCompiled : Type 0
ImagesAreCompiled = (machine : Machine) (p : RProgram) (m : Program) → IsMachine machine → IsRight p → AllFewNodes p.body
    → IsImageOf machine p m → IsCompiled machine p m

-- there is a summary, and only one
abbrev pub ProgramsHaveASummary : Type 0
ProgramsHaveASummary = (machine : Machine) (p : RProgram) → IsMachine machine → IsRight p → AllFewNodes p.body → (summary : Summary)
    × IsSummaryOf machine p summary

abbrev pub ProgramsHaveOneSummary : Type 0
ProgramsHaveOneSummary = (machine : Machine) (p : RProgram) (summary other : Summary) → IsMachine machine → IsRight p → AllFewNodes p.body
    → IsSummaryOf machine p summary → IsSummaryOf machine p other → summary ≡ other

-- the block has this plan, whose reduced line has its streams and its masks, and cannot be reduced any more
pub record RunsPlan (m : Program) (b : ℕ) (plan : Plan) : Type 0 where
  pub planned : IsPlanned m.machine (code_at m b).tuples plan
  pub irreducible : IsIrreducible (pace_on m.machine (code_at m b).tuples) (producers_of (code_at m b).tuples) plan.line.items
  pub masks_are : masks (code_at m b).line ≡ masks plan.line.items
  pub streams_are : (p : ℕ) → p < m.machine.processors → stream p (code_at m b).line ≡ stream p plan.line.items

-- each block of an image runs its plan
abbrev pub ImagesRunTheirPlans : Type 0
ImagesRunTheirPlans = (machine : Machine) (p : RProgram) (m : Program) → IsImageOf machine p m → (b : ℕ) → b < length m.blocks
    → (plan : Plan) × RunsPlan m b plan

-- the pairs are those of the three reasons, no more barriers are kept than were inserted, and the schedules keep Graham's bound
-- (R. L. Graham, Bounds on multiprocessing timing anomalies, SIAM J. Appl. Math. 17, 1969)
pub record AddsUp (processors : ℕ) (s : Summary) : Type 0 where
  pub pairs : s.pairs ≡ s.by_processor + s.by_barrier + s.by_time
  pub kept : s.kept ≤ s.inserted
  pub bound : processors * s.makespan ≤ s.work + (processors - 1) * s.longest

abbrev pub SummariesAddUp : Type 0
SummariesAddUp = (machine : Machine) (p : RProgram) (summary : Summary) → IsSummaryOf machine p summary → AddsUp machine.processors summary
