use Rattle.std.proofs.Common.{◌≡◌, refl, sym, ap, subst, ◌∙◌}
use Rattle.bm_base.specs.Machine.{IsMachine}
use Rattle.bm_base.specs.Spec.{standard}
use Rattle.src_tree.specs.Text.{program_text}
use Rattle.soak_text.specs.Generator.{generated}
use Rattle.compiled_image.specs.Compiled.{IsImageOf}
use Rattle.compiled_image.specs.Summarised.{IsSummaryOf}
use Rattle.soak_text.specs.Lines.{parts}
use Rattle.soak_text.specs.Soak.{AreShown, outcome_of, soak_text}
use Rattle.soak_text.proofs.Texts.{texts_as}
use Rattle.soak_text.proofs.laws.soaks_have_one_text.Goals as goal

pub returns-clause-some : goal.returns-clause-some
returns-clause-some c = λ seed statements few.
    let lawful : IsMachine standard = subst IsMachine c.standard-machine.ensures c.processors-processors.ensures.lawful in
    let named = c.generated_trees_are_named.ensures seed statements in
    let text = program_text (generated seed statements) in
    let read = c.generated_texts_are_read_back.ensures seed statements named.program few named.is in
    let right = c.programs_are_read_right.ensures.right text named.program read in
    let nodes = c.programs_are_read_right.ensures.nodes text named.program read in
    let image = c.programs_have_images.ensures.image standard named.program lawful right nodes in
    let summary = c.programs_have_summaries.ensures.some standard named.program lawful right nodes in
    let shown = c.runs_are_shown.ensures.some seed named.program image.0 image.1 in (
      soak_text summary.0 (parts (outcome_of named.program) shown.0),
      record {
        program = named.program;
        read = read;
        image = image.0;
        compiled = image.1;
        summary = summary.0;
        counted = summary.1;
        shown = shown.0;
        shows = shown.1;
        text_is = refl;
      },
    )

pub returns-clause-one : goal.returns-clause-one
returns-clause-one c = λ seed statements s t h k.
    let lawful : IsMachine standard = subst IsMachine c.standard-machine.ensures c.processors-processors.ensures.lawful in
    let text = program_text (generated seed statements) in
    let right = c.programs_are_read_right.ensures.right text h.program h.read in
    let nodes = c.programs_are_read_right.ensures.nodes text h.program h.read in
    let same : h.program ≡ k.program = c.texts_read_once.ensures text h.program k.program h.read k.read in
    let image : h.image ≡ k.image =
    c.programs_have_images.ensures.one standard h.program h.image k.image lawful right nodes h.compiled.image_is (subst (λ p. IsImageOf standard p k.image) (sym same) k.compiled.image_is) in
    let summary : h.summary ≡ k.summary =
    c.programs_have_summaries.ensures.one standard h.program h.summary k.summary lawful right nodes h.counted (subst (λ p. IsSummaryOf standard p k.summary) (sym same) k.counted) in
    let there : AreShown h.image seed k.shown = subst (λ m. AreShown m seed k.shown) (sym image) k.shows in
    h.text_is ∙ texts_as h.shown k.shown (λ kind pace. c.runs_are_shown.ensures.once seed h.image kind pace (h.shown kind pace) (k.shown kind pace) (h.shows kind pace) (there kind pace)) h.summary k.summary (outcome_of h.program) (outcome_of k.program) summary (ap outcome_of same) ∙ sym k.text_is
