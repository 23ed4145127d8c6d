use Rattle.std.specs.Prelude.{Some, map}
use Rattle.std.specs.String.{string_bytes}
use Rattle.bm_words.specs.Table.{EvalOf, GoOf, CompileOf, ShowOf, RunOf, TraceOf, CheckOf, SoakOf}
use Rattle.bmimd_top.proofs.Rows.{row-answers, row-written, usage_only, usage_else}
use Rattle.bmimd_top.proofs.Headline.{has_run, evaluated, has_compiled, has_shown, has_run_image, has_traced, has_checked, has_soaked}
use Rattle.bmimd_top.proofs.bmimd.Goals as goal

pub returns-clause-go : goal.returns-clause-go
returns-clause-go g c name machine run e h =
    has_run c.laws_of_readings.ensures _ _ c.enough_ticks_end_a_run.ensures name run c.call.result.code machine
    (row-written _ _ c.call.result.code _ (Some (GoOf name machine run)) (c.words_have_one_step.ensures.words (map string_bytes c.args.words.now)) c.call.ensures e h)

pub returns-clause-eval : goal.returns-clause-eval
returns-clause-eval g c name given turns e h =
    evaluated c.laws_of_readings.ensures _ _ name given turns c.call.result.code
    (row-written _ _ c.call.result.code _ (Some (EvalOf name given turns)) (c.words_have_one_step.ensures.words (map string_bytes c.args.words.now)) c.call.ensures e h)

pub returns-clause-compile : goal.returns-clause-compile
returns-clause-compile g c name machine file e h =
    has_compiled c.laws_of_readings.ensures _ _ c.images_are_read_back.ensures name file c.call.result.code machine
    (row-written _ _ c.call.result.code _ (Some (CompileOf name machine file)) (c.words_have_one_step.ensures.words (map string_bytes c.args.words.now)) c.call.ensures e h)

pub returns-clause-show : goal.returns-clause-show
returns-clause-show g c name machine e h =
    has_shown c.laws_of_readings.ensures _ _ name c.call.result.code machine
    (row-written _ _ c.call.result.code _ (Some (ShowOf name machine)) (c.words_have_one_step.ensures.words (map string_bytes c.args.words.now)) c.call.ensures e h)

pub returns-clause-run : goal.returns-clause-run
returns-clause-run g c name run e h =
    has_run_image c.laws_of_readings.ensures _ _ c.images_are_determinate.ensures c.runs_mean_the_serial_order.ensures.means c.runs_mean_the_serial_order.ensures.ends name run c.call.result.code
    (row-written _ _ c.call.result.code _ (Some (RunOf name run)) (c.words_have_one_step.ensures.words (map string_bytes c.args.words.now)) c.call.ensures e h)

pub returns-clause-trace : goal.returns-clause-trace
returns-clause-trace g c name run e h =
    has_traced c.laws_of_readings.ensures _ _ c.images_are_determinate.ensures c.traces_mean_the_serial_order.ensures.means c.traces_mean_the_serial_order.ensures.ends name run c.call.result.code
    (row-written _ _ c.call.result.code _ (Some (TraceOf name run)) (c.words_have_one_step.ensures.words (map string_bytes c.args.words.now)) c.call.ensures e h)

pub returns-clause-check : goal.returns-clause-check
returns-clause-check g c name e h =
    has_checked c.laws_of_readings.ensures _ _ name c.call.result.code
    (row-written _ _ c.call.result.code _ (Some (CheckOf name)) (c.words_have_one_step.ensures.words (map string_bytes c.args.words.now)) c.call.ensures e h)

pub returns-clause-soak : goal.returns-clause-soak
returns-clause-soak g c seed statements e h =
    has_soaked _ _ c.soaks_agree.ensures seed statements c.call.result.code
    (row-written _ _ c.call.result.code _ (Some (SoakOf seed statements)) (c.words_have_one_step.ensures.words (map string_bytes c.args.words.now)) c.call.ensures e h)

pub returns-clause-answers : goal.returns-clause-answers
returns-clause-answers g c = row-answers _ _ c.call.result.code _ (c.words_have_one_step.ensures.words (map string_bytes c.args.words.now)) c.call.ensures

pub returns-clause-usage : goal.returns-clause-usage
returns-clause-usage g c = usage_only _ _ c.call.result.code _ c.call.ensures

pub returns-clause-unmatched : goal.returns-clause-unmatched
returns-clause-unmatched g c = usage_else _ _ c.call.result.code _ c.call.ensures
