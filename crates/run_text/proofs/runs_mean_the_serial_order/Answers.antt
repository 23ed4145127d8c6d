use Rattle.std.proofs.Common.{◌+◌, ◌≤◌, ◌∙◌, List, sym, subst, arith}
use Rattle.bm_base.specs.Prefix.{IsPrefixOf}
use Rattle.tuple_ir.specs.Serial.{outcome}
use Rattle.tuple_ir.proofs.Growth.{prefix_trans}
use Rattle.timing_script.specs.Script.{script_duration}
use Rattle.timing_script.specs.Within.{script_duration-within}
use Rattle.unit_law.specs.Steps.{Action, IsRun, state_after}
use Rattle.run_text.specs.RunText.{choice_of}
use Rattle.run_text.proofs.LawfulKinds.{lawful}
use Rattle.run_text.proofs.Serials.{ends_serially}
use Rattle.run_text.proofs.runs_mean_the_serial_order.Goals as goal

pub returns-clause-means : goal.returns-clause-means
returns-clause-means c m kind script memory budget text fit times det of_names h =
    let past = h.shows.past in
    let legal = lawful m (c.choices_are_lawful.ensures.static_unit m) (c.choices_are_lawful.ensures.dynamic_unit m) kind in
    let on = c.canonical_runs_are_runs.ensures.on_unit (choice_of kind) (script_duration script) m fit times (script_duration-within script) memory past h.shows.is_last.canonical in
    let run : IsRun m memory past = c.lawful_units_run.ensures (choice_of kind) m legal memory past of_names on in
    record {
      front =
          let by_then : (state_after m memory past).clock ≤ budget = h.shows.is_last.in_time in
          let shown = subst (λ o. IsPrefixOf o (outcome m.blocks memory ((state_after m memory past).clock + 1)).world.output) (sym h.shows.output_is) (det.no_further memory past of_names run) in
          prefix_trans _ _ _ shown (c.more_blocks_only_add_output.ensures m.blocks memory ((state_after m memory past).clock + 1) (budget + 1) (omega (arith, by_then)));
      ends = λ e k. ends_serially m memory (state_after m memory past) (state_after m memory past).mode h.output e h.shows.output_is (sym h.shows.end_is ∙ k) (det.ends_so memory past of_names run);
    }

pub returns-clause-ends : goal.returns-clause-ends
returns-clause-ends c m kind script memory budget k n text fit times det of_names ended stands within is_text =
    let bound : (past : List Action) → IsRun m memory past → (state_after m memory past).clock ≤ budget =
    λ past r. (let b = (det.ends_within memory past k n of_names r ended stands).0 in omega arith) in
    c.bounded_runs_end.ensures m kind script memory budget text fit times of_names bound is_text
