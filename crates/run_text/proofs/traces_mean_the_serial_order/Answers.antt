use Rattle.std.proofs.Common.{ℕ, List, refl, ap, ◌∙◌}
use Rattle.bm_base.specs.Memory.{Content}
use Rattle.timing_script.specs.Script.{script_duration}
use Rattle.timing_script.specs.declared.script.Script.{Script}
use Rattle.unit_law.specs.State.{Program}
use Rattle.bm_course.specs.Course.{Output}
use Rattle.run_text.specs.declared.kind.UnitKind.{UnitKind}
use Rattle.run_text.specs.RunText.{run_text, choice_of, IsRunText}
use Rattle.run_text.specs.RunUpTo.{IsRunUpTo}
use Rattle.run_text.specs.Told.{prints_of}
use Rattle.run_text.specs.TraceLaws.{TracesPrintTheRun}
use Rattle.run_text.specs.TraceText.{IsRunTrace}
use Rattle.run_text.proofs.traces_mean_the_serial_order.Goals as goal

-- the text of the same run
abbrev shown : TracesPrintTheRun → (m : Program) (kind : UnitKind) (script : Script) (memory : List Content) (budget : ℕ) (text : Output) (h : IsRunTrace m kind script memory budget text)
    → IsRunText m kind script memory budget (run_text m.names budget (prints_of h.events) h.end)
shown prints m kind script memory budget text h = record {
  output = prints_of h.events;
  end = h.end;
  shows = prints (choice_of kind) (script_duration script) m memory budget text h;
  text_is = refl;
}

pub returns-clause-means : goal.returns-clause-means
returns-clause-means c m kind script memory budget text fit times det of_names h =
    c.runs_mean_the_serial_order.ensures.means m kind script memory budget (run_text m.names budget (prints_of h.events) h.end) fit times det of_names
    (shown c.runs_have_one_trace.ensures.prints m kind script memory budget text h)

pub returns-clause-ends : goal.returns-clause-ends
returns-clause-ends c m kind script memory budget k n text fit times det of_names ended stands within h =
    ap (λ t. t.status) h.text_is
    ∙ c.runs_mean_the_serial_order.ensures.ends m kind script memory budget k n (run_text m.names budget (prints_of h.events) h.end) fit times det of_names ended stands within
    (shown c.runs_have_one_trace.ensures.prints m kind script memory budget text h)
