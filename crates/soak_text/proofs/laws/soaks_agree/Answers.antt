use Rattle.std.proofs.Common.{sym, ap, ◌∙◌}
use Rattle.std.specs.List.{list_any}
use Rattle.soak_text.specs.Lines.{Part, parts}
use Rattle.soak_text.specs.Soak.{outcome_of}
use Rattle.soak_text.proofs.Ended.{none_going, is_done, has_end, source_ended, run_ended}
use Rattle.soak_text.proofs.laws.soaks_agree.Goals as goal

pub returns : goal.returns
returns c = λ seed statements text h ended kind pace.
    let o = outcome_of h.program in
    let none = none_going (list_any (λ (part : Part). part.going) (parts o h.shown)) (sym (ap (λ t. t.status) h.text_is) ∙ ended) in
    let e = has_end (h.shown kind pace).end (run_ended o h.shown none kind pace) in
    (c.ends_agree.ensures seed h.program h.image kind pace (h.shown kind pace) e.0 h.compiled (h.shows kind pace) (is_done o.end (source_ended o h.shown none)) e.1).output
