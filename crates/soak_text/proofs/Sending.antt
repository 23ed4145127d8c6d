-- Parts that are sent behind others.
use Rattle.std.proofs.Common.{◌≡◌, ℕ, Bool, true, false, not, ◌||◌, List, [], ◌∷◌, ◌++◌, map, Result, Ok, Err, if◌then◌else◌, refl, sym, ap, ap₂, subst, ◌∙◌}
use Rattle.std.specs.List.{list_any}
use Rattle.std.proofs.lemmas.List.{map-append}
use Rattle.std.proofs.lemmas.List.Folds.{list_any-append}
use Rattle.bm_io.specs.declared.sinks.SinkFault.{SinkFault}
use Rattle.bm_io.specs.declared.sinks.SinkFault.TheVariants.{Memory}
use Rattle.bm_io.specs.Sink.{Taken, Sent}
use Rattle.bm_io.proofs.Sending.{Sent-stop, Sent-more, Sent-as}
use Rattle.soak_text.specs.Soak.{soak_text}
use Rattle.bm_course.specs.declared.status.TheConstants.{ENDED, GOING}
use Rattle.bm_course.specs.Sends.{Sends}
use Rattle.bm_course.proofs.Sending.{Sends-nothing, first_stops, then_sends, sends_all, sends_part}
use Rattle.bm_report.specs.declared.summary.Summary.{Summary}
use Rattle.bm_report.specs.Summary.{summary_lines}
use Rattle.soak_text.specs.Lines.{Part}
use Rattle.soak_text.specs.Parts.{SendsParts}

abbrev lines : List Part → List (List ℕ)
lines = map (λ part. part.line)

abbrev any_going : List Part → Bool
any_going = list_any (λ part. part.going)

-- for want of memory nothing is sent
pub parts_starve : (before : Taken) (xs : List Part) → SendsParts before before xs (Err Memory)
parts_starve before xs = record { sent = Sent-as before before (lines xs) Memory (Sends-nothing before (record { status = 0; lines = lines xs })).sent; going = tt }

pub parts_stop : (before now : Taken) (xs ys : List Part) (e : SinkFault) → SendsParts before now xs (Err e) → SendsParts before now (xs ++ ys) (Err e)
parts_stop before now xs ys e h = record {
  sent = subst (λ ls. Sent {T = Bool} before now ls (Err e)) (sym (map-append (λ (part : Part). part.line) xs ys)) (Sent-stop before now (lines xs) (lines ys) e h.sent);
  going = tt;
}

pub parts_more : (before mid now : Taken) (xs ys : List Part) (x : Bool) (e : SinkFault) → SendsParts before mid xs (Ok x) → SendsParts mid now ys (Err e) → SendsParts before now (xs ++ ys) (Err e)
parts_more before mid now xs ys x e h k = record {
  sent = subst (λ ls. Sent {T = Bool} before now ls (Err e)) (sym (map-append (λ (part : Part). part.line) xs ys)) (Sent-more before mid now (lines xs) (lines ys) (Err e) h.sent.ok k.sent);
  going = tt;
}

pub parts_both : (before mid now : Taken) (xs ys : List Part) (x y : Bool) → SendsParts before mid xs (Ok x) → SendsParts mid now ys (Ok y) → SendsParts before now (xs ++ ys) (Ok (x || y))
parts_both before mid now xs ys x y h k =
    let r : Result Bool SinkFault = Ok y in
    let all : Sent before now (lines xs ++ lines ys) r = Sent-more before mid now (lines xs) (lines ys) r h.sent.ok k.sent in
    let same = subst (λ ls. Sent before now ls r) (sym (map-append (λ (part : Part). part.line) xs ys)) all in
    record {
      sent = record { ok = same.ok; failed = λ e. let no : ⊥ = cc in absurd no; memory = λ e. let no : ⊥ = cc in absurd no };
      going = ap₂ (λ a b. a || b) h.going k.going ∙ sym (list_any-append (λ (part : Part). part.going) xs ys);
    }

or_none : (b : Bool) → b ≡ (b || false)
or_none true = refl
or_none false = refl

-- the line of one part was sent
pub part_sent : (before now : Taken) (part : Part) (line : List ℕ) (going : Bool) → line ≡ part.line → going ≡ part.going → Sent {T = Unit {0}} before now (line ∷ []) (Ok tt) → SendsParts before now (part ∷ []) (Ok going)
part_sent before now part line going e f h =
    let same = subst (λ l. Sent {T = Unit {0}} before now (l ∷ []) (Ok tt)) e h in
    record {
      sent = record { ok = same.ok; failed = λ e. let no : ⊥ = cc in absurd no; memory = λ e. let no : ⊥ = cc in absurd no };
      going = f ∙ or_none part.going;
    }

-- .. or refused
pub part_refused : (before now : Taken) (part : Part) (line : List ℕ) (e : SinkFault) → line ≡ part.line → Sent {T = Unit {0}} before now (line ∷ []) (Err e) → SendsParts before now (part ∷ []) (Err e)
part_refused before now part line e f h =
    record { sent = Sent-as before now (part.line ∷ []) e (subst (λ l. Sent {T = Unit {0}} before now (l ∷ []) (Err e)) f h); going = tt }

-- the summary was sent, and then the parts
module _ (summary : Summary) (parts : List Part) where
  pub compiled_stops : (before now : Taken) (e : SinkFault) → Sent {T = Unit {0}} before now (summary_lines summary) (Err e) → Sends before now (soak_text summary parts) (Err e)
  compiled_stops before now e h = first_stops (soak_text summary parts).status (summary_lines summary) (lines parts) before now e h

  pub compiled_refused : (before mid now : Taken) (e : SinkFault) → Sent {T = Unit {0}} before mid (summary_lines summary) (Ok tt) → SendsParts mid now parts (Err e) → Sends before now (soak_text summary parts) (Err e)
  compiled_refused before mid now e h k =
      let status = (soak_text summary parts).status in
      then_sends status (summary_lines summary) (lines parts) before mid now tt (Err e) h (sends_part mid now (record { status = status; lines = lines parts }) e k.sent)

  pub compiled_sent : (before mid now : Taken) (going : Bool) (code : ℕ) → Sent {T = Unit {0}} before mid (summary_lines summary) (Ok tt) → SendsParts mid now parts (Ok going) → code ≡ (if going then GOING else ENDED) → Sends before now (soak_text summary parts) (Ok code)
  compiled_sent before mid now going code h k e =
      let status = (soak_text summary parts).status in
      let same : code ≡ status = e ∙ ap (λ b. if b then GOING else ENDED) k.going in
      then_sends status (summary_lines summary) (lines parts) before mid now tt (Ok code) h (sends_all mid now (record { status = status; lines = lines parts }) going code same k.sent)

pub not_back : (b s : Bool) → s ≡ not b → b ≡ not s
not_back true s e = sym (ap not e)
not_back false s e = sym (ap not e)
