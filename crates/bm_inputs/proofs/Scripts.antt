-- The course of a script comes to one step, and to some, and its refusals have their statuses.
use Rattle.std.proofs.Common.{◌≡◌, ℕ, List, Some, Ok, Err, refl, sym, ap, ◌∙◌}
use Rattle.bm_base.specs.declared.limits.TheConstants.{MOST_SCRIPT_BYTES}
use Rattle.bm_io.specs.Files.{Held}
use Rattle.timing_script.specs.declared.script.Script.{Script}
use Rattle.timing_script.specs.declared.script.Script.TheVariants as script
use Rattle.timing_script.specs.declared.reading.ScriptFault.{ScriptFault}
use Rattle.timing_script.specs.declared.reading.ScriptFault.TheVariants.{ScriptText, Memory}
use Rattle.timing_script.specs.Text.{IsTextOf, IsScriptOf, IsFirstWrong, IsFault}
use Rattle.timing_script.specs.Laws.{Answer, text, wrong, TextsHaveOneAnswer}
use Rattle.bm_words.specs.Table.{ScriptOf, Least, Most, Seed, ScriptFile}
use Rattle.bm_course.specs.Course.{Refused, judge}
use Rattle.bm_course.specs.Limited.{limited}
use Rattle.bm_course.specs.Laws.{IsDetermined, HasOneVerdict, HasSomeVerdict, Settles, Bounds}
use Rattle.bm_course.proofs.Settling.{limited-determined, then-determined, judge-determined, give-determined}
use Rattle.bm_course.proofs.Leading.{limited-settles, then-settles, judge-settles, give-settles}
use Rattle.bm_course.proofs.Bounds.{then-bounds, judge-bounds, give-bounds, limited-bounds}
use Rattle.bm_inputs.specs.ScriptLines.{script_refused}
use Rattle.bm_inputs.specs.Scripts.{ReadsScript, script_course}
use Rattle.bm_inputs.proofs.BeginningStatuses.{refusal, three, script_refusal}

module _ (bytes : List ℕ) where
  -- the offsets of a script that is read
  record Offsets (s : Script) : Type 0 where
    lists : List (List ℕ)
    script_is : s ≡ script.File lists
    text_is : IsTextOf bytes lists

  offsets_of : (s : Script) → IsScriptOf bytes s → Offsets s
  offsets_of (script.File lists) h = record { lists = lists; script_is = refl; text_is = h }
  offsets_of script.Least h = absurd h
  offsets_of script.Most h = absurd h
  offsets_of (script.Seed n) h = absurd h

  -- the line that a refusal tells
  record Wrong (e : ScriptFault) : Type 0 where
    line : ℕ
    fault_is : e ≡ ScriptText line
    first : IsFirstWrong bytes line

  wrong_of : (e : ScriptFault) (r : Refused) → IsFault bytes e → script_refused e ≡ Some r → Wrong e
  wrong_of (ScriptText line) r h k = record { line = line; fault_is = refl; first = h }
  wrong_of Memory r h k = let no : ⊥ = cc in absurd no

module _ (one : TextsHaveOneAnswer) where
  script-once : (bytes : List ℕ) → HasOneVerdict (ReadsScript bytes)
  script-once bytes (Ok s) (Ok t) h k =
      let a = offsets_of bytes s h in
      let b = offsets_of bytes t k in
      ap Ok (a.script_is ∙ ap script.File (one.one_script bytes a.lists b.lists a.text_is b.text_is) ∙ sym b.script_is)
  script-once bytes (Ok s) (Err r) h k =
      let a = offsets_of bytes s h in
      let w = wrong_of bytes k.0 r k.1 k.2 in
      absurd (one.not_both bytes a.lists w.line a.text_is w.first)
  script-once bytes (Err r) (Ok t) h k =
      let a = offsets_of bytes t k in
      let w = wrong_of bytes h.0 r h.1 h.2 in
      absurd (one.not_both bytes a.lists w.line a.text_is w.first)
  script-once bytes (Err r) (Err q) h k =
      let v = wrong_of bytes h.0 r h.1 h.2 in
      let w = wrong_of bytes k.0 q k.1 k.2 in
      let d : h.0 ≡ k.0 = v.fault_is ∙ ap ScriptText (one.one_line bytes v.line w.line v.first w.first) ∙ sym w.fault_is in
      let f : Some r ≡ Some q = sym h.2 ∙ ap script_refused d ∙ k.2 in
      let g : r ≡ q = cc in
      ap Err g

  script-some : (bytes : List ℕ) → HasSomeVerdict (ReadsScript bytes)
  script-some bytes = by (one.some bytes)
    where
      by : Answer bytes → HasSomeVerdict (ReadsScript bytes)
      by (text lists h) = (Ok (script.File lists), h)
      by (wrong line h) = (Err _, (ScriptText line, h, refl))

  pub script-determined : (word : ScriptOf) → IsDetermined (script_course word)
  script-determined Least = give-determined script.Least
  script-determined Most = give-determined script.Most
  script-determined (Seed n) = give-determined (script.Seed n)
  script-determined (ScriptFile name) = then-determined (limited name MOST_SCRIPT_BYTES) (λ bytes. judge (ReadsScript bytes)) (limited-determined name MOST_SCRIPT_BYTES) (λ bytes. judge-determined (ReadsScript bytes) (script-once bytes))

  pub script-settles : (held : Held) (word : ScriptOf) → Settles held (script_course word)
  script-settles held Least = give-settles held script.Least
  script-settles held Most = give-settles held script.Most
  script-settles held (Seed n) = give-settles held (script.Seed n)
  script-settles held (ScriptFile name) =
      then-settles held (λ x. Unit {0}) (limited name MOST_SCRIPT_BYTES) (λ bytes. judge (ReadsScript bytes)) (λ contents rest x h. tt) (limited-settles held name MOST_SCRIPT_BYTES)
      (λ bytes t. judge-settles held (ReadsScript bytes) (script-some bytes))

pub script-bounds : (word : ScriptOf) → Bounds refusal (λ s. Unit {0}) (script_course word)
script-bounds Least = give-bounds refusal (λ s. Unit {0}) script.Least tt
script-bounds Most = give-bounds refusal (λ s. Unit {0}) script.Most tt
script-bounds (Seed n) = give-bounds refusal (λ s. Unit {0}) (script.Seed n) tt
script-bounds (ScriptFile name) =
    then-bounds refusal (λ x. Unit {0}) (λ s. Unit {0}) (limited name MOST_SCRIPT_BYTES) (λ bytes. judge (ReadsScript bytes))
    (record { refuses = (limited-bounds refusal name MOST_SCRIPT_BYTES three).refuses; gives = λ cs rest x h. tt })
    (λ bytes t. judge-bounds refusal (λ s. Unit {0}) (ReadsScript bytes) (λ s h. tt) (λ r h. script_refusal h.0 r h.2))
