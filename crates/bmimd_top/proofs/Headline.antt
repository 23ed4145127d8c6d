-- From the course of a row that came to its product, to what the row promises.
use Rattle.std.proofs.Common.{◌≡◌, ℕ, List, [], ◌∷◌, ◌++◌, Option, None, refl, sym, ap, ap₂, subst, ◌∙◌, arith}
use Rattle.bm_io.specs.Files.{Held, Keeps, asking}
use Rattle.bm_io.proofs.Asking.{asking-nothing}
use Rattle.bm_io.specs.Sink.{Takes}
use Rattle.bm_words.specs.Table.{MachineOf, DataOf, RunWordsOf}
use Rattle.bm_course.specs.Course.{Product, text_only, Gives, Course, judge, give, IsReading}
use Rattle.bm_course.specs.Seen.{Seen, holding, file_names}
use Rattle.bm_course.specs.Clauses.{HasWritten}
use Rattle.bm_course.proofs.Halving.{ReadTo, halve}
use Rattle.unit_law.specs.Determinate.{IsDeterminate}
use Rattle.unit_law.proofs.SoundFits.{sound_fit}
use Rattle.src_meaning.specs.declared.evaluate.End.{End}
use Rattle.src_meaning.specs.declared.evaluate.End.TheVariants.{Done, More}
use Rattle.src_meaning.specs.Meaning.{meaning}
use Rattle.compiled_image.specs.Compiled.{IsCompiled}
use Rattle.run_text.specs.EvalText.{eval_text, end_status}
use Rattle.stream_image.specs.Laws.{ImagesAreDeterminate}
use Rattle.bm_inputs.specs.Images.{loaded_course}
use Rattle.bm_inputs.proofs.ImageCourses.{loaded-bounds}
use Rattle.run_text.specs.Serial.{RunsMeanTheSerialOrder, SerialEndsAreTold}
use Rattle.run_text.specs.TraceLaws.{TracesMeanTheSerialOrder, SerialEndsAreTraced}
use Rattle.bm_inputs.specs.Beginning.{begun_course}
use Rattle.bm_inputs.proofs.Beginnings.{IsRight, begun-determined, begun-right}
use Rattle.bmimd_top.specs.Running.{Runs, Traces, sourced_course, counts_text, kind_of}
use Rattle.bmimd_top.specs.Listing.{Lists, listed_course, text_of}
use Rattle.bmimd_top.specs.Compiling.{Makes, made_course, product_of}
use Rattle.bmimd_top.specs.Evaluating.{ready_course}
use Rattle.soak_text.specs.SoakCourse.{Soaks, soak_course}
use Rattle.soak_text.specs.Agree.{SoaksAgree}
use Rattle.bmimd_top.specs.Command.{eval_course, go_course, compile_course, show_course, run_course, trace_course, check_course}
use Rattle.bmimd_top.specs.OneStep.{LawsOfReadings}
use Rattle.bmimd_top.specs.Enough.{EnoughTicksEndRuns}
use Rattle.bmimd_top.specs.ReadBack.{ImagesAreReadBack}
use Rattle.bmimd_top.specs.Headline.{HasRun, HasEvaluated, HasCompiled, HasShown, HasRunImage, HasTraced, HasChecked, HasSoaked}
use Rattle.bmimd_top.proofs.Sourced.{sourced-right}
use Rattle.bmimd_top.proofs.Given.{judged}
use Rattle.bmimd_top.proofs.Readings.{loaded-consumes, begun-consumes, sourced-consumes, ready-consumes, both-consumes, loaded-read, begun-read, sourced-read, ready-read, both-read}

-- where no file is written, what is held stays
kept : (before now : Seen) (course : Course Product) (status : ℕ) (w : HasWritten before now course status) → w.product.file ≡ None → Keeps before.files.held now.files.held
kept before now course status w e = subst (λ f. Keeps (holding before.files.held f) now.files.held) e w.files.held

-- what was read
read_to : (before now : Seen) (course : Course Product) (status : ℕ) (w : HasWritten before now course status) → ReadTo before.files.held course w.product
read_to before now course status w = record { contents = w.contents; names = w.names; reading = w.reading; gave = w.gives }

-- of no contents no name was asked
no_names : {A : Type 0} (told : Option Held) (course : Course A) (contents names : List (List ℕ)) → contents ≡ [] → IsReading told course contents names → names ≡ []
no_names told course [] [] e h = refl
no_names told course [] (n ∷ names) e h = absurd h
no_names told course (c ∷ contents) names e h = let no : ⊥ = cc in absurd no

-- `soak`
module _ (before now : Seen) (agree : SoaksAgree) (seed statements status : ℕ) (w : HasWritten before now (soak_course seed statements) status) where
  pub has_soaked : HasSoaked before now seed statements status
  has_soaked =
      let j = judged (Soaks seed statements) w.contents [] w.product w.gives in
      let t = j.0 in
      let s : status ≡ t.0.status = w.status_is ∙ ap (λ x. x.text.status) t.2 in
      let none : w.names ≡ [] = no_names before.files.held (soak_course seed statements) w.contents w.names (sym j.1) w.reading in
      record {
        text = t.0;
        soaks = t.1;
        out = subst (λ x. Takes before.out.taken now.out.taken x.text.lines) t.2 w.out;
        err = w.err;
        asked = w.files.asked ∙ ap₂ (λ names file. asking before.files.asked (names ++ file_names file)) none (ap (λ x. x.file) t.2) ∙ asking-nothing before.files.asked;
        held = kept before now (soak_course seed statements) status w (ap (λ x. x.file) t.2);
        status_is = s;
        agree = λ z. agree seed statements t.0 t.1 (sym s ∙ z);
      }

module _ (laws : LawsOfReadings) (before now : Seen) where
  -- `eval`
  module _ (name : List ℕ) (word : DataOf) (turns status : ℕ) (w : HasWritten before now (eval_course name word turns) status) where
    at_zero : (e : End) → e ≡ Done → end_status e ≡ 0
    at_zero e h = ap end_status h

    zero_only : (e : End) → end_status e ≡ 0 → e ≡ Done
    zero_only Done h = refl
    zero_only More h = let no : ⊥ = omega arith in absurd no

    pub evaluated : HasEvaluated before now name word turns status
    evaluated =
        let told = before.files.held in
        let h = halve told (ready_course name word) (λ e. give (text_only (eval_text e.program e.memory turns))) w.product (laws.one.ready name word) (ready-consumes name word) (read_to before now (eval_course name word turns) status w) in
        let k = ready-read told laws.begun laws.sources laws.right name word h.x h.first in
        let e : Gives w.product [] ≡ Gives (text_only (eval_text h.x.program h.x.memory turns)) h.second.contents = h.second.gave in
        let p : w.product ≡ text_only (eval_text h.x.program h.x.memory turns) = cc in
        let s : status ≡ (eval_text h.x.program h.x.memory turns).status = w.status_is ∙ ap (λ x. x.text.status) p in
        record {
          program = h.x.program;
          source = k.source;
          memory = h.x.memory;
          given = k.given;
          out = subst (λ x. Takes before.out.taken now.out.taken x.text.lines) p w.out;
          err = w.err;
          held = kept before now (eval_course name word turns) status w (ap (λ x. x.file) p);
          status_is = s;
          done = λ d. s ∙ at_zero (meaning h.x.program h.x.memory turns).end d;
          only = λ z. zero_only (meaning h.x.program h.x.memory turns).end (sym s ∙ z);
        }

  -- `go`
  module _ (enough : EnoughTicksEndRuns) (name : List ℕ) (run : RunWordsOf) (status : ℕ) where
    pub has_run : (word : MachineOf) → HasWritten before now (go_course name word run) status → HasRun before now name word run status
    has_run word w =
        let told = before.files.held in
        let h = halve told (sourced_course name word run) (λ b. judge (Runs run b)) w.product (laws.one.sourced name word run) (sourced-consumes name word run) (read_to before now (go_course name word run) status w) in
        let i = sourced-read told laws.begun laws.sources laws.machines laws.right laws.lawful name word run h.x h.first in
        let q : IsRight h.x = (sourced-right name word run laws.right laws.memories).gives h.first.contents [] h.x h.first.gave in
        let t = (judged (Runs run h.x) h.second.contents [] w.product h.second.gave).0 in
        let m : IsCompiled i.machine i.program h.x.image = i.compiled in
        let s : status ≡ t.0.status = w.status_is ∙ ap (λ x. x.text.status) t.2 in
        record {
          program = i.program;
          source = i.source;
          machine = i.machine;
          named = i.named;
          lawful = i.lawful;
          begins = h.x;
          compiled = m.image_is;
          faithful = m.faithful;
          timed = i.timed;
          given = i.given;
          text = t.0;
          runs = t.1;
          out = subst (λ x. Takes before.out.taken now.out.taken x.text.lines) t.2 w.out;
          err = w.err;
          held = kept before now (go_course name word run) status w (ap (λ x. x.file) t.2);
          status_is = s;
          ends = λ n d e. s ∙ enough i.machine i.program h.x.image (kind_of run.unit) h.x.script h.x.memory run.budget n t.0 i.lawful m q.memory t.1 d e;
        }

  -- `compile`
  module _ (read_back : ImagesAreReadBack) (name out : List ℕ) (status : ℕ) where
    pub has_compiled : (word : MachineOf) → HasWritten before now (compile_course name word out) status → HasCompiled before now name word out status
    has_compiled word w =
        let told = before.files.held in
        let h = halve told (made_course name word) (λ made. give (product_of out made)) w.product (laws.one.made name word) (both-consumes Makes name word) (read_to before now (compile_course name word out) status w) in
        let i = both-read told Makes laws.sources laws.machines laws.lawful name word h.x h.first in
        let e : Gives w.product [] ≡ Gives (product_of out h.x) h.second.contents = h.second.gave in
        let p : w.product ≡ product_of out h.x = cc in
        record {
          program = i.program;
          source = i.source;
          machine = i.machine;
          named = i.named;
          lawful = i.lawful;
          image = h.x.image;
          compiled = i.made.0.image_is;
          faithful = i.made.0.faithful;
          summary = h.x.summary;
          counted = i.made.1;
          read_back = read_back i.source.bytes i.program i.machine h.x.image i.source.whole i.source.means i.lawful i.made.0;
          held = subst (λ x. Keeps (holding before.files.held x.file) now.files.held) p w.files.held;
          out = subst (λ x. Takes before.out.taken now.out.taken x.text.lines) p w.out;
          err = w.err;
          status_is = w.status_is ∙ ap (λ x. x.text.status) p;
        }

  -- `show`
  module _ (name : List ℕ) (status : ℕ) where
    pub has_shown : (word : MachineOf) → HasWritten before now (show_course name word) status → HasShown before now name word status
    has_shown word w =
        let told = before.files.held in
        let h = halve told (listed_course name word) (λ l. give (text_only (text_of l.shown l.summary))) w.product (laws.one.listed name word) (both-consumes Lists name word) (read_to before now (show_course name word) status w) in
        let i = both-read told Lists laws.sources laws.machines laws.lawful name word h.x h.first in
        let e : Gives w.product [] ≡ Gives (text_only (text_of h.x.shown h.x.summary)) h.second.contents = h.second.gave in
        let p : w.product ≡ text_only (text_of h.x.shown h.x.summary) = cc in
        record {
          program = i.program;
          source = i.source;
          machine = i.machine;
          named = i.named;
          lawful = i.lawful;
          shown = h.x.shown;
          lists = i.made.0;
          summary = h.x.summary;
          counted = i.made.1;
          out = subst (λ x. Takes before.out.taken now.out.taken x.text.lines) p w.out;
          err = w.err;
          held = kept before now (show_course name word) status w (ap (λ x. x.file) p);
          status_is = w.status_is ∙ ap (λ x. x.text.status) p;
        }

  -- `run`
  module _ (determinate : ImagesAreDeterminate) (means : RunsMeanTheSerialOrder) (ends : SerialEndsAreTold) (name : List ℕ) (run : RunWordsOf) (status : ℕ) (w : HasWritten before now (run_course name run) status) where
    pub has_run_image : HasRunImage before now name run status
    has_run_image =
        let told = before.files.held in
        let images = loaded_course name in
        let g = (loaded-bounds name).gives in
        let h = halve told (begun_course images run) (λ b. judge (Runs run b)) w.product (begun-determined run laws.begun images (laws.loaded name) g) (begun-consumes images run (loaded-consumes name)) (read_to before now (run_course name run) status w) in
        let k = begun-read told laws.begun images run (laws.loaded name) (loaded-consumes name) g h.x h.first in
        let q : IsRight h.x = (begun-right run laws.memories images (loaded-bounds name)).gives h.first.contents [] h.x h.first.gave in
        let t = (judged (Runs run h.x) h.second.contents [] w.product h.second.gave).0 in
        let d : IsDeterminate h.x.image = determinate h.x.image q.image in
        let s : status ≡ t.0.status = w.status_is ∙ ap (λ x. x.text.status) t.2 in
        let fit = sound_fit h.x.image q.image.sound in
        record {
          begins = h.x;
          begun = record { loaded = loaded-read told name h.x.image k.image; determinate = d; timed = k.timed; given = k.given };
          text = t.0;
          runs = t.1;
          serial = means h.x.image (kind_of run.unit) h.x.script h.x.memory run.budget t.0 fit q.image.machine.times d q.memory t.1;
          out = subst (λ x. Takes before.out.taken now.out.taken x.text.lines) t.2 w.out;
          err = w.err;
          held = kept before now (run_course name run) status w (ap (λ x. x.file) t.2);
          status_is = s ∙ ap (λ x. x.status) t.1.text_is;
          ends = λ c n e b l. s ∙ ends h.x.image (kind_of run.unit) h.x.script h.x.memory run.budget c n t.0 fit q.image.machine.times d q.memory e b l t.1;
        }

  -- `trace`
  module _ (determinate : ImagesAreDeterminate) (means : TracesMeanTheSerialOrder) (ends : SerialEndsAreTraced) (name : List ℕ) (run : RunWordsOf) (status : ℕ) (w : HasWritten before now (trace_course name run) status) where
    pub has_traced : HasTraced before now name run status
    has_traced =
        let told = before.files.held in
        let images = loaded_course name in
        let g = (loaded-bounds name).gives in
        let h = halve told (begun_course images run) (λ b. judge (Traces run b)) w.product (begun-determined run laws.begun images (laws.loaded name) g) (begun-consumes images run (loaded-consumes name)) (read_to before now (trace_course name run) status w) in
        let k = begun-read told laws.begun images run (laws.loaded name) (loaded-consumes name) g h.x h.first in
        let q : IsRight h.x = (begun-right run laws.memories images (loaded-bounds name)).gives h.first.contents [] h.x h.first.gave in
        let t = (judged (Traces run h.x) h.second.contents [] w.product h.second.gave).0 in
        let d : IsDeterminate h.x.image = determinate h.x.image q.image in
        let s : status ≡ t.0.status = w.status_is ∙ ap (λ x. x.text.status) t.2 in
        let fit = sound_fit h.x.image q.image.sound in
        record {
          begins = h.x;
          begun = record { loaded = loaded-read told name h.x.image k.image; determinate = d; timed = k.timed; given = k.given };
          text = t.0;
          traces = t.1;
          serial = means h.x.image (kind_of run.unit) h.x.script h.x.memory run.budget t.0 fit q.image.machine.times d q.memory t.1;
          out = subst (λ x. Takes before.out.taken now.out.taken x.text.lines) t.2 w.out;
          err = w.err;
          held = kept before now (trace_course name run) status w (ap (λ x. x.file) t.2);
          status_is = s ∙ ap (λ x. x.status) t.1.text_is;
          ends = λ c n e b l. s ∙ ends h.x.image (kind_of run.unit) h.x.script h.x.memory run.budget c n t.0 fit q.image.machine.times d q.memory e b l t.1;
        }

  -- `check`
  module _ (name : List ℕ) (status : ℕ) (w : HasWritten before now (check_course name) status) where
    pub has_checked : HasChecked before now name status
    has_checked =
        let told = before.files.held in
        let h = halve told (loaded_course name) (λ image. give (text_only (counts_text image))) w.product (laws.loaded name) (loaded-consumes name) (read_to before now (check_course name) status w) in
        let e : Gives w.product [] ≡ Gives (text_only (counts_text h.x)) h.second.contents = h.second.gave in
        let p : w.product ≡ text_only (counts_text h.x) = cc in
        record {
          image = h.x;
          loaded = loaded-read told name h.x h.first;
          out = subst (λ x. Takes before.out.taken now.out.taken x.text.lines) p w.out;
          err = w.err;
          held = kept before now (check_course name) status w (ap (λ x. x.file) p);
          status_is = w.status_is ∙ ap (λ x. x.text.status) p;
        }
