-- From each draft some text goes on.
use Rattle.std.proofs.Common.{◌≡◌, ℕ, ◌+◌, ◌-◌, ◌≤◌, zero, suc, refl, sym, ap, subst, ◌∙◌, arith, Bool, true, false, List, [], ◌∷◌, ◌++◌, length, Some, None, Option, cond, append_assoc, append-nil}
use Rattle.std.specs.Prelude.{nat_le, ◌==◌, ◌&&◌}
use Rattle.bm_base.specs.declared.spec.Interval.{Interval}
use Rattle.bm_base.specs.Spec as spec
use Rattle.bm_base.specs.Machine.{IsTime}
use Rattle.bm_base.proofs.StrictTexts.{some_same}
use Rattle.tuple_ir.specs.declared.block.Next.TheVariants.{Halt}
use Rattle.stream_file.specs.declared.draft.Stage.{Stage}
use Rattle.stream_file.specs.declared.draft.Stage.TheVariants as at
use Rattle.stream_file.specs.Rows.{Row, Version, Processors, Barrier, Times, Opens, Follows, Ends}
use Rattle.stream_file.specs.Fields.{Fields, fits_processors, fits_barrier, Fits, rows}
use Rattle.stream_file.specs.RowFits.{RowFits}
use Rattle.stream_file.specs.Draft.{Draft, fields_of, is_version, is_processors, is_barrier, is_times, may_open, is_open, is_between, step, behind_processors, behind_time}
use Rattle.stream_file.proofs.SoFar.{length_push}
use Rattle.stream_file.proofs.SoFar.{SoundAt, Sound, so_far, so_far_at, Timed, Closed, step_grows}
use Rattle.stream_file.proofs.Runs.{passes, and_true, eq_true, ne_false, class_from}

-- a text begins with the lines of this draft
pub record Completed (d : Draft) : Type 0 where
  pub fields : Fields
  pub fits : Fits fields
  pub more : List Row
  pub begins : rows fields ≡ so_far d ++ more

-- with one line more
pub by_one : (d e : Draft) (row : Row) → RowFits row → Sound d → step d row ≡ Some e → ((f : Draft) → Sound f → step d row ≡ Some f → Completed f) → Completed d
by_one d e row fits s h next =
    let g = step_grows d e row fits s h in
    let c = next e g.0 h in
    record { fields = c.fields; fits = c.fits; more = row ∷ c.more; begins = c.begins ∙ ap (λ l. l ++ c.more) g.1 ∙ append_assoc (so_far d) (row ∷ []) c.more }

-- the stage that a step leads to
stage_of : (d e : Draft) (o : Option Draft) → o ≡ Some e → o ≡ Some d → e.stage ≡ d.stage
stage_of d e o h k = ap (λ (x : Draft). x.stage) (some_same (sym h ∙ k))

from_done : (d : Draft) → d.stage ≡ at.Done → Sound d → Completed d
from_done d p s =
    let c : Closed d = subst (λ (y : Stage). SoundAt y d) p s in
    record { fields = fields_of d; fits = record { head = c.top.head; count = c.top.count; times = c.top.times; names = c.top.names; some = c.some; few = c.few; each = c.each }; more = []; begins = ap (λ (y : Stage). so_far_at y d) (sym p) ∙ sym (append-nil (so_far d)) }

from_between : (d : Draft) → d.stage ≡ at.Between → Sound d → Completed d
from_between d p s =
    let e : Draft = record d { stage = at.Done } in
    let h : step d Ends ≡ Some e = ap (λ (y : Stage). cond (is_between y) (Some e) None) p in
    by_one d e Ends tt s h (λ f g k. from_done f (stage_of e f (step d Ends) k h) g)

from_open : (d : Draft) → is_open d.stage ≡ true → Sound d → Completed d
from_open d p s =
    let e : Draft = record d { stage = at.Between; blocks = d.blocks ++ record { tuples = d.tuples; masks = d.masks; streams = d.streams; next = Halt } ∷ []; tuples = []; masks = []; streams = []; from = 0 } in
    let h : step d (Follows Halt) ≡ Some e = passes (is_open d.stage) e p in
    by_one d e (Follows Halt) tt s h (λ f g k. from_between f (stage_of e f (step d (Follows Halt)) k h) g)

from_names : (d : Draft) → d.stage ≡ at.Names → Sound d → Completed d
from_names d p s =
    let e : Draft = record d { stage = at.Tuples } in
    let c : SoundAt at.Names d = subst (λ (y : Stage). SoundAt y d) p s in
    let zero_blocks : 0 ≡ length d.blocks = sym (ap length c.1.no_blocks) in
    let h : step d (Opens 0) ≡ Some e = passes (may_open d.stage && 0 == length d.blocks) e (and_true (may_open d.stage) (0 == length d.blocks) (ap may_open p) (eq_true 0 (length d.blocks) zero_blocks)) in
    by_one d e (Opens 0) (omega arith) s h (λ f g k. from_open f (ap is_open (stage_of e f (step d (Opens 0)) k h)) g)

-- a tick for each time that is missing
abbrev tick : Interval
tick = record { least = 1; most = 1 }

tick_is : IsTime tick
tick_is = record { low = omega arith; order = omega arith; high = omega arith }

from_times : (n : ℕ) (d : Draft) → length d.times + n ≡ 9 → d.stage ≡ at.Times → Sound d → Completed d
from_times zero d l p s = let c : Timed d = subst (λ (y : Stage). SoundAt y d) p s in absurd (omega (arith, c.count))
from_times (suc zero) d l p s =
    let e : Draft = record d { stage = behind_time (length d.times); times = d.times ++ tick ∷ [] } in
    let k = class_from (length d.times) (omega arith) in
    let h : step d (Times k.0 tick) ≡ Some e = passes (is_times d.stage && spec.place_of k.0 == length d.times) e (and_true (is_times d.stage) (spec.place_of k.0 == length d.times) (ap is_times p) (eq_true (spec.place_of k.0) (length d.times) k.1.1)) in
    let last : e.stage ≡ at.Names = ap (λ (t : Bool). cond t at.Names at.Times) (eq_true (length d.times) 8 (omega arith)) in
    by_one d e (Times k.0 tick) tick_is s h (λ f g q. from_names f (stage_of e f (step d (Times k.0 tick)) q h ∙ last) g)
from_times (suc (suc n)) d l p s =
    let e : Draft = record d { stage = behind_time (length d.times); times = d.times ++ tick ∷ [] } in
    let k = class_from (length d.times) (omega arith) in
    let h : step d (Times k.0 tick) ≡ Some e = passes (is_times d.stage && spec.place_of k.0 == length d.times) e (and_true (is_times d.stage) (spec.place_of k.0 == length d.times) (ap is_times p) (eq_true (spec.place_of k.0) (length d.times) k.1.1)) in
    let more : e.stage ≡ at.Times = ap (λ (t : Bool). cond t at.Names at.Times) (ne_false (length d.times) 8 (λ o. omega arith)) in
    let count : length e.times + suc n ≡ 9 = omega (arith, length_push d.times tick) in
    by_one d e (Times k.0 tick) tick_is s h (λ f g q. from_times (suc n) f (subst (λ (x : Draft). length x.times + suc n ≡ 9) (some_same (sym h ∙ q)) count) (stage_of e f (step d (Times k.0 tick)) q h ∙ more) g)

from_timed : (d : Draft) → d.stage ≡ at.Times → Sound d → Completed d
from_timed d p s =
    let c : Timed d = subst (λ (y : Stage). SoundAt y d) p s in
    let few : length d.times ≤ 8 = c.count in
    let rest : length d.times + (9 - length d.times) ≡ 9 = omega arith in
    from_times (9 - length d.times) d rest p s

from_barrier : (d : Draft) → d.stage ≡ at.Barrier → Sound d → Completed d
from_barrier d p s =
    let e : Draft = record d { stage = at.Times; barrier = 1 } in
    let fits : fits_barrier d.version 1 ≡ true = elim (d.version == 3) as (λ t. cond t (nat_le 1 100) (nat_le 1 1 && nat_le 1 100) ≡ true) [ true ↦ refl | false ↦ refl ] in
    let h : step d (Barrier 1) ≡ Some e = passes (is_barrier d.stage && fits_barrier d.version 1) e (and_true (is_barrier d.stage) (fits_barrier d.version 1) (ap is_barrier p) fits) in
    by_one d e (Barrier 1) (omega arith) s h (λ f g k. from_timed f (stage_of e f (step d (Barrier 1)) k h) g)

some_processors : (v : ℕ) → (n : ℕ) × ((n ≤ 255) × (fits_processors v n ≡ true))
some_processors v = elim (v == 3) as (λ t. (n : ℕ) × ((n ≤ 255) × (cond t (nat_le 65 n && nat_le n 128) (nat_le 1 n && nat_le n 64) ≡ true))) [ true ↦ (65, (omega arith, refl)) | false ↦ (1, (omega arith, refl)) ]

from_processors : (d : Draft) → d.stage ≡ at.Processors → Sound d → Completed d
from_processors d p s =
    let n = some_processors d.version in
    let e : Draft = record d { stage = behind_processors d.version; processors = n.0 } in
    let h : step d (Processors n.0) ≡ Some e = passes (is_processors d.stage && fits_processors d.version n.0) e (and_true (is_processors d.stage) (fits_processors d.version n.0) (ap is_processors p) n.1.1) in
    by_one d e (Processors n.0) n.1.0 s h (λ f g k. by (d.version == 1) f g (stage_of e f (step d (Processors n.0)) k h))
  where
    by : (t : Bool) (f : Draft) → Sound f → f.stage ≡ cond t at.Times at.Barrier → Completed f
    by true f g q = from_timed f q g
    by false f g q = from_barrier f q g

from_version : (d : Draft) → d.stage ≡ at.Version → Sound d → Completed d
from_version d p s =
    let e : Draft = record d { stage = at.Processors; version = 1 } in
    let h : step d (Version 1) ≡ Some e = ap (λ (y : Stage). cond (is_version y && nat_le 1 1 && nat_le 1 3) (Some e) None) p in
    by_one d e (Version 1) (omega arith) s h (λ f g k. from_processors f (stage_of e f (step d (Version 1)) k h) g)

-- some text begins with the lines of each draft
pub completes : (d : Draft) → Sound d → Completed d
completes d s = by d.stage refl
  where
    by : (y : Stage) → d.stage ≡ y → Completed d
    by at.Version p = from_version d p s
    by at.Processors p = from_processors d p s
    by at.Barrier p = from_barrier d p s
    by at.Times p = from_timed d p s
    by at.Names p = from_names d p s
    by at.Tuples p = from_open d (ap is_open p) s
    by at.Masks p = from_open d (ap is_open p) s
    by at.Streams p = from_open d (ap is_open p) s
    by at.Between p = from_between d p s
    by at.Done p = from_done d p s
