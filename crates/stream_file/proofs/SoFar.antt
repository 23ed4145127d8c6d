-- What a draft says of the lines that it took.
use Rattle.std.proofs.Common.{◌≡◌, ℕ, ◌+◌, ◌<◌, ◌≤◌, suc, refl, sym, ap, subst, ◌∙◌, arith, Bool, true, false, List, [], ◌∷◌, ◌++◌, length, map, Some, None, Option, Ok, Err, Result, true≢false, cond, append_assoc, append-nil, add-one}
use Rattle.std.specs.Prelude.{nat_le, nat_lt, ◌==◌, ◌&&◌, ◌⊎◌}
use Rattle.std.proofs.Common.{inl, inr}
use Rattle.std.specs.List.{AllByRecursion}
use Rattle.std.proofs.lemmas.Option.{slice_get_within}
use Rattle.std.proofs.lemmas.Bool.Decides.{nat_tests}
use Rattle.bm_base.specs.declared.spec.Interval.{Interval}
use Rattle.bm_base.specs.declared.spec.Class.{Class}
use Rattle.bm_base.specs.declared.spec.Class.TheVariants as c
use Rattle.bm_base.specs.declared.names.Kind.{Kind}
use Rattle.bm_base.specs.declared.names.Kind.TheVariants.{Var, Array}
use Rattle.bm_base.specs.declared.names.NamesFault.{NamesFault}
use Rattle.bm_base.specs.declared.names.NamesFault.TheVariants.{BadName, TooMany, Size}
use Rattle.bm_base.specs.Entry.{Entry}
use Rattle.bm_base.specs.Names.{adding, adding_at, place_of, is_name, has_room, elements_of, element_total, AreNames}
use Rattle.bm_base.specs.Spec as spec
use Rattle.bm_base.specs.Machine.{IsTime}
use Rattle.bm_base.proofs.Naming.{AreNames-add}
use Rattle.bm_base.proofs.StrictTexts.{chosen, both_true, none_some, some_same}
use Rattle.tuple_ir.specs.declared.tuple.Tuple.{Tuple}
use Rattle.tuple_ir.specs.declared.block.Next.{Next}
use Rattle.line_model.specs.declared.line.StreamItem.{StreamItem}
use Rattle.stream_image.specs.declared.given.Stream.{Stream}
use Rattle.stream_file.specs.declared.draft.Stage.{Stage}
use Rattle.stream_file.specs.declared.draft.Stage.TheVariants as at
use Rattle.stream_file.specs.Words.{classes}
use Rattle.stream_file.specs.Rows.{Row, Version, Processors, Barrier, Times, Named, Opens, Does, Masks, Streams, Follows, Ends}
use Rattle.stream_file.specs.Fields.{BlockFields, fits_processors, fits_barrier, fits_mask, HeadFits, TupleFits, NextFits, KindFits, StreamFits, AreAbove, OpenFits, BlockFits, NamesFit, items_text, head_rows, time_rows, opened_rows, block_rows, blocks_rows}
use Rattle.stream_file.specs.RowFits.{RowFits, InRange}
use Rattle.stream_file.specs.Draft.{Draft, items_of, is_version, is_processors, is_barrier, is_times, is_names, may_open, is_tuples, may_mask, is_open, is_between, take_version, take_processors, take_barrier, take_time, with_name, take_name, take_opening, take_tuple, take_mask, with_stream, take_stream, take_next, take_end, step}
use Rattle.stream_file.proofs.ItemTexts.{items_is}

-- ---- lists

pub push : {A : Type 0} → List A → A → List A
push xs x = xs ++ x ∷ []

pub map_push : {A B : Type 0} (f : A → B) (xs : List A) (x : A) → map f (xs ++ x ∷ []) ≡ map f xs ++ f x ∷ []
map_push f [] x = refl
map_push f (y ∷ ys) x = ap (λ l. f y ∷ l) (map_push f ys x)

pub length_push : {A : Type 0} (xs : List A) (x : A) → length (xs ++ x ∷ []) ≡ length xs + 1
length_push [] x = refl
length_push (y ∷ ys) x = omega (arith, length_push ys x)

pub all_push : {A : Type 0} (P : A → Type 0) (xs : List A) (x : A) → AllByRecursion P xs → P x → AllByRecursion P (xs ++ x ∷ [])
all_push P [] x h p = (p, tt)
all_push P (y ∷ ys) x h p = (h.0, all_push P ys x h.1 p)

tail2 : {A : Type 0} (a b x : List A) → a ++ (b ++ x) ≡ (a ++ b) ++ x
tail2 a b x = sym (append_assoc a b x)

tail3 : {A : Type 0} (a b c x : List A) → a ++ (b ++ (c ++ x)) ≡ (a ++ (b ++ c)) ++ x
tail3 a b c x = ap (λ l. a ++ l) (tail2 b c x) ∙ tail2 a (b ++ c) x

abbrev pub stream_row : Stream → Row
stream_row s = Streams s.processor (items_text s.items)

tuples_push : (n : ℕ) (ts : List Tuple) (t : Tuple) (ms : List ℕ) (ss : List Stream) → ms ≡ [] → ss ≡ [] → opened_rows n (ts ++ t ∷ []) ms ss ≡ opened_rows n ts ms ss ++ Does t ∷ []
tuples_push n ts t ms ss m s = rw (m, s, map_push (λ (x : Tuple). Does x) ts t) (ap (λ l. Opens n ∷ l) (append-nil (map (λ (x : Tuple). Does x) ts ++ Does t ∷ []) ∙ ap (λ l. l ++ Does t ∷ []) (sym (append-nil (map (λ (x : Tuple). Does x) ts)))))

masks_push : (n : ℕ) (ts : List Tuple) (ms : List ℕ) (m : ℕ) (ss : List Stream) → ss ≡ [] → opened_rows n ts (ms ++ m ∷ []) ss ≡ opened_rows n ts ms ss ++ Masks m ∷ []
masks_push n ts ms m ss s = rw (s, map_push (λ (x : ℕ). Masks x) ms m) (ap (λ l. Opens n ∷ l) (ap (λ l. map (λ (x : Tuple). Does x) ts ++ l) (append-nil (map (λ (x : ℕ). Masks x) ms ++ Masks m ∷ []) ∙ ap (λ l. l ++ Masks m ∷ []) (sym (append-nil (map (λ (x : ℕ). Masks x) ms)))) ∙ tail2 (map (λ (x : Tuple). Does x) ts) (map (λ (x : ℕ). Masks x) ms ++ []) (Masks m ∷ [])))

streams_push : (n : ℕ) (ts : List Tuple) (ms : List ℕ) (ss : List Stream) (s : Stream) → opened_rows n ts ms (ss ++ s ∷ []) ≡ opened_rows n ts ms ss ++ stream_row s ∷ []
streams_push n ts ms ss s = ap (λ l. Opens n ∷ l) (ap (λ l. map (λ (x : Tuple). Does x) ts ++ (map (λ (x : ℕ). Masks x) ms ++ l)) (map_push stream_row ss s) ∙ tail3 (map (λ (x : Tuple). Does x) ts) (map (λ (x : ℕ). Masks x) ms) (map stream_row ss) (stream_row s ∷ []))

pub blocks_push : (n : ℕ) (bs : List BlockFields) (b : BlockFields) → blocks_rows n (bs ++ b ∷ []) ≡ blocks_rows n bs ++ block_rows (n + length bs) b
blocks_push n [] b = let z : n ≡ n + 0 = omega arith in append-nil (block_rows n b) ∙ ap (λ (k : ℕ). block_rows k b) z
blocks_push n (x ∷ xs) b =
    let z : suc n + length xs ≡ n + suc (length xs) = omega arith in
    ap (λ l. block_rows n x ++ l) (blocks_push (suc n) xs b ∙ ap (λ (k : ℕ). blocks_rows (suc n) xs ++ block_rows k b) z) ∙ tail2 (block_rows n x) (blocks_rows (suc n) xs) (block_rows (n + suc (length xs)) b)

-- the times of the first classes
time_push : (cs : List Class) (x : Class) (more : List Class) (ts : List Interval) (t : Interval) → length cs ≡ length ts → time_rows (cs ++ x ∷ more) (ts ++ t ∷ []) ≡ time_rows (cs ++ x ∷ more) ts ++ Times x t ∷ []
time_push [] x [] [] t h = refl
time_push [] x (y ∷ more) [] t h = refl
time_push [] x more (u ∷ ts) t h = absurd (omega arith)
time_push (y ∷ cs) x more [] t h = absurd (omega arith)
time_push (y ∷ cs) x more (u ∷ ts) t h = ap (λ l. Times y u ∷ l) (time_push cs x more ts t (omega arith))

-- ---- what is known of a draft

-- the least processor that may come behind these streams
abbrev pub next_from : ℕ → List Stream → ℕ
next_from least [] = least
next_from least (s ∷ ss) = next_from (suc s.processor) ss

pub above_push : (least : ℕ) (ss : List Stream) (s : Stream) → AreAbove least ss → next_from least ss ≤ s.processor → AreAbove least (ss ++ s ∷ [])
above_push least [] s h l = (l, tt)
above_push least (x ∷ ss) s h l = (h.0, above_push (suc x.processor) ss s h.1 l)

pub from_push : (least : ℕ) (ss : List Stream) (s : Stream) → next_from least (ss ++ s ∷ []) ≡ suc s.processor
from_push least [] s = refl
from_push least (x ∷ ss) s = from_push (suc x.processor) ss s

pub record Clean (d : Draft) : Type 0 where
  pub no_blocks : d.blocks ≡ []
  pub no_tuples : d.tuples ≡ []
  pub no_masks : d.masks ≡ []
  pub no_streams : d.streams ≡ []
  pub from_zero : d.from ≡ 0

pub record Begun (d : Draft) : Type 0 where
  pub no_barrier : d.barrier ≡ 0
  pub no_times : d.times ≡ []
  pub no_names : d.names ≡ []
  pub clean : Clean d

pub record Timed (d : Draft) : Type 0 where
  pub head : HeadFits d.version d.processors d.barrier
  pub count : length d.times ≤ 8
  pub times : AllByRecursion IsTime d.times
  pub no_names : d.names ≡ []
  pub clean : Clean d

pub record Top (d : Draft) : Type 0 where
  pub head : HeadFits d.version d.processors d.barrier
  pub count : length d.times ≡ 9
  pub times : AllByRecursion IsTime d.times
  pub names : NamesFit d.names

pub record Held (d : Draft) : Type 0 where
  pub top : Top d
  pub few : length d.blocks ≤ 4294967295
  pub each : AllByRecursion (BlockFits d.version) d.blocks
  pub open_fits : OpenFits d.version d.tuples d.masks d.streams
  pub from_is : d.from ≡ next_from 0 d.streams

pub record Closed (d : Draft) : Type 0 where
  pub top : Top d
  pub some : 1 ≤ length d.blocks
  pub few : length d.blocks ≤ 4294967296
  pub each : AllByRecursion (BlockFits d.version) d.blocks
  pub no_tuples : d.tuples ≡ []
  pub no_masks : d.masks ≡ []
  pub no_streams : d.streams ≡ []
  pub from_zero : d.from ≡ 0

abbrev pub SoundAt : Stage → Draft → Type 0
SoundAt at.Version d = Begun d
SoundAt at.Processors d = (1 ≤ d.version) × (d.version ≤ 3) × Begun d
SoundAt at.Barrier d = (1 ≤ d.version) × (d.version ≤ 3) × (d.version ≡ 1 → ⊥) × (fits_processors d.version d.processors ≡ true) × Begun d
SoundAt at.Times d = Timed d
SoundAt at.Names d = Top d × Clean d
SoundAt at.Tuples d = Held d × (d.masks ≡ []) × (d.streams ≡ [])
SoundAt at.Masks d = Held d × (d.streams ≡ [])
SoundAt at.Streams d = Held d
SoundAt at.Between d = Closed d
SoundAt at.Done d = Closed d

abbrev pub Sound : Draft → Type 0
Sound d = SoundAt d.stage d

abbrev pub top_of : Draft → List Row
top_of d = head_rows d.version d.processors d.barrier ++ (time_rows classes d.times ++ map Named d.names)

abbrev pub open_of : Draft → List Row
open_of d = top_of d ++ (blocks_rows 0 d.blocks ++ opened_rows (length d.blocks) d.tuples d.masks d.streams)

abbrev pub so_far_at : Stage → Draft → List Row
so_far_at at.Version d = []
so_far_at at.Processors d = Version d.version ∷ []
so_far_at at.Barrier d = Version d.version ∷ Processors d.processors ∷ []
so_far_at at.Times d = head_rows d.version d.processors d.barrier ++ time_rows classes d.times
so_far_at at.Names d = top_of d
so_far_at at.Tuples d = open_of d
so_far_at at.Masks d = open_of d
so_far_at at.Streams d = open_of d
so_far_at at.Between d = top_of d ++ blocks_rows 0 d.blocks
so_far_at at.Done d = top_of d ++ (blocks_rows 0 d.blocks ++ Ends ∷ [])

-- the lines that it took
abbrev pub so_far : Draft → List Row
so_far d = so_far_at d.stage d

-- it took this line more
abbrev pub Grown : Draft → Row → Draft → Type 0
Grown d row e = Sound e × (so_far e ≡ so_far d ++ row ∷ [])

-- ---- stages

pub at_version : (s : Stage) → is_version s ≡ true → s ≡ at.Version
at_version at.Version h = refl
at_version _ h = absurd (true≢false (sym h))

pub at_processors : (s : Stage) → is_processors s ≡ true → s ≡ at.Processors
at_processors at.Processors h = refl
at_processors _ h = absurd (true≢false (sym h))

pub at_barrier : (s : Stage) → is_barrier s ≡ true → s ≡ at.Barrier
at_barrier at.Barrier h = refl
at_barrier _ h = absurd (true≢false (sym h))

pub at_times : (s : Stage) → is_times s ≡ true → s ≡ at.Times
at_times at.Times h = refl
at_times _ h = absurd (true≢false (sym h))

pub at_names : (s : Stage) → is_names s ≡ true → s ≡ at.Names
at_names at.Names h = refl
at_names _ h = absurd (true≢false (sym h))

pub at_tuples : (s : Stage) → is_tuples s ≡ true → s ≡ at.Tuples
at_tuples at.Tuples h = refl
at_tuples _ h = absurd (true≢false (sym h))

pub at_between : (s : Stage) → is_between s ≡ true → s ≡ at.Between
at_between at.Between h = refl
at_between _ h = absurd (true≢false (sym h))

-- what a test that held gave
pub taken : {A : Type 0} (b : Bool) (x : Option A) (y : A) → cond b x None ≡ Some y → (b ≡ true) × (x ≡ Some y)
taken true x y e = (refl, e)
taken false x y e = absurd (none_some e)

-- ---- each kind of line

grow_version : (d e : Draft) (v : ℕ) → Sound d → take_version v d ≡ Some e → Grown d (Version v) e
grow_version d e v s h =
    let t = taken (is_version d.stage && nat_le 1 v && nat_le v 3) _ e h in
    let k = both_true (is_version d.stage && nat_le 1 v) (nat_le v 3) t.0 in
    let j = both_true (is_version d.stage) (nat_le 1 v) k.0 in
    let p = at_version d.stage j.0 in
    let b : Begun d = subst (λ (x : Stage). SoundAt x d) p s in
    let low : 1 ≤ v = grind (arith, nat_tests) in
    let high : v ≤ 3 = grind (arith, nat_tests) in
    subst (Grown d (Version v)) (some_same t.1) ((low, high, record { no_barrier = b.no_barrier; no_times = b.no_times; no_names = b.no_names; clean = record { no_blocks = b.clean.no_blocks; no_tuples = b.clean.no_tuples; no_masks = b.clean.no_masks; no_streams = b.clean.no_streams; from_zero = b.clean.from_zero } }), ap (λ (x : Stage). so_far_at x d ++ Version v ∷ []) (sym p))

grow_processors : (d e : Draft) (n : ℕ) → Sound d → take_processors n d ≡ Some e → Grown d (Processors n) e
grow_processors d e n s h =
    let t = taken (is_processors d.stage && fits_processors d.version n) _ e h in
    let k = both_true (is_processors d.stage) (fits_processors d.version n) t.0 in
    let p = at_processors d.stage k.0 in
    let b : SoundAt at.Processors d = subst (λ (x : Stage). SoundAt x d) p s in
    subst (Grown d (Processors n)) (some_same t.1) (by (d.version == 1) refl k.1 b p)
  where
    differ : (v : ℕ) → (v == 1) ≡ false → v ≡ 1 → ⊥
    differ v w o = grind (arith, nat_tests)

    by : (x : Bool) → (d.version == 1) ≡ x → fits_processors d.version n ≡ true → SoundAt at.Processors d → d.stage ≡ at.Processors → Grown d (Processors n) (record d { stage = cond x at.Times at.Barrier; processors = n })
    by true w f b p =
        let one : d.version ≡ 1 = grind (arith, nat_tests) in
        let z : d.times ≡ [] = b.2.no_times in (
          record { head = record { low = b.0; high = b.1; processors_fit = f; barrier_fits = ((λ _. b.2.no_barrier), (λ no. absurd (no one))) }; count = rw z (omega arith); times = rw z tt; no_names = b.2.no_names; clean = record { no_blocks = b.2.clean.no_blocks; no_tuples = b.2.clean.no_tuples; no_masks = b.2.clean.no_masks; no_streams = b.2.clean.no_streams; from_zero = b.2.clean.from_zero } },
          rw (w, z, p) refl,
        )
    by false w f b p =
        let not_one : d.version ≡ 1 → ⊥ = λ o. differ d.version w o in
        ((b.0, b.1, not_one, f, record { no_barrier = b.2.no_barrier; no_times = b.2.no_times; no_names = b.2.no_names; clean = record { no_blocks = b.2.clean.no_blocks; no_tuples = b.2.clean.no_tuples; no_masks = b.2.clean.no_masks; no_streams = b.2.clean.no_streams; from_zero = b.2.clean.from_zero } }), rw p refl)

grow_barrier : (d e : Draft) (n : ℕ) → Sound d → take_barrier n d ≡ Some e → Grown d (Barrier n) e
grow_barrier d e n s h =
    let t = taken (is_barrier d.stage && fits_barrier d.version n) _ e h in
    let k = both_true (is_barrier d.stage) (fits_barrier d.version n) t.0 in
    let p = at_barrier d.stage k.0 in
    let b : SoundAt at.Barrier d = subst (λ (x : Stage). SoundAt x d) p s in
    let w : (d.version == 1) ≡ false = other d.version b.2 in
    let z : d.times ≡ [] = b.4.no_times in
    subst (Grown d (Barrier n)) (some_same t.1) (
      record { head = record { low = b.0; high = b.1; processors_fit = b.3; barrier_fits = ((λ o. absurd (b.2 o)), (λ _. k.1)) }; count = rw z (omega arith); times = rw z tt; no_names = b.4.no_names; clean = record { no_blocks = b.4.clean.no_blocks; no_tuples = b.4.clean.no_tuples; no_masks = b.4.clean.no_masks; no_streams = b.4.clean.no_streams; from_zero = b.4.clean.from_zero } },
      rw (w, z, p) refl,
    )
  where
    other : (v : ℕ) → (v ≡ 1 → ⊥) → (v == 1) ≡ false
    other v h = elim (v == 1) as (λ x. (v == 1) ≡ x → x ≡ false) [ true ↦ λ w. absurd (h (grind (arith, nat_tests))) | false ↦ λ w. refl ] refl

-- the first eight classes, and the last
abbrev before : Class → List Class
before c.Const = []
before c.Load = c.Const ∷ []
before c.Store = c.Const ∷ c.Load ∷ []
before c.LoadEl = c.Const ∷ c.Load ∷ c.Store ∷ []
before c.StoreEl = c.Const ∷ c.Load ∷ c.Store ∷ c.LoadEl ∷ []
before c.Alu = c.Const ∷ c.Load ∷ c.Store ∷ c.LoadEl ∷ c.StoreEl ∷ []
before c.Mul = c.Const ∷ c.Load ∷ c.Store ∷ c.LoadEl ∷ c.StoreEl ∷ c.Alu ∷ []
before c.Div = c.Const ∷ c.Load ∷ c.Store ∷ c.LoadEl ∷ c.StoreEl ∷ c.Alu ∷ c.Mul ∷ []
before c.Print = c.Const ∷ c.Load ∷ c.Store ∷ c.LoadEl ∷ c.StoreEl ∷ c.Alu ∷ c.Mul ∷ c.Div ∷ []

abbrev behind : Class → List Class
behind c.Const = c.Load ∷ c.Store ∷ c.LoadEl ∷ c.StoreEl ∷ c.Alu ∷ c.Mul ∷ c.Div ∷ c.Print ∷ []
behind c.Load = c.Store ∷ c.LoadEl ∷ c.StoreEl ∷ c.Alu ∷ c.Mul ∷ c.Div ∷ c.Print ∷ []
behind c.Store = c.LoadEl ∷ c.StoreEl ∷ c.Alu ∷ c.Mul ∷ c.Div ∷ c.Print ∷ []
behind c.LoadEl = c.StoreEl ∷ c.Alu ∷ c.Mul ∷ c.Div ∷ c.Print ∷ []
behind c.StoreEl = c.Alu ∷ c.Mul ∷ c.Div ∷ c.Print ∷ []
behind c.Alu = c.Mul ∷ c.Div ∷ c.Print ∷ []
behind c.Mul = c.Div ∷ c.Print ∷ []
behind c.Div = c.Print ∷ []
behind c.Print = []

class_stands : (x : Class) → (before x ++ x ∷ behind x ≡ classes) × (length (before x) ≡ spec.place_of x) × (spec.place_of x ≤ 8)
class_stands c.Const = (refl, refl, omega arith)
class_stands c.Load = (refl, refl, omega arith)
class_stands c.Store = (refl, refl, omega arith)
class_stands c.LoadEl = (refl, refl, omega arith)
class_stands c.StoreEl = (refl, refl, omega arith)
class_stands c.Alu = (refl, refl, omega arith)
class_stands c.Mul = (refl, refl, omega arith)
class_stands c.Div = (refl, refl, omega arith)
class_stands c.Print = (refl, refl, omega arith)

time_more : (x : Class) (ts : List Interval) (t : Interval) → spec.place_of x ≡ length ts → time_rows classes (ts ++ t ∷ []) ≡ time_rows classes ts ++ Times x t ∷ []
time_more x ts t h =
    let k = class_stands x in
    subst (λ (cs : List Class). time_rows cs (ts ++ t ∷ []) ≡ time_rows cs ts ++ Times x t ∷ []) k.0 (time_push (before x) x (behind x) ts t (k.1 ∙ h))

grow_time : (d e : Draft) (x : Class) (t : Interval) → IsTime t → Sound d → take_time x t d ≡ Some e → Grown d (Times x t) e
grow_time d e x t fits s h =
    let k = taken (is_times d.stage && spec.place_of x == length d.times) _ e h in
    let j = both_true (is_times d.stage) (spec.place_of x == length d.times) k.0 in
    let p = at_times d.stage j.0 in
    let b : Timed d = subst (λ (y : Stage). SoundAt y d) p s in
    let place : spec.place_of x ≡ length d.times = grind (arith, nat_tests) in
    subst (Grown d (Times x t)) (some_same k.1) (by (length d.times == 8) refl b p place)
  where
    less : (n : ℕ) → (n == 8) ≡ false → n ≤ 8 → n < 8
    less n w f = grind (arith, nat_tests)

    none_declared : (es : List Entry) → es ≡ [] → AreNames es
    none_declared es e = subst AreNames (sym e) (record { few = omega arith; range = record { room = omega arith; once = λ i j d e p q same. absurd (omega (arith, slice_get_within [] i d p)) }; each = refl; filled = refl })

    by : (y : Bool) → (length d.times == 8) ≡ y → Timed d → d.stage ≡ at.Times → spec.place_of x ≡ length d.times → Grown d (Times x t) (record d { stage = cond y at.Names at.Times; times = d.times ++ t ∷ [] })
    by true w b p place =
        let eight : length d.times ≡ 8 = grind (arith, nat_tests) in (
          (record { head = b.head; count = length_push d.times t ∙ omega arith; times = all_push IsTime d.times t b.times fits; names = record { declared = none_declared d.names b.no_names; each = rw b.no_names tt } }, record { no_blocks = b.clean.no_blocks; no_tuples = b.clean.no_tuples; no_masks = b.clean.no_masks; no_streams = b.clean.no_streams; from_zero = b.clean.from_zero }),
          rw (p, b.no_names) (ap (λ l. head_rows d.version d.processors d.barrier ++ l) (append-nil (time_rows classes (d.times ++ t ∷ [])) ∙ time_more x d.times t place) ∙ tail2 (head_rows d.version d.processors d.barrier) (time_rows classes d.times) (Times x t ∷ [])),
        )
    by false w b p place =
        let few : length d.times ≤ 8 = b.count in
        let not_eight : length d.times < 8 = less (length d.times) w few in (
          record { head = b.head; count = omega (arith, length_push d.times t); times = all_push IsTime d.times t b.times fits; no_names = b.no_names; clean = record { no_blocks = b.clean.no_blocks; no_tuples = b.clean.no_tuples; no_masks = b.clean.no_masks; no_streams = b.clean.no_streams; from_zero = b.clean.from_zero } },
          rw p (ap (λ l. head_rows d.version d.processors d.barrier ++ l) (time_more x d.times t place) ∙ tail2 (head_rows d.version d.processors d.barrier) (time_rows classes d.times) (Times x t ∷ [])),
        )

-- ---- names

pub record Added (name : List ℕ) (kind : Kind) (es : List Entry) : Type 0 where
  pub named : is_name name ≡ true
  pub few : length es < 1024
  pub new : place_of name es ≡ None
  pub room : has_room kind es ≡ true

no_ok : {A E : Type 0} {e : E} {x : A} → Err e ≡ Ok x → ⊥
no_ok h = cc

pub adding_is : (name : List ℕ) (kind : Kind) (es : List Entry) (id : ℕ) → adding name kind es ≡ Ok id → Added name kind es
adding_is name kind es id h = elim (chosen (is_name name) _ (Err BadName) (Ok id) h) [
  | inr p ↦ absurd (no_ok p.1)
  | inl p ↦ elim (chosen (nat_le 1024 (length es)) (Err TooMany) _ (Ok id) p.1) [
    | inl q ↦ absurd (no_ok q.1)
    | inr q ↦ by (place_of name es) refl q.1 p.0 (small q.0)
  ]
]
  where
    small : nat_le 1024 (length es) ≡ false → length es < 1024
    small w = grind (arith, nat_tests)

    by : (o : Option ℕ) → place_of name es ≡ o → adding_at o kind es ≡ Ok id → is_name name ≡ true → length es < 1024 → Added name kind es
    by (Some first) o k n f = absurd (no_ok k)
    by None o k n f = elim (chosen (has_room kind es) (Ok (length es)) (Err Size) (Ok id) k) [
      | inl r ↦ record { named = n; few = f; new = o; room = r.0 }
      | inr r ↦ absurd (no_ok r.1)
    ]

room_is : (kind : Kind) (es : List Entry) → element_total es ≤ 1048576 → InRange kind → has_room kind es ≡ true → KindFits kind × (element_total es + elements_of kind ≤ 1048576)
room_is (Var initial) es total r h = (r, omega arith)
room_is (Array len) es total r h =
    let k = both_true (nat_le 1 len) (nat_le (element_total es + len) 1048576) h in
    let low : 1 ≤ len = grind (arith, nat_tests) in
    let high : element_total es + len ≤ 1048576 = grind (arith, nat_tests) in
    ((low, r), high)

names_add : (es : List Entry) (e : Entry) (id : ℕ) → NamesFit es → InRange e.kind → adding e.name e.kind es ≡ Ok id → NamesFit (es ++ e ∷ [])
names_add es e id n r h =
    let a = adding_is e.name e.kind es id h in
    let k = room_is e.kind es n.declared.range.room r a.room in
    record { declared = AreNames-add es e n.declared a.new a.named a.few a.room k.1; each = all_push (λ (x : Entry). KindFits x.kind) es e n.each k.0 }

grow_name : (d f : Draft) (e : Entry) → InRange e.kind → Sound d → take_name e d ≡ Some f → Grown d (Named e) f
grow_name d f e fits s h =
    let k = taken (is_names d.stage) _ f h in
    let p = at_names d.stage k.0 in
    let b : SoundAt at.Names d = subst (λ (y : Stage). SoundAt y d) p s in
    by (adding e.name e.kind d.names) refl k.1 b p
  where
    by : (r : Result ℕ NamesFault) → adding e.name e.kind d.names ≡ r → with_name e d r ≡ Some f → SoundAt at.Names d → d.stage ≡ at.Names → Grown d (Named e) f
    by (Err fault) a w b p = absurd (none_some w)
    by (Ok id) a w b p =
        subst (Grown d (Named e)) (some_same w) (
          subst (λ (y : Stage). SoundAt y (record d { names = d.names ++ e ∷ [] })) (sym p) (record { head = b.0.head; count = b.0.count; times = b.0.times; names = names_add d.names e id b.0.names fits a }, record { no_blocks = b.1.no_blocks; no_tuples = b.1.no_tuples; no_masks = b.1.no_masks; no_streams = b.1.no_streams; from_zero = b.1.from_zero }),
          rw p (ap (λ l. head_rows d.version d.processors d.barrier ++ (time_rows classes d.times ++ l)) (map_push (λ (x : Entry). Named x) d.names e) ∙ tail3 (head_rows d.version d.processors d.barrier) (time_rows classes d.times) (map (λ (x : Entry). Named x) d.names) (Named e ∷ [])),
        )

-- ---- blocks

opens_at : (s : Stage) → may_open s ≡ true → (s ≡ at.Names) ⊎ (s ≡ at.Between)
opens_at at.Names h = inl refl
opens_at at.Between h = inr refl
opens_at _ h = absurd (true≢false (sym h))

masks_at : (s : Stage) → may_mask s ≡ true → (s ≡ at.Tuples) ⊎ (s ≡ at.Masks)
masks_at at.Tuples h = inl refl
masks_at at.Masks h = inr refl
masks_at _ h = absurd (true≢false (sym h))

-- what an open block keeps, in whichever part it is
held_of : (s : Stage) (d : Draft) → is_open s ≡ true → SoundAt s d → Held d × (so_far_at s d ≡ open_of d)
held_of at.Tuples d h k = (k.0, refl)
held_of at.Masks d h k = (k.0, refl)
held_of at.Streams d h k = (k, refl)
held_of at.Version d h k = absurd (true≢false (sym h))
held_of at.Processors d h k = absurd (true≢false (sym h))
held_of at.Barrier d h k = absurd (true≢false (sym h))
held_of at.Times d h k = absurd (true≢false (sym h))
held_of at.Names d h k = absurd (true≢false (sym h))
held_of at.Between d h k = absurd (true≢false (sym h))
held_of at.Done d h k = absurd (true≢false (sym h))

-- the same where a mask may come
masked_of : (s : Stage) (d : Draft) → may_mask s ≡ true → SoundAt s d → Held d × (d.streams ≡ []) × (so_far_at s d ≡ open_of d)
masked_of at.Tuples d h k = (k.0, k.2, refl)
masked_of at.Masks d h k = (k.0, k.1, refl)
masked_of at.Streams d h k = absurd (true≢false (sym h))
masked_of at.Version d h k = absurd (true≢false (sym h))
masked_of at.Processors d h k = absurd (true≢false (sym h))
masked_of at.Barrier d h k = absurd (true≢false (sym h))
masked_of at.Times d h k = absurd (true≢false (sym h))
masked_of at.Names d h k = absurd (true≢false (sym h))
masked_of at.Between d h k = absurd (true≢false (sym h))
masked_of at.Done d h k = absurd (true≢false (sym h))

empty_fits : (v : ℕ) (ts : List Tuple) (ms : List ℕ) (ss : List Stream) → ts ≡ [] → ms ≡ [] → ss ≡ [] → OpenFits v ts ms ss
empty_fits v ts ms ss t m s = subst (λ (x : List Tuple). OpenFits v x ms ss) (sym t) (subst (λ (x : List ℕ). OpenFits v [] x ss) (sym m) (subst (λ (x : List Stream). OpenFits v [] [] x) (sym s) (record { few_tuples = omega arith; tuples_fit = tt; few_masks = omega arith; masks_fit = tt; streams_fit = tt; rising = tt })))

opening_rows : (top : List Row) (bs : List BlockFields) (n b : ℕ) (ts : List Tuple) (ms : List ℕ) (ss : List Stream) → b ≡ n → ts ≡ [] → ms ≡ [] → ss ≡ [] → top ++ (blocks_rows 0 bs ++ opened_rows n ts ms ss) ≡ (top ++ blocks_rows 0 bs) ++ Opens b ∷ []
opening_rows top bs n b ts ms ss e t m s = rw (e, t, m, s) (tail2 top (blocks_rows 0 bs) (Opens n ∷ []))

grow_opening : (d e : Draft) (b : ℕ) → b ≤ 4294967295 → Sound d → take_opening b d ≡ Some e → Grown d (Opens b) e
grow_opening d e b small s h =
    let k = taken (may_open d.stage && b == length d.blocks) _ e h in
    let j = both_true (may_open d.stage) (b == length d.blocks) k.0 in
    let n : b ≡ length d.blocks = grind (arith, nat_tests) in
    subst (Grown d (Opens b)) (some_same k.1) (elim (opens_at d.stage j.0) [
      | inl p ↦ from_names n p (subst (λ (y : Stage). SoundAt y d) p s)
      | inr p ↦ from_between n p (subst (λ (y : Stage). SoundAt y d) p s)
    ])
  where
    from_names : b ≡ length d.blocks → d.stage ≡ at.Names → SoundAt at.Names d → Grown d (Opens b) (record d { stage = at.Tuples })
    from_names n p q = (
      (record { top = record { head = q.0.head; count = q.0.count; times = q.0.times; names = q.0.names }; few = omega arith; each = rw q.1.no_blocks tt; open_fits = empty_fits d.version d.tuples d.masks d.streams q.1.no_tuples q.1.no_masks q.1.no_streams; from_is = q.1.from_zero ∙ sym (ap (next_from 0) q.1.no_streams) }, q.1.no_masks, q.1.no_streams),
      opening_rows (top_of d) d.blocks (length d.blocks) b d.tuples d.masks d.streams n q.1.no_tuples q.1.no_masks q.1.no_streams ∙ ap (λ l. l ++ Opens b ∷ []) (ap (λ (l : List BlockFields). top_of d ++ blocks_rows 0 l) q.1.no_blocks ∙ append-nil (top_of d) ∙ ap (λ (y : Stage). so_far_at y d) (sym p)),
    )

    from_between : b ≡ length d.blocks → d.stage ≡ at.Between → SoundAt at.Between d → Grown d (Opens b) (record d { stage = at.Tuples })
    from_between n p q = (
      (record { top = record { head = q.top.head; count = q.top.count; times = q.top.times; names = q.top.names }; few = omega arith; each = q.each; open_fits = empty_fits d.version d.tuples d.masks d.streams q.no_tuples q.no_masks q.no_streams; from_is = q.from_zero ∙ sym (ap (next_from 0) q.no_streams) }, q.no_masks, q.no_streams),
      opening_rows (top_of d) d.blocks (length d.blocks) b d.tuples d.masks d.streams n q.no_tuples q.no_masks q.no_streams ∙ ap (λ (y : Stage). so_far_at y d ++ Opens b ∷ []) (sym p),
    )

grow_tuple : (d e : Draft) (t : Tuple) → TupleFits t → Sound d → take_tuple t d ≡ Some e → Grown d (Does t) e
grow_tuple d e t fits s h =
    let k = taken (is_tuples d.stage && nat_lt (length d.tuples) 128) _ e h in
    let j = both_true (is_tuples d.stage) (nat_lt (length d.tuples) 128) k.0 in
    let p = at_tuples d.stage j.0 in
    let b : SoundAt at.Tuples d = subst (λ (y : Stage). SoundAt y d) p s in
    let o : OpenFits d.version d.tuples d.masks d.streams = b.0.open_fits in
    let room : length d.tuples < 128 = grind (arith, nat_tests) in
    subst (Grown d (Does t)) (some_same k.1) (
      subst (λ (y : Stage). SoundAt y (record d { tuples = d.tuples ++ t ∷ [] })) (sym p) (record { top = record { head = b.0.top.head; count = b.0.top.count; times = b.0.top.times; names = b.0.top.names }; few = b.0.few; each = b.0.each; open_fits = record { few_tuples = omega (arith, length_push d.tuples t); tuples_fit = all_push TupleFits d.tuples t o.tuples_fit fits; few_masks = o.few_masks; masks_fit = o.masks_fit; streams_fit = o.streams_fit; rising = o.rising }; from_is = b.0.from_is }, b.1, b.2),
      rw p (ap (λ l. top_of d ++ (blocks_rows 0 d.blocks ++ l)) (tuples_push (length d.blocks) d.tuples t d.masks d.streams b.1 b.2) ∙ tail3 (top_of d) (blocks_rows 0 d.blocks) (opened_rows (length d.blocks) d.tuples d.masks d.streams) (Does t ∷ [])),
    )

grow_mask : (d e : Draft) (m : ℕ) → Sound d → take_mask m d ≡ Some e → Grown d (Masks m) e
grow_mask d e m s h =
    let k = taken (may_mask d.stage && nat_lt (length d.masks) 128 && fits_mask d.version m) _ e h in
    let j = both_true (may_mask d.stage && nat_lt (length d.masks) 128) (fits_mask d.version m) k.0 in
    let i = both_true (may_mask d.stage) (nat_lt (length d.masks) 128) j.0 in
    let b = masked_of d.stage d i.0 s in
    let o : OpenFits d.version d.tuples d.masks d.streams = b.0.open_fits in
    let room : length d.masks < 128 = grind (arith, nat_tests) in
    subst (Grown d (Masks m)) (some_same k.1) (
      (record { top = record { head = b.0.top.head; count = b.0.top.count; times = b.0.top.times; names = b.0.top.names }; few = b.0.few; each = b.0.each; open_fits = record { few_tuples = o.few_tuples; tuples_fit = o.tuples_fit; few_masks = omega (arith, length_push d.masks m); masks_fit = all_push (λ (x : ℕ). fits_mask d.version x ≡ true) d.masks m o.masks_fit j.1; streams_fit = o.streams_fit; rising = o.rising }; from_is = b.0.from_is }, b.1),
      ap (λ l. top_of d ++ (blocks_rows 0 d.blocks ++ l)) (masks_push (length d.blocks) d.tuples d.masks m d.streams b.1) ∙ tail3 (top_of d) (blocks_rows 0 d.blocks) (opened_rows (length d.blocks) d.tuples d.masks d.streams) (Masks m ∷ []) ∙ ap (λ l. l ++ Masks m ∷ []) (sym b.2),
    )

grow_stream : (d e : Draft) (q : ℕ) (text : List ℕ) → q ≤ 255 → Sound d → take_stream q text d ≡ Some e → Grown d (Streams q text) e
grow_stream d e q text small s h =
    let k = taken (is_open d.stage && nat_le d.from q) _ e h in
    let j = both_true (is_open d.stage) (nat_le d.from q) k.0 in
    let b = held_of d.stage d j.0 s in
    let above : d.from ≤ q = grind (arith, nat_tests) in
    by (items_of text) refl k.1 b above
  where
    by : (o : Option (List StreamItem)) → items_of text ≡ o → with_stream q d o ≡ Some e → Held d × (so_far_at d.stage d ≡ open_of d) → d.from ≤ q → Grown d (Streams q text) e
    by None o w b above = absurd (none_some w)
    by (Some items) r w b above =
        let i = items_is text items r in
        let o : OpenFits d.version d.tuples d.masks d.streams = b.0.open_fits in
        let one : Stream = record { processor = q; items = items } in
        let fits : StreamFits one = record { processor = small; some = i.2; each = i.1 } in
        let from : next_from 0 d.streams ≤ q = subst (λ (n : ℕ). n ≤ q) b.0.from_is above in
        subst (Grown d (Streams q text)) (some_same w) (
          record { top = record { head = b.0.top.head; count = b.0.top.count; times = b.0.top.times; names = b.0.top.names }; few = b.0.few; each = b.0.each; open_fits = record { few_tuples = o.few_tuples; tuples_fit = o.tuples_fit; few_masks = o.few_masks; masks_fit = o.masks_fit; streams_fit = all_push StreamFits d.streams one o.streams_fit fits; rising = above_push 0 d.streams one o.rising from }; from_is = add-one q ∙ sym (from_push 0 d.streams one) },
          ap (λ l. top_of d ++ (blocks_rows 0 d.blocks ++ l)) (streams_push (length d.blocks) d.tuples d.masks d.streams one) ∙ tail3 (top_of d) (blocks_rows 0 d.blocks) (opened_rows (length d.blocks) d.tuples d.masks d.streams) (Streams q (items_text items) ∷ []) ∙ (λ x. sym b.1 x ++ Streams q (sym i.0 x) ∷ []),
        )

grow_next : (d e : Draft) (n : Next) → NextFits n → Sound d → take_next n d ≡ Some e → Grown d (Follows n) e
grow_next d e n fits s h =
    let k = taken (is_open d.stage) _ e h in
    let b = held_of d.stage d k.0 s in
    let block : BlockFields = record { tuples = d.tuples; masks = d.masks; streams = d.streams; next = n } in
    let zero_on : 0 + length d.blocks ≡ length d.blocks = omega arith in
    subst (Grown d (Follows n)) (some_same k.1) (
      record { top = record { head = b.0.top.head; count = b.0.top.count; times = b.0.top.times; names = b.0.top.names }; some = omega (arith, length_push d.blocks block); few = omega (arith, length_push d.blocks block, b.0.few); each = all_push (BlockFits d.version) d.blocks block b.0.each (record { open_fits = b.0.open_fits; next = fits }); no_tuples = refl; no_masks = refl; no_streams = refl; from_zero = refl },
      ap (λ l. top_of d ++ l) (blocks_push 0 d.blocks block ∙ ap (λ (x : ℕ). blocks_rows 0 d.blocks ++ block_rows x block) zero_on) ∙ tail3 (top_of d) (blocks_rows 0 d.blocks) (opened_rows (length d.blocks) d.tuples d.masks d.streams) (Follows n ∷ []) ∙ ap (λ l. l ++ Follows n ∷ []) (sym b.1),
    )

grow_end : (d e : Draft) → Sound d → take_end d ≡ Some e → Grown d Ends e
grow_end d e s h =
    let k = taken (is_between d.stage) _ e h in
    let p = at_between d.stage k.0 in
    let q : Closed d = subst (λ (y : Stage). SoundAt y d) p s in
    subst (Grown d Ends) (some_same k.1) (
      record { top = record { head = q.top.head; count = q.top.count; times = q.top.times; names = q.top.names }; some = q.some; few = q.few; each = q.each; no_tuples = q.no_tuples; no_masks = q.no_masks; no_streams = q.no_streams; from_zero = q.from_zero },
      tail2 (top_of d) (blocks_rows 0 d.blocks) (Ends ∷ []) ∙ ap (λ (y : Stage). so_far_at y d ++ Ends ∷ []) (sym p),
    )

-- a line that is taken stands behind those before
pub step_grows : (d e : Draft) (row : Row) → RowFits row → Sound d → step d row ≡ Some e → Grown d row e
step_grows d e (Version v) f s h = grow_version d e v s h
step_grows d e (Processors n) f s h = grow_processors d e n s h
step_grows d e (Barrier n) f s h = grow_barrier d e n s h
step_grows d e (Times x t) f s h = grow_time d e x t f s h
step_grows d e (Named n) f s h = grow_name d e n f.1 s h
step_grows d e (Opens b) f s h = grow_opening d e b f s h
step_grows d e (Does t) f s h = grow_tuple d e t f s h
step_grows d e (Masks m) f s h = grow_mask d e m s h
step_grows d e (Streams p text) f s h = grow_stream d e p text f s h
step_grows d e (Follows n) f s h = grow_next d e n f s h
step_grows d e Ends f s h = grow_end d e s h
