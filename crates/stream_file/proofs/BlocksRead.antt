-- The blocks that are read, line by line.
use Rattle.std.proofs.Common.{◌≡◌, ℕ, ◌+◌, ◌-◌, ◌<◌, ◌≤◌, ◌^◌, refl, sym, ap, subst, ◌∙◌, arith, true, false, List, [], ◌∷◌, ◌++◌, length, length-append, Option, Some, None, Ok, Err, ◌⊎◌, inl, inr}
use Rattle.std.specs.Prelude.{◌&&◌, ◌==◌, nat_le, nat_lt}
use Rattle.std.specs.List.{AllByRecursion}
use Rattle.bm_base.proofs.StrictTexts.{chosen, both_true, none_some, some_same}
use Rattle.unit_law.specs.State.{Program}
use Rattle.stream_file.specs.declared.draft.Draft as code
use Rattle.stream_file.specs.declared.draft.BlockDraft.{BlockDraft}
use Rattle.stream_file.specs.declared.draft.Stage.{Stage}
use Rattle.stream_file.specs.declared.draft.Stage.TheVariants as at
use Rattle.stream_file.specs.declared.built.Made.{Made}
use Rattle.stream_file.specs.declared.built.Made.TheVariants.{Nothing, Image, Fault}
use Rattle.stream_file.specs.declared.built.Built.{Built}
use Rattle.stream_file.specs.Rows.{Row, Version, Processors, Barrier, Times, Named, Opens, Does, Masks, Streams, Follows, Ends, row_of}
use Rattle.stream_file.specs.Fields.{BlockFields, BlockFits, fits_processors, fits_barrier, fits_mask}
use Rattle.bm_base.specs.Names.{adding}
use Rattle.bm_base.specs.Spec as spec
use Rattle.line_model.specs.declared.line.StreamItem.{StreamItem}
use Rattle.stream_file.specs.First.{IsFirstWrong}
use Rattle.stream_file.specs.Draft.{Draft, fields_of, step, take_line, reading, finished, items_of, with_name, with_stream, is_version, is_processors, is_barrier, is_times, is_names, may_open, is_tuples, may_mask, is_open, is_between, is_done}
use Rattle.stream_file.specs.Drafted.{block_fields, head_drafted, drafted, with_block}
use Rattle.stream_file.specs.Images.{head_of, with_all, IsGiven, IsTextOfImage, IsRefusedText}
use Rattle.stream_file.specs.Built.{Makes, Builds, HasRoom, IsOffered, MayEnd, IsBegun, IsReadAs, IsNone, memory, denied, astray}
use Rattle.stream_file.specs.Built as ends
use Rattle.stream_file.specs.Images as cause
use Rattle.stream_image.specs.declared.fault.ImageFault.{ImageFault}
use Rattle.stream_image.specs.declared.fault.ImageFault.TheVariants as found
use Rattle.stream_file.proofs.Loaded.{head_machine, given, long_all}
use Rattle.stream_file.proofs.NamesAgain.{all_middle}
use Rattle.stream_file.proofs.Theorems.{line_grows, reading_found, reading_first}
use Rattle.stream_file.proofs.SoFar.{Sound, SoundAt, Top, taken, at_version, at_processors, at_barrier, at_times, at_names}
use Rattle.stream_file.proofs.Parts.{bind_some}
use Rattle.stream_file.proofs.Building.{same_made}

-- ---- where there is a block, the head stands

none_in : {A : Type 0} (xs : List A) → xs ≡ [] → 1 ≤ length xs → ⊥
none_in xs e h = let l : length xs ≡ 0 = ap length e in omega (arith, l, h)

-- a sound draft with a block has its whole head, and its blocks fit
pub record Whole (d : Draft) : Type 0 where
  pub top : Top d
  pub each : AllByRecursion (BlockFits d.version) d.blocks
  pub few : length d.blocks ≤ 4294967296

pub whole : (s : Stage) (d : Draft) → SoundAt s d → 1 ≤ length d.blocks → Whole d
whole at.Version d h l = absurd (none_in d.blocks h.clean.no_blocks l)
whole at.Processors d h l = absurd (none_in d.blocks h.2.clean.no_blocks l)
whole at.Barrier d h l = absurd (none_in d.blocks h.4.clean.no_blocks l)
whole at.Times d h l = absurd (none_in d.blocks h.clean.no_blocks l)
whole at.Names d h l = absurd (none_in d.blocks h.1.no_blocks l)
whole at.Tuples d h l = record { top = h.0.top; each = h.0.each; few = omega (arith, h.0.few) }
whole at.Masks d h l = record { top = h.0.top; each = h.0.each; few = omega (arith, h.0.few) }
whole at.Streams d h l = record { top = h.top; each = h.each; few = omega (arith, h.few) }
whole at.Between d h l = record { top = h.top; each = h.each; few = h.few }
whole at.Done d h l = record { top = h.top; each = h.each; few = h.few }

abbrev head : Draft → Program
head d = head_of (fields_of d)

-- a line of the head comes before all blocks
early : (s t : Stage) (d : Draft) → s ≡ t → SoundAt s d → (SoundAt t d → d.blocks ≡ []) → 1 ≤ length d.blocks → ⊥
early s t d e h clean l = none_in d.blocks (clean (subst (λ (y : Stage). SoundAt y d) e h)) l

head_kept : (d e : Draft) (row : Row) → Sound d → 1 ≤ length d.blocks → step d row ≡ Some e → head e ≡ head d
head_kept d e (Version v) s l h =
    let t = taken (is_version d.stage && nat_le 1 v && nat_le v 3) _ e h in
    let j = both_true (is_version d.stage) (nat_le 1 v) (both_true (is_version d.stage && nat_le 1 v) (nat_le v 3) t.0).0 in
    absurd (early d.stage at.Version d (at_version d.stage j.0) s (λ b. b.clean.no_blocks) l)
head_kept d e (Processors n) s l h =
    let t = taken (is_processors d.stage && fits_processors d.version n) _ e h in
    absurd (early d.stage at.Processors d (at_processors d.stage (both_true (is_processors d.stage) (fits_processors d.version n) t.0).0) s (λ b. b.2.clean.no_blocks) l)
head_kept d e (Barrier n) s l h =
    let t = taken (is_barrier d.stage && fits_barrier d.version n) _ e h in
    absurd (early d.stage at.Barrier d (at_barrier d.stage (both_true (is_barrier d.stage) (fits_barrier d.version n) t.0).0) s (λ b. b.4.clean.no_blocks) l)
head_kept d e (Times x i) s l h =
    let t = taken (is_times d.stage && spec.place_of x == length d.times) _ e h in
    absurd (early d.stage at.Times d (at_times d.stage (both_true (is_times d.stage) (spec.place_of x == length d.times) t.0).0) s (λ b. b.clean.no_blocks) l)
head_kept d e (Named n) s l h =
    let t = chosen (is_names d.stage) (with_name n d (adding n.name n.kind d.names)) None (Some e) h in
    elim t [
      | inl k ↦ absurd (early d.stage at.Names d (at_names d.stage k.0) s (λ b. b.1.no_blocks) l)
      | inr k ↦ absurd (none_some k.1)
    ]
head_kept d e (Opens b) s l h = sym (ap head (some_same (taken (may_open d.stage && b == length d.blocks) _ e h).1))
head_kept d e (Does t) s l h = sym (ap head (some_same (taken (is_tuples d.stage && nat_lt (length d.tuples) 128) _ e h).1))
head_kept d e (Masks m) s l h = sym (ap head (some_same (taken (may_mask d.stage && nat_lt (length d.masks) 128 && fits_mask d.version m) _ e h).1))
head_kept d e (Streams p text) s l h = by (items_of text) (taken (is_open d.stage && nat_le d.from p) _ e h).1
  where
    by : (o : Option (List StreamItem)) → with_stream p d o ≡ Some e → head e ≡ head d
    by None w = absurd (none_some w)
    by (Some items) w = sym (ap head (some_same w))
head_kept d e (Follows n) s l h = sym (ap head (some_same (taken (is_open d.stage) _ e h).1))
head_kept d e Ends s l h = sym (ap head (some_same (taken (is_between d.stage) _ e h).1))

-- ---- one line more

-- a line was taken behind these blocks, and perhaps ended one
pub record After (bs : List BlockFields) (old new : code.Draft) (ended : Option BlockDraft) : Type 0 where
  pub sound : Sound (drafted (with_block bs ended) new)
  pub head_is : 1 ≤ length bs → head_drafted old ≡ head_drafted new

pub line_after : (bs : List BlockFields) (old new : code.Draft) (ended : Option BlockDraft) (line : List ℕ) → Sound (drafted bs old) → take_line (drafted bs old) line ≡ Some (drafted (with_block bs ended) new) → After bs old new ended
line_after bs old new ended line s h =
    let d : Draft = drafted bs old in
    let e : Draft = drafted (with_block bs ended) new in
    let b = bind_some (row_of line) (step d) e h in
    record { sound = (line_grows d e line s h).0; head_is = λ l. sym (head_kept d e b.x s l b.next) }

pub longer : (bs : List BlockFields) (ended : Option BlockDraft) → length (with_block bs ended) ≤ length bs + 1
longer bs None = omega arith
longer bs (Some b) = omega (arith, length-append bs (block_fields b ∷ []))

pub still_builds : (bs : List BlockFields) (old new : code.Draft) (ended : Option BlockDraft) (built : Built) → After bs old new ended → Builds (head_drafted old) bs built → Builds (head_drafted new) bs built
still_builds bs old new ended built a h = record { count = h.count; made = same_made (head_drafted old) (head_drafted new) bs built.made a.head_is h.made }

has_room : (head : Program) (bs : List BlockFields) (made : Made) → head.blocks ≡ [] → Makes head bs made → length bs < 2 ^ 32 - 1 → HasRoom made
has_room head bs Nothing n h l = tt
has_room head bs (Image image) n h l =
    let a : length image.blocks ≡ length (with_all head bs).blocks = ap (λ (p : Program). length p.blocks) h.1.value in
    let b : length (with_all head bs).blocks ≡ length head.blocks + length bs = long_all head bs in
    let c : length head.blocks ≡ 0 = ap length n in
    omega (arith, a, b, c, l)
has_room head bs (Fault f) n h l = tt

pub may_end : (bs : List BlockFields) (old new : code.Draft) (ended : Option BlockDraft) (built : Built) → After bs old new ended → Builds (head_drafted old) bs built → length bs < 2 ^ 32 - 1 → MayEnd new built ended
may_end bs old new None built a h l = record { offered = tt; few = tt }
may_end bs old new (Some b) built a h l =
    let d : Draft = drafted (bs ++ block_fields b ∷ []) new in
    let w : Whole d = whole d.stage d a.sound (omega (arith, length-append bs (block_fields b ∷ []))) in
    let fits : BlockFits d.version (block_fields b) = all_middle (BlockFits d.version) bs (block_fields b) [] w.each in
    record {
      offered = record {
        machine = head_machine d.version d.processors d.barrier d.times w.top.head w.top.count w.top.times;
        given = (given d.version (block_fields b ∷ []) (fits, tt)).0;
        room = has_room (head_drafted old) bs built.made refl h.made l;
      };
      few = omega (arith, h.count, l);
    }

-- ---- the end

pub is_begun : (head : Program) (bs : List BlockFields) (made : Made) → 1 ≤ length bs → Makes head bs made → IsBegun made
is_begun head bs Nothing l h = none_in bs h l
is_begun head bs (Image image) l h =
    let a : length image.blocks ≡ length (with_all head bs).blocks = ap (λ (p : Program). length p.blocks) h.1.value in
    let b : length (with_all head bs).blocks ≡ length head.blocks + length bs = long_all head bs in
    omega (arith, a, b, l)
is_begun head bs (Fault f) l h = tt

-- where all lines are taken, the blocks that are read are those of the text
pub read_as : (bytes : List ℕ) (bs : List BlockFields) (draft : code.Draft) (built : Built) (count : ℕ) → reading bytes ≡ finished count (drafted bs draft) [] → is_done draft.stage ≡ true → Builds (head_drafted draft) bs built → IsReadAs bytes built
read_as bytes bs draft built count r done h =
    let e : reading bytes ≡ Ok (drafted bs draft) = r ∙ rw done refl in
    record { fields = fields_of (drafted bs draft); text = reading_found bytes (drafted bs draft) e; made = h.made }

pub read_short : (bytes : List ℕ) (bs : List BlockFields) (draft : code.Draft) (count : ℕ) → reading bytes ≡ finished count (drafted bs draft) [] → is_done draft.stage ≡ false → IsFirstWrong bytes (count + 1)
read_short bytes bs draft count r done = reading_first bytes (count + 1) (r ∙ rw done refl)

-- what is built of a text is its image, or there is none for the first cause
pub loaded : (bytes : List ℕ) (read : Built) (image : Program) (r : IsReadAs bytes read) → ends.Ends (head_of r.fields) r.fields.blocks (Ok image) → IsTextOfImage bytes image
loaded bytes read image r w = record { fields = r.fields; text = r.text; taken = record { each = w.taken; targets = w.targets }; image = sym w.value }

pub not_loaded : (bytes : List ℕ) (read : Built) (f : ImageFault) (r : IsReadAs bytes read) → ends.Ends (head_of r.fields) r.fields.blocks (Err f) → (f ≡ found.Memory) ⊎ IsRefusedText bytes f
not_loaded bytes read f r (memory m) = inl m
not_loaded bytes read f r (denied d) = inr (record { fields = r.fields; text = r.text; cause = cause.denied d })
not_loaded bytes read f r (astray t e) = inr (record { fields = r.fields; text = r.text; cause = cause.astray t e })
