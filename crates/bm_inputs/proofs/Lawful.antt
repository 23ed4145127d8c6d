-- What a text is the text of keeps what an image keeps.
use Rattle.std.proofs.Common.{◌≡◌, ℕ, zero, suc, ◌<◌, ◌≤◌, ◌^◌, List, [], ◌∷◌, ◌++◌, map, length, slice_get, unwrap_or, None, refl, sym, ap, ap₂, subst, ◌∙◌, arith, append_assoc, append-nil}
use Rattle.std.specs.List.{AllByRecursion}
use Rattle.bm_base.specs.declared.spec.Interval.{Interval}
use Rattle.bm_base.specs.Machine.{Machine, IsTime, IsMachine}
use Rattle.bm_base.specs.Spec.{interval, place_of, time_of}
use Rattle.bm_base.specs.Entry.{Entry}
use Rattle.tuple_ir.specs.declared.block.Block.{Block}
use Rattle.tuple_ir.specs.declared.tuple.Tuple.{Tuple}
use Rattle.tuple_ir.specs.Kinds.{class_of}
use Rattle.line_model.specs.declared.line.Item.{Item}
use Rattle.unit_law.specs.State.{Program}
use Rattle.stream_image.specs.Flat.{HeldBlock}
use Rattle.stream_image.specs.Held.{line_held, IsHeld, AreHeld, AreWhole}
use Rattle.stream_image.specs.Held as held
use Rattle.stream_image.specs.Image.{IsImage, IsLawful}
use Rattle.stream_image.specs.Refused.{target_from, target_fault}
use Rattle.stream_image.proofs.Accepted.{accepted_held, map_push, no_target}
use Rattle.stream_image.proofs.ImageFacts.{image_is, long_map}
use Rattle.stream_file.specs.Fields.{BlockFields, BlockFits, Fields, Fits}
use Rattle.stream_file.specs.Images.{block_of, machine_of, head_of, with_fields, with_all, program_of, AllTaken, AreTaken, IsTextOfImage}
use Rattle.stream_file.proofs.Loaded.{increasing}
use Rattle.bm_inputs.proofs.Machines.{machine_is}
use Rattle.bm_inputs.proofs.Causes.{each_item}

-- the time of a class, or one tick
time_at : (ts : List Interval) → AllByRecursion IsTime ts → (k : ℕ) → IsTime (unwrap_or (slice_get ts k) (interval 1 1))
time_at [] h k = record { low = omega arith; order = omega arith; high = omega arith }
time_at (t ∷ ts) h zero = h.0
time_at (t ∷ ts) h (suc k) = time_at ts h.1 k

lawful_machine : (machine : Machine) → IsMachine machine → IsLawful machine
lawful_machine machine h = record {
  some = h.some;
  few = h.few;
  times = λ t. let x : IsTime (time_of machine (class_of t)) = time_at machine.times h.each (place_of (class_of t)) in (x.low, x.order);
}

-- the blocks as an image holds them
abbrev held_one : BlockFields → HeldBlock
held_one b = record { block = block_of b; streams = b.streams; masks = b.masks }

abbrev held_of : List BlockFields → List HeldBlock
held_of bs = map held_one bs

-- they make the program
made : (machine : Machine) (names : List Entry) (before : List HeldBlock) (bs : List BlockFields) → with_all (held.program_of machine names before) bs ≡ held.program_of machine names (before ++ held_of bs)
made machine names before [] = ap (held.program_of machine names) (sym (append-nil before))
made machine names before (b ∷ bs) =
    ap (λ (m : Program). with_all m bs) (pushed b) ∙ made machine names (before ++ held_one b ∷ []) bs ∙ ap (held.program_of machine names) (append_assoc before (held_one b ∷ []) (held_of bs))
  where
    pushed : (b : BlockFields) → with_fields (held.program_of machine names before) b ≡ held.program_of machine names (before ++ held_one b ∷ [])
    pushed b = sym (ap₂ (λ (blocks : List Block) (lines : List (List Item)). record { machine = machine; names = names; blocks = blocks; lines = lines }) (map_push (λ (h : HeldBlock). h.block) before (held_one b)) (map_push (line_held machine.processors) before (held_one b)))

-- each that is taken is held
module _ (version : ℕ) where
  each_held : (m : Program) (bs : List BlockFields) → m.machine.processors ≤ 128 → AllByRecursion (BlockFits version) bs → AllTaken m bs → AllByRecursion (IsHeld m.machine m.names) (held_of bs)
  each_held m [] most fits h = tt
  each_held m (b ∷ bs) most fits h = (
    accepted_held m (block_of b) b.streams b.masks most (each_item b.streams fits.0.open_fits.streams_fit) (increasing 0 b.streams fits.0.open_fits.rising) fits.0.open_fits.few_tuples fits.0.open_fits.few_masks h.0,
    each_held (with_fields m b) bs most fits.1 h.1,
  )

-- fewer blocks than 2^32 in a text that is read
pub image_of_fields : (f : Fields) → Fits f → length f.blocks < 2 ^ 32 → AreTaken f → IsImage (program_of f)
image_of_fields f fits few h =
    let machine = machine_is f fits in
    let all = held_of f.blocks in
    let e : program_of f ≡ held.program_of (machine_of f) f.names all = made (machine_of f) f.names [] f.blocks in
    let l : length all ≡ length f.blocks = long_map held_one f.blocks in
    let b : length (held.program_of (machine_of f) f.names all).blocks ≡ length all = long_map (λ (h : HeldBlock). h.block) all in
    let s = fits.some in
    let none = subst (λ (m : Program). target_fault m.blocks ≡ None) e h.targets in
    subst IsImage (sym e) (image_is (machine_of f) f.names all (lawful_machine (machine_of f) machine) fits.names.declared (record {
      held_so = record { each = each_held f.version (head_of f) f.blocks machine.few fits.each h.each; few = omega arith };
      some = omega arith;
      lead = no_target (length all) 0 all (subst (λ n. target_from n 0 (map (λ (h : HeldBlock). h.block) all) ≡ None) b none);
    }))
