-- Why the blocks of fields are refused: there is one cause, and there is one where they are not taken.
use Rattle.std.proofs.Common.{◌≡◌, ℕ, ◌+◌, ◌<◌, ◌≤◌, nat_eq, List, [], ◌∷◌, length, Contains, Option, Some, None, Decides, Bool, true, false, refl, sym, ap, subst, ◌∙◌, arith, ◌⊎◌, inl, inr}
use Rattle.std.proofs.lemmas.Bool.{cases_lt, cases_Bool}
use Rattle.std.specs.List.{AllByRecursion}
use Rattle.bm_base.specs.Entry.{Entry}
use Rattle.tuple_ir.specs.declared.tuple.Tuple.{Tuple}
use Rattle.tuple_ir.specs.declared.block.Next.{Next}
use Rattle.tuple_ir.specs.declared.block.Block.{Block}
use Rattle.line_model.specs.declared.line.Item.{Item}
use Rattle.line_model.specs.Order.{IsOrderedByProcessor}
use Rattle.time_interval.specs.Bounds.{Pace, pace_on, front_of_run, processor_of}
use Rattle.time_interval.specs.Lines.{IsLine, tuples}
use Rattle.time_interval.specs.Ordered.{IsOrdered}
use Rattle.time_interval.specs.Seen.{stands_on}
use Rattle.time_interval.proofs.Once.{any_of_contains}
use Rattle.time_interval.proofs.Decided.{decided}
use Rattle.unit_law.specs.State.{Program}
use Rattle.stream_image.specs.declared.fault.ImageFault.{ImageFault}
use Rattle.stream_image.specs.declared.fault.ImageFault.TheVariants.{Order, Unordered, Target}
use Rattle.stream_image.specs.declared.fault.ImageFault.TheVariants as fault
use Rattle.stream_image.specs.declared.order.Wrong.TheVariants.{Turned, Loose}
use Rattle.stream_image.specs.Line.{AreIncreasing}
use Rattle.stream_image.specs.Keeps.{AreItems}
use Rattle.stream_image.specs.Keeps as keeps
use Rattle.stream_image.specs.declared.given.Stream.{Stream}
use Rattle.line_model.specs.declared.line.StreamItem.{StreamItem}
use Rattle.line_model.specs.declared.line.StreamItem.TheVariants.{Do, Wait}
use Rattle.stream_image.specs.Refused.{fault_of, line_in, IsRefused, IsOrderFault, IsAccepted, bad_target, target_at, target_from, target_fault}
use Rattle.stream_image.specs.Firsts.{IsFirst}
use Rattle.stream_image.specs.Refused.IsRefused.{unkept, unordered}
use Rattle.stream_image.specs.Refused.IsOrderFault.{turned, loose}
use Rattle.stream_image.proofs.OrderPairs.{stands_first_is, never_both}
use Rattle.stream_image.proofs.Accepted.{lined_told, not_both}
use Rattle.stream_image.proofs.FirstFaults.{told_first}
use Rattle.stream_file.specs.Fields.{BlockFields, BlockFits, Fields, Fits, StreamFits, ItemFits}
use Rattle.stream_file.specs.Images.{block_of, head_of, with_fields, program_of, IsTaken, IsDenied, AllTaken, IsFirstDenied, AreTaken, IsFirstCause, denied, astray}
use Rattle.stream_file.proofs.Loaded.{increasing}
use Rattle.bm_inputs.proofs.Machines.{machine_is}
use Rattle.bm_course.specs.Course.{Refused}
use Rattle.bm_inputs.specs.ImageLines.{image_refused}
use Rattle.bm_inputs.proofs.Firsts as firsts

-- it is refused with some line
abbrev pub IsTold : ImageFault → Type 0
IsTold fault = (r : Refused) × (image_refused fault ≡ Some r)

-- so is each first fault of a block
module _ (block : ℕ) (names : List Entry) (processors : ℕ) (tuples : List Tuple) (next : Next) (streams : List Stream) (masks : List ℕ) where
  first_told : (f : ImageFault) → IsFirst block names processors tuples next streams masks f → IsTold f
  first_told (fault.Processor n p) h = (_, refl)
  first_told (fault.TupleTwice n t) h = (_, refl)
  first_told (fault.TupleMissing n t) h = (_, refl)
  first_told (fault.Operand n t place) h = (_, refl)
  first_told (fault.Cell n c) h = (_, refl)
  first_told (fault.Waits n p w m) h = (_, refl)
  first_told (fault.MaskEmpty n j) h = (_, refl)
  first_told (fault.MaskBit n j) h = (_, refl)
  first_told (fault.Order n a b) h = absurd h
  first_told (fault.Unordered n a b) h = absurd h
  first_told (fault.Target n b) h = absurd h
  first_told fault.Memory h = absurd h

-- ---- there is one cause

module _ (pace : Pace) (ts : List Tuple) (line : List Item) (n : ℕ) (x y : ImageFault) where
  one_order : IsOrderFault pace ts line n x → IsOrderFault pace ts line n y → x ≡ y
  one_order (turned h) (turned k) =
      let s = firsts.one_first Turned pace ts line h.a h.b k.a k.b h.first k.first in
      let e = h.fault_is in
      let f = k.fault_is in
      let a = s.0 in
      let b = s.1 in
      cc
  one_order (loose h) (loose k) =
      let s = firsts.one_first Loose pace ts line h.a h.b k.a k.b h.first k.first in
      let e = h.fault_is in
      let f = k.fault_is in
      let a = s.0 in
      let b = s.1 in
      cc
  one_order (turned h) (loose k) = absurd (never_both Turned pace line h.a h.b (k.none_turned h.a h.b h.first.stands.conflict) h.first.stands.so)
  one_order (loose h) (turned k) = absurd (never_both Turned pace line k.a k.b (h.none_turned k.a k.b k.first.stands.conflict) k.first.stands.so)

one_denied : (m : Program) (b : BlockFields) (x y : ImageFault) → IsDenied m b x → IsDenied m b y → x ≡ y
one_denied m b x y (unkept e) (unkept i) = let k : Some x ≡ Some y = sym e ∙ i in cc
one_denied m b x y (unkept e) (unordered i k) = let no : Some x ≡ None = sym e ∙ i in absurd (cc)
one_denied m b x y (unordered e h) (unkept i) = let no : Some y ≡ None = sym i ∙ e in absurd (cc)
one_denied m b x y (unordered e h) (unordered i k) = one_order (pace_on m.machine b.tuples) b.tuples (line_in m b.streams b.masks) (length m.blocks) x y h k

one_first_denied : (m : Program) (bs : List BlockFields) (x y : ImageFault) → IsFirstDenied m bs x → IsFirstDenied m bs y → x ≡ y
one_first_denied m [] x y h k = absurd h
one_first_denied m (b ∷ bs) x y (inl h) (inl k) = one_denied m b x y h k
one_first_denied m (b ∷ bs) x y (inl h) (inr k) = absurd (not_both m (block_of b) b.streams b.masks x h k.0)
one_first_denied m (b ∷ bs) x y (inr h) (inl k) = absurd (not_both m (block_of b) b.streams b.masks y k h.0)
one_first_denied m (b ∷ bs) x y (inr h) (inr k) = one_first_denied (with_fields m b) bs x y h.1 k.1

never_first : (m : Program) (bs : List BlockFields) (x : ImageFault) → AllTaken m bs → IsFirstDenied m bs x → ⊥
never_first m [] x h k = k
never_first m (b ∷ bs) x h (inl k) = not_both m (block_of b) b.streams b.masks x k h.0
never_first m (b ∷ bs) x h (inr k) = never_first (with_fields m b) bs x h.1 k.1

pub one_cause : (f : Fields) (x y : ImageFault) → IsFirstCause f x → IsFirstCause f y → x ≡ y
one_cause f x y (denied h) (denied k) = one_first_denied (head_of f) f.blocks x y h k
one_cause f x y (denied h) (astray k e) = absurd (never_first (head_of f) f.blocks x k h)
one_cause f x y (astray k e) (denied h) = absurd (never_first (head_of f) f.blocks y k h)
one_cause f x y (astray h e) (astray k g) = let s : Some x ≡ Some y = sym e ∙ g in cc

-- ---- there is one where they are not taken

pub each_item : (ss : List Stream) → AllByRecursion StreamFits ss → AreItems ss
each_item [] h = tt
each_item (s ∷ ss) h = (items s.items h.0.each, each_item ss h.1)
  where
    items : (is : List StreamItem) → AllByRecursion ItemFits is → AllByRecursion keeps.ItemFits is
    items [] k = tt
    items (Do t ∷ is) k = (let l : t ≤ 255 = k.0 in omega arith, items is k.1)
    items (Wait ∷ is) k = (tt, items is k.1)

-- of the tuples of a line it is decided which come first
module _ (pace : Pace) (ts : List Tuple) (line : List Item) (is_line : IsLine (length ts) pace.processors line) (whole : (t : ℕ) → t < length ts → Contains (tuples line) t) where
  turned_or_not : firsts.Decided Turned pace ts line
  turned_or_not a b l m =
      let d : Decides (stands_on (front_of_run a line) (processor_of a line) b) (IsOrderedByProcessor line b a) = stands_first_is line b a is_line.once (whole a (omega arith)) (stands_on (front_of_run a line) (processor_of a line) b) refl in
      elim (cases_Bool (stands_on (front_of_run a line) (processor_of a line) b)) [
        | inl h ↦ inr (d.0 h)
        | inr h ↦ inl (λ k. let e = d.1 k in cc)
      ]

  loose_or_not : firsts.Decided Loose pace ts line
  loose_or_not a b l m = decided pace line (length ts) is_line.items is_line.once a b (any_of_contains (tuples line) b (whole b m))

record Cause (m : Program) (b : BlockFields) : Type 0 where
  fault : ImageFault
  denied_for : IsDenied m b fault
  told : IsTold fault

module _ (version : ℕ) where
  taken_or_denied : (m : Program) (b : BlockFields) → m.machine.processors ≤ 128 → BlockFits version b → IsTaken m b ⊎ Cause m b
  taken_or_denied m b most fits = by (fault_of m (block_of b) b.streams b.masks) refl
    where
      n : ℕ
      n = length m.blocks

      pace : Pace
      pace = pace_on m.machine b.tuples

      line : List Item
      line = line_in m b.streams b.masks

      by : (o : Option ImageFault) → fault_of m (block_of b) b.streams b.masks ≡ o → IsTaken m b ⊎ Cause m b
      by (Some f) e =
          let first = told_first n m.names m.machine.processors b.tuples b.next b.streams b.masks (each_item b.streams fits.open_fits.streams_fit) f e in
          inr (record { fault = f; denied_for = unkept e; told = first_told n m.names m.machine.processors b.tuples b.next b.streams b.masks f first })
      by None e =
          let lined = lined_told n m.names m.machine.processors (block_of b) b.streams b.masks e most (each_item b.streams fits.open_fits.streams_fit) (increasing 0 b.streams fits.open_fits.rising) fits.open_fits.few_tuples fits.open_fits.few_masks in
          elim (firsts.some_or_none Turned (pace_on m.machine b.tuples) b.tuples (line_in m b.streams b.masks) (turned_or_not (pace_on m.machine b.tuples) b.tuples (line_in m b.streams b.masks) lined.line lined.stand)) [
            | inr f ↦ inr (record { fault = Order n f.a f.b; denied_for = unordered e (turned (record { a = f.a; b = f.b; fault_is = refl; first = f.first })); told = (_, refl) })
            | inl none ↦ elim (firsts.some_or_none Loose (pace_on m.machine b.tuples) b.tuples (line_in m b.streams b.masks) (loose_or_not (pace_on m.machine b.tuples) b.tuples (line_in m b.streams b.masks) lined.line lined.stand)) [
              | inr f ↦ inr (record { fault = Unordered n f.a f.b; denied_for = unordered e (loose (record { a = f.a; b = f.b; fault_is = refl; none_turned = none; first = f.first })); told = (_, refl) })
              | inl tight ↦ inl (record { kept = e; ordered = record { none_turned = none; none_loose = tight } })
            ]
          ]

  record FirstDenied (m : Program) (bs : List BlockFields) : Type 0 where
    fault : ImageFault
    denied_for : IsFirstDenied m bs fault
    told : IsTold fault

  walk : (m : Program) (bs : List BlockFields) → m.machine.processors ≤ 128 → AllByRecursion (BlockFits version) bs → AllTaken m bs ⊎ FirstDenied m bs
  walk m [] most fits = inl tt
  walk m (b ∷ bs) most fits = elim (taken_or_denied m b most fits.0) [
    | inr c ↦ inr (record { fault = c.fault; denied_for = inl c.denied_for; told = c.told })
    | inl t ↦ elim (walk (with_fields m b) bs most fits.1) [
      | inl all ↦ inl (t, all)
      | inr c ↦ inr (record { fault = c.fault; denied_for = inr (t, c.denied_for); told = c.told })
    ]
  ]

target_told : (count b : ℕ) (blocks : List Block) (f : ImageFault) → target_from count b blocks ≡ Some f → IsTold f
target_told count b [] f e = absurd (cc)
target_told count b (x ∷ blocks) f e = by (bad_target count x.next) e (target_told count (b + 1) blocks f)
  where
    by : (o : Option ℕ) → target_at b o (target_from count (b + 1) blocks) ≡ Some f → (target_from count (b + 1) blocks ≡ Some f → IsTold f) → IsTold f
    by (Some t) h rest = let s : Target b t ≡ f = cc in subst IsTold s (_, refl)
    by None h rest = rest h

pub record First (f : Fields) : Type 0 where
  pub fault : ImageFault
  pub cause : IsFirstCause f fault
  pub told : IsTold fault

pub taken_or_refused : (f : Fields) → Fits f → AreTaken f ⊎ First f
taken_or_refused f fits = elim (walk f.version (head_of f) f.blocks (machine_is f fits).few fits.each) [
  | inr c ↦ inr (record { fault = c.fault; cause = denied c.denied_for; told = c.told })
  | inl all ↦ by (target_fault (program_of f).blocks) refl all
]
  where
    by : (o : Option ImageFault) → target_fault (program_of f).blocks ≡ o → AllTaken (head_of f) f.blocks → AreTaken f ⊎ First f
    by None e all = inl (record { each = all; targets = e })
    by (Some x) e all = inr (record { fault = x; cause = astray all e; told = target_told (length (program_of f).blocks) 0 (program_of f).blocks x e })
