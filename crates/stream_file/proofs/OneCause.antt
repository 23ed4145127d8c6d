-- A text is refused for one cause.
use Rattle.std.proofs.Common.{◌≡◌, ℕ, ◌<◌, sym, ap, subst, ◌∙◌, arith, List, [], ◌∷◌, inl, inr}
use Rattle.std.proofs.lemmas.Bool.{cases_lt}
use Rattle.bm_base.proofs.StrictTexts.{none_some, some_same}
use Rattle.tuple_ir.specs.declared.tuple.Tuple.{Tuple}
use Rattle.tuple_ir.specs.declared.block.Block.{Block}
use Rattle.line_model.specs.declared.line.Item.{Item}
use Rattle.time_interval.specs.Bounds.{Pace}
use Rattle.unit_law.specs.State.{Program}
use Rattle.stream_image.specs.declared.given.Stream.{Stream}
use Rattle.stream_image.specs.declared.fault.ImageFault.{ImageFault}
use Rattle.stream_image.specs.declared.fault.ImageFault.TheVariants.{Order, Unordered}
use Rattle.stream_image.specs.declared.order.Wrong.{Wrong}
use Rattle.stream_image.specs.declared.order.Wrong.TheVariants.{Turned, Loose}
use Rattle.stream_image.specs.Order.{IsSo, IsRight, IsFirstWrong}
use Rattle.stream_image.specs.Refused.{IsOrderFault, IsRefused, turned, loose, unkept, unordered}
use Rattle.stream_image.proofs.Accepted.{not_both}
use Rattle.stream_file.specs.Fields.{BlockFields, Fields}
use Rattle.stream_file.specs.Images.{block_of, head_of, with_fields, IsFirstDenied, IsFirstCause, denied, astray}
use Rattle.stream_file.proofs.Loaded.{never_both}

module _ (pace : Pace) (tuples : List Tuple) (line : List Item) where
  so_or_right : (w : Wrong) (a b : ℕ) → IsSo w pace line a b → IsRight w pace line a b → ⊥
  so_or_right Turned a b s r = r s
  so_or_right Loose a b s r = s r

  -- no first wrong pair comes before another one
  not_later : (w : Wrong) (a b c d : ℕ) → IsFirstWrong w pace tuples line a b → IsFirstWrong w pace tuples line c d → b < d → ⊥
  not_later w a b c d h k l = so_or_right w a b h.stands.so (k.before a b l h.stands.conflict)

  not_beside : (w : Wrong) (a c b : ℕ) → IsFirstWrong w pace tuples line a b → IsFirstWrong w pace tuples line c b → a < c → ⊥
  not_beside w a c b h k l = so_or_right w a b h.stands.so (k.beside a l h.stands.conflict)

  same : (a b : ℕ) → (a < b → ⊥) → (b < a → ⊥) → a ≡ b
  same a b h k = elim (cases_lt a b) [
    | inl l ↦ absurd (h l)
    | inr l ↦ elim (cases_lt b a) [ inl m ↦ absurd (k m) | inr m ↦ omega (arith, l, m) ]
  ]

  later_same : (w : Wrong) (a b c d : ℕ) → IsFirstWrong w pace tuples line a b → IsFirstWrong w pace tuples line c d → b ≡ d
  later_same w a b c d h k = same b d (not_later w a b c d h k) (not_later w c d a b k h)

  earlier_same : (w : Wrong) (a b c d : ℕ) → IsFirstWrong w pace tuples line a b → IsFirstWrong w pace tuples line c d → a ≡ c
  earlier_same w a b c d h k =
      let e : d ≡ b = sym (later_same w a b c d h k) in
      let j : IsFirstWrong w pace tuples line c b = subst (λ (x : ℕ). IsFirstWrong w pace tuples line c x) e k in
      same a c (not_beside w a c b h j) (not_beside w c a b j h)

  one_order : (n : ℕ) (f g : ImageFault) → IsOrderFault pace tuples line n f → IsOrderFault pace tuples line n g → f ≡ g
  one_order n f g (turned h) (turned k) = h.fault_is ∙ (λ i. Order n (earlier_same Turned h.a h.b k.a k.b h.first k.first i) (later_same Turned h.a h.b k.a k.b h.first k.first i)) ∙ sym k.fault_is
  one_order n f g (turned h) (loose k) = absurd (so_or_right Turned h.a h.b h.first.stands.so (k.none_turned h.a h.b h.first.stands.conflict))
  one_order n f g (loose h) (turned k) = absurd (so_or_right Turned k.a k.b k.first.stands.so (h.none_turned k.a k.b k.first.stands.conflict))
  one_order n f g (loose h) (loose k) = h.fault_is ∙ (λ i. Unordered n (earlier_same Loose h.a h.b k.a k.b h.first k.first i) (later_same Loose h.a h.b k.a k.b h.first k.first i)) ∙ sym k.fault_is

one_refused : (m : Program) (block : Block) (ss : List Stream) (ms : List ℕ) (f g : ImageFault) → IsRefused m block ss ms f → IsRefused m block ss ms g → f ≡ g
one_refused m block ss ms f g (unkept p) (unkept q) = some_same (sym p ∙ q)
one_refused m block ss ms f g (unkept p) (unordered q o) = absurd (none_some (sym q ∙ p))
one_refused m block ss ms f g (unordered p o) (unkept q) = absurd (none_some (sym p ∙ q))
one_refused m block ss ms f g (unordered p o) (unordered q r) = one_order _ block.tuples _ _ f g o r

one_denied : (m : Program) (bs : List BlockFields) (f g : ImageFault) → IsFirstDenied m bs f → IsFirstDenied m bs g → f ≡ g
one_denied m [] f g h k = absurd h
one_denied m (b ∷ bs) f g (inl h) (inl k) = one_refused m (block_of b) b.streams b.masks f g h k
one_denied m (b ∷ bs) f g (inl h) (inr k) = absurd (not_both m (block_of b) b.streams b.masks f h k.0)
one_denied m (b ∷ bs) f g (inr h) (inl k) = absurd (not_both m (block_of b) b.streams b.masks g k h.0)
one_denied m (b ∷ bs) f g (inr h) (inr k) = one_denied (with_fields m b) bs f g h.1 k.1

pub one_cause : (fields : Fields) (f g : ImageFault) → IsFirstCause fields f → IsFirstCause fields g → f ≡ g
one_cause fields f g (denied h) (denied k) = one_denied (head_of fields) fields.blocks f g h k
one_cause fields f g (denied h) (astray t e) = absurd (never_both (head_of fields) fields.blocks f t h)
one_cause fields f g (astray t e) (denied k) = absurd (never_both (head_of fields) fields.blocks g t k)
one_cause fields f g (astray t e) (astray s d) = some_same (sym e ∙ d)
