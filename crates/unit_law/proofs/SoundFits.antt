-- What the laws ask of a program, a sound one keeps.
use Rattle.std.proofs.Common.{◌≡◌, ℕ, ◌<◌, ◌≤◌, true, [], length, Some, slice_get, get_or, sym, ap, ◌∙◌, subst, arith, ◌⊎◌, inl, inr}
use Rattle.std.proofs.lemmas.Bool.{cases_lt}
use Rattle.std.proofs.lemmas.List.{get_or_past}
use Rattle.bm_base.specs.Mask.{has_bit}
use Rattle.tuple_ir.specs.declared.block.Next.TheVariants.{Halt}
use Rattle.tuple_ir.specs.Operands.{HasEarlyOperands}
use Rattle.tuple_ir.specs.Serial.{no_block}
use Rattle.tuple_ir.specs.Sound.{leads_below}
use Rattle.tuple_ir.proofs.Sounds.{early_operands}
use Rattle.line_model.specs.Streams.{masks}
use Rattle.line_model.specs.Order.{StandsAt}
use Rattle.unit_law.specs.State.{Code, Program, code_at}
use Rattle.unit_law.specs.Fit.{IsFit, AllFit, AllStand, AllEarly, AllLead, NoneEmpty}
use Rattle.unit_law.specs.Sound.{IsCodeSound, IsSound, block_of}

-- what a number that no block has stands for
no_code : Code
no_code = record { tuples = []; next = Halt; line = [] }

module _ (m : Program) (sound : IsSound m) where
  none_there : (b : ℕ) → length m.blocks ≤ b → code_at m b ≡ no_code
  unfolding no_code
  none_there b le =
      let block = get_or_past m.blocks b no_block le in
      let line = get_or_past m.lines b [] (omega (arith, sound.one_each)) in
      ap (λ x. record { tuples = x.tuples; next = x.next; line = get_or m.lines b [] }) block ∙ ap (λ l. record { tuples = []; next = Halt; line = l }) line

  -- what each sound block keeps, and the empty one, each block keeps
  everywhere : (P : Code → Type 0) → ((b : ℕ) → IsCodeSound m (code_at m b) → P (code_at m b)) → P no_code → (b : ℕ) → P (code_at m b)
  everywhere P there none b = go (cases_lt b (length m.blocks))
    where
      go : (b < length m.blocks) ⊎ (length m.blocks ≤ b) → P (code_at m b)
      go (inl lt) = there b (sound.each b lt)
      go (inr le) = subst P (sym (none_there b le)) none

  pub sound_fit : AllFit m
  unfolding no_code
  sound_fit = everywhere (IsFit m) (λ b h. h.fit) (record { members = λ j p h. let x = h.at in absurd (cc); stands = λ t p k h. let x = h.item in absurd (cc); once = λ t p k q l h g. let x = h.item in absurd (cc) })

  pub sound_stand : AllStand m
  unfolding no_code
  sound_stand = everywhere (λ code. (t : ℕ) → t < length code.tuples → (p k : ℕ) × StandsAt code.line t p k) (λ b h. h.whole) (λ t lt. absurd (omega arith))

  pub sound_early : AllEarly m
  unfolding no_code
  sound_early = everywhere (λ code. HasEarlyOperands code.tuples) (λ b h. early_operands m.names (length m.blocks) (block_of (code_at m b)) h.block) (record { few = (let x : 0 ≤ 128 = omega arith in x); early = λ i c t e u. absurd (cc) })

  pub sound_lead : AllLead m
  unfolding no_code
  sound_lead = record { some = sound.some; each = everywhere (λ code. leads_below (length m.blocks) code.next) (λ b h. h.block.next.leads) tt }

  pub sound_none_empty : NoneEmpty m
  unfolding no_code
  sound_none_empty = everywhere (λ code. (j mask : ℕ) → slice_get (masks code.line) j ≡ Some mask → (p : ℕ) × (has_bit mask p ≡ true)) (λ b h. h.none_empty) (λ j mask e. absurd (cc))
