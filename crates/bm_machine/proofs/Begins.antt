-- How a machine begins.
use Rattle.std.proofs.Common.{◌≡◌, ℕ, zero, suc, ◌<◌, ◌≤◌, Bool, true, false, List, [], ◌∷◌, length, map, replicate, get_or, slice_get, ℤ, pos, refl, sym, ap, ◌∙◌, arith, ◌⊎◌, inl, inr, ◌&&◌, nat_lt}
use Rattle.std.proofs.lemmas.Bool.{cases_lt, and_parts}
use Rattle.std.proofs.lemmas.List.{get_or-replicate, get_or_past, length-replicate}
use Rattle.bm_base.specs.Mask.{has_bit}
use Rattle.bm_base.specs.Memory.{Content}
use Rattle.bm_base.proofs.MaskBits.{same_bits}
use Rattle.line_model.specs.Streams.{stream, masks}
use Rattle.line_model.proofs.LineFacts.{bar_of_wait}
use Rattle.unit_law.specs.State.{Code, Program, In, State, Processor, at_start, start, code_at, is_free, is_wait, waits, waiting_mask}
use Rattle.unit_law.specs.Units.{has_unfired}
use Rattle.unit_law.proofs.Fronts.{none_fired}
use Rattle.unit_law.proofs.Inside.{wait_item}
use Rattle.unit_law.proofs.Waiters.{unfired_at}
use Rattle.unit_law.proofs.Waiting.{waiting_has}
use Rattle.bm_machine.specs.declared.actor.Actor.{Actor}
use Rattle.bm_machine.specs.declared.actor.Task.TheVariants.{Rest}
use Rattle.bm_machine.specs.Shown.{processor_of, standing_at}

abbrev pub resting : Actor
resting = record { place = 0; task = Rest }

map_rest : (n : ℕ) → map processor_of (replicate n resting) ≡ replicate n at_start
map_rest zero = refl
map_rest (suc n) = ap (λ l. at_start ∷ l) (map_rest n)

pub rests : (n : ℕ) (actors : List Actor) → actors ≡ replicate n resting → map processor_of actors ≡ replicate n at_start
rests n actors e = ap (map processor_of) e ∙ map_rest n

pub start_is : (m : Program) (memory : List Content) (qs : List Processor) (fired : List Bool) (cells output : List ℤ) → qs ≡ replicate m.machine.processors at_start → fired ≡ map (λ _. false) (masks (code_at m 0).line) → cells ≡ replicate 128 (pos 0) → output ≡ [] → record { clock = 0; mode = In 0; processors = qs; fired = fired; world = record { cells = cells; memory = memory; output = output } } ≡ start m memory
start_is m memory qs fired cells output a b c d = rw (a, b, c, d) refl

pub zeros : (n p : ℕ) → get_or (replicate n zero) p zero ≡ zero
zeros n p = go (cases_lt p n)
  where
    go : (p < n) ⊎ (n ≤ p) → get_or (replicate n zero) p zero ≡ zero
    go (inl lt) = get_or-replicate n p zero zero lt
    go (inr le) = get_or_past (replicate n zero) p zero (let e : length (replicate n zero) ≡ n = length-replicate n zero in omega arith)

-- at a block's entry whoever waits has a mask that has not fired
pub entry_unfired : (clock : ℕ) (code : Code) (actors : List Actor) (p : ℕ) → waits code (standing_at clock actors) p ≡ true → has_unfired (masks code.line) (map (λ _. false) (masks code.line)) p ≡ true
entry_unfired clock code actors p e =
    let x = and_parts _ _ e in
    let y = and_parts _ _ x.1 in
    let w = bar_of_wait p code.line (get_or (map processor_of actors) p at_start).place (wait_item _ y.1) in
    unfired_at (masks code.line) (map (λ _. false) (masks code.line)) p w.bar w.member.mask w.member.at w.member.has (none_fired (masks code.line) w.bar)

-- a mask with the bits of those that wait is the mask of those that wait
pub waiting_is : (code : Code) (s : State) (actors : List Actor) (told : ℕ) → s.processors ≡ map processor_of actors → ((p : ℕ) → has_bit told p ≡ waits code (standing_at s.clock actors) p) → told ≡ waiting_mask code s
waiting_is code s actors told e bits = same_bits told (waiting_mask code s) (λ p. bits p ∙ ap (λ qs. nat_lt p (length qs) && (is_free s.clock (get_or qs p at_start).work && is_wait (slice_get (stream p code.line) (get_or qs p at_start).place))) (sym e) ∙ sym (waiting_has code s p))
