-- Who is free before an item that passes a test, once one processor has changed.
use Rattle.std.proofs.Common.{◌≡◌, ℕ, ◌<◌, Bool, true, false, not, ◌&&◌, ◌||◌, nat_eq, nat_lt, List, length, map, get_or, set, slice_get, Option, ℤ, refl, sym, ap, ◌∙◌, subst, arith, length-set, get_or-set_same, get_or-set_other}
use Rattle.std.proofs.lemmas.Bool.{lt-ltb, both_ways}
use Rattle.line_model.specs.declared.line.StreamItem.{StreamItem}
use Rattle.line_model.specs.Streams.{stream}
use Rattle.bm_base.specs.Mask.{has_bit}
use Rattle.unit_law.specs.State.{Code, Program, State, In, Processor, Work, Idle, Busy, Held, at_start, code_at, is_free, is_due}
use Rattle.unit_law.specs.Canonical.{is_do}
use Rattle.unit_law.specs.Steps.{freed, begun}
use Rattle.bm_machine.specs.declared.actor.Actor.{Actor}
use Rattle.bm_machine.specs.Shown.{able_agrees, processor_of, standing_at, starts_next}
use Rattle.bm_machine.proofs.Ables.{next_passes, right_with, right_without}

abbrev pub passes : (Option StreamItem → Bool) → Code → ℕ → List Processor → ℕ → Bool
passes test code clock qs p = next_passes test code (length qs) p (is_free clock (get_or qs p at_start).work) (get_or qs p at_start)

pub starts_standing : (code : Code) (t : State) (actors : List Actor) → t.processors ≡ map processor_of actors → (p : ℕ) → starts_next code (standing_at t.clock actors) p ≡ starts_next code t p
starts_standing code t actors e p = ap (λ qs. passes is_do code t.clock qs p) (sym e)

pub able_in : (m : Program) (s : State) (able b : ℕ) → s.mode ≡ In b → able_agrees m s s.mode able → (p : ℕ) → has_bit able p ≡ starts_next (code_at m b) s p
able_in m s able b e h = subst (λ mode. able_agrees m s mode able) e h

other_passes : (test : Option StreamItem → Bool) (code : Code) (clock : ℕ) (qs : List Processor) (p : ℕ) (x : Processor) (q : ℕ) → (q ≡ p → ⊥) → passes test code clock qs q ≡ passes test code clock (set qs p x) q
other_passes test code clock qs p x q ne = ap (λ n. next_passes test code n q (is_free clock (get_or qs q at_start).work) (get_or qs q at_start)) (sym (length-set qs p x)) ∙ ap (λ r. next_passes test code (length (set qs p x)) q (is_free clock r.work) r) (sym (get_or-set_other qs p q x at_start ne))

pub here_passes : (test : Option StreamItem → Bool) (code : Code) (clock : ℕ) (qs : List Processor) (p : ℕ) (x : Processor) → p < length qs → passes test code clock (set qs p x) p ≡ (is_free clock x.work && test (slice_get (stream p code.line) x.place))
here_passes test code clock qs p x lt = ap (λ v. v && (is_free clock (get_or (set qs p x) p at_start).work && test (slice_get (stream p code.line) (get_or (set qs p x) p at_start).place))) (lt-ltb p (length (set qs p x)) (let e = length-set qs p x in omega arith)) ∙ ap (λ r. is_free clock r.work && test (slice_get (stream p code.line) r.place)) (get_or-set_same qs p x at_start lt)

not_free : (clock : ℕ) (w : Work) → is_due clock w ≡ true → is_free clock w ≡ false
not_free clock Idle e = absurd (both_ways true (sym e) refl)
not_free clock (Busy until t operands) e = refl
not_free clock (Held until) e = absurd (both_ways true (sym e) refl)

and_false : (v : Bool) → (v && false) ≡ false
and_false true = refl
and_false false = refl

-- processor p's Finish is due, and it finishes
pub finish_right : (test : Option StreamItem → Bool) (code : Code) (clock : ℕ) (qs : List Processor) (p place : ℕ) (items : List StreamItem) (old new : ℕ → Bool) → p < length qs → is_due clock (get_or qs p at_start).work ≡ true → place ≡ (get_or qs p at_start).place → items ≡ stream p code.line → ((q : ℕ) → new q ≡ (old q || (test (slice_get items place) && nat_eq q p))) → ((q : ℕ) → old q ≡ passes test code clock qs q) → (q : ℕ) → new q ≡ passes test code clock (set qs p (freed (get_or qs p at_start))) q
finish_right test code clock qs p place items old new lt due at is bits right =
    right_with (passes test code clock (set qs p (freed (get_or qs p at_start)))) old new p (test (slice_get items place))
    (ap (λ l. test (slice_get l place)) is ∙ ap (λ k. test (slice_get (stream p code.line) k)) at ∙ sym (here_passes test code clock qs p (freed (get_or qs p at_start)) lt))
    bits
    (λ t. absurd (both_ways (passes test code clock qs p) (ap (λ v. nat_lt p (length qs) && (v && test (slice_get (stream p code.line) (get_or qs p at_start).place))) (not_free clock (get_or qs p at_start).work due) ∙ and_false (nat_lt p (length qs))) (sym (right p) ∙ t)))
    (λ q ne. right q ∙ other_passes test code clock qs p (freed (get_or qs p at_start)) q ne)

-- processor p starts a tuple
pub start_right : (test : Option StreamItem → Bool) (code : Code) (clock : ℕ) (qs : List Processor) (p until t : ℕ) (operands : List ℤ) (old new : ℕ → Bool) → p < length qs → ((q : ℕ) → new q ≡ (old q && not (nat_eq q p))) → ((q : ℕ) → old q ≡ passes test code clock qs q) → (q : ℕ) → new q ≡ passes test code clock (set qs p (begun (get_or qs p at_start) until t operands)) q
start_right test code clock qs p until t operands old new lt bits right =
    right_without (passes test code clock (set qs p (begun (get_or qs p at_start) until t operands))) old new p (here_passes test code clock qs p (begun (get_or qs p at_start) until t operands) lt) bits (λ q ne. right q ∙ other_passes test code clock qs p (begun (get_or qs p at_start) until t operands) q ne)
