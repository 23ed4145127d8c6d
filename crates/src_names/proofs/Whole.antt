-- What the answers for a whole tree follow from.
use Rattle.std.proofs.Common.{◌≡◌, ◌≢◌, ◌⊎◌, inl, inr, ◌≤◌, length, Result, Ok, Err, refl, List, arith}
use Rattle.std.specs.Prelude.{IfOk, IfErr, MatchResult}
use Rattle.bm_base.specs.Entry.{Entry}
use Rattle.src_tree.specs.declared.tree.Program.{Program}
use Rattle.src_names.specs.declared.resolved.RStmt.{RStmt}
use Rattle.src_names.specs.declared.fault.NameFault.{NameFault}
use Rattle.src_names.specs.declared.fault.NameFault.TheVariants as f
use Rattle.src_names.specs.RProgram.{RProgram}
use Rattle.src_names.specs.Declarations.{AreDeclared, AreNamedWell}
use Rattle.bm_base.specs.Names.{AreInRange}
use Rattle.src_names.specs.Named.{NamedBody, IsNamed}
use Rattle.src_names.specs.Fault.{body_uses, Faults}
use Rattle.src_names.specs.Fault as t
use Rattle.src_names.specs.Stops.{Stops}
use Rattle.src_names.specs.Stops as s
use Rattle.src_names.specs.Right.{IsRight}
use Rattle.src_names.proofs.Declaring.{length_declared, are_names}
use Rattle.src_names.proofs.Uses.{numbers_body}
use Rattle.src_names.proofs.Unique.{one_program}
use Rattle.src_names.proofs.First.{one_fault, no_fault}

-- a fault is want of memory or not
memory_or : (e : NameFault) → (e ≡ f.Memory) ⊎ (e ≢ f.Memory)
memory_or f.Memory = inl refl
memory_or (f.Unknown at) = inr (λ h. cc)
memory_or (f.Twice at first) = inr (λ h. cc)
memory_or (f.NotArray at) = inr (λ h. cc)
memory_or (f.NotScalar at) = inr (λ h. cc)
memory_or (f.TooManyNames n) = inr (λ h. cc)
memory_or (f.ArraySize at n) = inr (λ h. cc)

only_err : (p : Program) (e : NameFault) (r : RProgram) → IsNamed p r → ((e ≢ f.Memory) → Faults p e) → (e ≡ f.Memory) ⊎ (e ≢ f.Memory) → e ≡ f.Memory
only_err p e r n h (inl m) = m
only_err p e r n h (inr m) = absurd (no_fault (h m) r n)

-- what names the tree is given
pub only : (p : Program) (x : Result RProgram NameFault) → IfOk x (IsNamed p) → IfErr x (λ e. (e ≢ f.Memory) → Faults p e) →
    (r : RProgram) → IsNamed p r → MatchResult x (λ q. q ≡ r) (λ e. e ≡ f.Memory)
only p (Ok q) a b r n = one_program p q r a n
only p (Err e) a b r n = only_err p e r n b (memory_or e)

fault_err : (p : Program) (e x : NameFault) → Faults p x → ((e ≢ f.Memory) → Faults p e) → (e ≡ f.Memory) ⊎ (e ≢ f.Memory) → (e ≡ x) ⊎ (e ≡ f.Memory)
fault_err p e x n h (inl m) = inr m
fault_err p e x n h (inr m) = inl (one_fault (h m) n)

-- the first fault is told
pub only_fault : (p : Program) (x : Result RProgram NameFault) → IfOk x (IsNamed p) → IfErr x (λ e. (e ≢ f.Memory) → Faults p e) →
    (e : NameFault) → Faults p e → MatchResult x (λ _. ⊥) (λ z. (z ≡ e) ⊎ (z ≡ f.Memory))
only_fault p (Ok q) a b e h = no_fault h q a
only_fault p (Err z) a b e h = fault_err p z e h b (memory_or z)

-- the fault of a body
pub body_fault : (p : Program) (names : List Entry) (e : NameFault) → length p.decls ≤ 1024 → AreDeclared p.decls names → AreInRange names →
    Stops names (body_uses p.body) e → (e ≢ f.Memory) → Faults p e
body_fault p names e few a n (s.wrong w) m = t.body names few a n w
body_fault p names e few a n s.starved m = absurd (m refl)

-- a body that is named
pub is_named : (p : Program) (names : List Entry) (zs : List RStmt) → length p.decls ≤ 1024 → AreDeclared p.decls names → AreInRange names → NamedBody names p.body zs → IsNamed p (record { names = names; body = zs })
is_named p names zs few a n h = record { few = (let long = length_declared a in omega arith); declared = a; range = n; body = h }

-- what the type keeps
pub is_right : (p : Program) (names : List Entry) (zs : List RStmt) → length p.decls ≤ 1024 → AreNamedWell p.decls → AreDeclared p.decls names → AreInRange names → NamedBody names p.body zs → IsRight (record { names = names; body = zs })
is_right p names zs few w a n h = record { names = are_names a w n few; body = numbers_body names h }
