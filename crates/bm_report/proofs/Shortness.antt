-- Declared names are short enough for a line.
use Rattle.std.proofs.Common.{◌≡◌, ◌≤◌, ◌<◌, ℕ, zero, suc, List, [], ◌∷◌, length, Bool, true, false, cond, refl, arith}
use Rattle.std.specs.Prelude.{slice_get, nat_le, ◌&&◌, IfSome}
use Rattle.std.proofs.lemmas.Bool.Decides.{nat_tests}
use Rattle.std.specs.List.{list_all}
use Rattle.bm_base.specs.Entry.{Entry}
use Rattle.bm_report.specs.Held.{name_at}
use Rattle.bm_base.specs.Names.{is_name, begins_name, is_reserved, goes_on_name}

short : (b c d e : Bool) (n : ℕ) → nat_le n 64 ≡ d → cond b (cond c false (cond d e false)) false ≡ true → n ≤ 64
short b c false e n k h = let no : ⊥ = by b c h in absurd no
  where
    by : (b c : Bool) → cond b (cond c false false) false ≡ true → ⊥
    by true true h = cc
    by true false h = cc
    by false c h = cc
short b c true e n k h = grind (arith, nat_tests)

-- a name has at most 64 bytes
is_name-short : (name : List ℕ) → is_name name ≡ true → length name ≤ 64
is_name-short [] h = omega arith
is_name-short (b ∷ bs) h = short (begins_name b) (is_reserved (b ∷ bs)) (nat_le (length (b ∷ bs)) 64) (list_all goes_on_name bs) (length (b ∷ bs)) refl h

both : (a b : Bool) → (a && b) ≡ true → (a ≡ true) × (b ≡ true)
both true b h = (refl, h)
both false b h = let no : ⊥ = cc in absurd no

-- and so has each that is declared
pub declared-short : (es : List Entry) (i : ℕ) (text : List ℕ) → list_all (λ e. is_name e.name) es ≡ true → i < length es → IfSome (slice_get es i) (λ e. text ≡ e.name) → length text ≤ 64
declared-short [] i text h b e = absurd (omega arith)
declared-short (d ∷ es) zero text h b e = rw e (is_name-short d.name (both (is_name d.name) (list_all (λ e. is_name e.name) es) h).0)
declared-short (d ∷ es) (suc i) text h b e = declared-short es i text (both (is_name d.name) (list_all (λ e. is_name e.name) es) h).1 (omega arith) e

-- what stands under a name's number is its name
pub name_is : (es : List Entry) (i : ℕ) (text : List ℕ) → i < length es → IfSome (slice_get es i) (λ e. text ≡ e.name) → text ≡ name_at (slice_get es i)
name_is [] i text b e = absurd (omega arith)
name_is (d ∷ es) zero text b e = e
name_is (d ∷ es) (suc i) text b e = name_is es i text (omega arith) e
