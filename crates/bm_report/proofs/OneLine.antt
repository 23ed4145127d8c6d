-- One line of what a name holds.
use Rattle.std.proofs.Common.{◌≡◌, ◌<◌, ◌≤◌, ◌+◌, ◌*◌, ◌/◌, ◌%◌, ℕ, zero, suc, ℤ, List, [], ◌∷◌, length, Option, Some, None, refl, sym, ap, ◌∙◌, arith}
use Rattle.std.specs.Prelude.{slice_get}
use Rattle.bm_base.specs.Entry.{Entry}
use Rattle.bm_base.specs.Memory.{Content, Word, Words}
use Rattle.bm_report.specs.Text.{row_line, row_lines}
use Rattle.bm_report.specs.Held.{lines_at, variable_at, row_at, IsArrayOf, BeginsLine}

-- row k of the rows from element i on
row_get : (name : List ℕ) (vs : List ℤ) (rows i k : ℕ) → k < rows → slice_get (row_lines name vs i rows) k ≡ Some (row_line name vs (i + 8 * k))
row_get name vs zero i k l = absurd (omega arith)
row_get name vs (suc rows) i zero l = let e : i ≡ i + 8 * 0 = omega arith in ap (λ j. Some (row_line name vs j)) e
row_get name vs (suc rows) i (suc k) l = let e : i + 8 + 8 * k ≡ i + 8 * suc k = omega arith in row_get name vs rows (i + 8) k (omega arith) ∙ ap (λ j. Some (row_line name vs j)) e

pub variable_get : (o : Option Entry) (e : Entry) (c : Option Content) (v : ℤ) (first : ℕ) (new : List ℕ) → o ≡ Some e → c ≡ Some (Word v) → BeginsLine c first → new ≡ variable_at o c → slice_get (lines_at o c) (first / 8) ≡ Some new
variable_get (Some e) f (Some (Word w)) v first new h k b q = ap (λ k. slice_get (lines_at (Some e) (Some (Word w))) (k / 8)) b ∙ ap Some (sym q)
variable_get None f c v first new h k b q = absurd (cc)
variable_get (Some e) f (Some (Words vs)) v first new h k b q = absurd (cc)
variable_get (Some e) f None v first new h k b q = absurd b

pub array_get : (o : Option Entry) (e : Entry) (c : Option Content) (len first : ℕ) (new : List ℕ) → o ≡ Some e → IsArrayOf c len → BeginsLine c first → new ≡ row_at o c first → slice_get (lines_at o c) (first / 8) ≡ Some new
array_get (Some e) f (Some (Words vs)) len first new h a b q =
    let l = b.0 in
    let m = b.1 in
    let k : first / 8 < (length vs + 7) / 8 = omega arith in
    let s : 0 + 8 * (first / 8) ≡ first = omega arith in
    row_get e.name vs ((length vs + 7) / 8) 0 (first / 8) k ∙ ap (λ i. Some (row_line e.name vs i)) s ∙ ap Some (sym q)
array_get None f c len first new h a b q = absurd (cc)
array_get (Some e) f (Some (Word v)) len first new h a b q = absurd a
array_get (Some e) f None len first new h a b q = absurd a

pub array_within : (c : Option Content) (len first : ℕ) → IsArrayOf c len → BeginsLine c first → first ≤ len
array_within (Some (Words vs)) len first a b = let l = b.0 in omega arith
array_within (Some (Word v)) len first a b = absurd a
array_within None len first a b = absurd a
